-- The functions of frames, and the names that were written for them, which are put in their stead (this project's own).
use Rattle.std.specs.Prelude.{◌≡◌, ◌⊎◌, ℕ, ◌+◌, ◌-◌, true, List, ◌++◌, Option, Some, None, codes, drop, if◌then◌else◌, length, nat_eq, take}
use Rattle.std.specs.List.{ends_with, prefix_len, slice_range}
use Rattle.smap_lines.specs.Bytes.{is_blank}
use Rattle.smap_record.specs.Record.{MapRecord}
use Rattle.smap_declarations.specs.Declarations.{Named}
use Rattle.smap_declarations.specs.Frames.{function_name, is_name, name_kept}
use Rattle.smap_trace.specs.Frame.{FrameParts}

-- ---- the name of a frame's function

-- what stands before it in what stands before the frame's URL, the name, and what stands behind it
pub record HeadCut : Type 0 where
  pub before : List ℕ
  pub name : List ℕ
  pub behind : List ℕ

-- a name that so many bytes follow
abbrev pub cut_before : (head : List ℕ) (size : ℕ) → Option (List ℕ) → Option HeadCut
cut_before head size None = None
cut_before head size (Some name) =
    Some (record { before = take (length head - size - length name) head; name = name; behind = drop (length head - size) head })

-- the one of a function as V8 prints it, between `at ` and ` (`, perhaps behind `async ` and `new `
abbrev pub call_name : (head : List ℕ) → Option (List ℕ)
call_name head = function_name (slice_range head (prefix_len is_blank head + 3) (length head - 2))

-- as Firefox and Safari do, before `@`
abbrev pub name_alone : (function : List ℕ) → Option (List ℕ)
name_alone function = if is_name function then Some function else None

abbrev pub sign_name : (head : List ℕ) → Option (List ℕ)
sign_name head = name_alone (take (length head - 1) head)

-- that of a frame before whose URL this stands, where its function is one name
unfoldable pub head_cut : (head : List ℕ) → Option HeadCut
head_cut head =
    if ends_with nat_eq head (codes " (") then cut_before head 2 (call_name head)
    else if ends_with nat_eq head (codes "@") then cut_before head 1 (sign_name head) else None

-- ---- the written names of a program's functions

-- by the name that a function has in it, and a line and a column, which count from 1
abbrev pub FunctionNames : Type 0
FunctionNames = (function : List ℕ) → (line column : ℕ) → Option (List ℕ)

-- where something is known of them
abbrev pub written_name : Option FunctionNames → FunctionNames
written_name None function line column = None
written_name (Some names) function line column = names function line column

-- by a map, and the declarations that are kept of its program
abbrev pub names_of : MapRecord → (kept : List Named) → FunctionNames
names_of stated kept function line column = name_kept kept stated.names function (record { line = line - 1; column = column - 1 })

-- where there are both
abbrev pub names_beside : Option MapRecord → (kept : Option (List Named)) → Option FunctionNames
names_beside None kept = None
names_beside (Some stated) None = None
names_beside (Some stated) (Some kept) = Some (names_of stated kept)

-- ---- a frame with the written name of its function

abbrev pub head_given : (head : List ℕ) → HeadCut → (written : Option (List ℕ)) → List ℕ
head_given head cut None = head
head_given head cut (Some written) = cut.before ++ written ++ cut.behind

abbrev pub head_named : FunctionNames → (head : List ℕ) → (line column : ℕ) → Option HeadCut → List ℕ
head_named names head line column None = head
head_named names head line column (Some cut) = head_given head cut (names cut.name line column)

-- where that is one name and another is known for it
abbrev pub named : Option FunctionNames → FrameParts → FrameParts
named None parts = parts
named (Some names) parts = record parts { head = head_named names parts.head parts.line parts.column (head_cut parts.head) }

-- with another text before its URL
abbrev pub with_head : (head : List ℕ) → FrameParts → FrameParts
with_head head parts = record parts { head = head }

-- one text is another, but for a name in it, or as a whole
abbrev pub IsRenamed : (text other : List ℕ) → Type 0
IsRenamed text other =
    (other ≡ text)
    ⊎ ((before : List ℕ) × (name : List ℕ) × (written : List ℕ) × (behind : List ℕ) × (is_name name ≡ true) × (text ≡ before ++ name ++ behind)
    × (other ≡ before ++ written ++ behind))

-- two frames name one place, and the same stands behind it
abbrev pub IsSamePlace : (one other : FrameParts) → Type 0
IsSamePlace one other = (other.url ≡ one.url) × (other.line ≡ one.line) × (other.column ≡ one.column) × (other.tail ≡ one.tail)
