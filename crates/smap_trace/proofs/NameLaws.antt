-- The name of a frame's function stands in what stands before the frame's URL; and another name in its stead changes nothing else.
use Rattle.std.proofs.Common.{◌≡◌, ◌+◌, ◌-◌, ◌<◌, ◌≤◌, ◌⊎◌, ℕ, Bool, true, false, cond, List, [], ◌++◌, Option, Some, None, drop, length, take, refl, subst, sym, ap, ap₂, arith, append_assoc, inl, inr, length-append, ◌∙◌}
use Rattle.std.specs.Prelude.{IfSome, codes, nat_eq, option_and_then, slice_get, unwrap_or}
use Rattle.std.specs.List.{ends_with, prefix_len, slice_range, starts_with}
use Rattle.std.proofs.lemmas.Bool.{cases_lt}
use Rattle.std.proofs.lemmas.List.{append-nil, drop-take, length-take-le, take-append-drop}
use Rattle.std.proofs.Math.Seq.{take-append_seam}
use Rattle.smap_lines.specs.Bytes.{is_blank}
use Rattle.smap_lines.specs.Lines.{Line, end_in}
use Rattle.smap_record.specs.Record.{MapRecord}
use Rattle.smap_declarations.specs.Declarations.{Named}
use Rattle.smap_declarations.specs.Frames.{behind_front, function_name, is_name, last_of, lasting, name_by, name_given, printed}
use Rattle.smap_declarations.specs.declared.given.Given.{Given}
use Rattle.smap_declarations.specs.declared.given.Given.TheVariants as given
use Rattle.smap_declarations.specs.declared.walk.DeclarationPlace.{DeclarationPlace}
use Rattle.smap_trace.specs.Frame.{FrameParts}
use Rattle.smap_trace.specs.FunctionNames.{FunctionNames, HeadCut, IsRenamed, IsSamePlace, call_name, cut_before, head_cut, head_given, head_named, named, names_of, sign_name, with_head, written_name}
use Rattle.smap_trace.specs.Hiding.{HidingSeen, hides}
use Rattle.smap_trace.specs.Rewritten.{Fate, SourceLocation, fate_at, hidden, is_hidden, is_mapped, line_after, location_text, named_fate, replaced}

-- ---- the head of a frame that is named

-- one without such a name
pub uncut_is : (names : Option FunctionNames) (parts : FrameParts) → head_cut parts.head ≡ None → (named names parts).head ≡ parts.head
uncut_is None parts is = refl
uncut_is (Some names) parts is = ap (head_named names parts.head parts.line parts.column) is

-- and one with one
pub cut_is : (names : Option FunctionNames) (parts : FrameParts) (cut : HeadCut) → head_cut parts.head ≡ Some cut
    → (named names parts).head ≡ head_given parts.head cut (written_name names cut.name parts.line parts.column)
cut_is None parts cut is = refl
cut_is (Some names) parts cut is = ap (head_named names parts.head parts.line parts.column) is

-- a frame with that head is named
pub head_is : (names : Option FunctionNames) (parts : FrameParts) (head : List ℕ) → head ≡ (named names parts).head → with_head head parts ≡ named names parts
head_is None parts head is = ap (λ h. with_head h parts) is
head_is (Some names) parts head is = ap (λ h. with_head h parts) is

-- ---- where the name stands

-- one list ends with another
abbrev EndsIn : (list last : List ℕ) → Type 0
EndsIn list last = (front : List ℕ) × (list ≡ front ++ last)

ends_both : (list mid last : List ℕ) → EndsIn list mid → EndsIn mid last → EndsIn list last
ends_both list mid last one two =
    (one.0 ++ two.0, one.1 ∙ ap (λ l. one.0 ++ l) two.1 ∙ sym (append_assoc one.0 two.0 last))

behind_by : (b : Bool) (front text : List ℕ) → EndsIn text (cond b (drop (length front) text) text)
behind_by true front text = (take (length front) text, sym (take-append-drop (length front) text))
behind_by false front text = ([], refl)

behind_is : (front text : List ℕ) → EndsIn text (behind_front front text)
behind_is front text = behind_by (starts_with nat_eq text front) front text

some_if : (b : Bool) (name other : List ℕ) → cond b (Some name) None ≡ Some other → (name ≡ other) × (b ≡ true)
some_if true name other is = (ap (λ o. unwrap_or o name) is, refl)
some_if false name other is = absurd (cc)

-- a name, at the end of a text
abbrev IsNameAt : (text name : List ℕ) → Type 0
IsNameAt text name = EndsIn text name × (is_name name ≡ true)

named_at : (text last name : List ℕ) → EndsIn text last → cond (is_name last) (Some last) None ≡ Some name → IsNameAt text name
named_at text last name ends is =
    let one = some_if (is_name last) last name is in
    ((ends.0, ends.1 ∙ ap (λ l. ends.0 ++ l) one.0), ap is_name (sym one.0) ∙ one.1)

function_is : (function name : List ℕ) → function_name function ≡ Some name → IsNameAt function name
unfolding function_name
function_is function name is =
    let first = behind_front (codes "async ") function in
    named_at function (behind_front (codes "new ") first) name
    (ends_both function first (behind_front (codes "new ") first) (behind_is (codes "async ") function) (behind_is (codes "new ") first)) is

range_by : (start end : ℕ) (text : List ℕ) → (end < start) ⊎ (start ≤ end) → EndsIn (take end text) (slice_range text start end)
range_by start end text (inl less) =
    let none : end - start ≡ 0 = omega arith in
    (take end text, sym (append-nil (take end text)) ∙ ap (λ n. take end text ++ take n (drop start text)) (sym none))
range_by start end text (inr few) =
    let sum : end ≡ start + (end - start) = omega arith in (
      take start (take end text),
      sym (take-append-drop start (take end text))
          ∙ ap (λ l. take start (take end text) ++ l) (ap (λ n. drop start (take n text)) sum ∙ drop-take start (end - start) text),
    )

range_ends : (start end : ℕ) (text : List ℕ) → EndsIn (take end text) (slice_range text start end)
range_ends start end text = range_by start end text (cases_lt end start)

-- no name stands behind the end
pub range_none : (start end : ℕ) (text : List ℕ) → end < start → function_name (slice_range text start end) ≡ None
unfolding function_name
range_none start end text less =
    let none : end - start ≡ 0 = omega arith in
    ap (λ n. function_name (take n (drop start text))) none

-- what stands around a name
abbrev pub IsCut : (head : List ℕ) → HeadCut → Type 0
IsCut head cut = (head ≡ cut.before ++ cut.name ++ cut.behind) × (is_name cut.name ≡ true)

before_is : (head front name : List ℕ) (most : ℕ) → most ≤ length head → take most head ≡ front ++ name
    → head ≡ take (most - length name) head ++ name ++ drop most head
before_is head front name most within is =
    let whole : head ≡ (front ++ name) ++ drop most head = sym (take-append-drop most head) ∙ ap (λ l. l ++ drop most head) is in
    let long : length front + length name ≡ most =
    sym (length-append front name) ∙ ap length (sym is) ∙ length-take-le most head within in
    let size : most - length name ≡ length front = omega arith in
    let first : take (most - length name) head ≡ front =
    ap₂ take size (whole ∙ append_assoc front name (drop most head)) ∙ take-append_seam front (name ++ drop most head) in
    whole ∙ ap (λ l. (l ++ name) ++ drop most head) (sym first)

cut_by : (head : List ℕ) (size : ℕ) (found : Option (List ℕ)) (cut : HeadCut)
    → ((name : List ℕ) → found ≡ Some name → IsNameAt (take (length head - size) head) name) → cut_before head size found ≡ Some cut → IsCut head cut
cut_by head size None cut at is = absurd (cc)
cut_by head size (Some name) cut at is =
    let there = at name refl in
    let same = ap (λ o. unwrap_or o cut) is in
    let P : HeadCut → Type 0 = IsCut head in
    subst P same (before_is head there.0.0 name (length head - size) (omega arith) there.0.1, there.1)

call_at : (head name : List ℕ) → call_name head ≡ Some name → IsNameAt (take (length head - 2) head) name
call_at head name is =
    let start = prefix_len is_blank head + 3 in
    let function = slice_range head start (length head - 2) in
    let at = function_is function name is in
    (ends_both (take (length head - 2) head) function name (range_ends start (length head - 2) head) at.0, at.1)

sign_at : (head name : List ℕ) → sign_name head ≡ Some name → IsNameAt (take (length head - 1) head) name
sign_at head name is = named_at (take (length head - 1) head) (take (length head - 1) head) name ([], refl) is

head_by : (call sign : Bool) (head : List ℕ) (cut : HeadCut)
    → cond call (cut_before head 2 (call_name head)) (cond sign (cut_before head 1 (sign_name head)) None) ≡ Some cut → IsCut head cut
head_by true sign head cut is = cut_by head 2 (call_name head) cut (call_at head) is
head_by false true head cut is = cut_by head 1 (sign_name head) cut (sign_at head) is
head_by false false head cut is = absurd (cc)

pub cut_joined : (head : List ℕ) (cut : HeadCut) → head_cut head ≡ Some cut → IsCut head cut
unfolding head_cut
cut_joined head cut is = head_by (ends_with nat_eq head (codes " (")) (ends_with nat_eq head (codes "@")) head cut is

-- ---- another name

given_renamed : (head : List ℕ) (cut : HeadCut) (written : Option (List ℕ)) → IsCut head cut → IsRenamed head (head_given head cut written)
given_renamed head cut None is = inl refl
given_renamed head cut (Some written) is = inr (cut.before, cut.name, written, cut.behind, is.1, is.0, refl)

head_renamed : (names : FunctionNames) (parts : FrameParts) (found : Option HeadCut) → head_cut parts.head ≡ found
    → IsRenamed parts.head (head_named names parts.head parts.line parts.column found)
head_renamed names parts None is = inl refl
head_renamed names parts (Some cut) is = given_renamed parts.head cut (names cut.name parts.line parts.column) (cut_joined parts.head cut is)

parts_renamed : (names : Option FunctionNames) (parts : FrameParts) → IsRenamed parts.head (named names parts).head
parts_renamed None parts = inl refl
parts_renamed (Some names) parts = head_renamed names parts (head_cut parts.head) refl

-- behind which the same stands
renamed_before : (text other behind : List ℕ) → IsRenamed text other → IsRenamed (text ++ behind) (other ++ behind)
renamed_before text other behind (inl same) = inl (ap (λ l. l ++ behind) same)
renamed_before text other behind (inr is) =
    inr (
      is.0,
      is.1,
      is.2,
      is.3 ++ behind,
      is.4,
      ap (λ l. l ++ behind) is.5 ∙ append_assoc (is.0 ++ is.1) is.3 behind,
      ap (λ l. l ++ behind) is.6 ∙ append_assoc (is.0 ++ is.2) is.3 behind,
    )

module _ (names : Option FunctionNames) (parts : FrameParts) (line : Line) where
  tail_same : (names : Option FunctionNames) → (named names parts).tail ≡ parts.tail
  tail_same None = refl
  tail_same (Some names) = refl

  named_line : (original : SourceLocation) (name : Option (List ℕ))
      → IsRenamed (line_after line (named_fate parts original name)) (line_after line (named_fate (named names parts) original name))
  named_line original None = inl refl
  named_line original (Some name) =
      let place = location_text name original.line original.column in
      let end = end_in line.is_ended in
      let all : IsRenamed (parts.head ++ place ++ parts.tail ++ end) ((named names parts).head ++ place ++ parts.tail ++ end) =
      renamed_before _ _ end (renamed_before _ _ parts.tail (renamed_before _ _ place (parts_renamed names parts))) in
      let P : List ℕ → Type 0 = λ tail. IsRenamed (parts.head ++ place ++ parts.tail ++ end) ((named names parts).head ++ place ++ tail ++ end) in
      subst P (sym (tail_same names)) all

  hidden_line : (b : Bool) (original : SourceLocation)
      → IsRenamed (line_after line (cond b hidden (named_fate parts original original.name)))
      (line_after line (cond b hidden (named_fate (named names parts) original original.name)))
  hidden_line true original = inl refl
  hidden_line false original = named_line original original.name

  -- what becomes of a line
  pub line_renamed : (hide : HidingSeen) (original : Option SourceLocation)
      → IsRenamed (line_after line (fate_at hide parts original)) (line_after line (fate_at hide (named names parts) original))
  line_renamed hide None = inl refl
  line_renamed hide (Some original) = hidden_line (hides hide original.ignored original.name) original

module _ (names : Option FunctionNames) (parts : FrameParts) where
  fate_alike : {A : Type 0} (of : Fate → A) → ((one other : List ℕ) → of (replaced one) ≡ of (replaced other)) → (hide : HidingSeen)
      → (original : Option SourceLocation) → of (fate_at hide (named names parts) original) ≡ of (fate_at hide parts original)
  fate_alike of alike hide None = refl
  fate_alike of alike hide (Some original) = by (hides hide original.ignored original.name) original.name
    where
      by : (b : Bool) (name : Option (List ℕ))
          → of (cond b hidden (named_fate (named names parts) original name)) ≡ of (cond b hidden (named_fate parts original name))
      by true name = refl
      by false None = refl
      by false (Some name) = alike _ _

  -- and whether it is replaced or hidden
  pub counted_alike : (hide : HidingSeen) (original : Option SourceLocation)
      → (is_mapped (fate_at hide (named names parts) original) ≡ is_mapped (fate_at hide parts original))
      × (is_hidden (fate_at hide (named names parts) original) ≡ is_hidden (fate_at hide parts original))
  counted_alike hide original = (fate_alike is_mapped (λ one other. refl) hide original, fate_alike is_hidden (λ one other. refl) hide original)

-- the place of a frame stays
pub place_same : (names : Option FunctionNames) (parts : FrameParts) → IsSamePlace parts (named names parts)
place_same None parts = (refl, refl, refl, refl)
place_same (Some names) parts = (refl, refl, refl, refl)

-- ---- what is written is a name

printed_is : (text : List ℕ) → IfSome (printed text) (λ name. is_name name ≡ true)
printed_is text = by (is_name text) refl
  where
    by : (b : Bool) → is_name text ≡ b → IfSome (cond b (Some text) None) (λ name. is_name name ≡ true)
    by true is = is
    by false is = tt

given_is : (names : List (List ℕ)) (function : List ℕ) (given : Given) → IfSome (name_given names function given) (λ name. is_name name ≡ true)
given_is names function given.Nothing = tt
given_is names function given.Own = printed_is function
given_is names function (given.Name i) = by (slice_get names i)
  where
    by : (o : Option (List ℕ)) → IfSome (option_and_then printed o) (λ name. is_name name ≡ true)
    by None = tt
    by (Some text) = printed_is text

pub written_is : (stated : MapRecord) (kept : List Named) (function : List ℕ) (line column : ℕ)
    → IfSome (names_of stated kept function line column) (λ name. is_name name ≡ true)
written_is stated kept function line column =
    let place : DeclarationPlace = record { line = line - 1; column = column - 1 } in
    by (lasting place (last_of function place kept))
  where
    by : (decides : Option Named) → IfSome (name_by stated.names function decides) (λ name. is_name name ≡ true)
    by None = tt
    by (Some named) = given_is stated.names function named.given
