-- The lines of a source around one of them (ECMAScript, line terminator sequences), and how they stand in JSON. A line is a list of
-- characters here.
use Rattle.std.specs.Prelude.{ℕ, ◌+◌, ◌-◌, ◌||◌, Bool, true, false, List, Option, None, Some, codes, drop, length, nat_lt, option_and_then, option_map}
use Rattle.std.specs.Prelude.{slice_get, take}
use Rattle.std.specs.List.{list_any}
use Rattle.std.specs.Str.{chars, encode_utf8_all}
use Rattle.serde_json.specs.Data.{Data, boolean, string, object, no_members, member}
use Rattle.smap_text.specs.ShownLine.{shown_bytes}
use Rattle.smap_record.specs.Sources.{StatedSource}
use Rattle.smap_record.specs.Written.{list_value, member_where}
use Rattle.smap_text.specs.Lines.{lines_of}

-- ---- which lines

-- a line, those before it, and those behind it
pub record Context : Type 0 where
  pub before : List (List ℕ)
  pub line : List ℕ
  pub after : List (List ℕ)

-- the line of this number, from 0, with up to so many on each side, where there is one
abbrev pub context_in : (lines : List (List ℕ)) (line most : ℕ) → Option Context
context_in lines line most = option_map (λ text. record {
  before = take (line - (line - most)) (drop (line - most) lines);
  line = text;
  after = take most (drop (line + 1) lines);
}) (slice_get lines line)

-- that of a content
abbrev pub context_of : (content : List ℕ) (line most : ℕ) → Option Context
context_of content line most = context_in (lines_of (chars content)) line most

-- that of a source, where it is asked for and the map has the source's content
abbrev pub source_context : (most : Option ℕ) → Option StatedSource → (line : ℕ) → Option Context
source_context None source line = None
source_context (Some most) source line =
    option_and_then (λ content. context_of content line most) (option_and_then (λ stated. stated.content) source)

-- ---- how they show

-- what shows of a line: all or, of more than 65,536 bytes, the whole characters within as many
abbrev pub shown_line : List ℕ → List ℕ
shown_line line = take (shown_bytes (encode_utf8_all line)) (encode_utf8_all line)

-- that is not all
abbrev pub is_cut : List ℕ → Bool
is_cut line = nat_lt (shown_bytes (encode_utf8_all line)) (length (encode_utf8_all line))

abbrev pub has_cut : Context → Bool
has_cut context = list_any is_cut context.after || list_any is_cut context.before || is_cut context.line

abbrev pub lines_value : List (List ℕ) → Data
lines_value lines = list_value (λ line. string (shown_line line)) lines

-- that one is cut, where one is
abbrev pub cut_value : Bool → Option Data
cut_value false = None
cut_value true = Some (boolean true)

abbrev pub context_value : Context → Data
context_value context = object (
    member (codes "after") (lines_value context.after)
    (member (codes "before") (lines_value context.before)
    (member_where (codes "cut") (cut_value (has_cut context))
    (member (codes "line") (string (shown_line context.line)) no_members))))
