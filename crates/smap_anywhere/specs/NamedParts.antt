-- The parts of a text whose functions get the names that were written for them (this project's own). A place is that of a frame where
-- its line is one as a whole, or its string, or the line of that: from the name of that frame's function on, what stands before the
-- place is of its part, and the name becomes the written one where the place gets an original.
use Rattle.std.specs.Prelude.{ℕ, ◌+◌, ◌-◌, Bool, false, true, nat_le, List, [], ◌∷◌, ◌++◌, Option, Some, None, drop, if◌then◌else◌, is_some, length, map, option_map}
use Rattle.std.specs.List.{flat_map, slice_range}
use Rattle.smap_pairs.specs.Chunks.{Cut, chunk, cuts_of, stays}
use Rattle.smap_pairs.specs.Known.{UrlsKnown}
use Rattle.smap_pairs.specs.declared.line_places.Span.{Span}
use Rattle.smap_record.specs.Record.{MapRecord}
use Rattle.smap_trace.specs.FunctionNames.{FunctionNames, HeadCut, head_cut, written_name}
use Rattle.smap_anywhere.specs.ChunkParts.{cut_parts, parts_by_spans, parts_in, place_of_span, spans_of}
use Rattle.smap_anywhere.specs.Parts.{FrameFunction, Part, PlaceUrl, found, other}
use Rattle.smap_anywhere.specs.Replaced.{Replacing, by_maps, part_text_by, parts_text_by, replacement}

-- ---- the function before a place

-- the name of a frame's function, and what stands behind it, in the bytes before a place, so many: other places stand before them
abbrev pub function_within : (size : ℕ) → Option HeadCut → Option FrameFunction
function_within size None = None
function_within size (Some cut) =
    if nat_le (length cut.name + length cut.behind) size then Some (record { name = cut.name; behind = cut.behind }) else None

-- that of the frame that a place of a chunk is in, behind a byte, up to which other places stand
abbrev pub function_before : (text : List ℕ) → (from : ℕ) → Span → Option FrameFunction
function_before text from span = function_within (span.start - from) (head_cut (slice_range text span.frame_start span.start))

-- the same where names are known of any functions
abbrev pub function_at : (is_named : Bool) → (text : List ℕ) → (from : ℕ) → Span → Option FrameFunction
function_at false text from span = None
function_at true text from span = function_before text from span

-- how many bytes it has
abbrev pub function_bytes : Option FrameFunction → ℕ
function_bytes None = 0
function_bytes (Some function) = length function.name + length function.behind

-- ---- the parts

abbrev pub place_at : (is_named : Bool) → (text : List ℕ) → (from : ℕ) → Span → PlaceUrl
place_at is_named text from span = record (place_of_span text span) { function = function_at is_named text from span }

-- where its part begins
abbrev pub begin_at : (is_named : Bool) → (text : List ℕ) → (from : ℕ) → Span → ℕ
begin_at is_named text from span = span.start - function_bytes (function_at is_named text from span)

-- a chunk from a byte on, cut into these places, with the functions before them, and the bytes between
abbrev pub named_by_spans : (text : List ℕ) → (from : ℕ) → List Span → List Part
named_by_spans text from [] = map other (drop from text)
named_by_spans text from (span ∷ spans) =
    map other (slice_range text from (begin_at true text from span))
    ++ found (place_at true text from span) (slice_range text (begin_at true text from span) span.end) ∷ named_by_spans text span.end spans

abbrev pub chunk_by_spans : (is_named : Bool) → (text : List ℕ) → (from : ℕ) → List Span → List Part
chunk_by_spans false = parts_by_spans
chunk_by_spans true = named_by_spans

abbrev pub named_cut_parts : UrlsKnown → Cut → List Part
named_cut_parts known (chunk text) = named_by_spans text 0 (spans_of known text)
named_cut_parts known (stays byte) = other byte ∷ []

abbrev pub cut_parts_by : (is_named : Bool) → UrlsKnown → Cut → List Part
cut_parts_by false = cut_parts
cut_parts_by true = named_cut_parts

-- of a text
unfoldable pub named_parts_in : UrlsKnown → (text : List ℕ) → List Part
named_parts_in known text = flat_map (named_cut_parts known) (cuts_of text)

abbrev pub parts_by : (is_named : Bool) → UrlsKnown → (text : List ℕ) → List Part
parts_by false = parts_in
parts_by true = named_parts_in

-- ---- what they become

-- what becomes of a function, where this name was written for it, or none
abbrev pub function_named : FrameFunction → (written : Option (List ℕ)) → List ℕ
function_named function None = function.name ++ function.behind
function_named function (Some written) = written ++ function.behind

-- by the names that are known of its program, before a place
abbrev pub function_text : Option FunctionNames → PlaceUrl → Option FrameFunction → List ℕ
function_text names place None = []
function_text names place (Some function) = function_named function (written_name names function.name place.line place.column)

-- what stands in the stead of a place and of the function before it
abbrev pub named_replacement : Option MapRecord × Option FunctionNames → PlaceUrl → Option (List ℕ)
named_replacement one place = option_map (λ text. function_text one.1 place place.function ++ text) (replacement one.0 place)

-- a map, and what names the functions of its program
abbrev pub by_names : Replacing (Option MapRecord × Option FunctionNames)
by_names = record { text = named_replacement; has = λ one. is_some one.0 }

-- what becomes of a part, where these are the maps of URLs and what names the functions of their programs
abbrev pub named_part_text : (maps : List ℕ → Option MapRecord) → (names : List ℕ → Option FunctionNames) → Part → List ℕ
named_part_text maps names = part_text_by by_names (λ url. (maps url, names url))

abbrev pub named_parts_text : (maps : List ℕ → Option MapRecord) → (names : List ℕ → Option FunctionNames) → List Part → List ℕ
named_parts_text maps names = parts_text_by by_names (λ url. (maps url, names url))

-- ---- over maps with names, or without

abbrev pub FoundIn : (is_named : Bool) → Type 0
FoundIn false = Option MapRecord
FoundIn true = Option MapRecord × Option FunctionNames

abbrev pub replacing : (is_named : Bool) → Replacing (FoundIn is_named)
replacing false = by_maps
replacing true = by_names

abbrev pub found_by : {M : Type 0} → (is_named : Bool) → (under : M → (url : List ℕ) → Option MapRecord) → (names : M → (url : List ℕ) → Option FunctionNames)
    → M → (url : List ℕ) → FoundIn is_named
found_by false under names = under
found_by true under names = λ maps url. (under maps url, names maps url)

-- what may be found
abbrev pub gives_by : (is_named : Bool) → (Gives : (url : List ℕ) → Option MapRecord → Type 0)
    → (GivesNames : (url : List ℕ) → Option MapRecord → Option FunctionNames → Type 0) → (url : List ℕ) → FoundIn is_named → Type 0
gives_by false Gives GivesNames = Gives
gives_by true Gives GivesNames = λ url one. GivesNames url one.0 one.1
