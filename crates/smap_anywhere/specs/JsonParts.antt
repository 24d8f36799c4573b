-- JSON stays JSON: what stands between two quotation marks of a text, and what becomes of it.
use Rattle.std.specs.Prelude.{◌≡◌, ◌<◌, ◌≤◌, ◌+◌, ◌++◌, ℕ, true, IfSome, IsFalse, IsTrue, List, ◌∷◌, Option, length}
use Rattle.std.specs.List.{flat_map, slice_range}
use Rattle.smap_pairs.specs.Chunks.{Cut, chunk, cut_bytes, cuts_of, stays}
use Rattle.smap_pairs.specs.Json.{has_quotation_mark, is_string_inside}
use Rattle.smap_pairs.specs.Known.{UrlsKnown}
use Rattle.smap_record.specs.Record.{MapRecord}
use Rattle.smap_declarations.specs.Frames.{is_name}
use Rattle.smap_trace.specs.FunctionNames.{FunctionNames, written_name}
use Rattle.smap_anywhere.specs.ChunkParts.{line_of, parts_in}
use Rattle.smap_anywhere.specs.FrameUrl.{frame_url}
use Rattle.smap_anywhere.specs.Parts.{Part, other, part_bytes}
use Rattle.smap_anywhere.specs.Replaced.{parts_text}

-- ---- exempt: frames

-- a chunk is no frame as a whole, or the URL of that has no quotation mark
abbrev pub IsNoQuotedFrame : UrlsKnown → Cut → Type 0
IsNoQuotedFrame known (chunk text) =
    IfSome (known.frame_url (line_of text)) (λ url. IsFalse (has_quotation_mark (slice_range (line_of text) url.0 url.1)))
IsNoQuotedFrame known (stays byte) = Unit {0}

-- a cut of a text has this byte of it
pub record HasByte (text : List ℕ) (at : ℕ) (cut : Cut) : Type 0 where
  pub front : List Cut
  pub back : List Cut
  pub joined : cuts_of text ≡ front ++ cut ∷ back
  pub from : length (flat_map cut_bytes front) ≤ at
  pub to : at < length (flat_map cut_bytes front) + length (cut_bytes cut)

-- the chunk that has this byte is none
abbrev pub IsOutsideQuotedFrames : UrlsKnown → (text : List ℕ) → (at : ℕ) → Type 0
IsOutsideQuotedFrames known text at = (cut : Cut) → HasByte text at cut → IsNoQuotedFrame known cut

-- ---- strings

-- where the URL of a frame stands is known by the rule of frames
abbrev pub AreFramesKnown : UrlsKnown → Type 0
AreFramesKnown known = (line : List ℕ) → known.frame_url line ≡ frame_url line

-- each URL may have any map, or none
abbrev pub AnyMap : (url : List ℕ) → Option MapRecord → Type 0
AnyMap url stated = Unit {0}

-- or any with any names of functions
abbrev pub AnyNames : (url : List ℕ) → Option MapRecord × Option FunctionNames → Type 0
AnyNames url one = (function : List ℕ) (line column : ℕ) → IfSome (written_name one.1 function line column) (λ name. is_name name ≡ true)

-- what stands before, between and behind two quotation marks of a text
abbrev pub with_marks : (before inside behind : List ℕ) → List ℕ
with_marks before inside behind = before ++ 34 ∷ (inside ++ 34 ∷ behind)

-- the parts of such a text: its two marks are in no place, and what is between them becomes the inside of a string of JSON
pub record StaysString (known : UrlsKnown) (maps : List ℕ → Option MapRecord) (before inside behind : List ℕ) : Type 0 where
  pub parts_before : List Part
  pub parts_inside : List Part
  pub parts_behind : List Part
  pub joined : parts_in known (with_marks before inside behind) ≡ parts_before ++ other 34 ∷ (parts_inside ++ other 34 ∷ parts_behind)
  pub before_is : flat_map part_bytes parts_before ≡ before
  pub inside_is : flat_map part_bytes parts_inside ≡ inside
  pub behind_is : flat_map part_bytes parts_behind ≡ behind
  pub stays : IsTrue (is_string_inside (parts_text maps parts_inside))
