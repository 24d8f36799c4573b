-- How the places of a line stand in strings of JSON.
use Rattle.std.specs.Prelude.{◌≡◌, ◌<◌, ◌≤◌, ◌⊎◌, ◌-◌, ◌==◌, ◌||◌, ℕ, Bool, IfSome, IsFalse, IsTrue, List, Some, length, slice_index, slice_range, take}
use Rattle.std.specs.Char.{is_ascii_alphanumeric}
use Rattle.smap_pairs.specs.Json.{InString, all_may_stand, has_quotation_mark, past_all}
use Rattle.smap_pairs.specs.Json.InString.{between}
use Rattle.smap_pairs.specs.Known.{UrlsKnown}
use Rattle.smap_pairs.specs.declared.known.NamedBy.{NamedBy}
use Rattle.smap_pairs.specs.declared.line_places.Span.{Span}

-- ---- which URLs may be known

-- what stands before the URL of a frame: a blank, a `(` or an `@`
abbrev pub begins_frame_url : ℕ → Bool
begins_frame_url byte = byte == 32 || byte == 40 || byte == 64

-- the URL of a frame stands within its line, behind such a byte
abbrev pub IsBehindSign : (line : List ℕ) → (url : ℕ × ℕ) → Type 0
IsBehindSign line url = (url.0 ≤ url.1) × (url.1 ≤ length line) × (0 < url.0) × IsTrue (begins_frame_url (slice_index line (url.0 - 1)))

-- none with a quotation mark is named, but as that of a frame
pub record AreForStrings (known : UrlsKnown) : Type 0 where
  pub frames : (line : List ℕ) → IfSome (known.frame_url line) (IsBehindSign line)
  pub names : (by : NamedBy) (url : List ℕ) → IsTrue (known.is_named by url) → IsFalse (has_quotation_mark url)
  pub prefixes : (text : List ℕ) → IsTrue (known.is_prefix text) → IsFalse (has_quotation_mark text)

-- ---- a place

-- a line begins between two characters, or with no letter and no digit
abbrev pub BeginsAnew : InString → (line : List ℕ) → Type 0
BeginsAnew state line = (state ≡ between) ⊎ IsFalse (is_ascii_alphanumeric (slice_index line 0))

-- a place of a line begins between two characters, if it does not begin with the line, and its bytes may stand where it does; and it
-- ends between two
pub record StandsBetween (state : InString) (line : List ℕ) (span : Span) : Type 0 where
  pub begin : 0 < span.start → IsTrue (all_may_stand (past_all state (take span.start line)) (slice_range line span.start span.end))
      → past_all state (take span.start line) ≡ between
  pub end : past_all state (take span.end line) ≡ between

-- the frame whose place it is begins between two characters, or with its line, and has its URL there, up to a byte
pub record StandsInFrame (known : UrlsKnown) (state : InString) (line : List ℕ) (span : Span) : Type 0 where
  pub begin : 0 < span.frame_start → past_all state (take span.frame_start line) ≡ between
  pub end : ℕ
  pub url : known.frame_url (slice_range line span.frame_start end) ≡ Some (span.start - span.frame_start, span.url_end - span.frame_start)

-- it is that of such a frame, or of none
abbrev pub HasFrame : UrlsKnown → InString → (line : List ℕ) → Span → Type 0
HasFrame known state line span = (span.frame_start ≡ span.start) ⊎ StandsInFrame known state line span

-- a place has no quotation mark, unless its URL is that of the frame which its line is as a whole; then its numbers have none
abbrev pub IsWithoutQuotationMark : UrlsKnown → (line : List ℕ) → Span → Type 0
IsWithoutQuotationMark known line span =
    ((known.frame_url line ≡ Some (span.start, span.url_end)) × IsFalse (has_quotation_mark (slice_range line span.url_end span.end)))
    ⊎ IsFalse (has_quotation_mark (slice_range line span.start span.end))
