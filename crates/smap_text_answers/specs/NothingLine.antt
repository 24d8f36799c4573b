-- What is said at the end of a text that named no URL: it is empty, no line is a frame, or there is no place, and why (this
-- project's own).
use Rattle.std.specs.Prelude.{ℕ, ◌==◌, ◌&&◌, Bool, List, [], ◌∷◌, ◌++◌, Option, Some, None, codes, if◌then◌else◌, nat_lt, take}
use Rattle.std.specs.Fmt.{decimal}
use Rattle.std.specs.List.{concat}
use Rattle.smap_explain.specs.Beginning.{begins_as}
use Rattle.smap_explain.specs.declared.explanation.Beginning.{Beginning}
use Rattle.smap_explain.specs.declared.explanation.Beginning.TheVariants as begins
use Rattle.smap_text.specs.Shown.{shown}
use Rattle.smap_trace.specs.TextNote.{opening_seen}
use Rattle.smap_trace.specs.declared.outcome.RewriteCounts.{RewriteCounts}

-- ---- no line is a frame

-- a text that begins so is no text of UTF-8
abbrev pub packed_cause : Beginning → Option (List ℕ)
packed_cause begins.Nothing = None
packed_cause begins.Gzip = Some (codes "the text is packed with gzip; unpack it first")
packed_cause begins.Xz = Some (codes "the text is packed with xz; unpack it first")
packed_cause begins.Zstd = Some (codes "the text is packed with zstd; unpack it first")
packed_cause begins.Zip = Some (codes "the text is a zip archive; unpack it first")
packed_cause begins.Utf16 = Some (codes "the text is UTF-16; convert it to UTF-8 first")
packed_cause begins.Html = None
packed_cause begins.DataUrl = None
packed_cause begins.Json = None
packed_cause begins.Script = None
packed_cause begins.Other = None

-- the URL of the only argument, or those of all, stand in it so often, in no place
abbrev pub mentioned_text : (arguments : List (List ℕ × List ℕ)) → List ℕ
mentioned_text [] = codes "the URLs of the arguments stand here "
mentioned_text (argument ∷ []) = shown (take 1024 argument.0) ++ codes " stands here "
mentioned_text (argument ∷ other ∷ arguments) = codes "the URLs of the arguments stand here "

abbrev pub times_text : (count : ℕ) → List ℕ
times_text count = if count == 1 then codes " time" else codes " times"

abbrev pub often_text : (mentions : ℕ) → List ℕ
often_text mentions = concat (decimal mentions ∷ times_text mentions ∷ codes ", but in no place URL:LINE:COLUMN: see GUIDE, Events" ∷ [])

abbrev pub mentioned_cause : (arguments : List (List ℕ × List ℕ)) → (mentions : ℕ) → List ℕ
mentioned_cause arguments mentions = mentioned_text arguments ++ often_text mentions

-- neither is known
abbrev pub usual_cause : List ℕ
usual_cause = codes "--anywhere finds places in other text; UTF-16 and what is compressed are to be converted first, and a line and a column that stand apart are for smap locate"

-- the URLs of arguments stand in it, and no place was passed over
abbrev pub are_mentioned : RewriteCounts → Bool
are_mentioned counts = nat_lt 0 counts.text.mentions && counts.passed == 0

abbrev pub cause_or : Option (List ℕ) → (arguments : List (List ℕ × List ℕ)) → RewriteCounts → List ℕ
cause_or (Some cause) arguments counts = cause
cause_or None arguments counts = if are_mentioned counts then mentioned_cause arguments counts.text.mentions else usual_cause

-- what a text begins as that has no line of more than 65,536 bytes
abbrev pub packed_in : RewriteCounts → Option (List ℕ)
packed_in counts = if counts.long == 0 then packed_cause (begins_as (opening_seen counts.text.opening)) else None

abbrev pub no_frame_line : (arguments : List (List ℕ × List ℕ)) → RewriteCounts → List ℕ
no_frame_line arguments counts = codes "no line is a frame: " ++ cause_or (packed_in counts) arguments counts ++ codes "\n"

-- ---- or there is no place

abbrev pub no_place_line : List ℕ
no_place_line = codes "no place was found: a place is a URL of an argument before :LINE:COLUMN; UTF-16 and what is compressed are to be converted first, and a line and a column that stand apart are for smap locate\n"

-- ---- or nothing at all

abbrev pub empty_line : List ℕ
empty_line = codes "the text is empty\n"

abbrev pub nothing_line : (anywhere : Bool) → (arguments : List (List ℕ × List ℕ)) → RewriteCounts → List ℕ
nothing_line anywhere arguments counts = if counts.summary.lines == 0 then empty_line
    else (if anywhere then no_place_line else no_frame_line arguments counts)
