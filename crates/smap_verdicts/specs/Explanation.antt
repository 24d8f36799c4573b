-- What is said of a refused map file in sentences, each in an indented line.
use Rattle.std.specs.Prelude.{ℕ, Bool, true, false, if◌then◌else◌, Option, None, Some, List, [], ◌∷◌, codes, string_bytes}
use Rattle.std.specs.Fmt.{decimal}
use Rattle.smap_explain.specs.declared.explanation.Beginning.{Beginning}
use Rattle.smap_explain.specs.declared.explanation.Beginning.TheVariants as begins
use Rattle.smap_explain.specs.declared.explanation.BuildFacts.{BuildFacts}
use Rattle.smap_explain.specs.declared.explanation.FoundValue.{FoundValue}
use Rattle.smap_explain.specs.declared.explanation.FoundValue.TheVariants as founds
use Rattle.smap_explain.specs.declared.explanation.NotJsonFacts.{NotJsonFacts}
use Rattle.smap_explain.specs.declared.explanation.PrintedPlace.{PrintedPlace}
use Rattle.smap_explain.specs.declared.explanation.JsonStop.{JsonStop}
use Rattle.smap_text.specs.Shown.{shown}
use Rattle.smap_verdicts.specs.Texts.{text_from}

-- ---- a file that is no JSON

-- what the file begins as
abbrev pub beginning_text : Beginning → List ℕ
beginning_text begins.Nothing = codes "the file holds nothing"
beginning_text begins.Gzip = codes "the file is packed with gzip"
beginning_text begins.Xz = codes "the file is packed with xz"
beginning_text begins.Zstd = codes "the file is packed with zstd"
beginning_text begins.Zip = codes "the file is a zip archive"
beginning_text begins.Utf16 = codes "the file is UTF-16, and JSON is UTF-8"
beginning_text begins.Html = codes "the file is HTML or XML"
beginning_text begins.DataUrl = codes "the file is a data: URL, not the map that it holds"
beginning_text begins.Script = codes "the file is JavaScript with a sourceMappingURL: the map is the file that this names"
beginning_text begins.Json = codes "the file begins as JSON"
beginning_text begins.Other = codes "the file is no JSON text, and of no kind that is often taken for a map"

-- the line and the column at which reading stopped
unfoldable pub stop_place_text : JsonStop → List ℕ
stop_place_text stop = text_from (
    codes "  reading stopped at byte " ∷ decimal stop.byte ∷ codes " (line " ∷ decimal stop.line
    ∷ codes ", column " ∷ decimal stop.column ∷ codes "): " ∷ [])

-- the bytes of ` » `, which marks the place
abbrev pub place_mark : List ℕ
place_mark = 32 ∷ 194 ∷ 187 ∷ 32 ∷ []

-- that the file ends too early
abbrev pub cut_text : Bool → List ℕ
cut_text is_cut = if is_cut then codes "; the file ends too early, as one that was cut does" else []

-- and the text about it
unfoldable pub stop_text : Option JsonStop → List ℕ
stop_text None = []
stop_text (Some stop) = text_from (
    stop_place_text stop ∷ codes ".." ∷ shown (string_bytes stop.before) ∷ place_mark
    ∷ shown (string_bytes stop.after) ∷ codes ".." ∷ cut_text stop.is_cut ∷ codes "\n" ∷ [])

unfoldable pub not_json_text : NotJsonFacts → List ℕ
not_json_text facts = text_from (codes "  " ∷ beginning_text facts.begins_as ∷ codes "\n" ∷ stop_text facts.stop ∷ [])

-- ---- what stands at a place

unfoldable pub found_text : FoundValue → List ℕ
found_text founds.Nothing = codes "missing"
found_text founds.Null = codes "null"
found_text (founds.Boolean true) = codes "true"
found_text (founds.Boolean false) = codes "false"
found_text (founds.Whole n) = text_from (codes "the number " ∷ decimal n ∷ [])
found_text founds.Number = codes "a number that is not written as a whole one from 0 to 18446744073709551615"
found_text (founds.Text text) = text_from (codes "the text \"" ∷ shown (string_bytes text) ∷ codes "\"" ∷ [])
found_text (founds.List n) = text_from (codes "a list, of which the length is " ∷ decimal n ∷ [])
found_text founds.Object = codes "an object"

-- ---- an index that is not built

-- a line and a column
unfoldable pub at_text : PrintedPlace → List ℕ
at_text place = text_from (codes "line " ∷ decimal place.line ∷ codes ", column " ∷ decimal place.column ∷ [])

-- where a section begins
unfoldable pub section_text : BuildFacts → List ℕ
section_text facts = text_from (codes "  section " ∷ decimal facts.section ∷ codes " begins at " ∷ at_text facts.offset ∷ codes "\n" ∷ [])

-- where the section before it begins
unfoldable pub before_text : Option PrintedPlace → List ℕ
before_text None = []
before_text (Some place) = text_from (codes "  the section before it begins at " ∷ at_text place ∷ codes "\n" ∷ [])

-- the mapping that stands in the way
unfoldable pub mapping_text : Option PrintedPlace → List ℕ
mapping_text None = []
mapping_text (Some place) = text_from (codes "  the mapping that is at fault is at " ∷ at_text place ∷ codes "\n" ∷ [])

unfoldable pub build_text : BuildFacts → List ℕ
build_text facts = text_from (section_text facts ∷ before_text facts.offset_before ∷ mapping_text facts.mapping ∷ [])
