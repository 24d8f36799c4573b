-- What is known of why a map file is refused, as members of a JSON object. Lines and columns print from 1, bytes, sections,
-- items and indices from 0.
use Rattle.std.specs.Prelude.{ℕ, ℤ, List, Option, None, Some, codes, map, option_map, string_bytes}
use Rattle.serde_json.specs.Data.{Data, Members, array, member, no_members, number, object, put, string}
use Rattle.serde_json.specs.Find.{of_integer}
use Rattle.serde_json.specs.View.{items_of}
use Rattle.smap_explain.specs.declared.explanation.Beginning.{Beginning}
use Rattle.smap_explain.specs.declared.explanation.Beginning.TheVariants as begins
use Rattle.smap_explain.specs.declared.explanation.BuildFacts.{BuildFacts}
use Rattle.smap_explain.specs.declared.explanation.Explanation.{Explanation}
use Rattle.smap_explain.specs.declared.explanation.Explanation.TheVariants as explained
use Rattle.smap_explain.specs.declared.explanation.FoundValue.{FoundValue}
use Rattle.smap_explain.specs.declared.explanation.KeyFacts.{KeyFacts}
use Rattle.smap_explain.specs.declared.explanation.Measure.{Measure}
use Rattle.smap_explain.specs.declared.explanation.NotJsonFacts.{NotJsonFacts}
use Rattle.smap_explain.specs.declared.explanation.PrintedPlace.{PrintedPlace}
use Rattle.smap_explain.specs.declared.explanation.Quantity.{Quantity}
use Rattle.smap_explain.specs.declared.explanation.SegmentFacts.{SegmentFacts}
use Rattle.smap_explain.specs.declared.explanation.JsonStop.{JsonStop}
use Rattle.smap_verdicts.specs.Explanation.{found_text}
use Rattle.smap_verdicts.specs.Keys.{key_name}
use Rattle.smap_verdicts.specs.Segment.{printed, quantity_name}
use Rattle.smap_verdicts.specs.Texts.{count}

-- ---- values

-- a whole number that may be negative
abbrev pub integer : ℤ → Data
integer n = number (of_integer n)

abbrev pub numbers_value : List ℤ → Data
numbers_value numbers = array (items_of (map integer numbers))

-- a value of a segment, or its limit, as the sentence has it
abbrev pub printed_value : Quantity → ℤ → Data
printed_value quantity value = integer (printed quantity value)

abbrev pub place_value : PrintedPlace → Data
place_value place = object (member (codes "column") (count place.column) (member (codes "line") (count place.line) no_members))

abbrev pub beginning_name : Beginning → List ℕ
beginning_name begins.Nothing = codes "nothing"
beginning_name begins.Gzip = codes "gzip"
beginning_name begins.Xz = codes "xz"
beginning_name begins.Zstd = codes "zstd"
beginning_name begins.Zip = codes "zip"
beginning_name begins.Utf16 = codes "utf-16"
beginning_name begins.Html = codes "html"
beginning_name begins.DataUrl = codes "data-url"
beginning_name begins.Script = codes "javascript"
beginning_name begins.Json = codes "json"
beginning_name begins.Other = codes "other"

-- ---- members

-- a value at its key, where there is one
abbrev pub put_where : List ℕ → Option Data → Members → Members
put_where key None members = members
put_where key (Some value) members = put key value members

abbrev pub stop_byte : JsonStop → Data
stop_byte stop = count stop.byte

-- the greatest number of bytes of a map
abbrev pub with_size : Members → Members
with_size members = put (codes "most") (count 67108864) members

abbrev pub with_not_json : NotJsonFacts → Members → Members
with_not_json facts members =
    put_where (codes "stoppedAt") (option_map stop_byte facts.stop)
    (put (codes "beginsAs") (string (beginning_name facts.begins_as)) members)

-- what stands in the place of another value
abbrev pub with_found : FoundValue → Members → Members
with_found found members = put (codes "found") (string (found_text found)) members

abbrev pub with_key : KeyFacts → Members → Members
with_key facts members =
    put_where (codes "most") (option_map count facts.most)
    (put_where (codes "item") (option_map count facts.index)
    (put_where (codes "section") (option_map count facts.section)
    (with_found facts.found
    (put (codes "key") (string (key_name facts.key)) members))))

-- what is asked of which value
abbrev pub with_measure : Measure → Members → Members
with_measure measure members =
    put_where (codes "most") (option_map (printed_value measure.quantity) measure.most)
    (put_where (codes "least") (option_map (printed_value measure.quantity) measure.least)
    (put (codes "quantity") (string (quantity_name measure.quantity))
    (put (codes "value") (printed_value measure.quantity measure.value) members)))

abbrev pub with_measure_where : Option Measure → Members → Members
with_measure_where None members = members
with_measure_where (Some measure) members = with_measure measure members

abbrev pub numbers_where : Option (List ℤ) → Option Data
numbers_where numbers = option_map numbers_value numbers

abbrev pub with_segment : SegmentFacts → Members → Members
with_segment facts members =
    with_measure_where facts.measure
    (put_where (codes "numbers") (numbers_where (option_map (λ numbers. numbers.items) facts.numbers))
    (put_where (codes "generatedColumn") (option_map count facts.column)
    (put (codes "segment") (string (string_bytes facts.text)) members)))

abbrev pub with_build : BuildFacts → Members → Members
with_build facts members =
    put_where (codes "mapping") (option_map place_value facts.mapping)
    (put_where (codes "offsetBefore") (option_map place_value facts.offset_before)
    (put (codes "offset") (place_value facts.offset) members))

-- all that is known
unfoldable pub with_explanation : Explanation → Members → Members
with_explanation explained.Nothing members = members
with_explanation explained.TooLarge members = with_size members
with_explanation (explained.NotJson facts) members = with_not_json facts members
with_explanation (explained.NotObject found) members = with_found found members
with_explanation (explained.Key facts) members = with_key facts members
with_explanation (explained.Segment facts) members = with_segment facts members
with_explanation (explained.Build facts) members = with_build facts members
