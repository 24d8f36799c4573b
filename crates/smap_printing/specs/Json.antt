-- What is answered as JSON: an object a line, its keys in the order of their bytes. Lines and columns count from 1, indices
-- from 0.
use Rattle.std.specs.Prelude.{ℕ, ◌+◌, List, [], ◌∷◌, ◌++◌, Option, None, codes, nat_eq, option_and_then, option_map, slice_get}
use Rattle.std.specs.List.{after_first, before_first}
use Rattle.serde_json.specs.Data.{Data, boolean, number, string, array, object, unsigned, no_items, item, Members, no_members, member}
use Rattle.serde_json.specs.Written.{compact_text}
use Rattle.smap_mappings.specs.declared.mapping.Origin.{Origin}
use Rattle.smap_index.specs.declared.answer.Answer.{Answer}
use Rattle.smap_index.specs.declared.answer.Answer.TheVariants.{Nothing, Unmapped, Found}
use Rattle.smap_record.specs.Record.{MapRecord}
use Rattle.smap_record.specs.Sources.{StatedSource}
use Rattle.smap_record.specs.Written.{is_ignored_where, member_where, text_of_source, value_of_text}
use Rattle.smap_printing.specs.Context.{context_value, source_context}
use Rattle.smap_printing.specs.Lookup.{answer_excerpt, lookup_answer}
use Rattle.smap_command.specs.declared.options.Direction.{Direction}
use Rattle.smap_printing.specs.declared.printed_position.PrintedPosition.{PrintedPosition}

abbrev pub count : ℕ → Data
count n = number (unsigned n)

-- ---- the values

-- the line is no position
abbrev pub bad_position_value : Data
bad_position_value = object (member (codes "answer") (string (codes "bad position")) no_members)

-- the URL that was asked for, where one was
abbrev pub url_members : (url : Option (List ℕ)) → Members
url_members url = member_where (codes "url") (option_map string url) no_members

-- the function that was asked for beside the position, where one was, and more behind it
abbrev pub function_members : (function : Option (List ℕ)) → (more : Members) → Members
function_members function more = member_where (codes "function") (option_map string function) more

-- no mapping answers for this position
abbrev pub none_value : (function url : Option (List ℕ)) → PrintedPosition → Data
none_value function url position = object (
    member (codes "answer") (string (codes "none"))
    (member (codes "column") (count position.column)
    (function_members function
    (member (codes "line") (count position.line) (url_members url)))))

-- the mapping that answers stands at this column, and has no original
abbrev pub unmapped_value : (function url : Option (List ℕ)) → PrintedPosition → (column : ℕ) → Data
unmapped_value function url position column = object (
    member (codes "answer") (string (codes "unmapped"))
    (member (codes "column") (count position.column)
    (function_members function
    (member (codes "generatedColumn") (count (column + 1))
    (member (codes "line") (count position.line) (url_members url))))))

-- the two lines of an excerpt
abbrev pub excerpt_value : List ℕ → Data
excerpt_value excerpt = array (
    item (string (before_first (λ byte. nat_eq byte 10) excerpt))
    (item (string (after_first (λ byte. nat_eq byte 10) excerpt)) no_items))

-- the members that say where a mapping comes from, and more behind them
abbrev pub origin_members : Origin → Option StatedSource → (name : Option (List ℕ)) → (more : Members) → Members
origin_members origin source name more =
    member (codes "name") (value_of_text name)
    (member (codes "originalColumn") (count (origin.column + 1))
    (member (codes "originalLine") (count (origin.line + 1))
    (member (codes "source") (value_of_text (option_and_then text_of_source source))
    (member (codes "sourceIndex") (count origin.source) more))))

-- where the mapping comes from that answers and stands at this column; the lines around that, up to so many on each side, where they
-- are asked for and there are some; and the excerpt that shows it, where there is one
abbrev pub found_value : (most : Option ℕ) → (excerpt function url : Option (List ℕ)) → PrintedPosition → (column : ℕ) → Origin → Option StatedSource → (name : Option (List ℕ)) → Data
found_value most excerpt function url position column origin source name = object (
    member (codes "answer") (string (codes "found"))
    (member (codes "column") (count position.column)
    (member_where (codes "context") (option_map context_value (source_context most source origin.line))
    (member_where (codes "excerpt") (option_map excerpt_value excerpt)
    (function_members function
    (member (codes "generatedColumn") (count (column + 1))
    (member (codes "ignored") (boolean (is_ignored_where source))
    (member (codes "line") (count position.line) (origin_members origin source name (url_members url))))))))))

-- what a map answers for a position, with so many lines around the place that is found, where they are asked for, with the excerpt that
-- shows it, and with the function and the URL that were asked for, where there are such
abbrev pub answer_value : (most : Option ℕ) → (excerpt function url : Option (List ℕ)) → MapRecord → PrintedPosition → Answer → Data
answer_value most excerpt function url stated position Nothing = none_value function url position
answer_value most excerpt function url stated position (Unmapped column) = unmapped_value function url position column
answer_value most excerpt function url stated position (Found column origin) =
    found_value most excerpt function url position column origin (slice_get stated.sources origin.source) (option_and_then (slice_get stated.names) origin.name)

-- ---- the lines

abbrev pub json_line : Data → List ℕ
json_line value = compact_text value ++ 10 ∷ []

-- what is answered for a generated line and column, from 0, with the excerpt
abbrev pub lookup_json : Direction → (line column : ℕ) → MapRecord → List ℕ
lookup_json direction line column stated =
    let answer = lookup_answer direction line column stated in
    json_line (answer_value None (answer_excerpt stated answer) None None stated (record { line = line + 1; column = column + 1 }) answer)
