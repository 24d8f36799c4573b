-- The lines that answer places, which are generated positions in the files of URLs: what the map of the URL answers, or why none
-- does. Lines and columns count from 1.
use Rattle.std.specs.Prelude.{ℕ, List, [], ◌∷◌, Option, Some, None, Result, Ok, Err, codes, if◌then◌else◌, option_map}
use Rattle.serde_json.specs.Data.{Data, string, object, no_members, member}
use Rattle.smap_codes.specs.Codes.{label_of}
use Rattle.smap_codes.specs.declared.code.Code.{Code}
use Rattle.smap_command.specs.Lines.{line_from}
use Rattle.smap_command.specs.Options.{is_json}
use Rattle.smap_command.specs.declared.options.Form.{Form}
use Rattle.smap_mappings.specs.Codes.{kind_code}
use Rattle.smap_record.specs.Codes.{map_code}
use Rattle.smap_record.specs.Record.{MapRecord}
use Rattle.smap_record.specs.Written.{member_where}
use Rattle.smap_record.specs.declared.refusal.MapRefusal.{MapRefusal}
use Rattle.smap_record.specs.declared.refusal.MapRefusal.TheVariants.{Text}
use Rattle.smap_printing.specs.Functions.{FunctionAsked}
use Rattle.smap_printing.specs.Json.{count, function_members, json_line, url_members}
use Rattle.smap_printing.specs.Lines.{function_suffix}
use Rattle.smap_printing.specs.Positions.{asked_line}
use Rattle.smap_command.specs.declared.options.AnswerOptions.{AnswerOptions}
use Rattle.smap_printing.specs.declared.printed_position.PrintedPosition.{PrintedPosition}
use Rattle.smap_trace.specs.declared.maps.NoMap.{NoMap}
use Rattle.smap_trace.specs.declared.maps.NoMap.TheVariants.{Unnamed, Unread, Refused, Memory}

-- ---- what is no place

abbrev pub bad_place_value : Data
bad_place_value = object (member (codes "answer") (string (codes "bad place")) no_members)

abbrev pub bad_place_line : Form → List ℕ
bad_place_line form = if is_json form then json_line bad_place_value else line_from (codes "bad place" ∷ [])

-- ---- why no map answers

abbrev pub unanswered_word : NoMap → List ℕ
unanswered_word Unnamed = codes "no map"
unanswered_word Unread = codes "no file"
unanswered_word (Refused code) = codes "refused"
unanswered_word Memory = codes "no memory"

-- by which code the map is refused, where it is
abbrev pub code_of : NoMap → Option Code
code_of Unnamed = None
code_of Unread = None
code_of (Refused refused) = Some (map_code refused)
code_of Memory = None

-- the code of the fault for which a map's mappings are refused, where they are
abbrev pub fault_in : MapRefusal → Option Code
fault_in (Text section fault) = Some (kind_code fault.kind)
fault_in other = None

abbrev pub fault_of : NoMap → Option Code
fault_of Unnamed = None
fault_of Unread = None
fault_of (Refused refused) = fault_in refused
fault_of Memory = None

abbrev pub words_of : (word : List ℕ) → (refusal : Option Code) → (more : List (List ℕ)) → List (List ℕ)
words_of word None more = word ∷ more
words_of word (Some code) more = word ∷ codes " " ∷ label_of code ∷ more

abbrev pub unanswered_line : (function : Option (List ℕ)) → NoMap → List ℕ
unanswered_line function why = line_from (words_of (unanswered_word why) (code_of why) (function_suffix function ∷ []))

abbrev pub unanswered_value : (function : Option (List ℕ)) → (url : List ℕ) → PrintedPosition → NoMap → Data
unanswered_value function url position why = object (
    member (codes "answer") (string (unanswered_word why))
    (member (codes "column") (count position.column)
    (member_where (codes "fault") (option_map (λ code. string (label_of code)) (fault_of why))
    (function_members function
    (member (codes "line") (count position.line)
    (member_where (codes "refusal") (option_map (λ code. string (label_of code)) (code_of why)) (url_members (Some url))))))))

abbrev pub unanswered : Form → (function : Option (List ℕ)) → (url : List ℕ) → PrintedPosition → NoMap → List ℕ
unanswered form function url position why =
    if is_json form then json_line (unanswered_value function url position why) else unanswered_line function why

-- ---- a place

-- what the map of its URL answers for it, or why none does, with the function that was asked for, where one was
abbrev pub place_line : AnswerOptions → (function : Option FunctionAsked) → (url : List ℕ) → PrintedPosition → Result MapRecord NoMap → List ℕ
place_line options function url position (Ok stated) = asked_line options function (Some url) stated position
place_line options function url position (Err why) = unanswered options.form (option_map (λ it. it.text) function) url position why
