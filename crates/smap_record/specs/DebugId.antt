-- The debug id of a map (the proposal of debug ids for ECMA-426): a text, mostly a UUID, that its generated file names too. No rule
-- of ECMA-426 reads it, so it stands beside what a map states. This project's own are: that `debug_id` is read where `debugId` is no
-- text, that what is no text counts as absent, and where it is written.
use Rattle.std.specs.Prelude.{ℕ, List, ◌++◌, true, Option, None, Some, Result, Ok, Err, ◌-◌, length, take, codes, option_and_then}
use Rattle.std.specs.Option.{option_or}
use Rattle.serde_json.specs.Data.{Members, object, string, no_members, member}
use Rattle.serde_json.specs.Find.{as_str}
use Rattle.serde_json.specs.Written.{members_text}
use Rattle.smap_record.specs.Json.{field}
use Rattle.smap_record.specs.Record.{members_in}
use Rattle.smap_record.specs.declared.refusal.MapRefusal.{MapRefusal}

-- the text at a key of an object with these members
abbrev pub text_at : (key : List ℕ) → Members → Option (List ℕ)
text_at key members = option_and_then as_str (field key (object members))

-- the debug id of a map file's outer object
unfoldable pub debug_id_in : Members → Option (List ℕ)
debug_id_in members = option_or (text_at (codes "debugId") members) (text_at (codes "debug_id") members)

-- the same of the members that were read, if they were
abbrev pub debug_id_given : Result Members MapRefusal → Option (List ℕ)
debug_id_given (Ok members) = debug_id_in members
debug_id_given (Err refusal) = None

-- the debug id of a map file of these bytes
abbrev pub debug_id_of : (bytes : List ℕ) → Option (List ℕ)
debug_id_of bytes = debug_id_given (members_in bytes)

-- ---- written

-- the member that is written
abbrev pub id_member : (id : List ℕ) → Members
id_member id = member (codes "debugId") (string id) no_members

-- the text of an object that has members, with a debug id as its last: in the place of its bracket a comma, the member, and the bracket
abbrev pub with_debug_id : (id text : List ℕ) → List ℕ
with_debug_id id text = take (length text - 1) text ++ members_text true (id_member id)

-- the same if there is one, and else the text
abbrev pub with_debug_id_of : (id : Option (List ℕ)) (text : List ℕ) → List ℕ
with_debug_id_of None text = text
with_debug_id_of (Some id) text = with_debug_id id text
