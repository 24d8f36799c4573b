-- How much a map holds, as text and as JSON.
use Rattle.std.specs.Prelude.{ℕ, true, List, [], ◌∷◌, Option, codes, length, option_map}
use Rattle.std.specs.Fmt.{decimal}
use Rattle.serde_json.specs.Data.{Data, Members, boolean, string, object, no_members, member}
use Rattle.smap_index.specs.Marks.{marks, used_lines_in}
use Rattle.smap_index.specs.Parts.{joined}
use Rattle.smap_record.specs.Record.{MapRecord}
use Rattle.smap_record.specs.Written.{member_where}
use Rattle.smap_verdicts.specs.Texts.{count, text_from}
use Rattle.smap_verdicts.specs.declared.counts.MapCounts.{MapCounts}

-- how much a map holds, with its checkpoints at this interval
abbrev pub map_counts : MapRecord → (k : ℕ) → MapCounts
map_counts stated k = record {
  sections = length stated.parts;
  sources = length stated.sources;
  names = length stated.names;
  segments = length (joined stated.parts);
  lines = used_lines_in stated.parts;
  checkpoints = length (marks stated.parts k);
}

-- how many sections, sources and names a map has
abbrev pub lists_text : MapCounts → List ℕ
lists_text counts = text_from (
    codes " sections " ∷ decimal counts.sections
    ∷ codes " sources " ∷ decimal counts.sources
    ∷ codes " names " ∷ decimal counts.names ∷ [])

-- how many mappings it has, lines that hold one, and checkpoints
abbrev pub mappings_text : MapCounts → List ℕ
mappings_text counts = text_from (
    codes " segments " ∷ decimal counts.segments
    ∷ codes " lines " ∷ decimal counts.lines
    ∷ codes " checkpoints " ∷ decimal counts.checkpoints ∷ [])

-- that a map is accepted, and how much it holds
abbrev pub counts_text : MapCounts → List ℕ
counts_text counts = text_from (codes "ok" ∷ lists_text counts ∷ mappings_text counts ∷ [])

-- the members that say so of the map at a path, which may have a debug id, with keys in the order of their bytes
abbrev pub counts_members : (path : List ℕ) → (id : Option (List ℕ)) → MapCounts → Members
counts_members path id counts =
    member (codes "checkpoints") (count counts.checkpoints)
    (member_where (codes "debugId") (option_map string id)
    (member (codes "lines") (count counts.lines)
    (member (codes "names") (count counts.names)
    (member (codes "ok") (boolean true)
    (member (codes "path") (string path)
    (member (codes "sections") (count counts.sections)
    (member (codes "segments") (count counts.segments)
    (member (codes "sources") (count counts.sources) no_members))))))))

abbrev pub counts_value : (path : List ℕ) → (id : Option (List ℕ)) → MapCounts → Data
counts_value path id counts = object (counts_members path id counts)
