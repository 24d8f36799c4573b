-- What becomes of a text that is rewritten over a table, and what is said of it.
use Rattle.std.specs.Prelude.{◌≡◌, ◌<◌, ◌⊎◌, ℕ, ◌&&◌, ◌++◌, Bool, List, [], Option, false, true, filter, if◌then◌else◌, is_some, length, take}
use Rattle.memchr.specs.Find.{is_byte, places}
use Rattle.smap_locations.specs.ByText.{value_under}
use Rattle.smap_codes.specs.declared.code.Code.{Code}
use Rattle.smap_codes.specs.declared.code.Code.TheVariants.{Usage, X3, X5}
use Rattle.smap_lines.specs.Limits.{most_text_bytes}
use Rattle.smap_lines.specs.Lines.{lines_with_ends}
use Rattle.smap_record.specs.Record.{MapRecord}
use Rattle.smap_anywhere.specs.Anywhere.{PlacesAsked}
use Rattle.smap_anywhere.specs.ChunkParts.{unknown_in}
use Rattle.smap_anywhere.specs.MapUrls.{urls_known}
use Rattle.smap_anywhere.specs.NamedParts.{by_names, named_parts_in}
use Rattle.smap_anywhere.specs.SeemingUrls.{urls_seeming}
use Rattle.smap_pairs.specs.Known.{UrlsKnown}
use Rattle.smap_piecewise.specs.Known.{found_under}
use Rattle.smap_anywhere.specs.Replaced.{is_place, is_replaced_by, parts_text_by}
use Rattle.smap_io.specs.Sequences.{without_sequences}
use Rattle.smap_store.specs.UrlTable.{UrlTableSeen, locations_of, named_by_url}
use Rattle.smap_trace.specs.MapsOf.{counts_named, rewritten_named}
use Rattle.smap_trace.specs.FunctionNames.{FunctionNames}
use Rattle.smap_trace.specs.Hiding.{only_ignored}
use Rattle.smap_trace.specs.Rewritten.{Counts}
use Rattle.smap_c.specs.Codes.{code_number}
use Rattle.smap_c.specs.declared.trace.RewriteOptions.{RewriteOptions}
use Rattle.smap_c.specs.declared.trace.RewriteRefusal.{RewriteRefusal}
use Rattle.smap_c.specs.declared.trace.TraceCounts.{TraceCounts}

abbrev pub counts_seen : TraceCounts → Counts
counts_seen counts = record { lines = counts.lines; frames = counts.frames; mapped = counts.mapped; hidden = counts.hidden }

-- ---- by its places anywhere

-- the maps under URLs, and the patterns, among which the URLs of places are sought
abbrev pub urls_of : UrlTableSeen → UrlsKnown
urls_of table = urls_known (record { table = table.exact; locations = locations_of table.patterns })

-- what is found under a URL, with or without a query and a fragment: its map, and what names the functions of its program
abbrev pub found_in : UrlTableSeen → (url : List ℕ) → Option MapRecord × Option FunctionNames
found_in table = found_under (named_by_url true table)

-- a text whose places have the maps of their URLs, and their frames the written names of functions
unfoldable pub placed_by : UrlTableSeen → (text : List ℕ) → List ℕ
placed_by table text = parts_text_by by_names (found_in table) (named_parts_in (urls_of table) text)

unfoldable pub place_counts_by : UrlTableSeen → (text : List ℕ) → Counts
place_counts_by table text = record {
  lines = length (lines_with_ends text);
  frames = length (filter is_place (named_parts_in (urls_of table) text));
  mapped = length (filter (is_replaced_by by_names (found_in table)) (named_parts_in (urls_of table) text));
  hidden = 0;
}

-- what is asked of its places
abbrev pub places_asked : UrlTableSeen → PlacesAsked
places_asked table = record {
  parts = named_parts_in (urls_of table);
  unknown = unknown_in (urls_of table) urls_seeming;
  most_bytes = most_text_bytes;
  is_noted = false;
}

-- the table has a map for each URL, and `12:30:45` would be a place
abbrev pub has_map_of_all : UrlTableSeen → Bool
has_map_of_all table = is_some (value_under [] table.patterns)

-- ---- with these options

-- the text that is read: without its control sequences, where these are left out
abbrev pub text_read : RewriteOptions → (text : List ℕ) → List ℕ
text_read options text = if options.strip_ansi then without_sequences text else text

-- what becomes of what is read: by its places anywhere, or by its frames, whose URLs may be cut or not, with the names of functions
abbrev pub text_of : RewriteOptions → UrlTableSeen → (read : List ℕ) → List ℕ
text_of options table read =
    if options.anywhere then placed_by table read
    else rewritten_named (named_by_url options.cut table) (only_ignored options.hide_ignored) read

abbrev pub text_with : RewriteOptions → UrlTableSeen → (text : List ℕ) → List ℕ
text_with options table text = text_of options table (text_read options text)

-- and what is counted
abbrev pub counts_of : RewriteOptions → UrlTableSeen → (read : List ℕ) → Counts
counts_of options table read =
    if options.anywhere then place_counts_by table read
    else counts_named (named_by_url options.cut table) (only_ignored options.hide_ignored) read

abbrev pub counts_with : RewriteOptions → UrlTableSeen → (text : List ℕ) → Counts
counts_with options table text = counts_of options table (text_read options text)

-- it is refused, however long it is
abbrev pub is_for_all : RewriteOptions → UrlTableSeen → Bool
is_for_all options table = options.anywhere && has_map_of_all table

-- ---- why it is refused

-- how many bytes come out where nothing else is asked for
abbrev pub most_output_bytes : ℕ
most_output_bytes = 1073741824

abbrev pub rewrite_refused : Code → (lines : ℕ) → RewriteRefusal
rewrite_refused code lines = record { code = code_number code; lines = lines }

-- how many LFs stand in a text
abbrev pub line_ends : (text : List ℕ) → ℕ
line_ends text = length (places (is_byte 10) text)

-- a front of what is read already comes to more bytes; so many lines of that are whole as far as it fits
pub record IsLong (options : RewriteOptions) (table : UrlTableSeen) (read : List ℕ) (most : ℕ) (refusal : RewriteRefusal) : Type 0 where
  pub front : List ℕ
  pub rest : List ℕ
  pub is_front : read ≡ front ++ rest
  pub long : most < length (text_of options table front)
  pub refused : refusal ≡ rewrite_refused X5 (line_ends (take most (text_of options table front)))

-- a map is for each URL and places are asked for anywhere; or else the text that is read is too long; or what would come out is
abbrev pub IsRefusedFor : RewriteOptions → UrlTableSeen → (text : List ℕ) → (most : ℕ) → RewriteRefusal → Type 0
IsRefusedFor options table text most refusal =
    ((is_for_all options table ≡ true) × (refusal ≡ rewrite_refused Usage 0))
    ⊎ ((is_for_all options table ≡ false) × (most_text_bytes < length (text_read options text))
    × (refusal ≡ rewrite_refused X3 0))
    ⊎ ((is_for_all options table ≡ false) × IsLong options table (text_read options text) most refusal)

-- ---- the options of the two calls that have none

abbrev pub frames_alone : (hide_ignored : Bool) → RewriteOptions
frames_alone hide_ignored = record { hide_ignored = hide_ignored; anywhere = false; strip_ansi = false; cut = false }

abbrev pub places_alone : RewriteOptions
places_alone = record { hide_ignored = false; anywhere = true; strip_ansi = false; cut = false }
