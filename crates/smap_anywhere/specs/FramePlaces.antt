-- Which frames become the same where places are sought anywhere (this project's own): those whose URL an argument or a list names;
-- those for whose URL a folder, a list without its query, or a pattern has a file, if it is one and no more; and of these those from
-- a source whose name can stand anywhere. All of a frame is one chunk, since it has at most 65,536 bytes.
use Rattle.std.specs.Prelude.{◌≡◌, ℕ, ◌==◌, ◌&&◌, ◌||◌, Bool, true, false, not, nat_le, List, Option, Some, None}
use Rattle.std.specs.List.{list_all, list_any, slice_range}
use Rattle.smap_locations.specs.Locations.{has_pattern_path_in_text, path_for}
use Rattle.smap_locations.specs.Paths.{without_query}
use Rattle.smap_locations.specs.Patterns.{path_by_patterns}
use Rattle.smap_pairs.specs.FrameUrl.{is_no_sentence, is_one_url}
use Rattle.smap_pairs.specs.Known.{UrlsKnown}
use Rattle.smap_pairs.specs.Pairs.{pairs_of}
use Rattle.smap_pairs.specs.Seen.{seen_of}
use Rattle.smap_pairs.specs.declared.pairs.Pair.{Pair}
use Rattle.smap_anywhere.specs.FrameUrl.{url_in}
use Rattle.smap_anywhere.specs.MapUrls.{is_name}
use Rattle.smap_anywhere.specs.MapsSeen.{MapsSeen}
use Rattle.smap_anywhere.specs.Replaced.{is_quoting}
use Rattle.smap_trace.specs.Frame.{FrameParts}
use Rattle.smap_trace.specs.Rewritten.{SourceLocation}

-- ---- a file

-- a pair stands before a URL, or is that behind it
abbrev pub is_outside : (start end : ℕ) → Pair → Bool
is_outside start end pair = nat_le pair.end start || pair.start == end

-- what stands in a line from a byte to another is no sentence, no byte of its query is barred, and no pair is in it
abbrev pub is_no_sentence_in : (line : List ℕ) → (url : ℕ × ℕ) → Bool
is_no_sentence_in line (start, end) =
    list_all (is_outside start end) (pairs_of line) && is_no_sentence (slice_range (seen_of line) start end)

-- it is one URL and no more, and no pair is in it
abbrev pub is_one_url_in : (line : List ℕ) → (url : ℕ × ℕ) → Bool
is_one_url_in line (start, end) =
    list_all (is_outside start end) (pairs_of line)
    && is_one_url (slice_range (seen_of line) 0 start) (slice_range (seen_of line) start end)

-- the URL of the frame that a line is has a file where places are sought
abbrev pub has_file : UrlsKnown → (line : List ℕ) → FrameParts → Bool
has_file known line parts =
    known.has_own parts.url && (known.is_name parts.url || is_no_sentence_in line (url_in parts))
    || is_one_url_in line (url_in parts) && known.has_pattern parts.url

-- Neither an argument nor a list names the URL. If it holds no pair, is no sentence, and no byte of its query is barred, at most a
-- pattern has a file for it; and where one has by a text that is not empty, it is not one URL and no more.
pub record IsLeftToPatterns (maps : MapsSeen) (line : List ℕ) (parts : FrameParts) : Type 0 where
  pub name : is_name maps parts.url ≡ false
  pub path : is_no_sentence_in line (url_in parts) ≡ true
      → path_for maps.locations parts.url ≡ path_by_patterns maps.locations.patterns parts.url (without_query parts.url)
  pub apart : (is_one_url_in line (url_in parts) && has_pattern_path_in_text maps.locations parts.url) ≡ false

-- ---- a source

-- a name, where there is one, can stand anywhere
abbrev pub is_quotable : (name : Option (List ℕ)) → Bool
is_quotable None = true
is_quotable (Some name) = not (list_any is_quoting name)

-- the source of a location has such a name, where there is one
abbrev pub is_from_quotable : Option SourceLocation → Bool
is_from_quotable None = true
is_from_quotable (Some original) = is_quotable original.name
