-- Worked examples of frames where places are sought anywhere: each holds by computing both sides.
use Rattle.std.proofs.Common.{◌≡◌, ◌||◌, ℕ, Bool, true, false, List, [], ◌∷◌, Option, Some, None, codes, map, option_map, refl}
use Rattle.std.specs.Bool.{nat_eq}
use Rattle.std.specs.List.{ends_with, starts_with}
use Rattle.std.specs.Str.{bytes_eq, chars, is_utf8}
use lib.Utf8.{encode}
use Rattle.smap_pairs.specs.Absolute.{is_behind_scheme}
use Rattle.smap_pairs.specs.Before.{has_scheme, has_separator, is_behind_at, is_in_call}
use Rattle.smap_pairs.specs.Colours.{colour_behind, colour_from}
use Rattle.smap_pairs.specs.Escapes.{ending_of, escape_from, escape_of}
use Rattle.smap_pairs.specs.FrameUrl.{begins_again, has_barred_query, has_blank_in_query, has_function, has_scheme_behind_sign, has_slash_behind_sign, is_in_scheme}
use Rattle.smap_pairs.specs.Known.{UrlsKnown}
use Rattle.smap_pairs.specs.LinePlaces.{pair_place, places_in, span_url}
use Rattle.smap_pairs.specs.Marks.{marks_of}
use Rattle.smap_pairs.specs.Named.{own_bytes}
use Rattle.smap_pairs.specs.Numbers.{numbers_after}
use Rattle.smap_pairs.specs.Pairs.{address_size, pair_numbers, pairs_from}
use Rattle.smap_pairs.specs.Path.{is_path}
use Rattle.smap_pairs.specs.PathStart.{path_begin}
use Rattle.smap_pairs.specs.Root.{is_root}
use Rattle.smap_pairs.specs.Seen.{counted_from, seen_of, settled, settled_from, token_of}
use Rattle.smap_pairs.specs.VirtualLines.{lines_of_strings, virtual_lines}
use Rattle.smap_pairs.specs.Word.{before_word, scheme_end, scheme_start, word_begin}
use Rattle.smap_trace.specs.FrameOf.{frame_of}
use Rattle.smap_anywhere.specs.FramePlaces.{has_file, is_quotable}
use Rattle.smap_anywhere.specs.FrameUrl.{frame_url}

-- one URL that is named, a folder, and a pattern
abbrev known : UrlsKnown
known = record {
  frame_url = frame_url;
  has_own = λ url. bytes_eq url (codes "to /n:1:2, x.js") || starts_with nat_eq url (codes "/n/");
  is_name = λ url. bytes_eq url (codes "to /n:1:2, x.js");
  is_named = λ by url. false;
  is_prefix = λ text. bytes_eq text (codes "/n/");
  has_pattern = λ url. ends_with nat_eq url (codes "p.js");
  front = None;
}

-- whether the URL of the frame that a line is has a file
abbrev has : (line : List ℕ) → Option Bool
has line = option_map (has_file known line) (frame_of line)

-- the URL of each place of a line
abbrev urls : (line : List ℕ) → List (List ℕ)
urls line = map (span_url line) (places_in known line (seen_of line))

-- by a pattern, with brackets in pairs, or blanks and backslashes; a name has whatever bytes it has
files : map has (codes "  at f (h:/(s)/p.js:1:2)" ∷ codes "f@C:\\a b\\p.js:1:2\r" ∷ codes "at to /n:1:2, x.js:3:4" ∷ []) ≡ Some true ∷ Some true ∷ Some true ∷ []
unfolding colour_behind colour_from counted_from ending_of escape_from escape_of seen_of settled settled_from token_of numbers_after
    pair_numbers address_size pairs_from is_in_scheme begins_again has_slash_behind_sign has_scheme_behind_sign has_blank_in_query has_function has_barred_query frame_of
files = refl

-- by a folder, with blanks in the path; not so with one in the query, or with a pair
folders : map has (codes "f@/n/a b.js?c:1:2" ∷ codes "f@/n/a.js?b c.js:1:2" ∷ codes "f@/n/a.js?b:1:2,/n/a.js:3:4" ∷ []) ≡ Some true ∷ Some false ∷ Some false ∷ []
unfolding colour_behind colour_from counted_from ending_of escape_from escape_of seen_of settled settled_from token_of numbers_after
    pair_numbers address_size pairs_from is_in_scheme begins_again has_slash_behind_sign has_scheme_behind_sign has_blank_in_query has_function has_barred_query is_path
    is_root has_separator frame_of
folders = refl

-- not so a sentence, another pair, or what is no frame
none : map has (codes "at x: see h:/p.js:1:2" ∷ codes "f@/a.js:1:2 /p.js:3:4" ∷ codes "h:/p.js:1:2" ∷ []) ≡ Some false ∷ Some false ∷ None ∷ []
unfolding colour_behind colour_from counted_from ending_of escape_from escape_of seen_of settled settled_from token_of
    numbers_after pair_numbers address_size pairs_from is_in_scheme begins_again has_slash_behind_sign has_scheme_behind_sign has_blank_in_query has_function
    has_barred_query is_path is_root has_separator frame_of
none = refl

-- each of two frames in a line has its place; and what node prints behind one stays
apart : map urls (codes "f@/n/a.js?b:1:2,/n/a.js:3:4" ∷ codes " at C:\\a b\\p.js:1:2 {" ∷ codes "at C:\\a b\\p.js:1:2 {" ∷ []) ≡ (codes "/n/a.js?b" ∷ codes "/n/a.js" ∷ []) ∷ (codes "C:\\a b\\p.js" ∷ []) ∷ [] ∷ []
unfolding chars encode is_utf8 colour_behind colour_from counted_from ending_of escape_from escape_of seen_of settled settled_from token_of marks_of
    lines_of_strings virtual_lines numbers_after pair_numbers address_size pairs_from own_bytes pair_place places_in before_word
    scheme_end scheme_start has_scheme has_separator is_in_call is_behind_at is_behind_scheme path_begin is_path is_root word_begin
    is_in_scheme begins_again has_slash_behind_sign has_scheme_behind_sign has_blank_in_query has_function has_barred_query frame_of
apart = refl

-- the place is the frame's, and there is no other
places : map urls (codes "at f (h:/(s)/p.js:1:2)" ∷ codes "at to /n:1:2, x.js:3:4" ∷ []) ≡ (codes "h:/(s)/p.js" ∷ []) ∷ (codes "to /n:1:2, x.js" ∷ []) ∷ []
unfolding colour_behind colour_from counted_from ending_of escape_from escape_of seen_of settled settled_from token_of marks_of
    lines_of_strings virtual_lines numbers_after pair_numbers address_size pairs_from own_bytes pair_place places_in before_word
    scheme_end scheme_start has_scheme has_separator is_in_call is_behind_at is_behind_scheme path_begin is_path is_root word_begin
    is_in_scheme begins_again has_slash_behind_sign has_scheme_behind_sign has_blank_in_query has_function has_barred_query frame_of
places = refl

-- a name with a quotation mark or a backslash stands in frames alone
names : map is_quotable (None ∷ Some (codes "a b.ts") ∷ Some (codes "a\"b.ts") ∷ Some (codes "a\\b.ts") ∷ []) ≡ true ∷ true ∷ false ∷ false ∷ []
names = refl
