-- Worked examples of the places of a line: each holds by computing both sides.
use Rattle.std.proofs.Common.{◌≡◌, ℕ, false, List, [], ◌∷◌, None, codes, map, refl}
use Rattle.std.specs.Bool.{nat_eq}
use Rattle.std.specs.List.{ends_with}
use Rattle.std.specs.Str.{bytes_eq, chars, is_utf8}
use lib.Utf8.{encode}
use Rattle.smap_pairs.specs.Absolute.{is_behind_scheme}
use Rattle.smap_pairs.specs.Before.{has_scheme, has_separator, is_behind_at, is_in_call}
use Rattle.smap_pairs.specs.Colours.{colour_behind, colour_from}
use Rattle.smap_pairs.specs.Escapes.{ending_of, escape_from, escape_of}
use Rattle.smap_pairs.specs.Known.{UrlsKnown}
use Rattle.smap_pairs.specs.LinePlaces.{pair_place, places_in, span_url}
use Rattle.smap_pairs.specs.Marks.{marks_of}
use Rattle.smap_pairs.specs.Named.{own_bytes}
use Rattle.smap_pairs.specs.Numbers.{numbers_after}
use Rattle.smap_pairs.specs.Pairs.{address_size, pair_numbers, pairs_from}
use Rattle.smap_pairs.specs.Path.{is_path}
use Rattle.smap_pairs.specs.PathStart.{path_begin}
use Rattle.smap_pairs.specs.Root.{is_root}
use Rattle.smap_pairs.specs.Seen.{counted_from, seen_of, settled, settled_from, token_of}
use Rattle.smap_pairs.specs.VirtualLines.{lines_of_strings, virtual_lines}
use Rattle.smap_pairs.specs.Word.{before_word, scheme_end, scheme_start, word_begin}

-- no frame; a URL that an argument names, the prefix of a folder, and a pattern
abbrev known : UrlsKnown
known = record {
  frame_url = λ line. None;
  has_own = λ url. false;
  is_name = λ url. false;
  is_named = λ by url. bytes_eq url (codes "https://h/app.js");
  is_prefix = λ text. bytes_eq text (codes "/n/");
  has_pattern = λ url. ends_with nat_eq url (codes "/p.js");
  front = None;
}

-- the URL of each place
abbrev urls : (line : List ℕ) → List (List ℕ)
urls line = map (span_url line) (places_in known line (seen_of line))

-- a URL that is named: behind an escape in a string, behind a bracket, not within a word; and up to its query
named : urls (codes "{\"s\":\"f\\nhttps://h/app.js:1:1\"}") ∷ urls (codes "[x](https://h/app.js:1:2)") ∷ urls (codes "xhttps://h/app.js:1:2") ∷ urls (codes "https://h/app.js?v=1\\u0026t=2:1:5") ∷ []
    ≡ (codes "https://h/app.js" ∷ []) ∷ (codes "https://h/app.js" ∷ []) ∷ ([]) ∷ (codes "https://h/app.js?v=1\\u0026t=2" ∷ []) ∷ []
unfolding colour_behind colour_from counted_from ending_of escape_from escape_of seen_of settled settled_from token_of marks_of
    lines_of_strings virtual_lines numbers_after pair_numbers address_size pairs_from own_bytes pair_place places_in before_word
    scheme_end scheme_start has_scheme has_separator is_in_call is_behind_at is_behind_scheme path_begin is_path is_root word_begin
named = refl

-- behind the prefix of a folder, with brackets in pairs
folders : urls (codes "{\"f\":\"/n/posts/[id].js:2:4\"}") ∷ urls (codes "(/n/posts/[id.js:2:4)") ∷ urls (codes "at:/n/a.js:1:2 /n/b.js:3:4") ∷ []
    ≡ (codes "/n/posts/[id].js" ∷ []) ∷ ([]) ∷ (codes "/n/a.js" ∷ codes "/n/b.js" ∷ []) ∷ []
unfolding chars encode is_utf8 colour_behind colour_from counted_from ending_of escape_from escape_of seen_of settled settled_from token_of marks_of
    lines_of_strings virtual_lines numbers_after pair_numbers address_size pairs_from own_bytes pair_place places_in before_word
    scheme_end scheme_start has_scheme has_separator is_in_call is_behind_at is_behind_scheme path_begin is_path is_root word_begin
folders = refl

-- by a pattern: a key, a line of a string and a sign stay; what may be the end of a longer path has none
patterns : urls (codes "caller=/srv/p.js:1:1 msg=x") ∷ urls (codes "{\"msg\":\"Error: bad\\n/srv/p.js:1:1\"}") ∷ urls (codes "dist\\/p.js:1:1") ∷ urls (codes "/My App/p.js:1:1") ∷ []
    ≡ (codes "/srv/p.js" ∷ []) ∷ (codes "/srv/p.js" ∷ []) ∷ ([]) ∷ ([]) ∷ []
unfolding colour_behind colour_from counted_from ending_of escape_from escape_of seen_of settled settled_from token_of marks_of
    lines_of_strings virtual_lines numbers_after pair_numbers address_size pairs_from own_bytes pair_place places_in before_word
    scheme_end scheme_start has_scheme has_separator is_in_call is_behind_at is_behind_scheme path_begin is_path is_root word_begin
patterns = refl
