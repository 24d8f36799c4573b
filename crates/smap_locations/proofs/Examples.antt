-- Worked examples of the definitions: each holds by computing both sides.
use Rattle.std.proofs.Common.{◌≡◌, true, false, [], ◌∷◌, Some, None, codes, map, refl}
use Rattle.std.specs.Str.{chars, is_utf8}
use lib.Utf8.{encode}
use Rattle.smap_locations.specs.ListLine.{is_rule, pattern_text}
use Rattle.smap_locations.specs.Locations.{LocationsSeen, has_path_as_named, key_for, path_for}
use Rattle.smap_locations.specs.Named.{Named}
use Rattle.smap_locations.specs.Patterns.{has_ending, has_path_in_text, path_by_patterns, pattern_refusal, rest_behind, with_slashes}
use Rattle.smap_locations.specs.declared.refusal.LocationRefusal.TheVariants.{NoFolder, Twice}

-- ---- entries

text_of_pattern : pattern_text (codes "*app.js") ≡ Some (codes "app.js")
text_of_pattern = refl

text_of_all : pattern_text (codes "*") ≡ Some []
text_of_all = refl

no_pattern : pattern_text (codes "a:/*") ≡ None
no_pattern = refl

a_pattern_is_a_rule : is_rule (codes "*app.js") (codes "app.map") ≡ true
a_pattern_is_a_rule = refl

a_file_is_none : is_rule (codes "a:/app.js") (codes "app.map") ≡ false
a_file_is_none = refl

-- ---- the URLs of a file

behind_a_slash : has_ending (codes "app.js") (codes "https://ex.test/js/app.js") ≡ true
behind_a_slash = refl

behind_a_backslash : has_ending (codes "app.js") (codes "C:\\dist\\app.js") ≡ true
behind_a_backslash = refl

the_whole_url : has_ending (codes "app.min.js") (codes "app.min.js") ≡ true
the_whole_url = refl

from_a_slash_on : has_ending (codes "/js/app.js") (codes "https://ex.test/js/app.js") ≡ true
from_a_slash_on = refl

each_url : has_ending [] (codes "https://ex.test/js/app.js") ≡ true
each_url = refl

not_inside_a_name : has_ending (codes "app.js") (codes "https://ex.test/js/xapp.js") ≡ false
not_inside_a_name = refl

not_before_the_end : has_ending (codes "app.js") (codes "https://ex.test/app.js/b.js") ≡ false
not_before_the_end = refl

-- ---- the URLs of a folder

behind_a_folder : rest_behind (codes "app/dist/") (codes "file:///home/app/dist/js/a.js") ≡ Some (codes "js/a.js")
behind_a_folder = refl

behind_the_first : rest_behind (codes "/dist/") (codes "/dist/dist/a.js") ≡ Some (codes "dist/a.js")
behind_the_first = refl

not_inside_a_folders_name : rest_behind (codes "dist/") (codes "/xdist/a.js") ≡ None
not_inside_a_folders_name = refl

behind_backslashes : rest_behind (codes "\\dist\\") (codes "C:\\app\\dist\\util\\x.js") ≡ Some (codes "util\\x.js")
behind_backslashes = refl

as_slashes : with_slashes (codes "\\dist\\") (codes "util\\x.js") ≡ codes "util/x.js"
as_slashes = refl

as_it_is : with_slashes (codes "/dist/") (codes "util\\x.js") ≡ codes "util\\x.js"
as_it_is = refl

-- ---- which decides

patterns : Named
patterns =
    (codes "a.js", codes "short.map") ∷ (codes "js/a.js", codes "long.map") ∷ (codes "/js/v1/", codes "maps/")
    ∷ (codes "/js/v2/b.js", codes "longer.map") ∷ (codes "/js/v2/long/", codes "longest/") ∷ []

the_longer_file : path_by_patterns patterns (codes "/js/a.js") (codes "/js/a.js") ≡ Some (codes "long.map")
unfolding patterns
the_longer_file = refl

the_only_file : path_by_patterns patterns (codes "/a.js") (codes "/a.js") ≡ Some (codes "short.map")
unfolding patterns
the_only_file = refl

none_has_it : path_by_patterns patterns (codes "/ba.js") (codes "/ba.js") ≡ None
unfolding patterns
none_has_it = refl

the_longer_folder : path_by_patterns patterns (codes "/js/v1/a.js") (codes "/js/v1/a.js") ≡ Some (codes "maps/a.js.map")
unfolding patterns is_utf8 chars encode
the_longer_folder = refl

-- the folder decides, and has no file for what leads out of it
out_of_the_folder : path_by_patterns patterns (codes "/js/v1/../a.js") (codes "/js/v1/../a.js") ≡ None
unfolding patterns is_utf8 chars encode
out_of_the_folder = refl

-- of texts that are as long a file's comes before a folder's, and of two files' the first
equals : Named
equals = (codes "/v/", codes "maps/") ∷ (codes ".js", codes "all.map") ∷ (codes "a/b", codes "one.map") ∷ (codes "c?b", codes "two.map") ∷ []

a_file_before_a_folder : path_by_patterns equals (codes "/v/a/b") (codes "/v/a/b") ≡ Some (codes "one.map")
unfolding equals
a_file_before_a_folder = refl

-- ---- after URLs and prefixes

places : LocationsSeen
places = record {
  files = (codes "a:/f?1", codes "f.map") ∷ [];
  folders = (codes "a:/d/", codes "m/") ∷ [];
  patterns = ([], codes "all.map") ∷ (codes "d/f.js", codes "g.map") ∷ (codes "q?2", codes "q.map") ∷ [];
}

a_named_url_first : path_for places (codes "a:/f?1") ≡ Some (codes "f.map")
unfolding places
a_named_url_first = refl

a_prefix_next : path_for places (codes "a:/d/f.js") ≡ Some (codes "m/f.js.map")
unfolding places is_utf8 chars encode
a_prefix_next = refl

a_pattern_last : path_for places (codes "b:/d/f.js?v=3") ≡ Some (codes "g.map")
unfolding places
a_pattern_last = refl

the_pattern_of_all : path_for places (codes "x") ≡ Some (codes "all.map")
unfolding places
the_pattern_of_all = refl

-- maps are remembered under what stands before the query, but where a pattern needs that
key_of_pattern : key_for places (codes "b:/d/f.js?v=3") ≡ codes "b:/d/f.js"
unfolding places
key_of_pattern = refl

key_with_query : key_for places (codes "b:/q?2") ≡ codes "b:/q?2"
unfolding places
key_with_query = refl

path_with_query : path_for places (codes "b:/q?2") ≡ Some (codes "q.map")
unfolding places
path_with_query = refl

-- ---- which have one

-- by a file, also without the query; in a folder; by no pattern; and in no other folder than that of the longest prefix
as_named : map (has_path_as_named places) (codes "a:/f?1" ∷ codes "a:/f?1#2" ∷ codes "a:/d/f.js?v=3" ∷ codes "b:/d/f.js" ∷ codes "a:/d/../f.js" ∷ [])
    ≡ true ∷ false ∷ true ∷ false ∷ false ∷ []
unfolding places is_utf8 chars encode
as_named = refl

-- the longest pattern decides, also where its folder has no file; a `\` stands for `/` behind a text that ends in one
by_patterns : Named
by_patterns = ([], codes "all.map") ∷ (codes "a.js", codes "a.map") ∷ (codes "/dist/", codes "maps/") ∷ (codes "dist\\", codes "maps/") ∷ []

in_a_text : map (λ url. has_path_in_text by_patterns url url)
    (codes "b.js" ∷ codes "x/a.js" ∷ codes "/dist/a.js" ∷ codes "/dist/../a.js" ∷ codes "C:\\dist\\x\\b.js" ∷ codes "C:\\dist\\..\\b.js" ∷ [])
    ≡ false ∷ true ∷ true ∷ false ∷ true ∷ false ∷ []
unfolding by_patterns is_utf8 chars encode
in_a_text = refl

-- ---- what is refused

the_text_twice : pattern_refusal patterns (codes "a.js") (codes "other.map") ≡ Some Twice
unfolding patterns
the_text_twice = refl

no_separator : pattern_refusal patterns (codes "dist") (codes "maps/") ≡ Some NoFolder
unfolding patterns
no_separator = refl

a_separator : pattern_refusal patterns (codes "dist\\") (codes "maps/") ≡ None
unfolding patterns
a_separator = refl
