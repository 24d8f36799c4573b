-- Worked examples of what stands behind a name: each holds by computing both sides.
use Rattle.std.proofs.Common.{◌≡◌, ℕ, true, false, List, [], ◌∷◌, ◌++◌, codes, map, refl}
use Rattle.std.specs.Str.{chars, is_utf8}
use lib.Utf8.{encode}
use Rattle.smap_pairs.specs.Behind.{fits, is_in_folder, queries_of}
use Rattle.smap_pairs.specs.Brackets.{has_paired_brackets}
use Rattle.smap_pairs.specs.FilePaths.{is_file_path}
use Rattle.smap_pairs.specs.declared.seen.SeenByte.{SeenByte}

-- a text without escapes
plain : (text : List ℕ) → List SeenByte
plain text = map (λ byte. record { size = 0; byte = byte; counts = byte; is_edge = false }) text

-- an escape of six bytes, as `\u0020`, and what it means
escape : (text : List ℕ) → (means : ℕ) → List SeenByte
escape [] means = []
escape (byte ∷ []) means = record { size = 6; byte = byte; counts = means; is_edge = false } ∷ []
escape (byte ∷ text) means = record { size = 0; byte = byte; counts = 255; is_edge = false } ∷ escape text means

-- ---- brackets

each_by_its_kind : has_paired_brackets (codes "/app/(shop)/[id].js?{([)]}") ≡ true
each_by_its_kind = refl

left_open : has_paired_brackets (codes "at f (/srv/x.js") ≡ false
left_open = refl

closed_before_it_is_open : has_paired_brackets (codes "x)(") ≡ false
closed_before_it_is_open = refl

-- ---- what fits

in_pairs : fits (plain (codes "posts/[id].js?v=a,b")) ≡ true
unfolding plain
in_pairs = refl

not_in_pairs : fits (plain (codes "app.js (2")) ≡ false
unfolding plain
not_in_pairs = refl

a_blank : fits (plain (codes "My App/x.js")) ≡ false
unfolding plain
a_blank = refl

an_escape_of_a_blank : fits (plain (codes "a.js?") ++ escape (codes "\\u0020") 32) ≡ false
unfolding plain escape
an_escape_of_a_blank = refl

an_escape_in_a_query : fits (plain (codes "a.js?v=1") ++ escape (codes "\\u0026") 38 ++ plain (codes "t=2")) ≡ true
unfolding plain escape
an_escape_in_a_query = refl

an_escape_in_a_path : fits (plain (codes "a") ++ escape (codes "\\u0026") 38 ++ plain (codes "/b.js")) ≡ false
unfolding plain escape
an_escape_in_a_path = refl

a_backslash_in_a_path : fits (plain (codes "dist\\x.js?v=1")) ≡ false
unfolding plain
a_backslash_in_a_path = refl

a_backslash_in_a_query : fits (plain (codes "x.js?v=\\d")) ≡ true
unfolding plain
a_backslash_in_a_query = refl

-- ---- the path of a file

of_a_file : is_file_path (codes "posts/[id].js") ≡ true
unfolding is_utf8 chars encode
of_a_file = refl

of_letters : is_file_path (codes "caf" ++ 195 ∷ 169 ∷ codes ".js") ≡ true
unfolding is_utf8 chars encode
of_letters = refl

of_no_character : is_file_path (codes "a/" ++ 195 ∷ codes ".js") ≡ false
unfolding is_utf8 chars encode
of_no_character = refl

nowhere_above : is_file_path (codes "../x.js") ≡ false
unfolding is_utf8 chars encode
nowhere_above = refl

of_an_empty_piece : is_file_path (codes "a//x.js") ≡ false
unfolding is_utf8 chars encode
of_an_empty_piece = refl

of_nothing : is_file_path [] ≡ false
of_nothing = refl

on_a_drive : is_file_path (codes "C:x.js") ≡ false
unfolding is_utf8 chars encode
on_a_drive = refl

-- ---- before a pair

behind_a_prefix : is_in_folder (plain (codes "see /srv/a/x.js?u=/b")) 0 9 ≡ true
unfolding plain is_utf8 chars encode
behind_a_prefix = refl

not_behind_a_slash : is_in_folder (plain (codes "see /srv/a/x.js?u=/b")) 0 10 ≡ false
unfolding plain
not_behind_a_slash = refl

before_its_piece : is_in_folder (plain (codes "x:1:2/srv/a/x.js")) 7 6 ≡ false
unfolding plain is_utf8 chars encode
before_its_piece = refl

a_blank_behind_it : is_in_folder (plain (codes "/srv/a b.js")) 0 5 ≡ false
unfolding plain is_utf8 chars encode
a_blank_behind_it = refl

each_query : queries_of (plain (codes "a b?c=1#d?")) 0 ≡ 9 ∷ 7 ∷ 3 ∷ []
unfolding plain
each_query = refl

none_before_a_blank : queries_of (plain (codes "a?b c#d")) 0 ≡ 5 ∷ []
unfolding plain
none_before_a_blank = refl

none_before_the_piece : queries_of (plain (codes "a?b#d")) 2 ≡ 3 ∷ []
unfolding plain
none_before_the_piece = refl
