-- Worked examples of the URLs of frames that a pattern may have: each holds by computing both sides.
use Rattle.std.proofs.Common.{◌≡◌, ℕ, Bool, true, false, List, codes, map, refl, reverse}
use Rattle.smap_pairs.specs.Before.{has_separator}
use Rattle.smap_pairs.specs.FrameUrl.{begins_again, begins_as_url, has_barred_query, has_blank_in_query, has_function, has_scheme_behind_sign, has_slash_behind_sign, is_function}
use Rattle.smap_pairs.specs.FrameUrl.{is_in_scheme, is_no_sentence, is_one_url}
use Rattle.smap_pairs.specs.Path.{is_path}
use Rattle.smap_pairs.specs.Root.{is_root}
use Rattle.smap_pairs.specs.declared.seen.SeenByte.{SeenByte}

-- a text without escapes
plain : (text : List ℕ) → List SeenByte
plain text = map (λ byte. record { size = 0; byte = byte; counts = byte; is_edge = false }) text

-- what stands before the URL of a frame, and the URL
is_taken : (before url : List ℕ) → Bool
is_taken before url = is_one_url (plain before) (plain url)

-- ---- as what a URL begins

a_scheme : begins_as_url (codes "https://h/app.js") ≡ true
unfolding is_in_scheme
a_scheme = refl

a_scheme_before_one_slash : begins_as_url (codes "file:/srv/app.js") ≡ true
unfolding is_in_scheme
a_scheme_before_one_slash = refl

a_host_is_no_scheme : begins_as_url (codes "ex.com:/srv/app.js") ≡ false
unfolding is_in_scheme
a_host_is_no_scheme = refl

a_drive : begins_as_url (codes "C:\\Program Files\\a\\app.js") ≡ true
a_drive = refl

-- ---- one URL

with_blanks : is_taken (codes "    at f (") (codes "C:\\Program Files\\a\\app.js") ≡ true
unfolding plain is_taken begins_again has_slash_behind_sign has_scheme_behind_sign has_blank_in_query has_function is_in_scheme
with_blanks = refl

with_brackets : is_taken (codes "    at f (") (codes "https://h/app/(shop)/x.min.js") ≡ true
unfolding plain is_taken begins_again has_slash_behind_sign has_scheme_behind_sign has_blank_in_query has_function is_in_scheme
with_brackets = refl

an_open_bracket : is_taken (codes "    at ") (codes "[/srv/app.js") ≡ false
unfolding plain is_taken
an_open_bracket = refl

behind_a_key : is_taken (codes "    at ") (codes "x=/srv/app.js") ≡ false
unfolding plain is_taken is_in_scheme is_path is_root has_separator
behind_a_key = refl

behind_a_second_scheme : is_taken (codes "    at ") (codes "/login failed url=https://h/app.js") ≡ false
unfolding plain is_taken begins_again has_slash_behind_sign has_scheme_behind_sign has_blank_in_query has_function is_in_scheme
behind_a_second_scheme = refl

with_a_url_in_its_query : is_taken (codes "    at ") (codes "/login?url=https://h/app.js") ≡ true
unfolding plain is_taken begins_again has_slash_behind_sign has_scheme_behind_sign has_blank_in_query has_function is_in_scheme
with_a_url_in_its_query = refl

with_a_blank_in_its_query : is_taken (codes "at ") (codes "https://h/app.js?v=1 failed in b.js") ≡ false
unfolding plain is_taken begins_again has_slash_behind_sign has_scheme_behind_sign has_blank_in_query has_function is_in_scheme
with_a_blank_in_its_query = refl

with_a_blank_behind_a_sharp : is_taken (codes "    at ") (codes "C:\\C# Projects\\app.js") ≡ true
unfolding plain is_taken begins_again has_slash_behind_sign has_scheme_behind_sign has_blank_in_query has_function is_in_scheme
with_a_blank_behind_a_sharp = refl

with_a_function : is_taken (codes "at ") (codes "C:\\logs\\x.log<@dist/app.js") ≡ false
unfolding plain is_taken begins_again has_slash_behind_sign has_scheme_behind_sign has_blank_in_query has_function is_in_scheme
with_a_function = refl

a_relative_path : is_taken (codes "f@") (codes "dist/app.js") ≡ true
unfolding plain is_taken is_in_scheme is_path is_root has_separator
a_relative_path = refl

behind_a_function : is_taken (codes "    at ") (codes "N/<@../x/app.js") ≡ false
unfolding plain is_taken is_in_scheme is_path is_root has_separator
behind_a_function = refl

behind_a_mark : is_taken (codes "    at ") (codes "+./app.js") ≡ false
unfolding plain is_taken is_in_scheme is_path is_root has_separator
behind_a_mark = refl

in_a_package : is_taken (codes "    at ") (codes "npm/@me/a@1.0/app.js") ≡ true
unfolding plain is_taken is_in_scheme is_path is_root has_separator
in_a_package = refl

a_sentence : is_taken (codes "    at ") (codes "startup: cannot load https://h/app.js") ≡ false
unfolding plain is_taken is_in_scheme is_path is_root has_separator
a_sentence = refl

a_sentence_behind_a_url : is_taken (codes "me@") (codes "/home: see \"https://h/app.js") ≡ false
unfolding plain is_taken begins_again has_slash_behind_sign has_scheme_behind_sign has_blank_in_query has_function is_in_scheme
a_sentence_behind_a_url = refl

-- ---- for a folder, or for a list without its query

is_own : (url : List ℕ) → Bool
is_own url = is_no_sentence (plain url)

path_with_blanks : is_own (codes "/Applications/My App.app/app.js?v=1&t=[2]") ≡ true
unfolding plain is_own begins_again has_slash_behind_sign has_scheme_behind_sign has_blank_in_query has_function has_barred_query is_in_scheme
path_with_blanks = refl

query_with_a_blank : is_own (codes "https://h/app.js?v=1 failed in b.js") ≡ false
unfolding plain is_own begins_again has_slash_behind_sign has_scheme_behind_sign has_blank_in_query has_function has_barred_query is_in_scheme
query_with_a_blank = refl

query_with_a_quotation_mark : is_own (codes "https://h/app.js#1\",x,\"https://h/b.js") ≡ false
unfolding plain is_own begins_again has_slash_behind_sign has_scheme_behind_sign has_blank_in_query has_function has_barred_query is_in_scheme
query_with_a_quotation_mark = refl

path_behind_a_path : is_own (codes "/srv/app.js failed at /srv/b.js") ≡ false
unfolding plain is_own begins_again has_slash_behind_sign has_scheme_behind_sign has_blank_in_query has_function has_barred_query is_in_scheme
path_behind_a_path = refl

-- ---- no function

in_a_url : is_taken (codes "https://h/npm/a@") (codes "1/app.js") ≡ false
unfolding plain is_taken is_in_scheme is_path is_root has_separator
in_a_url = refl

a_date_is_no_path : is_function (reverse (codes "2024/01/01 f@")) ≡ true
unfolding has_separator
a_date_is_no_path = refl
