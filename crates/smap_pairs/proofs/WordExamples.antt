-- Worked examples of the URL that a pattern may have before a pair: each holds by computing both sides.
use Rattle.std.specs.Prelude.{◌≡◌, ℕ, ◌+◌, List, [], ◌∷◌, ◌++◌, codes, drop, length, map, refl}
use Rattle.smap_pairs.specs.Absolute.{is_behind_scheme}
use Rattle.smap_pairs.specs.Before.{has_scheme, has_separator, is_behind_at, is_in_call}
use Rattle.smap_pairs.specs.Colours.{colour_behind, colour_from}
use Rattle.smap_pairs.specs.Escapes.{ending_of, escape_from, escape_of}
use Rattle.smap_pairs.specs.Path.{is_path}
use Rattle.smap_pairs.specs.PathStart.{path_begin}
use Rattle.smap_pairs.specs.Root.{is_root}
use Rattle.smap_pairs.specs.Seen.{counted_from, seen_of, settled, settled_from, token_of}
use Rattle.smap_pairs.specs.Word.{before_word, scheme_end, scheme_start, word_begin}

-- the URL before the pair behind a text, where its virtual line and its piece begin at these bytes
abbrev url_in : (virtual_start piece : ℕ) → (text : List ℕ) → List ℕ
url_in virtual_start piece text =
    drop (word_begin (seen_of (text ++ codes ":1:2")) virtual_start
    (record { start = length text; end = length text + 4; piece = piece; line = 1; column = 2 })) text

abbrev url : List ℕ → List ℕ
url text = url_in 0 0 text

-- a word, up to a blank, a bracket or another sign
words : map url (
    codes "at app.js" ∷ codes "(app.js" ∷ codes "level=error caller=app.js" ∷ codes "7,app.js" ∷ codes "0|app.js"
    ∷ codes "a`app.js" ∷ [])
    ≡ codes "app.js" ∷ codes "app.js" ∷ codes "app.js" ∷ codes "app.js" ∷ codes "app.js" ∷ codes "app.js" ∷ []
unfolding colour_behind colour_from counted_from ending_of escape_from escape_of seen_of settled settled_from token_of
    before_word scheme_end scheme_start has_scheme has_separator is_in_call is_behind_at is_behind_scheme path_begin is_path is_root word_begin
words = refl

-- from the scheme on, which begins with a letter; of two the last
schemes : map url (
    codes "f@https://h/app.js" ∷ codes "git+ssh://h/app.js" ∷ codes "1.https://h/app.js"
    ∷ codes "http://h/?u=ws://two/app.js" ∷ codes "_https://h/app.js" ∷ [])
    ≡ codes "https://h/app.js" ∷ codes "git+ssh://h/app.js" ∷ codes "https://h/app.js" ∷ codes "ws://two/app.js"
    ∷ codes "https://h/app.js" ∷ []
unfolding colour_behind colour_from counted_from ending_of escape_from escape_of seen_of settled settled_from token_of
    before_word scheme_end scheme_start has_scheme has_separator is_in_call is_behind_at is_behind_scheme path_begin is_path is_root word_begin
schemes = refl

-- `://` without a scheme before it
no_scheme : map url (
    codes "://h/app.js" ∷ codes "12://h/app.js" ∷ [])
    ≡ [] ∷ [] ∷ []
unfolding colour_behind colour_from counted_from ending_of escape_from escape_of seen_of settled settled_from token_of
    before_word scheme_end scheme_start has_scheme has_separator is_in_call is_behind_at is_behind_scheme path_begin is_path is_root word_begin
no_scheme = refl

-- behind the last edge before the first `/`
edges : map url (
    codes "caller=/srv/app.js" ∷ codes "f@g@app.js" ∷ codes "a=b=dist/app.js" ∷ codes "/srv/@me/app.js"
    ∷ codes "**/srv/app.js" ∷ [])
    ≡ codes "/srv/app.js" ∷ codes "app.js" ∷ codes "dist/app.js" ∷ codes "/srv/@me/app.js" ∷ codes "/srv/app.js" ∷ []
unfolding colour_behind colour_from counted_from ending_of escape_from escape_of seen_of settled settled_from token_of
    before_word scheme_end scheme_start has_scheme has_separator is_in_call is_behind_at is_behind_scheme path_begin is_path is_root word_begin
edges = refl

-- or behind the last `:` before a `/`, but that of a drive or of `file:`
colons : map url (
    codes "ERROR:/srv/app.js" ∷ codes "app.log:12:/srv/app.js" ∷ codes "f():/srv/app.js" ∷ codes "C:/srv/app.js"
    ∷ codes "file:/srv/app.js" ∷ codes "profile:/srv/app.js" ∷ [])
    ≡ codes "/srv/app.js" ∷ codes "/srv/app.js" ∷ codes "/srv/app.js" ∷ codes "C:/srv/app.js" ∷ codes "file:/srv/app.js"
    ∷ codes "/srv/app.js" ∷ []
unfolding colour_behind colour_from counted_from ending_of escape_from escape_of seen_of settled settled_from token_of
    before_word scheme_end scheme_start has_scheme has_separator is_in_call is_behind_at is_behind_scheme path_begin is_path is_root word_begin
colons = refl

-- in both before the first `?`
queries : map url (
    codes "app.js?a=b&c=d" ∷ codes "a=app.js?u=/x" ∷ codes "/srv/app.js?u=:/x" ∷ [])
    ≡ codes "app.js?a=b&c=d" ∷ codes "app.js?u=/x" ∷ codes "/srv/app.js?u=:/x" ∷ []
unfolding colour_behind colour_from counted_from ending_of escape_from escape_of seen_of settled settled_from token_of
    before_word scheme_end scheme_start has_scheme has_separator is_in_call is_behind_at is_behind_scheme path_begin is_path is_root word_begin
queries = refl

-- an escape ends a word or is in it, as what it means does or is
escapes : map url (
    codes "bad\\n/srv/app.js" ∷ codes "\\x22https://h/app.js" ∷ codes "x\\x5Cnhttps://h/app.js" ∷ codes "x#012/srv/app.js"
    ∷ codes "https://h/app.js?v=1\\u0026t=2" ∷ codes "x\\u003c/srv/app.js" ∷ [])
    ≡ codes "/srv/app.js" ∷ codes "https://h/app.js" ∷ codes "https://h/app.js" ∷ codes "/srv/app.js"
    ∷ codes "https://h/app.js?v=1\\u0026t=2" ∷ codes "/srv/app.js" ∷ []
unfolding colour_behind colour_from counted_from ending_of escape_from escape_of seen_of settled settled_from token_of
    before_word scheme_end scheme_start has_scheme has_separator is_in_call is_behind_at is_behind_scheme path_begin is_path is_root word_begin
escapes = refl

-- no edge is behind an escape of a letter, and no byte of an escape is of a scheme
letters : map url (
    codes "/home/Andr\\u00e9/app.js" ∷ codes "\\u201cwebpack-internal:///app.js" ∷ codes "\\u0041https://h/app.js" ∷ [])
    ≡ codes "/home/Andr\\u00e9/app.js" ∷ codes "webpack-internal:///app.js" ∷ codes "https://h/app.js" ∷ []
unfolding colour_behind colour_from counted_from ending_of escape_from escape_of seen_of settled settled_from token_of
    before_word scheme_end scheme_start has_scheme has_separator is_in_call is_behind_at is_behind_scheme path_begin is_path is_root word_begin
letters = refl

-- a colour ends a word, and cuts a path where it does not begin at an edge
colours : map url (
    (27 ∷ codes "[36mhttps://h/app.js") ∷ (codes "x " ++ (27 ∷ codes "[90m/srv/app.js")) ∷ codes "\\u001b[24m/dist/x.js"
    ∷ (codes "/srv/" ++ (27 ∷ (codes "[4mpkg" ++ (27 ∷ codes "[24m/app.js"))))
    ∷ (codes "https://h/" ++ (27 ∷ (codes "[4mpkg" ++ (27 ∷ codes "[24m/app.js")))) ∷ [])
    ≡ codes "https://h/app.js" ∷ codes "/srv/app.js" ∷ codes "/dist/x.js" ∷ [] ∷ [] ∷ []
unfolding colour_behind colour_from counted_from ending_of escape_from escape_of seen_of settled settled_from token_of
    before_word scheme_end scheme_start has_scheme has_separator is_in_call is_behind_at is_behind_scheme path_begin is_path is_root word_begin
colours = refl

-- behind a backslash of no escape there is no URL
backslashes : map url (
    codes "src\\routes\\app.js" ∷ codes "C:\\new\\app.js" ∷ codes "https:\\/\\/h\\/app.js"
    ∷ codes "C:\\x5Cdist\\x5Capp.js" ∷ [])
    ≡ [] ∷ [] ∷ [] ∷ [] ∷ []
unfolding colour_behind colour_from counted_from ending_of escape_from escape_of seen_of settled settled_from token_of
    before_word scheme_end scheme_start has_scheme has_separator is_in_call is_behind_at is_behind_scheme path_begin is_path is_root word_begin
backslashes = refl

-- nor is there one behind a scheme that nothing ends, and an apostrophe in a word does not
others : map url (
    codes "https://h/a,b/app.js" ∷ codes "webpack-internal:///(rsc)/./app.js" ∷ codes "http://[fd00::5]:3000/app.js"
    ∷ codes "https://h/x /srv/app.js" ∷ codes "/srv/it's/app.js" ∷ [])
    ≡ [] ∷ [] ∷ [] ∷ codes "/srv/app.js" ∷ codes "/srv/it's/app.js" ∷ []
unfolding colour_behind colour_from counted_from ending_of escape_from escape_of seen_of settled settled_from token_of
    before_word scheme_end scheme_start has_scheme has_separator is_in_call is_behind_at is_behind_scheme path_begin is_path is_root word_begin
others = refl

-- paths: a drive, `file:` or a host and its port may begin one, or a name, `.`, `..` or `~`
paths : map url (
    codes "see localhost:8080/app.js" ∷ codes "10.0.2.2:8081/dist/app.js" ∷ codes "../app.js" ∷ codes "~/app.js"
    ∷ codes "_next/app.js" ∷ codes "@me/app.js" ∷ (codes "gr" ++ (195 ∷ (182 ∷ (195 ∷ (159 ∷ codes "e/app.js"))))) ∷ [])
    ≡ codes "localhost:8080/app.js" ∷ codes "10.0.2.2:8081/dist/app.js" ∷ codes "../app.js" ∷ codes "~/app.js"
    ∷ codes "_next/app.js" ∷ codes "me/app.js" ∷ (codes "gr" ++ (195 ∷ (182 ∷ (195 ∷ (159 ∷ codes "e/app.js"))))) ∷ []
unfolding colour_behind colour_from counted_from ending_of escape_from escape_of seen_of settled settled_from token_of
    before_word scheme_end scheme_start has_scheme has_separator is_in_call is_behind_at is_behind_scheme path_begin is_path is_root word_begin
paths = refl

-- a file and a line, a sign of a difference or a list, a quotation mark beyond ASCII, a script without blanks
no_paths : map url (
    codes "app.log:12:dist/app.js" ∷ codes "+/srv/app.js" ∷ codes "__/srv/app.js"
    ∷ (226 ∷ (128 ∷ (156 ∷ codes "/srv/app.js"))) ∷ (229 ∷ (138 ∷ (160 ∷ (232 ∷ (189 ∷ (189 ∷ codes "/srv/app.js"))))))
    ∷ codes "/C:/srv/app.js" ∷ codes "/login=/srv/app.js" ∷ [])
    ≡ [] ∷ [] ∷ [] ∷ [] ∷ [] ∷ [] ∷ [] ∷ []
unfolding colour_behind colour_from counted_from ending_of escape_from escape_of seen_of settled settled_from token_of
    before_word scheme_end scheme_start has_scheme has_separator is_in_call is_behind_at is_behind_scheme path_begin is_path is_root word_begin
no_paths = refl

-- a drive behind such a quotation mark, and dots alone begin one
more_paths : map url (
    (226 ∷ (128 ∷ (156 ∷ codes "C:/srv/app.js"))) ∷ codes "\\u201cfile:/srv/app.js" ∷ codes ".../dist/app.js" ∷ codes "..a/app.js" ∷ [])
    ≡ codes "C:/srv/app.js" ∷ codes "file:/srv/app.js" ∷ codes ".../dist/app.js" ∷ codes "..a/app.js" ∷ []
unfolding colour_behind colour_from counted_from ending_of escape_from escape_of seen_of settled settled_from token_of
    before_word scheme_end scheme_start has_scheme has_separator is_in_call is_behind_at is_behind_scheme path_begin is_path is_root word_begin
more_paths = refl

-- a sign of a list or a difference does not, and behind a sign no other path begins in one
no_more_paths : map url (
    codes "+./app.js" ∷ codes "~./app.js" ∷ codes "-../app.js" ∷ codes "+dist/app.js" ∷ codes "a/b=../app.js" ∷ codes "a/b@~/app.js" ∷ [])
    ≡ [] ∷ [] ∷ [] ∷ [] ∷ [] ∷ [] ∷ []
unfolding colour_behind colour_from counted_from ending_of escape_from escape_of seen_of settled settled_from token_of
    before_word scheme_end scheme_start has_scheme has_separator is_in_call is_behind_at is_behind_scheme path_begin is_path is_root word_begin
no_more_paths = refl

-- the end of a path with blanks, and what is none: a date stands before it, or it begins at a root
blanks : map url (
    codes "/Applications/My App.app/app.js" ∷ codes "dist/a b/app.js" ∷ codes "/login failed at dist/app.js"
    ∷ codes "failed at dist/app.js" ∷ codes "2024/01/01 app.js" ∷ codes "/login failed at ./app.js"
    ∷ codes "/login failed, /srv/app.js" ∷ [])
    ≡ [] ∷ [] ∷ [] ∷ codes "dist/app.js" ∷ codes "app.js" ∷ codes "./app.js" ∷ codes "/srv/app.js" ∷ []
unfolding colour_behind colour_from counted_from ending_of escape_from escape_of seen_of settled settled_from token_of
    before_word scheme_end scheme_start has_scheme has_separator is_in_call is_behind_at is_behind_scheme path_begin is_path is_root word_begin
blanks = refl

-- the end of a path with a comma or a bracket
signs : map url (
    codes "/a,b/app.js" ∷ codes "GET,/login,dist/app.js" ∷ codes "GET,/login,/srv/app.js"
    ∷ codes "at f (/srv/app/(shop)/x.js" ∷ codes "f()/srv/app.js" ∷ codes "[INFO]/srv/app.js" ∷ [])
    ≡ [] ∷ [] ∷ codes "/srv/app.js" ∷ [] ∷ codes "/srv/app.js" ∷ codes "/srv/app.js" ∷ []
unfolding colour_behind colour_from counted_from ending_of escape_from escape_of seen_of settled settled_from token_of
    before_word scheme_end scheme_start has_scheme has_separator is_in_call is_behind_at is_behind_scheme path_begin is_path is_root word_begin
signs = refl

-- behind a blank in a bracket that is open, but right behind `at`
calls : map url (
    codes "(in app.js" ∷ codes "(address at app.js" ∷ codes "(at  app.js" ∷ codes "(format app.js" ∷ codes "f (x) app.js"
    ∷ codes "(Error: bad /srv/app.js" ∷ [])
    ≡ [] ∷ codes "app.js" ∷ codes "app.js" ∷ [] ∷ codes "app.js" ∷ codes "/srv/app.js" ∷ []
unfolding colour_behind colour_from counted_from ending_of escape_from escape_of seen_of settled settled_from token_of
    before_word scheme_end scheme_start has_scheme has_separator is_in_call is_behind_at is_behind_scheme path_begin is_path is_root word_begin
calls = refl

-- nor in an evaluated text, where a function alone stands before the last bracket
evaluated : map url (
    codes "eval (eval at f (dist/app.js" ∷ codes "(eval at new A.<computed> [as b] (app.js" ∷ codes "(eval at f (My App/app.js"
    ∷ codes "(eval at f (x) (app.js" ∷ codes "(in f (app.js" ∷ [])
    ≡ codes "dist/app.js" ∷ codes "app.js" ∷ [] ∷ [] ∷ [] ∷ []
unfolding colour_behind colour_from counted_from ending_of escape_from escape_of seen_of settled settled_from token_of
    before_word scheme_end scheme_start has_scheme has_separator is_in_call is_behind_at is_behind_scheme path_begin is_path is_root word_begin
evaluated = refl

-- a function of Firefox without a name begins no path
functions : map url (
    codes "N/<@app.js" ∷ codes "N/</<@dist/app.js" ∷ codes "N/\\u003c@app.js" ∷ codes "N/f@app.js" ∷ codes "https://h/<@app.js" ∷ [])
    ≡ codes "app.js" ∷ codes "dist/app.js" ∷ codes "app.js" ∷ codes "N/f@app.js" ∷ [] ∷ []
unfolding colour_behind colour_from counted_from ending_of escape_from escape_of seen_of settled settled_from token_of
    before_word scheme_end scheme_start has_scheme has_separator is_in_call is_behind_at is_behind_scheme path_begin is_path is_root word_begin
functions = refl

-- what stands before the virtual line or the piece tells nothing; behind the pair before, no URL begins
within_lines : url_in 10 0 (codes "\"/srv/a\",\"b c.js") ∷ url_in 0 10 (codes "/srv/a:1:2 b c.js") ∷ url_in 4 0 (codes "(a \"b c.js") ∷ url_in 0 5 (codes "x:1:2/app.js") ∷ []
    ≡ codes "c.js" ∷ codes "c.js" ∷ codes "c.js" ∷ [] ∷ []
unfolding colour_behind colour_from counted_from ending_of escape_from escape_of seen_of settled settled_from token_of
    before_word scheme_end scheme_start has_scheme has_separator is_in_call is_behind_at is_behind_scheme path_begin is_path is_root word_begin
within_lines = refl
