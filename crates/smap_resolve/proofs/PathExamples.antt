-- Worked examples of the definitions: each holds by computing both sides.
use Rattle.std.proofs.Common.{◌≡◌, ◌∷◌, ◌++◌, Some, None, codes, refl}
use Rattle.std.specs.Prelude.{true, false}
use Rattle.std.specs.Str.{is_utf8, chars}
use lib.Utf8.{encode}
use Rattle.smap_resolve.specs.ByPath.{going_on_from, is_path, name_by_path, name_from_path}
use Rattle.smap_resolve.specs.InnerNames.{text_from}
use Rattle.smap_resolve.specs.SourceName.Name.{kept, resolved}

-- ---- names of the sources of an inner map

-- a relative path goes on from the folder of the outer source
goes_on_from_folder : text_from (Some (kept (codes "build/a.js"))) (codes "../src/a.ts") ≡ codes "src/a.ts"
goes_on_from_folder = refl

stops_at_root : text_from (Some (kept (codes "/build/a.js"))) (codes "../../a.ts") ≡ codes "/a.ts"
stops_at_root = refl

-- from a URL without its scheme, whose host stays
stays_on_host : text_from (Some (kept (codes "//host/a.js"))) (codes "../src/a.ts") ≡ codes "//host/src/a.ts"
stays_on_host = refl

goes_on_behind_host : text_from (Some (kept (codes "//host/js/build/a.js"))) (codes "../src/a.ts") ≡ codes "//host/js/src/a.ts"
goes_on_behind_host = refl

has_no_host : text_from (Some (kept (codes "///a/b.js"))) (codes "../../c.ts") ≡ codes "///c.ts"
has_no_host = refl

has_no_path : text_from (Some (kept (codes "//host"))) (codes "a.ts") ≡ codes "//host/a.ts"
has_no_path = refl

-- ---- names by the path that is a map's URL

-- as node prints them
by_a_folder : going_on_from (codes "/srv/app/dist/util/x.js") (codes "../../src/x.ts") ≡ Some (codes "/srv/app/src/x.ts")
by_a_folder = refl

beside_it : going_on_from (codes "/srv/app/dist/x.js") (codes "./x.ts") ≡ Some (codes "/srv/app/dist/x.ts")
beside_it = refl

no_further_than_the_root : going_on_from (codes "/dist/x.js") (codes "../../../x.ts") ≡ Some (codes "/x.ts")
no_further_than_the_root = refl

by_a_drive : going_on_from (codes "C:/app/dist/x.js") (codes "../src/x.ts") ≡ Some (codes "C:/app/src/x.ts")
by_a_drive = refl

no_further_than_the_drive : going_on_from (codes "C:/dist/x.js") (codes "../../../x.ts") ≡ Some (codes "C:/x.ts")
no_further_than_the_drive = refl

by_backslashes : going_on_from (codes "C:\\app\\dist\\x.js") (codes "../src/x.ts") ≡ Some (codes "C:\\app\\src\\x.ts")
by_backslashes = refl

both_separators : going_on_from (codes "C:\\app\\dist/x.js") (codes "..\\src/x.ts") ≡ Some (codes "C:\\app\\src\\x.ts")
both_separators = refl

no_host_on_a_drive : going_on_from (codes "C:\\\\app\\\\x.js") (codes "../x.ts") ≡ Some (codes "C:\\x.ts")
no_host_on_a_drive = refl

-- a name that is no relative path stays, and so does any at another URL
an_absolute_name : going_on_from (codes "/srv/app/dist/x.js") (codes "/src/x.ts") ≡ None
an_absolute_name = refl

a_name_of_another_drive : going_on_from (codes "C:\\app\\x.js") (codes "D:\\src\\x.ts") ≡ None
a_name_of_another_drive = refl

a_name_from_the_root_of_the_drive : going_on_from (codes "C:\\app\\x.js") (codes "\\src\\x.ts") ≡ None
a_name_from_the_root_of_the_drive = refl

at_no_path : going_on_from (codes "https://a.test/x.js") (codes "../src/x.ts") ≡ None
at_no_path = refl

at_a_file_of_no_folder : going_on_from (codes "x.js") (codes "../src/x.ts") ≡ None
at_a_file_of_no_folder = refl

-- a relative path that leads through a folder goes on from that
at_a_relative_path : going_on_from (codes "dist/x.js") (codes "../src/x.ts") ≡ Some (codes "src/x.ts")
at_a_relative_path = refl

out_of_its_folders : going_on_from (codes "dist/x.js") (codes "../../src/x.ts") ≡ Some (codes "../src/x.ts")
out_of_its_folders = refl

-- the query and the fragment are no part of the path, which is UTF-8
behind_a_query : name_by_path (codes "/a/x.js?v=1/2#3/4") (codes "y.ts") ≡ Some (codes "/a/y.ts")
unfolding is_utf8 chars encode
behind_a_query = refl

no_text : name_by_path (codes "/a" ++ 255 ∷ codes "/x.js") (codes "y.ts") ≡ None
unfolding is_utf8 chars
no_text = refl

a_drive_is_a_path : is_path (codes "c:\\x.js") ≡ true
a_drive_is_a_path = refl

a_folder_is_a_path : is_path (codes "dist/x.js?v") ≡ true
a_folder_is_a_path = refl

a_name_alone_is_none : is_path (codes "x.js?v=a/b") ≡ false
a_name_alone_is_none = refl

a_scheme_is_none : is_path (codes "cc:/x.js") ≡ false
a_scheme_is_none = refl

-- a URL stays
a_url_stays : name_from_path (codes "/a/x.js") (resolved (codes "webpack://app/x.ts")) ≡ resolved (codes "webpack://app/x.ts")
a_url_stays = refl
