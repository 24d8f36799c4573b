-- Names of sources, worked out.
use Rattle.std.proofs.Common.{◌≡◌, ℕ, List, Option, Some, None, codes, refl}
use Rattle.std.specs.Result.{result_ok}
use Rattle.url.specs.Parser.{parse_url}
use Rattle.url.specs.Parts.{Parts}
use Rattle.url.proofs.OnLiterals.{url_on_literals}
use Rattle.smap_resolve.specs.SourceName.{resolved, kept, source_name}

-- the URL with this text
abbrev url_of : List ℕ → Option Parts
url_of text = result_ok (parse_url None text)

-- the script that a map stands beside
abbrev script : Option Parts
script = url_of (codes "https://ex.test/js/app.js")

root_is_joined : source_name (Some (codes "src")) (codes "a.ts") script
    ≡ resolved (codes "https://ex.test/js/src/a.ts")
unfolding source_name url_on_literals
root_is_joined = refl

text_is_kept : source_name (Some (codes "src")) (codes "a.ts") None ≡ kept (codes "src/a.ts")
unfolding source_name url_on_literals
text_is_kept = refl

path_is_normalized : source_name None (codes "webpack:///./src/a.ts") None
    ≡ resolved (codes "webpack:///src/a.ts")
unfolding source_name url_on_literals
path_is_normalized = refl

root_is_a_url : source_name (Some (codes "https://cdn.test/s")) (codes "a.ts") None
    ≡ resolved (codes "https://cdn.test/s/a.ts")
unfolding source_name url_on_literals
root_is_a_url = refl

root_keeps_its_slash : source_name (Some (codes "https://cdn.test/s/")) (codes "a.ts") None
    ≡ resolved (codes "https://cdn.test/s/a.ts")
unfolding source_name url_on_literals
root_keeps_its_slash = refl

root_precedes_a_url : source_name (Some (codes "src")) (codes "https://ex.test/a.ts") None
    ≡ kept (codes "src/https://ex.test/a.ts")
unfolding source_name url_on_literals
root_precedes_a_url = refl

empty_root_is_none : source_name (Some (codes "")) (codes "a.ts") None ≡ kept (codes "a.ts")
unfolding source_name url_on_literals
empty_root_is_none = refl

url_needs_no_base : source_name None (codes "file:///C:/a.ts") script
    ≡ resolved (codes "file:///C:/a.ts")
unfolding source_name url_on_literals
url_needs_no_base = refl

opaque_base : source_name None (codes "a.ts") (url_of (codes "data:text/plain,x")) ≡ kept (codes "a.ts")
unfolding source_name url_on_literals
opaque_base = refl
