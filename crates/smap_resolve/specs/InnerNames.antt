-- What the sources of an inner map are called in a composed map (this project's own): where the outer source's name is no
-- URL, a name that is a relative path goes on from the folder of the outer source.
use Rattle.std.specs.Prelude.{◌&&◌, ℕ, List, Option, Some, None, not, if◌then◌else◌}
use Rattle.smap_resolve.specs.Paths.{has_scheme, is_relative, path_from}
use Rattle.smap_resolve.specs.SourceName.{Name}
use Rattle.smap_resolve.specs.SourceName.Name.{resolved, kept}

-- what a text is called that an inner map keeps, by the name of the outer source
abbrev pub text_from : Option Name → (text : List ℕ) → List ℕ
text_from None text = text
text_from (Some (resolved url)) text = text
text_from (Some (kept file)) text = if is_relative text && not (has_scheme file) then path_from file text else text

-- what a source of the inner map is called; a URL stays
abbrev pub name_from_outer : Option Name → Name → Name
name_from_outer outer (resolved url) = resolved url
name_from_outer outer (kept text) = kept (text_from outer text)
