-- The name of a source (ECMA-426, Resolving sources; URL Standard, 4.4, URL parsing): a URL, or a text that is kept.
use Rattle.std.specs.Prelude.{ℕ, nat_eq, List, [], ◌++◌, codes, Option, None, Some, Ok, Err, string_bytes, if◌then◌else◌}
use Rattle.std.specs.List.{ends_with}
use Rattle.url.specs.Input.{is_empty}
use Rattle.url.specs.Parser.{Parsed, parse_url}
use Rattle.url.specs.Parts.{Parts, serialize}
use Rattle.smap_resolve.specs.declared.source_name.SourceName.{SourceName}
use Rattle.smap_resolve.specs.declared.source_name.SourceName.TheVariants.{Resolved, Kept}

-- a name as contracts compare it: by the bytes of its text, and by whether it is a URL
pub data Name : Type 0 where
  resolved : List ℕ → Name
  kept : List ℕ → Name

-- what a `SourceName` is
abbrev pub name_of : SourceName → Name
name_of (Resolved url) = resolved (string_bytes url)
name_of (Kept text) = kept (string_bytes text)

-- the text of a name
abbrev pub name_text : Name → List ℕ
name_text (resolved url) = url
name_text (kept text) = text

-- what a `sourceRoot` puts before each source of its map: nothing where it is absent or empty, itself where it ends in
-- `/`, and else itself and `/` (own: ECMA-426 makes another prefix of it)
abbrev pub root_prefix : Option (List ℕ) → List ℕ
root_prefix None = []
root_prefix (Some root) =
    if is_empty root then []
    else (if ends_with nat_eq root (codes "/") then root else root ++ codes "/")

-- the URL that the parser gave, by its text; where it failed, the text that it was given (own)
abbrev pub name_from : Parsed Parts → List ℕ → Name
name_from (Ok url) text = resolved (serialize url)
name_from (Err error) text = kept text

-- the name of a source with this text, in a map with this `sourceRoot` that stands at this URL
unfoldable pub source_name : (root : Option (List ℕ)) (text : List ℕ) (base : Option Parts) → Name
source_name root text base =
    let prefixed = root_prefix root ++ text in name_from (parse_url base prefixed) prefixed
