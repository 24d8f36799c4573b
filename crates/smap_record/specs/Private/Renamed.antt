-- The new names of sources.
use Rattle.std.specs.Prelude.{ℕ, List, [], ◌∷◌, Option, Some, None}
use Rattle.smap_resolve.specs.Beside.{name_beside}
use Rattle.smap_resolve.specs.ByPath.{name_by_path}
use Rattle.smap_record.specs.declared.named_sources.StandsAt.{StandsAt}
use Rattle.smap_record.specs.declared.named_sources.StandsAt.TheVariants.{Path, Url}
use Rattle.smap_record.specs.Sources.{StatedSource, with_name, with_name_at}
use Rattle.smap_resolve.specs.SourceName.{Name}
use Rattle.smap_resolve.specs.SourceName.Name.{resolved, kept}

-- what another text is called by instead, where the map stands at this place
abbrev pub name_at : StandsAt → (place name : List ℕ) → Option (List ℕ)
name_at Url place name = name_by_path place name
name_at Path place name = name_beside place name

-- the text that a source is called by instead, where there is one
abbrev pub text_of_name : (instead : List ℕ → Option (List ℕ)) → Option Name → Option (List ℕ)
text_of_name instead None = None
text_of_name instead (Some (resolved other)) = None
text_of_name instead (Some (kept text)) = instead text

abbrev pub text_of_source : (instead : List ℕ → Option (List ℕ)) → StatedSource → Option (List ℕ)
text_of_source instead source = text_of_name instead source.name

-- a source that is called by this text, where there is one
abbrev pub with_text : Option (List ℕ) → StatedSource → StatedSource
with_text None source = source
with_text (Some text) source = with_name (kept text) source

-- the sources, each with the text of its number
abbrev pub with_texts : List (Option (List ℕ)) → List StatedSource → List StatedSource
with_texts [] sources = sources
with_texts (text ∷ texts) [] = []
with_texts (text ∷ texts) (source ∷ sources) = with_text text source ∷ with_texts texts sources

-- the sources, of which that of a number has this text, where there is one
abbrev pub with_text_at : List StatedSource → (i : ℕ) → Option (List ℕ) → List StatedSource
with_text_at sources i None = sources
with_text_at sources i (Some text) = with_name_at sources i (kept text)
