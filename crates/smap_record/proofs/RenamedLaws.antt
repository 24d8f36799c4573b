-- Sources that are renamed one after another.
use Rattle.std.proofs.Common.{◌≡◌, ℕ, List, [], ◌∷◌, ◌++◌, Option, Some, None, length, map, refl, ap, sym, ◌∙◌}
use Rattle.std.specs.Prelude.{option_map, unwrap_or}
use Rattle.smap_record.specs.NamedSources.{map_renamed, source_renamed}
use Rattle.smap_record.specs.Private.Renamed.{text_of_name, text_of_source, with_text, with_text_at, with_texts}
use Rattle.smap_record.specs.MapFile.{Map}
use Rattle.smap_record.specs.Sources.{StatedSource, with_name_at}
use Rattle.smap_resolve.specs.SourceName.{Name}
use Rattle.smap_resolve.specs.SourceName.Name.{resolved, kept}

-- ---- one source further

none_more : (texts : List (Option (List ℕ))) (sources : List StatedSource) → with_texts (texts ++ None ∷ []) sources ≡ with_texts texts sources
none_more [] [] = refl
none_more [] (source ∷ sources) = refl
none_more (text ∷ texts) [] = refl
none_more (text ∷ texts) (source ∷ sources) = ap (λ l. with_text text source ∷ l) (none_more texts sources)

one_more : (texts : List (Option (List ℕ))) (next : List ℕ) (sources : List StatedSource)
    → with_texts (texts ++ Some next ∷ []) sources ≡ with_name_at (with_texts texts sources) (length texts) (kept next)
unfolding with_name_at
one_more [] next [] = refl
one_more [] next (source ∷ sources) = refl
one_more (text ∷ texts) next [] = refl
one_more (text ∷ texts) next (source ∷ sources) = ap (λ l. with_text text source ∷ l) (one_more texts next sources)

pub source_more : (texts : List (Option (List ℕ))) (next : Option (List ℕ)) (sources : List StatedSource)
    → with_texts (texts ++ next ∷ []) sources ≡ with_text_at (with_texts texts sources) (length texts) next
source_more texts None sources = none_more texts sources
source_more texts (Some next) sources = one_more texts next sources

-- ---- all of them

one_named : (text : List ℕ) (source : StatedSource) → source.name ≡ Some (kept text) → (made : Option (List ℕ))
    → with_text made source ≡ record source { name = Some (kept (unwrap_or made text)) }
one_named text source is None = ap (λ name. record source { name = name }) is
one_named text source is (Some path) = refl

-- a way of naming, by which a URL stays and a text may get another in its place
module _ (instead : List ℕ → Option (List ℕ)) (naming : Name → Name) (stays : (url : List ℕ) → naming (resolved url) ≡ resolved url)
    (goes : (text : List ℕ) → naming (kept text) ≡ kept (unwrap_or (instead text) text)) where
  source_named : (source : StatedSource) (name : Option Name) → source.name ≡ name
      → with_text (text_of_name instead name) source ≡ record source { name = option_map naming name }
  source_named source None is = ap (λ name. record source { name = name }) is
  source_named source (Some (resolved other)) is = ap (λ name. record source { name = name }) (is ∙ ap Some (sym (stays other)))
  source_named source (Some (kept text)) is =
      one_named text source is (instead text) ∙ ap (λ name. record source { name = Some name }) (sym (goes text))

  all_named : (sources : List StatedSource) → with_texts (map (text_of_source instead) sources) sources ≡ map (source_renamed naming) sources
  all_named [] = refl
  all_named (source ∷ sources) = λ i. source_named source source.name refl i ∷ all_named sources i

  -- a map whose sources are named so, and nothing else
  pub map_named : (old new : Map) (texts : List (Option (List ℕ))) → texts ≡ map (text_of_source instead) old.stated.sources
      → new.stated.sources ≡ with_texts texts old.stated.sources → new.stated.parts ≡ old.stated.parts → new.stated.names ≡ old.stated.names
      → new.stated.file ≡ old.stated.file → new.k ≡ old.k → new ≡ map_renamed naming old
  map_named old new texts texts_are sources parts names file interval =
      let named = sources ∙ ap (λ texts. with_texts texts old.stated.sources) texts_are ∙ all_named old.stated.sources in
      λ i. record { stated = record { parts = parts i; sources = named i; names = names i; file = file i }; k = interval i }
