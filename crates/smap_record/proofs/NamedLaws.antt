-- Where a source's name is asked for, one of the map's sources has a name.
use Rattle.std.proofs.Common.{◌≡◌, ℕ, ◌+◌, ◌++◌, ◌||◌, ◌⊎◌, inl, inr, List, [], ◌∷◌, Option, Some, None, Bool, true, true≢false, is_some, map}
use Rattle.std.proofs.Common.{option_map, String, string_bytes, Global, refl, sym, ap, subst, ◌∙◌}
use Rattle.std.specs.List.{enumerate_from, list_any}
use Rattle.std.specs.Prelude.{flat_map}
use Rattle.std.proofs.lemmas.Bool.{or_right}
use Rattle.std.proofs.lemmas.Grind.{flat_map-append}
use Rattle.std.proofs.lemmas.List.{map-append}
use Rattle.std.proofs.lemmas.List.Concat.{flat_map-cons}
use Rattle.std.proofs.lemmas.List.Folds.{list_any-append}
use Rattle.url.specs.Parts.{Parts}
use Rattle.smap_record.specs.Private.Seen.{sources_seen, texts_seen}
use Rattle.smap_record.specs.Sources.{StatedSource, StatedSources, source_at, sources_with, sources_stated, NamesASource}
use Rattle.smap_record.specs.declared.section.SectionSources.{SectionSources}

abbrev is_named : StatedSource → Bool
is_named source = is_some source.name

-- a source whose text is there has a name
pub named_at : (base : Option Parts) (stated : StatedSources) (n : ℕ) (before : List (Option (List ℕ))) (text : Option (List ℕ)) (rest : List (Option (List ℕ)))
    → is_some text ≡ true → NamesASource (map (λ at. source_at base stated at.0 at.1) (enumerate_from n (before ++ text ∷ rest)))
named_at base stated n [] None rest is = absurd (true≢false (sym is))
named_at base stated n [] (Some text) rest is = refl
named_at base stated n (other ∷ before) text rest is = or_right _ _ (named_at base stated (n + 1) before text rest is)

-- where a section names a source, the map does
pub named_in : {A : Type 0} (sources_of : A → List StatedSource) (before : List A) (section : A) (rest : List A)
    → NamesASource (sources_of section) → NamesASource (flat_map sources_of (before ++ section ∷ rest))
named_in sources_of before section rest is =
    let here = sources_of section in
    let later = flat_map sources_of rest in
    ap (list_any is_named) (flat_map-append sources_of before (section ∷ rest)
    ∙ ap (λ list. flat_map sources_of before ++ list) (flat_map-cons sources_of section rest))
    ∙ list_any-append is_named (flat_map sources_of before) (here ++ later)
    ∙ or_right _ _ (list_any-append is_named here later ∙ ap (λ some. some || list_any is_named later) is)

-- the second of two cases is another
pub or_then : {A B C : Type 0} → (B → C) → A ⊎ B → A ⊎ C
or_then next (inl a) = inl a
or_then next (inr b) = inr (next b)

text_named : (text : Option (String Global)) → is_some text ≡ true → is_some (option_map string_bytes text) ≡ true
text_named None is = absurd (true≢false (sym is))
text_named (Some text) is = refl

-- where one of a section's texts is there, the section names a source
pub section_named : (base : Option Parts) (section : SectionSources) (before : List (Option (String Global)))
    (text : Option (String Global)) (rest : List (Option (String Global)))
    → before ++ text ∷ rest ≡ section.texts.items → is_some text ≡ true → NamesASource (sources_stated base (sources_seen section))
section_named base section before text rest are is =
    subst (λ texts. NamesASource (sources_with base (sources_seen section) (texts_seen texts))) are
    (subst (λ texts. NamesASource (sources_with base (sources_seen section) texts)) (sym (map-append (option_map string_bytes) before (text ∷ rest)))
    (named_at base (sources_seen section) 0 (texts_seen before) (option_map string_bytes text) (texts_seen rest) (text_named text is)))

-- where one of the sections names a source, all together do
pub map_named : (base : Option Parts) (sections before : List SectionSources) (section : SectionSources) (rest : List SectionSources)
    → before ++ section ∷ rest ≡ sections → NamesASource (sources_stated base (sources_seen section))
    → NamesASource (flat_map (sources_stated base) (map sources_seen sections))
map_named base sections before section rest are named =
    subst (λ list. NamesASource (flat_map (sources_stated base) (map sources_seen list))) are
    (subst (λ list. NamesASource (flat_map (sources_stated base) list)) (sym (map-append sources_seen before (section ∷ rest)))
    (named_in (sources_stated base) (map sources_seen before) (sources_seen section) (map sources_seen rest) named))
