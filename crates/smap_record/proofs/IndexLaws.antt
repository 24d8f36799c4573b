-- The indices of the ignored sources.
use Rattle.std.proofs.Common.{◌≡◌, ℕ, ◌+◌, ◌<◌, ◌≤◌, List, [], ◌∷◌, ◌++◌, length, take, map, filter, get_or, Bool, true, false, if◌then◌else◌, Some}
use Rattle.std.proofs.Common.{None, Vec, Global, refl, sym, ap, ◌∙◌, arith}
use Rattle.std.specs.List.{enumerate_from, list_any}
use Rattle.std.proofs.lemmas.List.{append-nil, map-append, take_more, take_all, length-map, length-take-le}
use Rattle.std.proofs.lemmas.List.Elements.{filter-append}
use Rattle.std.proofs.lemmas.Bool.{or_parts}
use Rattle.serde_json.specs.Data.{Data, number, unsigned}
use Rattle.serde_json.specs.View.{view}
use Rattle.serde_json.specs.declared.value.Value.{Value, Array}
use Rattle.smap_record.specs.Sources.{StatedSource, source_of}
use Rattle.smap_record.specs.Written.{ignored_indices, ignored_value, is_ignored_source, list_value}
use Rattle.smap_record.specs.declared.entry.SourceEntry.{SourceEntry}
use Rattle.smap_record.proofs.EntryLaws.{enumerate_push}
use Rattle.smap_record.proofs.ValueLaws.{array_of}

-- the indices of the ignored ones among these sources, which stand after this many
abbrev pub indices_from : ℕ → List StatedSource → List ℕ
indices_from n sources = map (λ at. at.0) (filter (λ at. is_ignored_source at.1) (enumerate_from n sources))

one_index : (n : ℕ) (source : StatedSource) (ignored : Bool) → is_ignored_source source ≡ ignored
    → map (λ (at : ℕ × StatedSource). at.0) (filter (λ at. is_ignored_source at.1) ((n, source) ∷ [])) ≡ (if ignored then n ∷ [] else [])
one_index n source true is = rw is
one_index n source false is = rw is

-- one source more
pub indices_push : (sources : List StatedSource) (source : StatedSource)
    → ignored_indices (sources ++ source ∷ []) ≡ ignored_indices sources ++ (if is_ignored_source source then length sources ∷ [] else [])
indices_push sources source =
    ap (λ all. map (λ (at : ℕ × StatedSource). at.0) (filter (λ at. is_ignored_source at.1) all)) (enumerate_push 0 sources source)
    ∙ ap (map (λ (at : ℕ × StatedSource). at.0)) (filter-append (λ at. is_ignored_source at.1) (enumerate_from 0 sources) ((length sources + 0, source) ∷ []))
    ∙ map-append (λ (at : ℕ × StatedSource). at.0) (filter (λ at. is_ignored_source at.1) (enumerate_from 0 sources))
    (filter (λ at. is_ignored_source at.1) ((length sources + 0, source) ∷ []))
    ∙ ap (λ last. ignored_indices sources ++ last) (one_index (length sources + 0) source (is_ignored_source source) refl)
    ∙ ap (λ (n : ℕ). ignored_indices sources ++ (if is_ignored_source source then n ∷ [] else [])) (omega arith)

-- of a source and others, by whether it is ignored
abbrev pub found_first : ℕ → List StatedSource → Bool → List ℕ
found_first n sources ignored = if ignored then n ∷ indices_from (n + 1) sources else indices_from (n + 1) sources

pub first_index : (n : ℕ) (source : StatedSource) (sources : List StatedSource) (ignored : Bool) → is_ignored_source source ≡ ignored
    → indices_from n (source ∷ sources) ≡ found_first n sources ignored
first_index n source sources true is = rw is refl
first_index n source sources false is = rw is refl

none_from : (n : ℕ) (sources : List StatedSource) → list_any is_ignored_source sources ≡ false → indices_from n sources ≡ []
none_from n [] none = refl
none_from n (source ∷ sources) none =
    let parts = or_parts (is_ignored_source source) (list_any is_ignored_source sources) none in
    first_index n source sources false parts.0 ∙ none_from (n + 1) sources parts.1

not_none : (n : ℕ) (sources : List StatedSource) (ignored : Bool) → found_first n sources ignored ≡ [] → (ignored ≡ false) × (indices_from (n + 1) sources ≡ [])
not_none n sources true none = absurd (cc)
not_none n sources false none = (refl, none)

some_from : (n : ℕ) (sources : List StatedSource) → indices_from n sources ≡ [] → list_any is_ignored_source sources ≡ false
some_from n [] none = refl
some_from n (source ∷ sources) none =
    let parts = not_none n sources (is_ignored_source source) (sym (first_index n source sources (is_ignored_source source) refl) ∙ none) in
    rw (parts.0) (some_from (n + 1) sources parts.1)

-- there is none where no source is ignored, and only there
pub no_index : (sources : List StatedSource) → list_any is_ignored_source sources ≡ false → ignored_indices sources ≡ []
no_index sources none = none_from 0 sources none

pub no_source : (sources : List StatedSource) → ignored_indices sources ≡ [] → list_any is_ignored_source sources ≡ false
no_source sources none = some_from 0 sources none

-- ---- the values of the indices

abbrev pub index_value : ℕ → Data
index_value index = number (unsigned index)

-- the values are the indices of the ignored ones among the first sources
abbrev pub AreIndices : List Value → List SourceEntry → ℕ → Type 0
AreIndices values sources i = map view values ≡ map index_value (ignored_indices (map source_of (take i sources)))

module _ (values : List Value) (sources : List SourceEntry) (i : ℕ) (source : SourceEntry) (within : i < length sources)
    (is : source ≡ get_or sources i source) (are : AreIndices values sources i) where
  abbrev before : List StatedSource
  before = map source_of (take i sources)

  -- the indices with that of this source, where it is ignored
  abbrev with_last : Bool → List ℕ
  with_last ignored = ignored_indices before ++ (if ignored then i ∷ [] else [])

  pushed : ignored_indices (map source_of (take (i + 1) sources)) ≡ with_last source.ignored
  pushed =
      ap ignored_indices (ap (map source_of) (take_more sources i source within) ∙ map-append source_of (take i sources) (get_or sources i source ∷ []))
      ∙ ap (λ s. ignored_indices (before ++ source_of s ∷ [])) (sym is)
      ∙ indices_push before (source_of source)
      ∙ ap (λ (n : ℕ). ignored_indices before ++ (if source.ignored then n ∷ [] else []))
      (length-map (take i sources) source_of ∙ length-take-le i sources (omega (arith, within)))

  -- one source more, which is not ignored
  pub skipped : source.ignored ≡ false → AreIndices values sources (i + 1)
  skipped not_ignored = are ∙ ap (map index_value) (sym (pushed ∙ ap with_last not_ignored ∙ append-nil (ignored_indices before)))

  -- one source more, which is ignored
  pub added : source.ignored ≡ true → (value : Value) → view value ≡ index_value i → AreIndices (values ++ value ∷ []) sources (i + 1)
  added ignored value value_is =
      map-append view values (value ∷ [])
      ∙ ap (λ all. all ++ view value ∷ []) are
      ∙ ap (λ last. map index_value (ignored_indices before) ++ last ∷ []) value_is
      ∙ sym (ap (map index_value) (pushed ∙ ap with_last ignored) ∙ map-append index_value (ignored_indices before) (i ∷ []))

no_values : (values : List Value) (indices : List ℕ) → map view values ≡ map index_value indices → length values ≡ 0 → indices ≡ []
no_values [] [] are none = refl
no_values [] (index ∷ indices) are none = absurd (cc)
no_values (value ∷ values) indices are none = absurd (omega (arith, none))

no_indices : (values : List Value) (indices : List ℕ) → map view values ≡ map index_value indices → indices ≡ [] → length values ≡ 0
no_indices [] indices are none = refl
no_indices (value ∷ values) indices are none = let empty = are ∙ ap (map index_value) none in absurd (cc)

module _ (values : Vec Value Global) (sources : List SourceEntry) (i : ℕ) (whole : length sources ≤ i) (are : AreIndices values.items sources i) where
  all_are : map view values.items ≡ map index_value (ignored_indices (map source_of sources))
  all_are = are ∙ ap (λ all. map index_value (ignored_indices (map source_of all))) (take_all i sources whole)

  -- no source is ignored
  pub nothing : length values.items ≡ 0 → None ≡ ignored_value (map source_of sources)
  nothing none =
      let none_ignored = no_source (map source_of sources) (no_values values.items (ignored_indices (map source_of sources)) all_are none) in
      ap (λ (b : Bool). if b then Some (list_value index_value (ignored_indices (map source_of sources))) else None) (sym none_ignored)

  -- some are
  pub something : (length values.items ≡ 0 → ⊥) → Some (view (Array values)) ≡ ignored_value (map source_of sources)
  something some = at (list_any is_ignored_source (map source_of sources)) refl
    where
      at : (ignored : Bool) → list_any is_ignored_source (map source_of sources) ≡ ignored → Some (view (Array values)) ≡ ignored_value (map source_of sources)
      at true is =
          ap Some (array_of index_value values (ignored_indices (map source_of sources)) all_are)
          ∙ ap (λ (b : Bool). if b then Some (list_value index_value (ignored_indices (map source_of sources))) else None) (sym is)
      at false is = absurd (some (no_indices values.items (ignored_indices (map source_of sources)) all_are (no_index (map source_of sources) is)))
