-- The sources of a written map, as they are read again.
use Rattle.std.proofs.Common.{◌≡◌, ℕ, suc, zero, ◌+◌, ◌<◌, ◌≤◌, List, [], ◌∷◌, ◌++◌, length, map, get_or, Bool, true, false, ◌||◌, ◌==◌}
use Rattle.std.proofs.Common.{if◌then◌else◌, Option, Some, None, refl, sym, ap, subst, ◌∙◌, arith, eq-eqb}
use Rattle.std.specs.Prelude.{is_some, slice_get, unwrap_or}
use Rattle.std.specs.List.{AllByRecursion, enumerate_from, list_any}
use Rattle.std.specs.Option.{option_flatten}
use Rattle.std.proofs.lemmas.Bool.{ne_eqb, or_parts}
use Rattle.std.proofs.lemmas.List.{append_assoc, length-map, length_push, map-id}
use Rattle.std.proofs.lemmas.List.FromFn.{fill_by_all, length-enumerate_from}
use Rattle.smap_mappings.specs.Laws.Lists.{slice_get-after}
use Rattle.smap_record.specs.Ignored.{ignored_flags, is_ignored}
use Rattle.smap_record.specs.Sources.{StatedSource, StatedSources, source_at, sources_stated}
use Rattle.smap_record.specs.Written.{content_of_source, has_content, ignored_indices, is_ignored_source, text_of_source}
use Rattle.smap_record.proofs.IndexLaws.{indices_from, first_index, found_first}

-- ---- the indices of the ignored ones

below_first : (limit n : ℕ) (sources : List StatedSource) (ignored : Bool) → n < limit
    → AllByRecursion (λ index. index < limit) (indices_from (n + 1) sources) → AllByRecursion (λ index. index < limit) (found_first n sources ignored)
below_first limit n sources true below all = (below, all)
below_first limit n sources false below all = all

pub indices_below : (limit n : ℕ) (sources : List StatedSource) → n + length sources ≤ limit → AllByRecursion (λ index. index < limit) (indices_from n sources)
indices_below limit n [] few = tt
indices_below limit n (source ∷ sources) few =
    subst (AllByRecursion (λ index. index < limit)) (sym (first_index n source sources (is_ignored_source source) refl))
    (below_first limit n sources (is_ignored_source source) (omega arith) (indices_below limit (n + 1) sources (omega arith)))

abbrev is_in : ℕ → List ℕ → Bool
is_in i indices = list_any (λ index. index == i) indices

past_first : (n i : ℕ) (sources : List StatedSource) (ignored : Bool) → (n == i) ≡ false
    → is_in i (found_first n sources ignored) ≡ is_in i (indices_from (n + 1) sources)
past_first n i sources true apart = ap (λ b. b || is_in i (indices_from (n + 1) sources)) apart
past_first n i sources false apart = refl

-- an index before the first is not among them
not_before : (n i : ℕ) (sources : List StatedSource) → i < n → is_in i (indices_from n sources) ≡ false
not_before n i [] before = refl
not_before n i (source ∷ sources) before =
    ap (is_in i) (first_index n source sources (is_ignored_source source) refl)
    ∙ past_first n i sources (is_ignored_source source) (ne_eqb n i (λ same. absurd (omega (arith, same))))
    ∙ not_before (n + 1) i sources (omega arith)

first_flag : (n : ℕ) (sources : List StatedSource) (ignored : Bool) → (n == n) ≡ true → is_in n (found_first n sources ignored) ≡ ignored
first_flag n sources true same = ap (λ b. b || is_in n (indices_from (n + 1) sources)) same
first_flag n sources false same = not_before (n + 1) n sources (omega arith)

-- a source is ignored where its index is among them
flag_of : (n j : ℕ) (sources : List StatedSource) → j < length sources → get_or (map is_ignored_source sources) j false ≡ is_in (n + j) (indices_from n sources)
flag_of n j [] within = absurd (omega (arith, within))
flag_of n zero (source ∷ sources) within =
    sym (ap (λ (i : ℕ). is_in i (indices_from n (source ∷ sources))) (omega arith)
    ∙ ap (is_in n) (first_index n source sources (is_ignored_source source) refl)
    ∙ first_flag n sources (is_ignored_source source) (eq-eqb n n refl))
flag_of n (suc j) (source ∷ sources) within =
    flag_of (n + 1) j sources (omega arith)
    ∙ sym (ap (is_in (n + suc j)) (first_index n source sources (is_ignored_source source) refl)
    ∙ past_first n (n + suc j) sources (is_ignored_source source) (ne_eqb n (n + suc j) (λ same. absurd (omega (arith, same))))
    ∙ ap (λ (i : ℕ). is_in i (indices_from (n + 1) sources)) (omega arith))

at_zero : (sources : List StatedSource) (j : ℕ) → j < length sources → get_or (map is_ignored_source sources) j false ≡ is_ignored (ignored_indices sources) j
at_zero sources j within = flag_of 0 j sources within ∙ ap (λ (i : ℕ). is_in i (indices_from 0 sources)) (omega arith)

-- the flags are those of the sources
pub flags_are : (sources : List StatedSource) → ignored_flags (length sources) (ignored_indices sources) ≡ map is_ignored_source sources
flags_are sources = sym (fill_by_all (is_ignored (ignored_indices sources)) (map is_ignored_source sources) (length sources) false
    (length-map sources is_ignored_source) (at_zero sources))

-- ---- by place

module _ {A B T : Type 0} (out : Option A → B) where
  from_place : (before after : List A) (texts : List T) → length texts ≡ length after
      → map (λ (at : ℕ × T). out (slice_get (before ++ after) at.0)) (enumerate_from (length before) texts) ≡ map (λ x. out (Some x)) after
  from_place before [] [] many = refl
  from_place before [] (text ∷ texts) many = absurd (omega (arith, many))
  from_place before (x ∷ after) [] many = absurd (omega (arith, many))
  from_place before (x ∷ after) (text ∷ texts) many =
      ap (λ found. out found ∷ map (λ (at : ℕ × T). out (slice_get (before ++ x ∷ after) at.0)) (enumerate_from (length before + 1) texts))
      (slice_get-after before x after)
      ∙ ap (λ others. out (Some x) ∷ others)
      (ap (λ all. map (λ (at : ℕ × T). out (slice_get all at.0)) (enumerate_from (length before + 1) texts)) (sym (append_assoc before (x ∷ []) after))
      ∙ ap (λ (n : ℕ). map (λ (at : ℕ × T). out (slice_get ((before ++ x ∷ []) ++ after) at.0)) (enumerate_from n texts)) (sym (length_push before x))
      ∙ from_place (before ++ x ∷ []) after texts (omega (arith, many)))

  -- what stands at each place of a list that is as long
  pub by_place : (list : List A) (texts : List T) → length texts ≡ length list
      → map (λ (at : ℕ × T). out (slice_get list at.0)) (enumerate_from 0 texts) ≡ map (λ x. out (Some x)) list
  by_place list texts many = from_place [] list texts many

  -- and of one that is empty
  pub nowhere : (n : ℕ) (texts : List T) → map (λ (at : ℕ × T). out (slice_get [] at.0)) (enumerate_from n texts) ≡ map (λ text. out None) texts
  nowhere n [] = refl
  nowhere n (text ∷ texts) = ap (λ others. out None ∷ others) (nowhere (n + 1) texts)

map_map : {A B C : Type 0} (f : A → B) (g : B → C) (list : List A) → map g (map f list) ≡ map (λ x. g (f x)) list
map_map f g [] = refl
map_map f g (x ∷ list) = ap (λ others. g (f x) ∷ others) (map_map f g list)

-- ---- the contents

none_there : (content : Option (List ℕ)) → is_some content ≡ false → None ≡ content
none_there None is = refl
none_there (Some text) is = absurd (cc)

no_contents : (sources : List StatedSource) → list_any has_content sources ≡ false
    → map (λ (text : Option (List ℕ)). None) (map text_of_source sources) ≡ map content_of_source sources
no_contents [] none = refl
no_contents (source ∷ sources) none =
    let parts = or_parts (has_content source) (list_any has_content sources) none in
    ap (λ content. content ∷ map (λ (text : Option (List ℕ)). None) (map text_of_source sources)) (none_there source.content parts.0)
    ∙ ap (λ others. content_of_source source ∷ others) (no_contents sources parts.1)

-- the contents that are written, where this says whether some source has one
abbrev pub contents_list : List StatedSource → Bool → List (Option (List ℕ))
contents_list sources some = if some then map content_of_source sources else []

contents_by : (sources : List StatedSource) (some : Bool) → list_any has_content sources ≡ some
    → map (λ (at : ℕ × Option (List ℕ)). option_flatten (slice_get (contents_list sources some) at.0))
    (enumerate_from 0 (map text_of_source sources)) ≡ map content_of_source sources
contents_by sources true is =
    by_place option_flatten (map content_of_source sources) (map text_of_source sources)
    (length-map sources text_of_source ∙ sym (length-map sources content_of_source))
    ∙ map-id (map content_of_source sources)
contents_by sources false is = nowhere option_flatten 0 (map text_of_source sources) ∙ no_contents sources is

-- ---- the sources

-- what a written map states of its sources
abbrev pub written_sources : List StatedSource → StatedSources
written_sources sources = record {
  root = None;
  texts = map text_of_source sources;
  contents = contents_list sources (list_any has_content sources);
  ignored = map is_ignored_source sources;
}

-- they are read back
abbrev pub read_sources : List StatedSource → List StatedSource
read_sources sources = sources_stated None (written_sources sources)

module _ (sources : List StatedSource) where
  pub same_many : length (read_sources sources) ≡ length sources
  same_many =
      length-map (enumerate_from 0 (map text_of_source sources)) (λ at. source_at None (written_sources sources) at.0 at.1)
      ∙ length-enumerate_from 0 (map text_of_source sources) ∙ length-map sources text_of_source

  pub same_contents : map content_of_source (read_sources sources) ≡ map content_of_source sources
  same_contents =
      map_map (λ (at : ℕ × Option (List ℕ)). source_at None (written_sources sources) at.0 at.1) content_of_source
      (enumerate_from 0 (map text_of_source sources))
      ∙ contents_by sources (list_any has_content sources) refl

  pub same_ignored : map is_ignored_source (read_sources sources) ≡ map is_ignored_source sources
  same_ignored =
      map_map (λ (at : ℕ × Option (List ℕ)). source_at None (written_sources sources) at.0 at.1) is_ignored_source
      (enumerate_from 0 (map text_of_source sources))
      ∙ by_place (λ (flag : Option Bool). unwrap_or flag false) (map is_ignored_source sources) (map text_of_source sources)
      (length-map sources text_of_source ∙ sym (length-map sources is_ignored_source))
      ∙ map-id (map is_ignored_source sources)
