-- What the names of sources are made of, section by section.
use Rattle.std.proofs.Common.{◌≡◌, ◌+◌, ◌<◌, ◌≤◌, ℕ, List, [], ◌∷◌, ap, arith, length, map, refl, slice_index_or, sym, take, ◌∙◌}
use Rattle.std.specs.List.{sum_by}
use Rattle.std.proofs.lemmas.List.{take_all}
use Rattle.std.proofs.lemmas.List.Sums.{sum_by-cons, sum_by_more, sum_by_more_le}
use Rattle.url.specs.Parts.{Parts}
use Rattle.std.specs.Prelude.{Option}
use Rattle.smap_record.specs.NameBytes.{base_bytes, name_bytes, section_name_bytes}
use Rattle.smap_record.specs.Private.Seen.{sources_seen}
use Rattle.smap_record.specs.declared.section.SectionSources.{SectionSources}

pub sum_seen : {A B : Type 0} (see : A → B) (f : B → ℕ) (xs : List A) → sum_by f (map see xs) ≡ sum_by (λ x. f (see x)) xs
sum_seen see f [] = refl
sum_seen see f (x ∷ xs) =
    sum_by-cons f (see x) (map see xs) ∙ ap (λ n. f (see x) + n) (sum_seen see f xs) ∙ sym (sum_by-cons (λ x. f (see x)) x xs)

-- those of all, where a base has so many bytes
pub all_names : (base : Option Parts) (before : ℕ) (sections : List SectionSources) → before ≡ base_bytes base
    → sum_by (λ section. section_name_bytes before (sources_seen section)) sections ≡ name_bytes base (map sources_seen sections)
all_names base before sections is =
    sym (sum_seen sources_seen (section_name_bytes before) sections)
    ∙ ap (λ n. sum_by (section_name_bytes n) (map sources_seen sections)) is

-- of so many, those of the first are taken away one after another
module _ {A : Type 0} (f : A → ℕ) (xs : List A) (i left most : ℕ) (so_far : sum_by f (take i xs) + left ≡ most) where
  pub too_few : (x : A) → i < length xs → x ≡ slice_index_or xs i x → left < f x → most < sum_by f xs
  too_few x within is few = omega (arith, sum_by_more_le f xs i x within, ap f is, so_far, few)

  pub one_less : (x : A) (rest : ℕ) → i < length xs → x ≡ slice_index_or xs i x → f x + rest ≡ left → sum_by f (take (i + 1) xs) + rest ≡ most
  one_less x rest within is enough = omega (arith, sum_by_more f xs i x within, ap f is, so_far, enough)

  pub enough_for_all : length xs ≤ i → sum_by f xs ≤ most
  enough_for_all none = omega (arith, ap (sum_by f) (take_all i xs none), so_far)
