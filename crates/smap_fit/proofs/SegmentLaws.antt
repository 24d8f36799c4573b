-- The segments of each source, one mapping after another.
use Rattle.std.proofs.Common.{◌≡◌, ◌<◌, ◌+◌, ℕ, cond, List, ◌∷◌, length, Option, Some, None, ap, subst, ◌∙◌, arith}
use Rattle.std.specs.Prelude.{All, IfSome, count_by, slice_index}
use Rattle.std.proofs.lemmas.List.Sums.{sum_by-cons}
use Rattle.smap_mappings.specs.declared.mapping.Mapping.{Mapping}
use Rattle.smap_mappings.specs.Within.{IsOriginWithin, IsWithin}
use Rattle.smap_mappings.specs.declared.mapping.Origin.{Origin}
use Rattle.smap_fit.specs.Owners.{is_same_owner}
use Rattle.smap_fit.specs.Private.Counts.{one_count_after}
use Rattle.smap_fit.specs.Shares.{has_source, source_of, source_with}
use Rattle.smap_fit.proofs.CountedLaws.{one_count}

counted : (s : ℕ) (m : Mapping) (left : List Mapping) → count_by (has_source s) (m ∷ left) ≡ cond (has_source s m) 1 0 + count_by (has_source s) left
counted s m left = sum_by-cons (λ (x : Mapping). cond (has_source s x) 1 0) m left

pub each_counted : (counts : List ℕ) (s t all : ℕ) (m : Mapping) (old left : List Mapping) → old ≡ m ∷ left → source_of m ≡ Some t → t < length counts
    → slice_index counts s + count_by (has_source s) old ≡ all
    → slice_index (one_count_after counts t 1) s + count_by (has_source s) left ≡ all
each_counted counts s t all m old left is_old owner within so_far =
    let whole = ap (count_by (has_source s)) is_old ∙ counted s m left ∙ ap (λ o. cond (is_same_owner o (Some s)) 1 0 + count_by (has_source s) left) owner in
    let more = one_count counts t 1 s within in
    omega (arith, whole, more, so_far)

pub passed_by : (counts : List ℕ) (s all : ℕ) (m : Mapping) (old left : List Mapping) → old ≡ m ∷ left → source_of m ≡ None
    → slice_index counts s + count_by (has_source s) old ≡ all
    → slice_index counts s + count_by (has_source s) left ≡ all
passed_by counts s all m old left is_old owner so_far =
    let whole = ap (count_by (has_source s)) is_old ∙ counted s m left ∙ ap (λ o. cond (is_same_owner o (Some s)) 1 0 + count_by (has_source s) left) owner in
    omega (arith, whole, so_far)

-- the source of a mapping is one of these many
pub named_within : (sources names t : ℕ) (m : Mapping) → IsWithin sources names m → source_of m ≡ Some t → t < sources
named_within sources names t m within owner = with_origin m.origin within.origin owner
  where
    with_origin : (origin : Option Origin) → IfSome origin (IsOriginWithin sources names) → source_with origin ≡ Some t → t < sources
    with_origin None inside never = absurd (cc)
    with_origin (Some origin) inside is = let same : origin.source ≡ t = cc in omega (arith, inside.source.named)

pub first_named_within : (sources names t : ℕ) (m : Mapping) (old left : List Mapping) → old ≡ m ∷ left → All (IsWithin sources names) old → source_of m ≡ Some t → t < sources
first_named_within sources names t m old left is_old all owner =
    named_within sources names t m (subst (All (IsWithin sources names)) is_old all 0 m (omega arith)) owner
