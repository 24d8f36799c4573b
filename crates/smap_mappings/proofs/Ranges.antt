-- Running values that are in range, as numbers of the code.
use Rattle.std.proofs.Common.{◌≡◌, ◌<◌, ◌≤◌, true, refl, sym, ap, ◌∙◌, arith, to_z, of_z, w64, w32, Fits, subst, ltb-false}
use Rattle.std.proofs.Math.Dec.{T}
use Rattle.std.specs.Int.Signed.{non_neg}
use Rattle.std.specs.Prelude.{ℤ, pos, negsuc, unsigned_abs}
use Rattle.std.proofs.lemmas.Bool.{and_parts, not-true}
use Rattle.std.proofs.lemmas.Int.{to_z_pos}
use Rattle.smap_mappings.specs.Limits.{limit}
use Rattle.smap_mappings.specs.Mappings.{RunningValues, natural}
use Rattle.smap_mappings.specs.Accepted.{is_in_range, are_in_range}

pub in_range_natural : (z : ℤ) → is_in_range z ≡ true → (z ≡ pos (natural z)) × (natural z ≤ limit)
in_range_natural (pos n) is = (refl, ltb-false limit n (not-true _ (and_parts _ _ is).1))
in_range_natural (negsuc n) is = absurd (cc)

pub cast_is : (z : ℤ) → is_in_range z ≡ true → pos (unsigned_abs (to_z w64 (of_z w64 z))) ≡ z
cast_is z is =
    let n = in_range_natural z is in
    let fits : natural z < 9223372036854775808 = omega (arith, n.1) in
    ap (λ x. pos (unsigned_abs (to_z w64 (of_z w64 x)))) n.0 ∙ ap (λ x. pos (unsigned_abs x)) (to_z_pos w64 (natural z) fits) ∙ sym n.0

pub cast_fits : (z : ℤ) → is_in_range z ≡ true → T (non_neg (to_z w64 (of_z w64 z))) × Fits w32 (unsigned_abs (to_z w64 (of_z w64 z)))
cast_fits z is =
    let n = in_range_natural z is in
    let below : natural z < 9223372036854775808 = omega (arith, n.1) in
    let same : to_z w64 (of_z w64 z) ≡ pos (natural z) = ap (λ x. to_z w64 (of_z w64 x)) n.0 ∙ to_z_pos w64 (natural z) below in
    subst (λ x. T (non_neg x) × Fits w32 (unsigned_abs x)) (sym same) (tt, record { fits = omega (arith, n.1) })

-- the five values of some that are all in range
pub record InRange (values : RunningValues) : Type 0 where
  pub column : is_in_range values.column ≡ true
  pub source : is_in_range values.source ≡ true
  pub original_line : is_in_range values.original_line ≡ true
  pub original_column : is_in_range values.original_column ≡ true
  pub name : is_in_range values.name ≡ true

pub each_in_range : (values : RunningValues) → are_in_range values ≡ true → InRange values
each_in_range values is =
    let a = and_parts _ _ is in
    let b = and_parts _ _ a.0 in
    let c = and_parts _ _ b.0 in
    let d = and_parts _ _ c.0 in
    record { column = d.0; source = d.1; original_line = c.1; original_column = b.1; name = a.1 }
