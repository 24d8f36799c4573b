-- Which source's map is wanted next, one source after another.
use Rattle.std.proofs.Common.{◌≡◌, ◌∙◌, ◌+◌, ◌-◌, ◌<◌, ◌≤◌, ◌||◌, ◌∷◌, ◌++◌, ℕ, zero, suc, List, Option, None, Some, true, false, ap, arith, drop, get_or, length, option_map, refl, replicate, sym}
use Rattle.std.specs.Prelude.{Box}
use Rattle.std.specs.List.{slice_get}
use Rattle.std.specs.Option.{option_flatten, option_map_or}
use Rattle.std.proofs.Math.Seq.{drop-cons}
use Rattle.std.proofs.lemmas.Bool.{cond-false, cond-true}
use Rattle.smap_record.specs.MapFile.{Map}
use Rattle.smap_c.specs.Inners.{Places, maps_held}
use Rattle.smap_c.specs.Steps.{first_wanted, is_called, is_led_by, is_wanted, leads_within, name_of_source}

-- of a source one is wanted
pub wanted_here : (outer : Map) (places : Places) (from many : ℕ) → from < many → is_wanted outer places from ≡ true
    → first_wanted outer places from (many - from) ≡ Some from
wanted_here outer places from many inside is =
    let more : many - from ≡ suc (many - (from + 1)) = omega arith in
    ap (first_wanted outer places from) more
    ∙ cond-true (is_wanted outer places from) (Some from) (first_wanted outer places (from + 1) (many - (from + 1))) is

-- of a source none is wanted
pub wanted_behind : (outer : Map) (places : Places) (from many : ℕ) → from < many → is_wanted outer places from ≡ false
    → first_wanted outer places from (many - from) ≡ first_wanted outer places (from + 1) (many - (from + 1))
wanted_behind outer places from many inside is =
    let more : many - from ≡ suc (many - (from + 1)) = omega arith in
    ap (first_wanted outer places from) more
    ∙ cond-false (is_wanted outer places from) (Some from) (first_wanted outer places (from + 1) (many - (from + 1))) is

-- no source is left
pub wanted_nowhere : (outer : Map) (places : Places) (from many : ℕ) → many ≤ from → first_wanted outer places from (many - from) ≡ None
wanted_nowhere outer places from many past = let none : many - from ≡ 0 = omega arith in ap (first_wanted outer places from) none

-- ---- one of the sources that lead to a source is called so

module _ (whole : Map) (leads : List (Option ℕ)) (name : List ℕ) where
  -- it is the next of them, or one behind it
  led_by_next : (left at from : ℕ) → 0 < left → Some from ≡ option_flatten (slice_get leads at)
      → is_led_by whole leads left at name
      ≡ (is_called name (name_of_source whole from) || is_led_by whole leads (left - 1) from name)
  led_by_next left at from some there =
      let more : left ≡ suc (left - 1) = omega arith in
      ap (λ most. is_led_by whole leads most at name) more
      ∙ ap (λ lead. option_map_or (λ f. is_called name (name_of_source whole f) || is_led_by whole leads (left - 1) f name)
      lead false) (sym there)

  pub led_here : (left at from : ℕ) → 0 < left → Some from ≡ option_flatten (slice_get leads at)
      → is_called name (name_of_source whole from) ≡ true → is_led_by whole leads left at name ≡ true
  led_here left at from some there is =
      led_by_next left at from some there ∙ ap (λ b. b || is_led_by whole leads (left - 1) from name) is

  pub led_behind : (left at from : ℕ) → 0 < left → Some from ≡ option_flatten (slice_get leads at)
      → is_called name (name_of_source whole from) ≡ false
      → is_led_by whole leads left at name ≡ is_led_by whole leads (left - 1) from name
  led_behind left at from some there is =
      led_by_next left at from some there ∙ ap (λ b. b || is_led_by whole leads (left - 1) from name) is

  -- none leads to it
  pub led_by_none : (left at : ℕ) → option_flatten (slice_get leads at) ≡ None → is_led_by whole leads left at name ≡ false
  led_by_none zero at none = refl
  led_by_none (suc left) at none =
      ap (λ lead. option_map_or (λ f. is_called name (name_of_source whole f) || is_led_by whole leads left f name) lead false) none

-- ---- the sources that lead to those of the maps in places

-- those of the next place, and of the places behind it
pub leads_next : {A : Type 0} (places : List (Option (Box Map A))) (i : ℕ) (place : Option (Box Map A)) → i < length places
    → place ≡ get_or places i place
    → leads_within i (maps_held (drop i places))
    ≡ replicate (option_map_or (λ (map : Map). length map.stated.sources) (option_map (λ b. b.value) place) 0) (Some i)
    ++ leads_within (i + 1) (maps_held (drop (i + 1) places))
leads_next places i place inside is =
    let next : suc i ≡ i + 1 = omega arith in
    ap (λ l. leads_within i (maps_held l))
    (drop-cons places i place inside ∙ ap (λ x. x ∷ drop (suc i) places) (sym is) ∙ ap (λ n. place ∷ drop n places) next)
