-- Inner maps that are placed one behind the other.
use Rattle.std.proofs.Common.{◌≡◌, ℕ, zero, suc, ◌+◌, ◌<◌, drop, get_or, replicate, List, [], ◌∷◌, ◌++◌, length, map, Option, Some, None, refl, sym, ap, ◌∙◌, arith, add-zero}
use Rattle.std.specs.Borrow.{Bor}
use Rattle.std.specs.Prelude.{option_map}
use Rattle.std.specs.List.{sum_by}
use Rattle.std.proofs.lemmas.List.{map-append}
use Rattle.std.proofs.lemmas.List.Sums.{sum_by-cons}
use Rattle.std.proofs.Math.Seq.{drop-cons}
use Rattle.smap_record.specs.MapFile.{Map}
use Rattle.smap_compose.specs.Composition.{inner_lists}
use Rattle.smap_compose.specs.Follow.{CountedMappings}
use Rattle.smap_compose.specs.FollowAll.{Placed, inner_names, inner_sources, placed}
use Rattle.smap_compose.specs.Inners.{stated_inners}
use Rattle.smap_compose.specs.Private.Placed.{inner_list, placed_seen}
use Rattle.smap_compose.specs.declared.placed.PlacedMap.{PlacedMap}

-- ---- the inner maps as they are given

pub lists_more : (inner : Option (Bor Map)) (inners : List (Option (Bor Map)))
    → inner_lists (stated_inners (inner ∷ inners)) ≡ inner_list inner ∷ inner_lists (stated_inners inners)
lists_more None inners = refl
lists_more (Some inner) inners = refl

-- from one of them on
pub lists_from : (inners : List (Option (Bor Map))) (i : ℕ) (inner : Option (Bor Map)) → i < length inners → inner ≡ get_or inners i inner
    → inner_lists (stated_inners (drop i inners)) ≡ inner_list inner ∷ inner_lists (stated_inners (drop (i + 1) inners))
lists_from inners i inner inside is =
    let next : suc i ≡ i + 1 = omega arith in
    ap (λ l. inner_lists (stated_inners l))
    (drop-cons inners i inner inside ∙ ap (λ x. x ∷ drop (suc i) inners) (sym is) ∙ ap (λ n. inner ∷ drop n inners) next)
    ∙ lists_more inner (drop (i + 1) inners)

pub sources_from : (inners : List (Option (Bor Map))) (i : ℕ) (inner : Option (Bor Map)) → i < length inners → inner ≡ get_or inners i inner
    → sum_by inner_sources (inner_lists (stated_inners (drop i inners)))
    ≡ inner_sources (inner_list inner) + sum_by inner_sources (inner_lists (stated_inners (drop (i + 1) inners)))
sources_from inners i inner inside is =
    ap (sum_by inner_sources) (lists_from inners i inner inside is)
    ∙ sum_by-cons inner_sources (inner_list inner) (inner_lists (stated_inners (drop (i + 1) inners)))

-- ---- placing one, and then others

pub placed_more : (sources names : ℕ) (inner : Option CountedMappings) (inners : List (Option CountedMappings))
    → placed sources names (inner ∷ inners)
    ≡ placed sources names (inner ∷ []) ++ placed (sources + inner_sources inner) (names + inner_names inner) inners
placed_more sources names None inners = rw (add-zero sources, add-zero names) refl
placed_more sources names (Some inner) inners = refl

-- one behind sources without any
pub one_listed : (before after : List (Option PlacedMap)) (k : ℕ) (inner : PlacedMap) (seen : Placed) → before ≡ replicate k None
    → after ≡ before ++ Some inner ∷ [] → placed_seen inner ≡ seen
    → map (option_map placed_seen) after ≡ replicate k None ++ Some seen ∷ []
one_listed before after k inner seen none are is =
    ap (map (option_map placed_seen)) (are ∙ ap (λ l. l ++ Some inner ∷ []) none) ∙ map-append (option_map placed_seen) (replicate k None) (Some inner ∷ [])
    ∙ ap (λ l. l ++ Some (placed_seen inner) ∷ []) (nones k) ∙ ap (λ p. replicate k None ++ Some p ∷ []) is
  where
    nones : (k : ℕ) → map (option_map placed_seen) (replicate k None) ≡ replicate k None
    nones zero = refl
    nones (suc k) = ap (λ l. None ∷ l) (nones k)
