-- Worked examples of what is left of a map: each holds by computing both sides.
use Rattle.std.proofs.Common.{◌≡◌, ℕ, zero, suc, Bool, true, false, List, [], ◌∷◌, Option, Some, None, codes, nat_eq, refl}
use Rattle.smap_mappings.specs.declared.mapping.Mapping.{Mapping}
use Rattle.smap_index.specs.declared.answer.Answer.TheVariants.{Found}
use Rattle.smap_resolve.specs.SourceName.Name.{kept}
use Rattle.smap_record.specs.Sources.{StatedSource}
use Rattle.smap_compose.specs.Composition.{Composition}
use Rattle.smap_compose.specs.Pruned.{entries_left, named_answer, place_left, pruned}

-- ---- entries

-- all places but the second are used
but_second : ℕ → Bool
but_second zero = true
but_second (suc zero) = false
but_second (suc (suc i)) = true

-- 8 is not used, and the first 7 stands for both
of_equal_ones_the_first : entries_left nat_eq but_second (7 ∷ 8 ∷ 9 ∷ 7 ∷ []) ≡ 7 ∷ 9 ∷ []
unfolding but_second
of_equal_ones_the_first = refl

-- so the last of them is found at place 0, and 9 at place 1
at_the_first : place_left nat_eq but_second (7 ∷ 8 ∷ 9 ∷ 7 ∷ []) 3 ≡ 0
unfolding but_second
at_the_first = refl

one_moved : place_left nat_eq but_second (7 ∷ 8 ∷ 9 ∷ 7 ∷ []) 2 ≡ 1
unfolding but_second
one_moved = refl

-- the first of equal ones is the first that is used
of_used_ones_the_first : entries_left nat_eq but_second (9 ∷ 7 ∷ 8 ∷ 7 ∷ []) ≡ 9 ∷ 8 ∷ 7 ∷ []
unfolding but_second
of_used_ones_the_first = refl

-- ---- maps

mapped_at : (column source : ℕ) → Option ℕ → Mapping
mapped_at column source name =
    record { line = 0; column = column; origin = Some (record { source = source; line = 0; column = column; name = name }) }

called : List ℕ → Option (List ℕ) → StatedSource
called name content = record { name = Some (kept name); content = content; ignored = false }

map_of : List Mapping → List StatedSource → List (List ℕ) → Composition
map_of mappings sources names = record { mappings = mappings; sources = sources; names = names; file = None }

-- no mapping has the first source or the second name
unused_ones_go :
    pruned (map_of (mapped_at 0 1 (Some 0) ∷ mapped_at 5 2 (Some 2) ∷ [])
    (called (codes "m") None ∷ called (codes "a") None ∷ called (codes "b") None ∷ []) (codes "x" ∷ codes "y" ∷ codes "z" ∷ []))
    ≡ map_of (mapped_at 0 0 (Some 0) ∷ mapped_at 5 1 (Some 1) ∷ [])
    (called (codes "a") None ∷ called (codes "b") None ∷ []) (codes "x" ∷ codes "z" ∷ [])
unfolding mapped_at called map_of
unused_ones_go = refl

-- two sources are the same, and so are two names
equal_ones_are_one :
    pruned (map_of (mapped_at 0 0 (Some 0) ∷ mapped_at 5 1 (Some 1) ∷ [])
    (called (codes "a") None ∷ called (codes "a") None ∷ []) (codes "x" ∷ codes "x" ∷ []))
    ≡ map_of (mapped_at 0 0 (Some 0) ∷ mapped_at 5 0 (Some 0) ∷ []) (called (codes "a") None ∷ []) (codes "x" ∷ [])
unfolding mapped_at called map_of
equal_ones_are_one = refl

-- two sources of one name have different contents: both stay
other_contents_stay :
    pruned (map_of (mapped_at 0 0 None ∷ mapped_at 5 1 None ∷ []) (called (codes "a") (Some (codes "1")) ∷ called (codes "a") (Some (codes "2")) ∷ []) [])
    ≡ map_of (mapped_at 0 0 None ∷ mapped_at 5 1 None ∷ []) (called (codes "a") (Some (codes "1")) ∷ called (codes "a") (Some (codes "2")) ∷ []) []
unfolding mapped_at called map_of
other_contents_stay = refl

-- what a look-up reports a source is the text of its name and its content
reported_by_name :
    named_answer (map_of [] (called (codes "a") (Some (codes "1")) ∷ []) (codes "x" ∷ []))
    (Found 5 (record { source = 0; line = 2; column = 3; name = Some 0 }))
    ≡ Some (
      5,
      Some
          (record {
            source = Some (record { text = Some (codes "a"); content = Some (codes "1"); ignored = false });
            line = 2;
            column = 3;
            name = Some (codes "x");
          }),
    )
unfolding called map_of
reported_by_name = refl
