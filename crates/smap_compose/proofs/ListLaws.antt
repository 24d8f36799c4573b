-- A list that is copied to the end of another.
use Rattle.std.proofs.Common.{◌≡◌, ℕ, ◌+◌, List, [], ◌∷◌, ◌++◌, take, map, Some, sym, ap, ◌∙◌}
use Rattle.std.specs.List.{slice_get}
use Rattle.std.proofs.lemmas.List.{append_assoc, map-append}
use Rattle.smap_mappings.specs.Laws.Lists.{take_next}

-- the next of xs after those that were copied
pub copied_next : {X : Type 0} (before xs copied : List X) (i : ℕ) (x : X) → copied ≡ before ++ take i xs → slice_get xs i ≡ Some x
    → copied ++ x ∷ [] ≡ before ++ take (i + 1) xs
copied_next before xs copied i x so_far there =
    ap (λ l. l ++ x ∷ []) so_far ∙ append_assoc before (take i xs) (x ∷ []) ∙ ap (λ l. before ++ l) (sym (take_next xs i x there))

-- the same where each is changed as it is copied
pub mapped_next : {X : Type 0} (f : X → X) (before xs copied : List X) (i : ℕ) (x : X) → copied ≡ before ++ map f (take i xs)
    → slice_get xs i ≡ Some x → copied ++ f x ∷ [] ≡ before ++ map f (take (i + 1) xs)
mapped_next f before xs copied i x so_far there =
    ap (λ l. l ++ f x ∷ []) so_far ∙ append_assoc before (map f (take i xs)) (f x ∷ [])
    ∙ ap (λ l. before ++ l) (sym (map-append f (take i xs) (x ∷ [])) ∙ ap (map f) (sym (take_next xs i x there)))
