-- Which URLs are said to stand in a text: not that of one argument, where there are none or several.
use Rattle.std.specs.Prelude.{◌≡◌, ◌≤◌, ◌<◌, ℕ, List, [], ◌∷◌, codes, length, map, refl}
use Rattle.std.proofs.Common.{arith}
use Rattle.smap_text_answers.specs.NothingLine.{mentioned_text}

pub of_none : {A : Type 0} (f : A → List ℕ × List ℕ) (arguments : List A) → length arguments < 1
    → mentioned_text (map f arguments) ≡ codes "the URLs of the arguments stand here "
of_none f [] few = refl
of_none f (argument ∷ arguments) few = absurd (omega (arith, few))

pub of_several : {A : Type 0} (f : A → List ℕ × List ℕ) (arguments : List A) → 2 ≤ length arguments
    → mentioned_text (map f arguments) ≡ codes "the URLs of the arguments stand here "
of_several f [] many = absurd (omega (arith, many))
of_several f (argument ∷ []) many = absurd (omega (arith, many))
of_several f (argument ∷ other ∷ arguments) many = refl
