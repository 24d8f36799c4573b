-- What texts begin with in common (this project's own).
use Rattle.std.specs.Prelude.{◌≡◌, ◌==◌, ◌++◌, ℕ, List, [], ◌∷◌, Option, Some, None, if◌then◌else◌}

-- what two texts both begin with
abbrev pub common_front : (one other : List ℕ) → List ℕ
common_front [] other = []
common_front (x ∷ one) [] = []
common_front (x ∷ one) (y ∷ other) = if x == y then x ∷ common_front one other else []

-- the same of a text and of what those before it all begin with, where there are any
abbrev pub common_with : (common : Option (List ℕ)) → (text : List ℕ) → List ℕ
common_with None text = text
common_with (Some common) text = common_front common text

abbrev pub common_after : (common : Option (List ℕ)) → (texts : List (List ℕ)) → Option (List ℕ)
common_after common [] = common
common_after common (text ∷ texts) = common_after (Some (common_with common text)) texts

-- what texts all begin with, where there is one at least
abbrev pub common_of : (texts : List (List ℕ)) → Option (List ℕ)
common_of texts = common_after None texts

-- a text begins with another
pub record IsFront (front text : List ℕ) : Type 0 where
  pub rest : List ℕ
  pub whole : text ≡ front ++ rest
