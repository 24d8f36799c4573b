-- Values, each under a text (this project's own).
use Rattle.std.specs.Prelude.{◌≡◌, ℕ, List, [], ◌∷◌, ◌++◌, Option, Some, None, if◌then◌else◌, map}
use Rattle.std.specs.Str.{bytes_eq}

-- the value under a text, where there is one
abbrev pub value_under : {T : Type 0} → (text : List ℕ) → List (List ℕ × T) → Option T
value_under text [] = None
value_under text ((there, value) ∷ pairs) = if bytes_eq text there then Some value else value_under text pairs

-- one value more, among those that there were, which stay in their order
pub record IsWith {T : Type 0} (old : List (List ℕ × T)) (text : List ℕ) (value : T) (new : List (List ℕ × T)) : Type 0 where
  pub before : List (List ℕ × T)
  pub after : List (List ℕ × T)
  pub old_is : old ≡ before ++ after
  pub new_is : new ≡ before ++ (text, value) ∷ after

-- each value as it is seen
abbrev pub all_seen : {T U : Type 0} → (see : T → U) → List (List ℕ × T) → List (List ℕ × U)
all_seen see pairs = map (λ e. (e.0, see e.1)) pairs
