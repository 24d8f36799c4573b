-- What is handed out for the debug id of a map.
use Rattle.std.specs.Prelude.{◌≡◌, ℕ, List, Option, None, Some}

-- the bytes of the debug id, and 1; or nothing and 0, where there is none
abbrev pub IsIdHandedOut : Option (List ℕ) → (before after : Option (List ℕ)) → (has_id : ℕ) → Type 0
IsIdHandedOut None before after has_id = (after ≡ before) × (has_id ≡ 0)
IsIdHandedOut (Some id) before after has_id = (after ≡ Some id) × (has_id ≡ 1)
