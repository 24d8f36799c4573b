-- Values under texts, in the order of their last use (this project's own): what was used last stands first.
use Rattle.std.specs.Prelude.{ℕ, List, [], ◌∷◌, Option, Some, None, if◌then◌else◌}
use Rattle.std.specs.Str.{bytes_eq}
use Rattle.smap_locations.specs.ByText.{value_under}

module _ {T : Type 0} where
  -- all but what is under a text
  abbrev pub without : (text : List ℕ) → List (List ℕ × T) → List (List ℕ × T)
  without text [] = []
  without text (e ∷ entries) = if bytes_eq text e.0 then entries else e ∷ without text entries

  -- what stands first, if it is under a text
  abbrev pub first_under : (text : List ℕ) → List (List ℕ × T) → Option T
  first_under text [] = None
  first_under text (e ∷ entries) = if bytes_eq text e.0 then Some e.1 else None

  -- what is under a text is moved to the front, if there is something
  abbrev pub in_front : (text : List ℕ) → Option T → List (List ℕ × T) → List (List ℕ × T)
  in_front text None entries = entries
  in_front text (Some value) entries = (text, value) ∷ without text entries

  abbrev pub used : (text : List ℕ) → List (List ℕ × T) → List (List ℕ × T)
  used text entries = in_front text (value_under text entries) entries
