-- A text that comes without the control sequences of a terminal (this project's own).
use Rattle.std.specs.Prelude.{ℕ, List, [], ◌++◌, Option, None, Some}
use Rattle.smap_io.specs.Sequences.{kept}
use Rattle.smap_piecewise.specs.declared.stripping.Stripping.{Stripping}

-- what is still to be handed on of a text, if these bytes come behind those that were given
abbrev pub text_behind : Option Stripping → (later : List ℕ) → List ℕ
text_behind None later = later
text_behind (Some now) later = kept (now.held ++ later) 0 now.most

-- what is of it already
abbrev pub held_of : Option Stripping → List ℕ
held_of None = []
held_of (Some now) = now.held
