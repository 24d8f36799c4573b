-- The brackets of a text, by what stands behind the end of each.
use Rattle.std.specs.Prelude.{ℕ, List, [], ◌∷◌, ◌==◌, if◌then◌else◌}
use Rattle.smap_declarations.specs.Brackets.{behind_bracket, behind_end}
use Rattle.smap_declarations.specs.declared.brackets.Behind.{Behind}
use Rattle.smap_declarations.specs.declared.brackets.Behind.TheVariants.{Other}

abbrev pub first_or_other : List Behind → Behind
first_or_other [] = Other
first_or_other (b ∷ bs) = b

abbrev pub others : List Behind → List Behind
others [] = []
others (b ∷ bs) = bs

-- what stands behind each end whose bracket begins before this text
unfoldable pub behind_ends : List ℕ → List Behind
behind_ends [] = []
behind_ends (c ∷ text) = if c == 0x29 then behind_end text ∷ behind_ends text else (if c == 0x28 then others (behind_ends text) else behind_ends text)

-- what stands behind the end of each bracket of this text
unfoldable pub behind_brackets : List ℕ → List Behind
behind_brackets [] = []
behind_brackets (c ∷ text) = if c == 0x28 then behind_bracket 0 text ∷ behind_brackets text else behind_brackets text

-- what stands behind the end of the first
abbrev pub behind_next : List ℕ → Behind
behind_next text = first_or_other (behind_brackets text)
