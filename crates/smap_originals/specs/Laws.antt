-- What the directions have to do with each other.
use Rattle.std.specs.Prelude.{◌≡◌, ℕ, List, ◌∷◌, ◌++◌, Bool, false, ◌&&◌, ◌==◌}
use Rattle.std.specs.List.{list_any}
use Rattle.smap_mappings.specs.declared.mapping.Mapping.{Mapping}
use Rattle.smap_index.specs.declared.answer.Answer.{Answer}
use Rattle.smap_index.specs.declared.answer.Answer.TheVariants.{Nothing, Unmapped, Found}

-- the other mapping stands at the same generated place
abbrev pub is_at_place_of : Mapping → Mapping → Bool
is_at_place_of mapping other = other.line == mapping.line && other.column == mapping.column

-- the mapping is in the list, and none behind it stands at its generated place
pub record IsLastAtItsPlace (list : List Mapping) (mapping : Mapping) : Type 0 where
  pub front : List Mapping
  pub back : List Mapping
  pub list_is : list ≡ front ++ mapping ∷ back
  pub none_behind : list_any (is_at_place_of mapping) back ≡ false

-- the answer is an original on this line of this source
abbrev pub AnswersOn : (source line : ℕ) → Answer → Type 0
AnswersOn source line Nothing = ⊥
AnswersOn source line (Unmapped column) = ⊥
AnswersOn source line (Found column origin) = (origin.source ≡ source) × (origin.line ≡ line)
