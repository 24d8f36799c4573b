-- How a walk through a text goes on behind a word.
use Rattle.std.specs.Prelude.{◌≡◌, ℕ, ◌+◌, ◌*◌, ◌<◌, ◌≤◌, ◌++◌, Bool, List, length, nat_lt, option_to_list}
use Rattle.smap_record.specs.Record.{MapRecord}
use Rattle.smap_declarations.specs.Bodies.{end_from}
use Rattle.smap_declarations.specs.Declarations.{name_in, named_from}
use Rattle.smap_declarations.specs.Private.Open.{behind_brackets}
use Rattle.smap_declarations.specs.declared.walk.Before.{Before}
use Rattle.smap_declarations.specs.declared.walk.DeclarationPlace.{DeclarationPlace}

abbrev pub is_ascii : ℕ → Bool
is_ascii c = nat_lt c 0x80

-- between the two places stands no other declaration or property than the word at the first, and no bracket or brace; the second is not
-- further in line and column than bytes are passed
pub record IsPastWord (before : Before) (place : DeclarationPlace) (rest : List ℕ) (before' : Before) (place' : DeclarationPlace) (rest' : List ℕ) : Type 0 where
  pub names : (stated : MapRecord) → named_from stated before place rest ≡ option_to_list (name_in stated before place rest) ++ named_from stated before' place' rest'
  pub brackets : behind_brackets rest' ≡ behind_brackets rest
  pub ends : (depth : ℕ) → end_from depth place rest ≡ end_from depth place' rest'
  pub shorter : length rest' < length rest
  pub line : place'.line + length rest' ≤ place.line + length rest
  pub column : place'.column + 2 * length rest' ≤ place.column + 2 * length rest
