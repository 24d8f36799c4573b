-- A text that is another but for names in it.
use Rattle.std.specs.Prelude.{◌≡◌, ◌⊎◌, ℕ, true, IfSome, List, Option}
use Rattle.std.specs.List.{All, flat_map}
use Rattle.smap_declarations.specs.Frames.{is_name}
use Rattle.smap_trace.specs.FunctionNames.{FunctionNames, written_name}

-- a piece of a text, and what stands there in the other
pub record Piece : Type 0 where
  pub own : List ℕ
  pub put : List ℕ

-- it stays, or is a name, and another name stands there
abbrev pub StaysOrIsName : Piece → Type 0
StaysOrIsName piece = (piece.put ≡ piece.own) ⊎ ((is_name piece.own ≡ true) × (is_name piece.put ≡ true))

-- both are joined of such pieces
pub record IsRenamed (text other : List ℕ) : Type 0 where
  pub pieces : List Piece
  pub own_is : text ≡ flat_map (λ (piece : Piece). piece.own) pieces
  pub put_is : other ≡ flat_map (λ (piece : Piece). piece.put) pieces
  pub each : All StaysOrIsName pieces

-- what is known to be written for functions are names
abbrev pub AreNames : (names : List ℕ → Option FunctionNames) → Type 0
AreNames names = (url function : List ℕ) (line column : ℕ) → IfSome (written_name (names url) function line column) (λ name. is_name name ≡ true)
