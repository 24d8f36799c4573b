-- A text as its readers see it: pieces and control sequences (ECMA-48) by turns.
use Rattle.std.specs.Prelude.{◌≡◌, ◌≤◌, ℕ, true, List, [], ◌∷◌, ◌++◌, length}
use Rattle.std.specs.List.{list_all}
use Rattle.smap_io.specs.Sequences.{is_final_byte, is_intermediate_byte, is_parameter_byte, most_sequence_bytes}

-- the bytes are a sequence, all of them
pub record IsSequence (bytes : List ℕ) : Type 0 where
  pub parameters : List ℕ
  pub intermediates : List ℕ
  pub final : ℕ
  pub joined : bytes ≡ 27 ∷ 91 ∷ (parameters ++ (intermediates ++ final ∷ []))
  pub each_parameter : list_all is_parameter_byte parameters ≡ true
  pub each_intermediate : list_all is_intermediate_byte intermediates ≡ true
  pub ended : is_final_byte final ≡ true
  pub few : length bytes ≤ most_sequence_bytes

-- no part of them is one
abbrev pub HasNone : List ℕ → Type 0
HasNone piece = (before sequence after : List ℕ) → piece ≡ before ++ (sequence ++ after) → IsSequence sequence → ⊥

-- a piece, and the sequence behind it
pub record Turn : Type 0 where
  pub piece : List ℕ
  pub sequence : List ℕ

-- the pieces have none, and behind each but the last stands one
abbrev pub AreTurns : List Turn → (last : List ℕ) → Type 0
AreTurns [] last = HasNone last
AreTurns (turn ∷ turns) last = HasNone turn.piece × IsSequence turn.sequence × AreTurns turns last

-- the text
abbrev pub turns_text : List Turn → (last : List ℕ) → List ℕ
turns_text [] last = last
turns_text (turn ∷ turns) last = turn.piece ++ (turn.sequence ++ turns_text turns last)

-- its pieces
abbrev pub pieces_text : List Turn → (last : List ℕ) → List ℕ
pieces_text [] last = last
pieces_text (turn ∷ turns) last = turn.piece ++ pieces_text turns last
