-- What a rewriting comes to (this project's own).
use Rattle.std.specs.Prelude.{ℕ, ◌+◌, List, ◌++◌}

-- a text, and what is counted of it
pub record Outcome : Type 0 where
  pub text : List ℕ
  pub lines : ℕ
  pub frames : ℕ
  pub mapped : ℕ
  pub hidden : ℕ

-- one behind another
abbrev pub both : (first rest : Outcome) → Outcome
both first rest = record {
  text = first.text ++ rest.text;
  lines = first.lines + rest.lines;
  frames = first.frames + rest.frames;
  mapped = first.mapped + rest.mapped;
  hidden = first.hidden + rest.hidden;
}

-- a text that is counted with what stands before it
abbrev pub text_alone : List ℕ → Outcome
text_alone text = record { text = text; lines = 0; frames = 0; mapped = 0; hidden = 0 }
