-- A checked text with its checkpoints.
use Rattle.std.specs.Prelude.{◌≡◌, ℕ, List, [], ◌∷◌, Option, IfSome}
use Rattle.smap_index.specs.Marks.{AreCheckpointsOf}
use Rattle.smap_index.specs.Parts.{whole_text}
use Rattle.smap_index.specs.declared.checkpoint.Checkpoint.{Checkpoint}
use Rattle.smap_index.specs.declared.part.Part.{Part}

-- the checkpoints of a text at an interval, or none, where there was no room for them
pub record MarksContents : Type 0 where
  pub k : ℕ
  pub checkpoints : Option (List Checkpoint)

-- a text with its checkpoints
pub record MarkedContents : Type 0 where
  pub text : List ℕ
  pub marks : MarksContents

-- these parts are one text, which begins at the start, and the table has the checkpoints of an index of them at its interval
pub record AreMarksOf (parts : List Part) (marks : MarksContents) : Type 0 where
  pub text : List ℕ
  pub only : parts ≡ whole_text text ∷ []
  pub checkpoints : IfSome marks.checkpoints (AreCheckpointsOf parts marks.k)
