-- The checkpoints that are made when a text is checked.
use Rattle.std.specs.Prelude.{◌≡◌, ℕ, List, Option, Some}
use Rattle.smap_index.specs.Marked.{AreMarksOf, MarksContents}
use Rattle.smap_index.specs.declared.part.Part.{Part}

-- these are the checkpoints of the parts, which are one text, at the interval that is given for them
abbrev pub AreMarksAt : Option ℕ → List Part → MarksContents → Type 0
AreMarksAt interval parts marks = (interval ≡ Some marks.k) × AreMarksOf parts marks
