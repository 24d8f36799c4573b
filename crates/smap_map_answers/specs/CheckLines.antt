-- The lines that are printed of a map that is accepted.
use Rattle.std.specs.Prelude.{ℕ, codes, List, [], ◌∷◌}
use Rattle.smap_command.specs.Lines.{line_from}
use Rattle.smap_text.specs.Shown.{shown}
use Rattle.smap_verdicts.specs.Counts.{counts_text}
use Rattle.smap_verdicts.specs.declared.counts.MapCounts.{MapCounts}

-- that a map is accepted, and how much it holds
abbrev pub counts_line : MapCounts → List ℕ
counts_line counts = line_from (counts_text counts ∷ [])

-- the same of the map at a path
abbrev pub map_counts_line : (path : List ℕ) → MapCounts → List ℕ
map_counts_line path counts = line_from (shown path ∷ codes ": " ∷ counts_text counts ∷ [])
