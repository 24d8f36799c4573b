use Rattle.std.proofs.Common.{◌≡◌, ◌++◌, length, map}
use Rattle.std.specs.Prelude.{option_copied}
use Rattle.smap_text.specs.Lines.{lines_behind}
use Rattle.smap_fit.specs.Lines.{lines_in}
use Rattle.smap_fit.specs.Private.Texts.{line_text}
use Rattle.smap_fit.proofs.text_lines.TextLines.of.Given as goal

-- the lines that were cut and those that are left are all
abbrev pub invariant-loop-rest : goal.invariant-loop-rest
invariant-loop-rest l = map line_text l.lines.items ++ lines_behind (option_copied l.rest) ≡ lines_in l.fn.text

abbrev pub decreases-loop-rest : goal.decreases-loop-rest
decreases-loop-rest l = length (lines_behind (option_copied l.rest))
