use Rattle.std.proofs.Common.{sym}
use Rattle.std.specs.Prelude.{option_copied}
use Rattle.std.specs.Str.{chars}
use Rattle.smap_text.specs.Lines.{lines_behind}
use Rattle.smap_text.proofs.RestLaws.{line_of_end}
use Rattle.smap_text.proofs.lines.line_at.Goals as goal

pub returns-clause-text : goal.returns-clause-text
returns-clause-text c =
    sym (line_of_end c.args.content.now c.args.line c.in_ok-rest.rest.now (chars c.split_line.result.0.now)
    (lines_behind (option_copied c.split_line.result.1)) c.in_ok-rest.ensures c.split_line.ensures.lines)
