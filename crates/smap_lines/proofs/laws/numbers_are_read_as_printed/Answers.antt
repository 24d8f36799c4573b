use Rattle.std.proofs.Common.{ap, ◌∙◌}
use Rattle.smap_lines.specs.Numbers.{decimal_number}
use Rattle.smap_lines.specs.Laws.Number.{number_is, number_reads}
use Rattle.smap_lines.proofs.laws.numbers_are_read_as_printed.Goals as goal

pub returns : goal.returns
returns c text n = (number_is text n, λ printed. ap decimal_number printed.0 ∙ number_reads n printed.1)
