use Rattle.std.proofs.Common.{◌∙◌}
use Rattle.smap_index.proofs.IndexLaws.{as_many, bounded, bounded_on_lines}
use Rattle.smap_index.proofs.index.Index.checkpoints.Goals as goal

pub returns-clause-count : goal.returns-clause-count
returns-clause-count c = c.len.ensures ∙ as_many _ c.self.invariant _ c.self.view_is

pub returns-clause-bound : goal.returns-clause-bound
returns-clause-bound c = bounded _ c.self.invariant _ c.self.view_is _ c.len.ensures

pub returns-clause-on_each_line : goal.returns-clause-on_each_line
returns-clause-on_each_line c = bounded_on_lines _ c.self.invariant _ c.self.view_is
