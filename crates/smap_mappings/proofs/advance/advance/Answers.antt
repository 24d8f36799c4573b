use Rattle.std.proofs.Common.{ap, sym, ◌∙◌}
use Rattle.smap_mappings.specs.State.{values_in}
use Rattle.smap_mappings.specs.Private.Advance.{sums_fault}
use Rattle.smap_mappings.proofs.ValueFaultLaws.{sums_in_range}
use Rattle.smap_mappings.proofs.advance.advance.Goals as goal

pub cursor-requires : goal.cursor-requires
cursor-requires c = sums_in_range c.args.sources c.args.names c.args.segment.now (values_in c.sums_after-sums.result) (sym c.in-None.ensures)

pub returns-in-None-clause-ok : goal.returns-in-None-clause-ok
returns-in-None-clause-ok c = record {
  place = c.cursor.ensures.at.1;
  line = c.cursor.ensures.at.0;
  values = c.cursor.ensures.values ∙ c.sums_after-sums.ensures;
  allowed = ap (sums_fault c.args.sources c.args.names c.args.segment.now) c.cursor.ensures.values ∙ sym c.in-None.ensures;
}
