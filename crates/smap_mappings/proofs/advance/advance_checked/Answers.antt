use Rattle.std.proofs.Common.{ap, ◌∙◌}
use Rattle.smap_mappings.specs.Limits.{most_indices}
use Rattle.smap_mappings.specs.State.{values_in}
use Rattle.smap_mappings.specs.Private.Advance.{sums_fault}
use Rattle.smap_mappings.proofs.ValueFaultLaws.{sums_in_range}
use Rattle.smap_mappings.proofs.advance.advance_checked.Goals as goal

pub cursor-requires : goal.cursor-requires
cursor-requires c =
    sums_in_range most_indices most_indices c.args.segment.now (values_in c.sums_after.result)
    (ap (sums_fault most_indices most_indices c.args.segment.now) c.sums_after.ensures ∙ c.requires)

pub returns : goal.returns
returns c =
    let same = c.cursor.ensures.values ∙ c.sums_after.ensures in
    record {
      place = c.cursor.ensures.at.1;
      line = c.cursor.ensures.at.0;
      values = same;
      allowed = ap (sums_fault most_indices most_indices c.args.segment.now) same ∙ c.requires;
    }
