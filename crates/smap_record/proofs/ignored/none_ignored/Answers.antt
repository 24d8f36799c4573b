use Rattle.std.proofs.Common.{◌∙◌}
use Rattle.smap_record.proofs.IgnoredLaws.{no_flag}
use Rattle.smap_record.proofs.ignored.none_ignored.Goals as goal

pub returns : goal.returns
returns c = c.in_ok-vec.ensures.items_if_clones_equal (λ y is. is) ∙ no_flag c.args.sources
