use Rattle.std.proofs.Common.{arith}
use Rattle.smap_mappings.proofs.CheckLaws.{all_after}
use Rattle.smap_mappings.proofs.next.next_segment.Goals as goal

pub returns-then-at-bytes-clause-none : goal.returns-then-at-bytes-clause-none
returns-then-at-bytes-clause-none c j after =
    all_after c.args.bytes.now j c.skip_separators-at.result (c.skip_separators-at.ensures.after j after) (omega arith)
