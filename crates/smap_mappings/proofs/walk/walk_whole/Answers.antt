use Rattle.smap_mappings.proofs.CheckLaws.{walks_start}
use Rattle.smap_mappings.proofs.walk.walk_whole.Goals as goal

pub loop-first-init : goal.loop-first-init
loop-first-init c = walks_start c.args.bytes.now c.args.sources c.args.names
