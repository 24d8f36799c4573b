use Rattle.std.proofs.Common.{sym}
use Rattle.smap_index.proofs.WholeTextLaws.{text_checkpoint}
use Rattle.smap_index.proofs.checkpoint.Checkpoint.of_text.Goals as goal

pub returns : goal.returns
returns c = sym (text_checkpoint c.args.kind c.args.after)
