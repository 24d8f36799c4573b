use Rattle.std.proofs.Common.{rules}
use Rattle.smap_replies.proofs.ShownLaws.{shown_argument}
use Rattle.smap_replies.proofs.lines.shown_argument.Goals as goal

pub returns : goal.returns
returns c = rw (shown_argument c.args.url.now c.args.path.now) (search rules)
