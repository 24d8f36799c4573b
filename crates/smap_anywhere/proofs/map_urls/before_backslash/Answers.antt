use Rattle.std.proofs.Common.{ap, take}
use Rattle.smap_anywhere.proofs.map_urls.before_backslash.Goals as goal

pub returns : goal.returns
returns c = ap (λ n. take n c.args.text.now) c.bytes_before_backslash.ensures.count
