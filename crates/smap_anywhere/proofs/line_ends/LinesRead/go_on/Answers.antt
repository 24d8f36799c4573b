use Rattle.std.proofs.Common.{arith}
use Rattle.smap_anywhere.proofs.CountLaws.{ends_both}
use Rattle.smap_anywhere.proofs.line_ends.LinesRead.go_on.Goals as goal

pub returns : goal.returns
returns c text is = record {
  ended = omega (arith, is.ended, ends_both text c.args.bytes.now, c.count_ends.ensures.count);
  is_open = c.is_open_behind-self.ensures text is.is_open;
}
