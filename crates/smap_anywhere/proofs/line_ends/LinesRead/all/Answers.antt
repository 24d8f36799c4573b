use Rattle.std.proofs.Common.{ℕ, ap, arith, cond, ◌∙◌}
use Rattle.smap_anywhere.proofs.CountLaws.{byte_is, lines_counted}
use Rattle.smap_anywhere.proofs.line_ends.LinesRead.all.Goals as goal

pub returns : goal.returns
returns c text is =
    omega (arith, is.ended, lines_counted text, c.from.ensures ∙ byte_is c.args.self.now.is_open ∙ ap {B = ℕ} (λ b. cond b 1 0) is.is_open)
