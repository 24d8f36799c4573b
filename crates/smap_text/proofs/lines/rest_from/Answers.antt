use Rattle.std.proofs.Common.{ap, rules}
use Rattle.std.specs.Prelude.{option_copied}
use Rattle.std.specs.Str.{chars}
use Rattle.smap_text.specs.Lines.{lines_behind}
use Rattle.smap_text.proofs.RestLaws.{ends_next, ends_there, ends_whole}
use Rattle.smap_text.proofs.lines.rest_from.Goals as goal

pub loop-passed-init : goal.loop-passed-init
loop-passed-init c = (search rules, ends_whole c.args.text.now c.utf8.text)

pub returns-in_err-rest : goal.returns-in_err-rest
returns-in_err-rest c =
    rw c.from_residual.ensures
    (ends_there c.args.text.now c.loop-passed._passed c.args.line c.loop-passed.rest.now (chars c.split_line.result.0.now)
    (lines_behind (option_copied c.split_line.result.1)) c.loop-passed.invariant.1 c.split_line.ensures.lines
    (ap (λ o. lines_behind (option_copied o)) c.in_err-rest.was) c.loop-passed-test.true)

pub loop-passed-preserved : goal.loop-passed-preserved
loop-passed-preserved c = (
  search rules,
  ends_next c.args.text.now c.loop-passed._passed c.loop-passed.rest.now c.in_ok-rest.rest.now (chars c.split_line.result.0.now)
      (lines_behind (option_copied c.split_line.result.1)) c.utf8.text c.loop-passed.invariant.1 c.split_line.ensures.lines
      (ap (λ o. lines_behind (option_copied o)) c.in_ok-rest.was) (rw c.in_ok-rest.was at c.split_line.ensures.rest)
      (rw c.in_ok-rest.was at c.split_line.ensures.begins),
)
