use Rattle.std.proofs.Common.{◌≡◌, ap, ◌∙◌}
use Rattle.std.proofs.lemmas.Result.{err_from_is_err_and}
use Rattle.smap_lines.specs.Laws.Put.{fails_first, put_then}
use Rattle.smap_lines.proofs.open_line.OpenLine.pass.Goals as goal

pub returns-in_err-put-clause-put : goal.returns-in_err-put-clause-put
returns-in_err-put-clause-put g c =
    let p = err_from_is_err_and c.from_residual.result c.from_residual.ensures.1 in
    let kept : c.deref.result.now ≡ c.args.self.now.kept = c.deref.ensures.value ∙ ap (λ s. s.kept) c.self.view_is in
    rw p.1 (fails_first c.args.bytes.now (rw kept at c.in_err-put.ensures))

pub returns-clause-put : goal.returns-clause-put
returns-clause-put g c =
    let kept : c.deref.result.now ≡ c.args.self.now.kept = c.deref.ensures.value ∙ ap (λ s. s.kept) c.self.view_is in
    put_then (rw kept at c.in_ok-put.ensures) _ _ c.put-2.result c.put-2.ensures
