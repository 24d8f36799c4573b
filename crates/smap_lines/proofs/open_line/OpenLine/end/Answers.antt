use Rattle.std.proofs.Common.{◌∷◌, sym, []}
use Rattle.std.proofs.lemmas.Result.{err_from_is_err_and}
use Rattle.smap_lines.specs.Laws.Put.{fails_first, fails_second, puts_both}
use Rattle.smap_lines.proofs.OpenLaws.{after_passing, ended_passing}
use Rattle.smap_lines.proofs.open_line.OpenLine.end.Goals as goal

pub returns-in_err-pass-clause-put : goal.returns-in_err-pass-clause-put
returns-in_err-pass-clause-put g c =
    let p = err_from_is_err_and c.from_residual.result c.from_residual.ensures.1 in
    let is = ended_passing (g.E.LineEditor.Becomes c.args.editor.now) c.args.self.now c.args.bytes.now (sym c.if-not-fits.ensures.fits) in
    rw p.1 (_, is, fails_first (10 ∷ []) c.in_err-pass.ensures.put)

pub returns-in_err-put-clause-put : goal.returns-in_err-put-clause-put
returns-in_err-put-clause-put g c =
    let p = err_from_is_err_and c.from_residual-in_err-put.result c.from_residual-in_err-put.ensures.1 in
    let is = ended_passing (g.E.LineEditor.Becomes c.args.editor.now) c.args.self.now c.args.bytes.now (sym c.if-not-fits.ensures.fits) in
    rw p.1 (_, is, fails_second c.in_ok-pass.ensures.put c.in_err-put.ensures)

pub returns-then-not-fits-clause-put : goal.returns-then-not-fits-clause-put
returns-then-not-fits-clause-put g c =
    let is = after_passing g.E.LineEditor.Steps c.args.editor.now c.args.self.now c.args.bytes.now (sym c.if-not-fits.ensures.fits) in
    (_, is, puts_both c.in_ok-pass.ensures.put c.in_ok-put.ensures)
