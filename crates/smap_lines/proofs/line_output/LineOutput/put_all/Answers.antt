use Rattle.std.proofs.lemmas.Result.{err_from_is_err_and}
use Rattle.smap_lines.proofs.PieceLaws.{next_fails, next_put}
use Rattle.smap_lines.proofs.line_output.LineOutput.put_all.Goals as goal

pub returns-in_err-put : goal.returns-in_err-put
returns-in_err-put g c =
    let p = err_from_is_err_and c.from_residual.result c.from_residual.ensures.1 in
    rw p.1 (next_fails c.args.pieces.now c.loop-piece.piece-index _ c.loop-piece-test.true c.loop-piece.invariant c.in_err-put.ensures)

pub loop-piece-preserved : goal.loop-piece-preserved
loop-piece-preserved g c = next_put c.args.pieces.now c.loop-piece.piece-index _ c.loop-piece-test.true c.loop-piece.invariant c.in_ok-put.ensures
