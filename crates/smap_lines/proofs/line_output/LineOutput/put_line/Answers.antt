use Rattle.std.proofs.lemmas.Result.{err_from_is_err_and}
use Rattle.smap_lines.specs.Lines.{end_in}
use Rattle.smap_lines.specs.Laws.Put.{fails_first, put_then}
use Rattle.smap_lines.proofs.line_output.LineOutput.put_line.Goals as goal

pub returns-in_err-put : goal.returns-in_err-put
returns-in_err-put g c =
    let p = err_from_is_err_and c.from_residual.result c.from_residual.ensures.1 in
    rw p.1 (fails_first (end_in c.args.is_ended) c.in_err-put.ensures)

pub returns : goal.returns
returns g c = rw (← c.end_of_line.ensures) (put_then c.in_ok-put.ensures _ _ c.put-2.result c.put-2.ensures)
