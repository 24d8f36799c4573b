use Rattle.std.proofs.lemmas.Result.{err_from_is_err_and, on_err_weaker, on_ok_weaker}
use Rattle.smap_lines.proofs.TakingLaws.{all_after, front_after, front_of_more}
use Rattle.smap_lines.proofs.gathered.Gathered.put_anew.Goals as goal

pub returns-in_err-write-clause-front : goal.returns-in_err-write-clause-front
returns-in_err-write-clause-front g c =
    let p = err_from_is_err_and c.from_residual.result c.from_residual.ensures.1 in
    rw p.1 (front_of_more _ _ _ _ c.in_err-write.ensures.front)

pub returns-then-bytes-gt-MOST_GATHERED-clause-put : goal.returns-then-bytes-gt-MOST_GATHERED-clause-put
returns-then-bytes-gt-MOST_GATHERED-clause-put g c =
    on_ok_weaker c.write_all.result
    (λ took. rw c.in_ok-write.ensures.none (all_after _ _ _ _ _ c.in_ok-write.ensures.written took)) c.write_all.ensures.whole

pub returns-then-bytes-gt-MOST_GATHERED-clause-front : goal.returns-then-bytes-gt-MOST_GATHERED-clause-front
returns-then-bytes-gt-MOST_GATHERED-clause-front g c =
    on_err_weaker c.write_all.result (λ took. front_after _ _ _ _ _ c.in_ok-write.ensures.written took) c.write_all.ensures.front
