use Rattle.std.proofs.Common.{ap, refl}
use Rattle.std.proofs.lemmas.Result.{err_from_is_err_and}
use Rattle.smap_lines.specs.Laws.RunEnds.{ends_done, ends_failed}
use Rattle.smap_trace.proofs.CountLaws.{front_one, rewrites_one}
use Rattle.smap_trace.proofs.rewriting.rewrite.Goals as goal

pub returns : goal.returns
returns g c =
    let ends = c.in_ok-counts.ensures.ends in
    record {
      ends = ends_done ends (rewrites_one c.args.table.now c.args.hide_ignored _ _ _ _ c.in_ok-counts.counts _ refl
          (rw (c.of_frames-options.ensures, c.only_ignored.ensures) at ends.whole));
    }

pub returns-in_err-counts : goal.returns-in_err-counts
returns-in_err-counts g c =
    let ends = c.in_err-counts.ensures.ends in
    let p = err_from_is_err_and c.from_residual.result c.from_residual.ensures.1 in
    let asked = c.of_frames-options.ensures in
    rw (p.1, p.2) (record {
      ends = ends_failed ends (front_one c.args.table.now c.args.hide_ignored _ _ _
          (rw (ap (λ a. a.hide) asked, ap (λ a. a.most) asked, c.only_ignored.ensures) at ends.front));
    })
