use Rattle.std.proofs.Common.{Some, ap, refl}
use Rattle.std.specs.Prelude.{Err, Ok}
use Rattle.std.proofs.lemmas.Result.{err_from_is_err_and}
use Rattle.smap_c.specs.Private.Rewriting.{EndsRewriting}
use Rattle.smap_c.proofs.TableLaws.{frames_are, frames_front, if_read, rewrites_table}
use Rattle.smap_c.proofs.rewriting.rewrite_frames.Goals as goal

pub returns : goal.returns
returns g c =
    let options = c.args.options.now in
    let written = c.rewrite_over.new.output.bytes.items in
    let counts = c.in_ok-counts.counts in
    let over = rw (c.of_frames-by_frames.ensures, c.only_ignored-hiding.ensures) at c.in_ok-counts.ensures.ends.whole in
    if_read _ (λ read. EndsRewriting options c.args.table.now read written (Ok counts.summary)) (λ read at_first.
    frames_are options c.args.table.now read written _ _ at_first (ap Some c.requires.empty.0) refl counts c.requires.frames
    (rewrites_table c.args.table.now options.cut options.hide_ignored _ _ _ _ counts _ (refl, refl) over))

pub returns-in_err-counts : goal.returns-in_err-counts
returns-in_err-counts g c =
    let options = c.args.options.now in
    let written = c.rewrite_over.new.output.bytes.items in
    let asked = c.of_frames-by_frames.ensures in
    let front = rw (ap (λ a. a.hide) asked, ap (λ a. a.most) asked, c.only_ignored-hiding.ensures) at c.in_err-counts.ensures.ends.front in
    let p = err_from_is_err_and c.from_residual.result c.from_residual.ensures.1 in
    rw (p.1, p.2) (if_read _ (λ read. EndsRewriting options c.args.table.now read written (Err _)) (λ read at_first.
    frames_front options c.args.table.now read written _ _ at_first (ap Some c.requires.empty.0) refl _ c.requires.frames front))
