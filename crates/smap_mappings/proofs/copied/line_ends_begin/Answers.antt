use Rattle.std.proofs.Common.{sym, ◌∙◌, arith}
use Rattle.smap_mappings.proofs.CutEndLaws.{cut_further, cut_no_further}
use Rattle.smap_mappings.proofs.copied.line_ends_begin.Goals as goal

pub loop-end-preserved : goal.loop-end-preserved
loop-end-preserved c =
    let so_far = c.loop-end.invariant in
    record {
      inside = omega (arith, so_far.inside);
      cut =
          sym (cut_further c.args.bytes.now c.loop-end.end c.loop-end-test.true (omega (arith, so_far.inside, c.loop-end-test.true))
          c.if-bytes-end-eq59.true)
          ∙ so_far.cut;
    }

pub returns-else-bytes-end-eq59-clause-cut : goal.returns-else-bytes-end-eq59-clause-cut
returns-else-bytes-end-eq59-clause-cut c =
    let so_far = c.loop-end.invariant in
    sym (cut_no_further c.args.bytes.now c.loop-end.end c.loop-end-test.true (omega (arith, so_far.inside, c.loop-end-test.true))
    c.if-bytes-end-eq59.false)
    ∙ so_far.cut
