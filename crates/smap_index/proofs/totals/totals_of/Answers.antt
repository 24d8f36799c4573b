use Rattle.std.proofs.Common.{length, take, ap, ◌∙◌, arith}
use Rattle.std.proofs.lemmas.List.{length-append}
use Rattle.smap_index.specs.Parts.{joined, placed}
use Rattle.smap_index.proofs.PartLaws.{joined_next, used_lines_next, bytes_next, few_used_lines}
use Rattle.smap_index.proofs.WalkLaws.{length-placed}
use Rattle.smap_index.proofs.totals.totals_of.Goals as goal

pub overflow_add-totals-in-loop-part : goal.overflow_add-totals-in-loop-part
overflow_add-totals-in-loop-part c = omega (
  arith,
  c.loop-part.invariant.few,
  c.loop-part.invariant.short,
  c.loop-part.invariant.lines,
  few_used_lines c.part-item.result.text,
  c.used_lines.ensures,
  c.segments.ensures.count,
  c.segments.ensures.bound,
  c.start-start.ensures.packed.short,
)

pub loop-part-preserved : goal.loop-part-preserved
loop-part-preserved c =
    let parts = c.args.parts.now in
    let i = c.loop-part.part-index in
    let part = c.part-item.result in
    let counted = length-placed part in
    let lines = few_used_lines part.text in
    let joined = ap length (joined_next parts i part (omega arith) c.part-item.is) ∙ length-append (joined (take i parts)) (placed part) in
    let used = used_lines_next parts i part (omega arith) c.part-item.is in
    let bytes = bytes_next parts i part (omega arith) c.part-item.is in
    record {
      segments = omega (arith, joined, counted, c.loop-part.invariant.segments, c.segments.ensures.count);
      used_lines = omega (arith, used, c.loop-part.invariant.used_lines, c.used_lines.ensures);
      few = omega (arith, bytes, c.loop-part.invariant.few, c.segments.ensures.bound);
      short = omega (arith, bytes, c.loop-part.invariant.short, c.start-start.ensures.packed.short);
      lines = omega (arith, lines, c.loop-part.invariant.lines, c.used_lines.ensures, c.segments.ensures.count);
    }
