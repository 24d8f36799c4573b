use Rattle.std.proofs.Common.{◌≡◌, ◌<◌, ◌-◌, arith, ap, length, sym, ◌∙◌}
use Rattle.smap_pairs.specs.Chunks.{last_line_end, line_end_from}
use Rattle.smap_pairs.proofs.LineEndLaws.{next_begins, none_begins}
use Rattle.smap_pairs.proofs.chunk.last_line_end.Goals as goal

pub loop-at-init : goal.loop-at-init
loop-at-init c =
    let text = c.args.text.now in
    let none : 0 ≡ length text - length text = omega arith in
    record { same = ap (λ n. line_end_from 0 n 0 text) none; within = omega arith }

pub loop-at-preserved : goal.loop-at-preserved
loop-at-preserved c =
    let found = c.in-Some.ensures in
    let within : c.in-Some.at < length c.loop-at.rest.now = found.0.high in
    let first = c.split_at.ensures.back_len in
    let second = c.split_at-in-Some.ensures.back_len in
    let few = c.loop-at.invariant.within in
    record {
      same = next_begins c.args.text.now c.loop-at.rest.now c.split_at.result.1.now c.split_at-in-Some.result.1.now c.loop-at.last
          c.line_end_of-last.result c.in-Some.at c.escape_size.result c.escape_of-escape.result c.loop-at.invariant.same few within
          (λ i before. found.0.before i (omega arith) before) c.split_at.ensures.back c.escape_of-escape.ensures.escape c.escape_size.ensures.size
          c.escape_size.ensures.some c.escape_size.ensures.within c.line_end_of-last.ensures c.split_at-in-Some.ensures.back;
      within = omega (arith, first, second, few);
    }

pub returns : goal.returns
unfolding last_line_end
returns c =
    let text = c.args.text.now in
    let rest = c.loop-at.rest.now in
    sym (c.loop-at.invariant.same ∙ none_begins c.loop-at.last (length text - length rest) rest (λ i within. c.in_default.ensures i (omega arith) within))
