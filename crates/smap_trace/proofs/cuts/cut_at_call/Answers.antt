use Rattle.std.proofs.Common.{◌≡◌, ◌+◌, ◌-◌, ◌<◌, Some, ap, arith, get_or, length, length-drop, sym, take, ◌∙◌}
use Rattle.std.proofs.lemmas.Bool.{eqb-true, ne_eqb}
use Rattle.std.proofs.lemmas.List.{get_or-drop, take_rest}
use Rattle.smap_trace.proofs.CutLaws.{call_further, call_here, call_nowhere, call_passed}
use Rattle.smap_trace.proofs.cuts.cut_at_call.Goals as goal
use Rattle.smap_trace.proofs.cuts.cut_at_call.Goals.{else-place-gt0-via-then-place-gt0+else-text-place-eq32, else-place-gt0-via-else-place-gt0}

pub returns-then-text-place-eq32 : goal.returns-then-text-place-eq32
returns-then-text-place-eq32 c =
    let text = c.args.text.now in
    let from = c.loop-further.place in
    let further = c.in-Some.further in
    let found = rw (take_rest text from) at c.in-Some.ensures in
    let within : from + further < length text = omega (arith, found.0.high, length-drop from text) in
    let opening : get_or text (from + further) 0 ≡ 40 = sym (get_or-drop from text further 0) ∙ eqb-true _ 40 found.1 in
    ap (λ l. Some (take (from + further - 1) text, l)) (take_rest text (from + further + 1))
    ∙ sym (call_here text (from + further) c.if-place-gt0.true within
    (call_further text from further c.loop-further.invariant.none (λ i below. found.0.before i (omega arith) below)) c.if-text-place-eq32.true opening)

pub loop-further-preserved : goal.loop-further-preserved
loop-further-preserved c =
    let text = c.args.text.now in
    let from = c.loop-further.place in
    let further = c.in-Some.further in
    let found = rw (take_rest text from) at c.in-Some.ensures in
    record {
      within = omega (arith, found.0.high, length-drop from text);
      none = call_passed text (from + further)
          (call_further text from further c.loop-further.invariant.none (λ i below. found.0.before i (omega arith) below))
          (elim c.else-place-gt0.branch [
            | else-place-gt0-via-then-place-gt0+else-text-place-eq32 w ↦ λ some. ne_eqb _ _ w.if-text-place-eq32.false
            | else-place-gt0-via-else-place-gt0 w ↦ λ some. absurd (omega (arith, some, w.if-place-gt0.false))
          ]);
    }

pub returns : goal.returns
returns c =
    let text = c.args.text.now in
    let from = c.loop-further.place in
    let found = rw (take_rest text from) at c.in_default.ensures in
    sym (call_nowhere text (λ i below. call_further text from (length text - from) c.loop-further.invariant.none
    (λ k inside. found k (omega arith) (omega (arith, inside, length-drop from text))) i (omega (arith, below))))
