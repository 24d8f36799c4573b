use Rattle.std.proofs.Common.{◌≡◌, ◌+◌, [], ap, arith, drop, map, sym, ◌∙◌}
use Rattle.std.proofs.lemmas.List.{drop_all}
use Rattle.smap_anywhere.specs.Counted.{mentions_in, pair_of}
use Rattle.smap_trace.specs.UrlNotes.{as_counted}
use Rattle.smap_anywhere.proofs.CountedLaws.{counted_once, mentions_next, pairs_left}
use Rattle.smap_anywhere.proofs.counting.mentions_of_all.Goals as goal

pub loop-url-preserved : goal.loop-url-preserved
loop-url-preserved c =
    let is = pairs_left pair_of c.args.arguments.now c.loop-url.url-index c.loop-url-item.result (omega (arith, c.loop-url-test.true)) c.loop-url-item.is in
    let new = rw (c.deref.ensures, c.deref-in-loop-url.ensures) at c.mentions_after-count.ensures in
    record {
      few = ap as_counted new ∙ counted_once _ ∙ sym new;
      whole = mentions_next c.args.line.now _ _ (pair_of c.loop-url-item.result) c.loop-url.count c.mentions_after-count.result _ is new c.loop-url.invariant.whole;
    }

pub returns : goal.returns
returns c =
    let over : drop c.loop-url.url-index c.args.arguments.now ≡ [] =
    drop_all c.loop-url.url-index c.args.arguments.now (omega (arith, c.loop-url-test.false)) in
    let none : as_counted (c.loop-url.count + 0) ≡ as_counted c.loop-url.count = ap as_counted (omega arith) in
    sym c.loop-url.invariant.few ∙ sym none ∙ ap (λ l. as_counted (c.loop-url.count + mentions_in (map pair_of l) c.args.line.now)) (sym over)
    ∙ c.loop-url.invariant.whole
