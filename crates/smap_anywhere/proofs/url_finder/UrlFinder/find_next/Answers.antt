use Rattle.std.proofs.Common.{◌≡◌, List, [], false, true, ap, arith, length, sym, ◌∙◌, ◌≤◌}
use Rattle.std.specs.Prelude.{nat_lt}
use Rattle.std.proofs.lemmas.Bool.{and_parts, leb-true}
use Rattle.smap_pairs.specs.declared.line_places.Span.{Span}
use Rattle.smap_anywhere.specs.FoundUrls.{FinderSeen, goes_on, urls_waiting}
use Rattle.smap_anywhere.proofs.FoundUrlLaws.{handed_out, left_anew, left_on, left_past}
use Rattle.smap_anywhere.proofs.url_finder.UrlFinder.find_next.Goals as goal
use Rattle.smap_anywhere.proofs.url_finder.UrlFinder.find_next.Goals.{then-not-goes_on+else-text-from, else-not-goes_on}
use Rattle.smap_anywhere.proofs.url_finder.UrlFinder.find_next.Goals.{then-loop-self-test+else-self-text, else-loop-self-test}

pub returns-then-text-from-clause-found : goal.returns-then-text-from-clause-found
returns-then-text-from-clause-found c =
    let off : goes_on c.args.text.now c.args.from c.args.self.now ≡ false = cc (c.goes_on.ensures, c.if-not-goes_on.true) in
    left_past c.args.text.now c.args.from c.args.self.now off (omega (arith, c.if-text-from.true))

pub loop-self-init : goal.loop-self-init
loop-self-init c = elim c.if-not-goes_on.branch [
  | then-not-goes_on+else-text-from w ↦
      let off : goes_on c.args.text.now c.args.from c.args.self.now ≡ false = cc (c.goes_on.ensures, w.if-not-goes_on.true) in
      let at = w.self-is ∙ w.begin_at.ensures in
      record {
        left = ap (urls_waiting c.args.text.now) at ∙ left_anew c.args.text.now c.args.from c.args.self.now off;
        within = omega (arith, ap (λ (f : FinderSeen). f.end) at, w.if-text-from.false);
      }
  | else-not-goes_on w ↦
      let on : goes_on c.args.text.now c.args.from c.args.self.now ≡ true = cc (c.goes_on.ensures, w.if-not-goes_on.false) in
      let few = (and_parts _ _ (and_parts _ _ on).1).1 in
      record {
        left = ap (urls_waiting c.args.text.now) w.self-is ∙ sym (left_on c.args.text.now c.args.from c.args.self.now on);
        within = omega (arith, ap (λ (f : FinderSeen). f.end) w.self-is, leb-true c.args.self.now.end (length c.args.text.now) few);
      }
]

pub returns-clause-found : goal.returns-clause-found
returns-clause-found c =
    let read : c.loop-self.self.waiting ≡ (let none : List Span = [] in none) → length c.args.text.now ≤ c.loop-self.self.end = elim c.loop-self-test.branch [
      | then-loop-self-test+else-self-text w ↦ λ none. omega (arith, w.if-self-text.false, ap (λ f. f.end) c.self.view_is)
      | else-loop-self-test w ↦ λ none. absurd (cc (c.has_waiting.ensures, w.loop-self-test.false, ap (λ (l : List Span). nat_lt 0 (length l)) none))
    ] in
    handed_out c.args.text.now c.args.from c.args.self.now c.loop-self.self c.hand_out.new.self c.hand_out.result c.loop-self.invariant.left
    c.loop-self.invariant.within read c.hand_out.ensures.out c.hand_out.ensures.within
