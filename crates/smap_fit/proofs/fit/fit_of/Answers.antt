use Rattle.std.proofs.Common.{◌≡◌, ◌+◌, ◌==◌, ◌&&◌, None, cond, ap, ap₂, arith, length, ◌∙◌}
use Rattle.std.specs.Prelude.{count_by}
use Rattle.smap_index.specs.Parts.{joined}
use Rattle.smap_mappings.specs.declared.mapping.Mapping.{Mapping}
use Rattle.smap_fit.specs.Agreement.{agreement_by, agreement_of, is_agreeing, is_compared, is_outside}
use Rattle.smap_fit.specs.First.{first_with}
use Rattle.smap_fit.specs.Fit.{fit_over, stands_inside, stands_past}
use Rattle.smap_fit.specs.Fresh.{fresh_behind}
use Rattle.smap_fit.specs.Lines.{lines_in}
use Rattle.smap_fit.specs.Private.Texts.{kept_contents, line_texts}
use Rattle.smap_fit.specs.Standing.{is_inside, is_past}
use Rattle.smap_fit.specs.declared.fit.Fit.{Fit}
use Rattle.smap_fit.proofs.CountLaws.{all_counted, all_counted_any, all_sought, at_most_one, none_inside, none_past, one_at_most, one_first, one_fresh, one_more}
use Rattle.smap_fit.proofs.fit.fit_of.Goals as goal

pub loop-mapping-init : goal.loop-mapping-init
loop-mapping-init c =
    let lines = line_texts c.in_ok-text.text in
    let contents = kept_contents c.in_ok-contents.contents in
    let list : c.into_iter-mapping-iterator.result ≡ joined c.args.map.now.stated.parts =
    c.into_iter-mapping-iterator.ensures.into_iter_gives ∙ c.mappings-mapping-items.ensures.list in
    record {
      can = tt;
      finite = tt;
      place = c.start-place.ensures;
      original = c.start-original.ensures;
      mappings = c.segments.ensures.count;
      past = omega (arith, ap (λ l. count_by (stands_past lines) (fresh_behind None l)) list);
      inside = omega (arith, ap (λ l. count_by (stands_inside lines) (fresh_behind None l)) list);
      first_past = ap (λ l. first_with (stands_past lines) (fresh_behind None l)) list;
      first_inside = ap (λ l. first_with (stands_inside lines) (fresh_behind None l)) list;
      compared = omega (arith, ap (count_by (λ (m : Mapping). is_compared (agreement_of lines contents m))) list);
      outside = omega (arith, ap (count_by (λ (m : Mapping). is_outside (agreement_of lines contents m))) list);
      same = omega (arith, ap (count_by (λ (m : Mapping). is_agreeing (agreement_of lines contents m))) list);
      few = omega (arith, ap length list);
      few_compared = omega (arith, ap length list);
      few_outside = omega (arith, ap length list);
      few_same = omega (arith, ap length list);
    }

pub spot-spot-requires : goal.spot-spot-requires
spot-spot-requires c = c.loop-mapping.invariant.place

pub agreement-agreement-requires : goal.agreement-agreement-requires
agreement-agreement-requires c = c.loop-mapping.invariant.original

pub stand-requires : goal.stand-requires
stand-requires c = omega (arith, c.loop-mapping.invariant.few, ap length c.in-Some.ensures.steps, c.segments.ensures.count, c.segments.type_inv)

pub compare-requires : goal.compare-requires
compare-requires c =
    let so_far = c.loop-mapping.invariant in
    let others = c.stand.ensures.others in
    let steps = ap length c.in-Some.ensures.steps in
    record {
      compared = omega (arith, ap (λ (f : Fit). f.compared) others, so_far.few_compared, steps, c.segments.ensures.count, c.segments.type_inv);
      outside = omega (arith, ap (λ (f : Fit). f.outside) others, so_far.few_outside, steps, c.segments.ensures.count, c.segments.type_inv);
      same = omega (arith, ap (λ (f : Fit). f.same) others, so_far.few_same, steps, c.segments.ensures.count, c.segments.type_inv);
    }

pub loop-mapping-preserved : goal.loop-mapping-preserved
loop-mapping-preserved c =
    let so_far = c.loop-mapping.invariant in
    let lines = line_texts c.in_ok-text.text in
    let contents = kept_contents c.in_ok-contents.contents in
    let m = c.in-Some.mapping in
    let steps = c.in-Some.ensures.steps in
    let rest = c.next.new.self in
    let stands = c.spot-spot.ensures.standing in
    let shows = c.spot-spot.ensures.text in
    let agrees = c.agreement-agreement.ensures.agreement ∙ ap (λ text. agreement_by text contents m.origin) shows in
    let stood = c.stand.ensures.others in
    let compared = c.compare.ensures.others in
    let goes_on = c.continues_last.ensures in
    record {
      can = tt;
      finite = tt;
      place = c.spot-spot.ensures.place;
      original = c.agreement-agreement.ensures.place;
      mappings = ap (λ (f : Fit). f.mappings) compared ∙ ap (λ (f : Fit). f.mappings) stood ∙ so_far.mappings;
      past = one_fresh (stands_past lines) m _ rest c.loop-mapping.fit.past _ _ (is_past c.spot-spot.result.standing) steps (ap is_past stands)
          c.loop-mapping.last c.continues_last.result so_far.past goes_on (ap (λ (f : Fit). f.past) compared ∙ c.stand.ensures.past);
      inside = one_fresh (stands_inside lines) m _ rest c.loop-mapping.fit.inside _ _ (is_inside c.spot-spot.result.standing) steps (ap is_inside stands)
          c.loop-mapping.last c.continues_last.result so_far.inside goes_on (ap (λ (f : Fit). f.inside) compared ∙ c.stand.ensures.inside);
      first_past = one_first (stands_past lines) m _ rest c.loop-mapping.fit.first_past _ _ (is_past c.spot-spot.result.standing) steps (ap is_past stands)
          c.loop-mapping.last c.continues_last.result so_far.first_past goes_on (ap (λ (f : Fit). f.first_past) compared ∙ c.stand.ensures.first_past);
      first_inside = one_first (stands_inside lines) m _ rest c.loop-mapping.fit.first_inside _ _ (is_inside c.spot-spot.result.standing) steps (ap is_inside stands)
          c.loop-mapping.last c.continues_last.result so_far.first_inside goes_on (ap (λ (f : Fit). f.first_inside) compared ∙ c.stand.ensures.first_inside);
      compared = one_more (λ (m : Mapping). is_compared (agreement_of lines contents m)) m _ rest c.loop-mapping.fit.compared _ _
          (is_compared c.agreement-agreement.result) steps (ap is_compared agrees) so_far.compared
          (c.compare.ensures.compared ∙ ap (λ (f : Fit). f.compared + cond (is_compared c.agreement-agreement.result) 1 0) stood);
      outside = one_more (λ (m : Mapping). is_outside (agreement_of lines contents m)) m _ rest c.loop-mapping.fit.outside _ _
          (is_outside c.agreement-agreement.result) steps (ap is_outside agrees) so_far.outside
          (c.compare.ensures.outside ∙ ap (λ (f : Fit). f.outside + cond (is_outside c.agreement-agreement.result) 1 0) stood);
      same = one_more (λ (m : Mapping). is_agreeing (agreement_of lines contents m)) m _ rest c.loop-mapping.fit.same _ _
          (is_agreeing c.agreement-agreement.result) steps (ap is_agreeing agrees) so_far.same
          (c.compare.ensures.same ∙ ap (λ (f : Fit). f.same + cond (is_agreeing c.agreement-agreement.result) 1 0) stood);
      few = omega (
        arith,
        ap (λ (f : Fit). f.past) compared,
        ap (λ (f : Fit). f.inside) compared,
        c.stand.ensures.past,
        c.stand.ensures.inside,
        at_most_one c.continues_last.result c.spot-spot.result.standing,
        ap length steps,
        so_far.few,
      );
      few_compared = omega (arith, c.compare.ensures.compared, ap (λ (f : Fit). f.compared) stood, one_at_most (is_compared c.agreement-agreement.result), ap length steps, so_far.few_compared);
      few_outside = omega (arith, c.compare.ensures.outside, ap (λ (f : Fit). f.outside) stood, one_at_most (is_outside c.agreement-agreement.result), ap length steps, so_far.few_outside);
      few_same = omega (arith, c.compare.ensures.same, ap (λ (f : Fit). f.same) stood, one_at_most (is_agreeing c.agreement-agreement.result), ap length steps, so_far.few_same);
    }

pub returns-clause-counts : goal.returns-clause-counts
returns-clause-counts c =
    let so_far = c.loop-mapping.invariant in
    let lines = line_texts c.in_ok-text.text in
    let contents = kept_contents c.in_ok-contents.contents in
    let all = joined c.args.map.now.stated.parts in
    let none = c.in-None.ensures.steps.0 in
    let past = all_counted (stands_past lines) c.loop-mapping.last _ _ _ so_far.past none in
    let inside = all_counted (stands_inside lines) c.loop-mapping.last _ _ _ so_far.inside none in
    let first_past = all_sought (stands_past lines) c.loop-mapping.last _ _ _ so_far.first_past none in
    let first_inside = all_sought (stands_inside lines) c.loop-mapping.last _ _ _ so_far.first_inside none in
    let compared = all_counted_any (λ (m : Mapping). is_compared (agreement_of lines contents m)) _ _ _ so_far.compared none in
    let outside = all_counted_any (λ (m : Mapping). is_outside (agreement_of lines contents m)) _ _ _ so_far.outside none in
    let same = all_counted_any (λ (m : Mapping). is_agreeing (agreement_of lines contents m)) _ _ _ so_far.same none in
    let is : c.loop-mapping.fit ≡ fit_over lines contents all =
    λ i. record { mappings = so_far.mappings i; past = past i; inside = inside i; first_past = first_past i; first_inside = first_inside i; compared = compared i; outside = outside i; same = same i } in
    is ∙ ap₂ (λ lines contents. fit_over lines contents all) c.in_ok-text.ensures c.in_ok-contents.ensures

pub returns-clause-bound : goal.returns-clause-bound
returns-clause-bound c = omega (arith, c.loop-mapping.invariant.few, c.loop-mapping.invariant.mappings)

pub returns-clause-law : goal.returns-clause-law
returns-clause-law c = λ starts.
    let lines = line_texts c.in_ok-text.text in
    let so_far = c.loop-mapping.invariant in
    let all = joined c.args.map.now.stated.parts in
    let past = all_counted (stands_past lines) c.loop-mapping.last _ _ _ so_far.past c.in-None.ensures.steps.0
    ∙ ap (λ lines. count_by (stands_past lines) (fresh_behind None all)) c.in_ok-text.ensures ∙ none_past (lines_in c.args.generated.now) _ starts in
    let inside = all_counted (stands_inside lines) c.loop-mapping.last _ _ _ so_far.inside c.in-None.ensures.steps.0
    ∙ ap (λ lines. count_by (stands_inside lines) (fresh_behind None all)) c.in_ok-text.ensures ∙ none_inside (lines_in c.args.generated.now) _ starts in
    ap₂ (λ p q. p == 0 && q == 0) past inside
