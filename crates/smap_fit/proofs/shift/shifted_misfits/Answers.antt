use Rattle.std.proofs.Common.{◌≡◌, ◌+◌, ap, arith, length, None, ◌∙◌}
use Rattle.std.specs.Prelude.{count_by}
use Rattle.smap_index.specs.Parts.{joined}
use Rattle.smap_mappings.specs.declared.mapping.Mapping.{Mapping}
use Rattle.smap_fit.specs.Fresh.{fresh_behind}
use Rattle.smap_fit.specs.Private.Texts.{line_texts}
use Rattle.smap_fit.specs.Shift.{is_misfit, shifted_standing}
use Rattle.smap_fit.proofs.CountLaws.{all_counted, fresh_at_most, one_fresh}
use Rattle.smap_fit.proofs.shift.shifted_misfits.Goals as goal

pub loop-mapping-init : goal.loop-mapping-init
loop-mapping-init c =
    let lines = line_texts c.args.text.now in
    let list : c.into_iter-mapping-iterator.result ≡ joined c.args.map.now.stated.parts =
    c.into_iter-mapping-iterator.ensures.into_iter_gives ∙ c.mappings-mapping-items.ensures.list in
    record {
      can = tt;
      finite = tt;
      place = c.start-place.ensures;
      misfits = omega (arith, ap (λ l. count_by (λ (m : Mapping). is_misfit (shifted_standing lines c.args.shift m)) (fresh_behind None l)) list);
      few = omega (arith, ap length list);
    }

pub standing-stood-requires : goal.standing-stood-requires
standing-stood-requires c = c.loop-mapping.invariant.place

pub overflow_add-misfits : goal.overflow_add-misfits
overflow_add-misfits c =
    omega (
      arith,
      c.loop-mapping.invariant.few,
      ap length c.in-Some.ensures.steps,
      c.segments-segments.ensures.count,
      c.segments-segments.type_inv,
      c.counted-misfits.ensures,
      fresh_at_most c.continues_last.result (is_misfit c.standing-stood.result),
    )

pub loop-mapping-preserved : goal.loop-mapping-preserved
loop-mapping-preserved c =
    let so_far = c.loop-mapping.invariant in
    let lines = line_texts c.args.text.now in
    let steps = c.in-Some.ensures.steps in
    record {
      can = tt;
      finite = tt;
      place = c.standing-stood.ensures.place;
      misfits = one_fresh (λ (m : Mapping). is_misfit (shifted_standing lines c.args.shift m)) c.in-Some.mapping _ c.next.new.self c.loop-mapping.misfits _ _
          (is_misfit c.standing-stood.result) steps (ap is_misfit c.standing-stood.ensures.standing) c.loop-mapping.last c.continues_last.result so_far.misfits
          c.continues_last.ensures (ap (λ n. c.loop-mapping.misfits + n) c.counted-misfits.ensures);
      few = omega (arith, ap length steps, so_far.few, c.counted-misfits.ensures, fresh_at_most c.continues_last.result (is_misfit c.standing-stood.result));
    }

pub returns : goal.returns
returns c =
    all_counted (λ (m : Mapping). is_misfit (shifted_standing (line_texts c.args.text.now) c.args.shift m)) c.loop-mapping.last _ _ _
    c.loop-mapping.invariant.misfits c.in-None.ensures.steps.0
