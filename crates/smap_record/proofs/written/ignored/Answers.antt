use Rattle.std.proofs.Common.{◌+◌, ◌<◌, Vec, Global, length, ap, subst, sym, ◌∙◌, arith, eqb-true}
use Rattle.std.proofs.lemmas.Bool.{eqb-false}
use Rattle.serde_json.specs.declared.value.Value.{Value}
use Rattle.smap_record.proofs.IndexLaws.{AreIndices, skipped, added, nothing, something}
use Rattle.smap_record.proofs.written.ignored.Goals as goal
use Rattle.smap_record.proofs.written.ignored.Goals.{then-source+in_ok-push, else-source}

pub loop-i-preserved : goal.loop-i-preserved
loop-i-preserved c =
    let within : c.loop-i.i < length c.args.sources.now = omega (arith, c.loop-i-test.true) in
    elim c.if-source.branch [
      | then-source+in_ok-push w ↦
          subst (λ values. AreIndices values c.args.sources.now (c.loop-i.i + 1))
          (sym w.in_ok-push.ensures.items ∙ ap (λ (values : Vec Value Global). values.items) (sym w.values-is))
          (added c.loop-i.values.items c.args.sources.now c.loop-i.i c.index-sources-i.result within c.index-sources-i.is c.loop-i.invariant
          w.if-source.true w.from.result w.from.ensures)
      | else-source w ↦
          subst (λ values. AreIndices values c.args.sources.now (c.loop-i.i + 1)) (ap (λ (values : Vec Value Global). values.items) (sym w.values-is))
          (skipped c.loop-i.values.items c.args.sources.now c.loop-i.i c.index-sources-i.result within c.index-sources-i.is
          c.loop-i.invariant w.if-source.false)
    ]

pub returns-then-is_empty : goal.returns-then-is_empty
returns-then-is_empty c =
    nothing c.loop-i.values c.args.sources.now c.loop-i.i (omega (arith, c.loop-i-test.false)) c.loop-i.invariant
    (sym c.loop-i.values.ok.0 ∙ eqb-true c.loop-i.values.len 0 (sym c.is_empty.ensures ∙ c.if-is_empty.true))

pub returns : goal.returns
returns c =
    something c.loop-i.values c.args.sources.now c.loop-i.i (omega (arith, c.loop-i-test.false)) c.loop-i.invariant
    (λ none. eqb-false c.loop-i.values.len 0 (sym c.is_empty.ensures ∙ c.if-is_empty.false) (c.loop-i.values.ok.0 ∙ none))
