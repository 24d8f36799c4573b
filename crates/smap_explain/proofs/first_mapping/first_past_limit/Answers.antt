use Rattle.std.proofs.Common.{Some, sym, ap, ◌∙◌, arith}
use Rattle.std.specs.Prelude.{option_map}
use Rattle.smap_mappings.specs.Range.{is_mapping_past_limit}
use Rattle.smap_index.specs.Position.{position_of_mapping}
use Rattle.smap_explain.proofs.FirstLaws.{found, not_found, passed, sought_first}
use Rattle.smap_explain.proofs.first_mapping.first_past_limit.Goals as goal

pub loop-mapping-init : goal.loop-mapping-init
loop-mapping-init c =
    sought_first c.args.part.now is_mapping_past_limit _ _ (ap (λ m. m.segments) c.new-meter.ensures) c.start-state.ensures.before_all

pub next-requires-clause-state : goal.next-requires-clause-state
next-requires-clause-state c = (_, c.loop-mapping.invariant.after)

pub next-requires-clause-room : goal.next-requires-clause-room
next-requires-clause-room c = omega (
  arith,
  c.loop-mapping.invariant.after.count,
  c.segments-segments.ensures.bound,
  c.segments-segments.ensures.count,
  c.start-state.ensures.packed.short,
)

pub loop-mapping-preserved : goal.loop-mapping-preserved
loop-mapping-preserved c =
    let next = c.in-Some.ensures.some _ c.loop-mapping.invariant.after in
    passed c.args.part.now is_mapping_past_limit _ _ c.loop-mapping.invariant c.in-Some.mapping c.in-Some.after _ _ next
    (cc) (ap (λ m. m.segments) c.in-Some.ensures.counted) (sym c.is_past_limit.ensures ∙ c.if-is_past_limit.false)

pub returns-then-is_past_limit-clause-first : goal.returns-then-is_past_limit-clause-first
returns-then-is_past_limit-clause-first c =
    let next = c.in-Some.ensures.some _ c.loop-mapping.invariant.after in
    ap Some c.placed_position.ensures.placed
    ∙ sym (ap (option_map position_of_mapping)
    (found c.args.part.now is_mapping_past_limit _ _ c.loop-mapping.invariant c.in-Some.mapping c.in-Some.after next
    (sym c.is_past_limit.ensures ∙ c.if-is_past_limit.true)))

pub returns-clause-first : goal.returns-clause-first
returns-clause-first c =
    sym (ap (option_map position_of_mapping)
    (not_found c.args.part.now is_mapping_past_limit _ _ c.loop-mapping.invariant
    (c.in_default.ensures.none _ c.loop-mapping.invariant.after)))
