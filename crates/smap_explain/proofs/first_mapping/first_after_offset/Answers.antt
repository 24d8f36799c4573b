use Rattle.std.proofs.Common.{◌≡◌, Bool, Some, sym, ap, ◌∙◌, arith}
use Rattle.std.specs.Prelude.{option_map}
use Rattle.smap_mappings.specs.Range.{at_position, stands_before}
use Rattle.smap_mappings.specs.declared.mapping.Mapping.{Mapping}
use Rattle.smap_mappings.specs.declared.position.Position.{Position}
use Rattle.smap_index.specs.Faults.{is_after_offset}
use Rattle.smap_index.specs.Parts.{placed_mapping}
use Rattle.smap_index.specs.Position.{offset_of, position_of_mapping}
use Rattle.smap_index.specs.declared.part.Part.{Part}
use Rattle.smap_explain.proofs.FirstLaws.{found, not_found, passed, sought_first}
use Rattle.smap_explain.proofs.first_mapping.first_after_offset.Goals as goal

-- the place of a mapping is compared with the offset
stands : (part : Part) (mapping : Mapping) (offset position : Position) (is : Bool) → at_position offset ≡ offset_of part
    → at_position position ≡ position_of_mapping mapping → is ≡ stands_before (at_position offset) (at_position position)
    → is_after_offset part mapping ≡ is
stands part mapping offset position is offset_is position_is before =
    sym (before ∙ ap (λ at. stands_before at (at_position position)) offset_is ∙ ap (stands_before (offset_of part)) position_is)

pub loop-mapping-init : goal.loop-mapping-init
loop-mapping-init c =
    sought_first c.args.part.now (is_after_offset c.args.next.now) _ _ (ap (λ m. m.segments) c.new-meter.ensures) c.start-state.ensures.before_all

pub next-requires-clause-state : goal.next-requires-clause-state
next-requires-clause-state c = (_, c.loop-mapping.invariant.after)

pub next-requires-clause-room : goal.next-requires-clause-room
next-requires-clause-room c = omega (
  arith,
  c.loop-mapping.invariant.after.count,
  c.segments-segments.ensures.bound,
  c.segments-segments.ensures.count,
  c.start-state.ensures.packed.short,
)

pub loop-mapping-preserved : goal.loop-mapping-preserved
loop-mapping-preserved c =
    let next = c.in-Some.ensures.some _ c.loop-mapping.invariant.after in
    passed c.args.part.now (is_after_offset c.args.next.now) _ _ c.loop-mapping.invariant c.in-Some.mapping c.in-Some.after _ _ next
    (cc) (ap (λ m. m.segments) c.in-Some.ensures.counted)
    (stands c.args.next.now (placed_mapping c.args.part.now c.in-Some.mapping) _ _ _ c.offset_of-offset.ensures c.placed_position-position.ensures.placed
    c.is_before.ensures ∙ c.if-is_before.false)

pub returns-then-is_before-clause-first : goal.returns-then-is_before-clause-first
returns-then-is_before-clause-first c =
    let next = c.in-Some.ensures.some _ c.loop-mapping.invariant.after in
    let stands_after = stands c.args.next.now (placed_mapping c.args.part.now c.in-Some.mapping) _ _ _ c.offset_of-offset.ensures
    c.placed_position-position.ensures.placed c.is_before.ensures ∙ c.if-is_before.true in
    ap Some c.placed_position-position.ensures.placed
    ∙ sym (ap (option_map position_of_mapping)
    (found c.args.part.now (is_after_offset c.args.next.now) _ _ c.loop-mapping.invariant c.in-Some.mapping c.in-Some.after next stands_after))

pub returns-clause-first : goal.returns-clause-first
returns-clause-first c =
    sym (ap (option_map position_of_mapping)
    (not_found c.args.part.now (is_after_offset c.args.next.now) _ _ c.loop-mapping.invariant
    (c.in_default.ensures.none _ c.loop-mapping.invariant.after)))
