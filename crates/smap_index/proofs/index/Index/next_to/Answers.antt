use Rattle.std.proofs.Common.{sym, ap, ◌∙◌, arith, None}
use Rattle.std.specs.Prelude.{option_map}
use Rattle.std.specs.Option.{option_or, option_copied}
use Rattle.smap_index.specs.Checkpoint.{mapping_of}
use Rattle.smap_index.specs.Private.Search.{on_line}
use Rattle.smap_index.proofs.IndexLaws.{interval_within, index_in_order, mappings_in_order, part_within, state_between, state_on_line, part_in_range}
use Rattle.smap_index.proofs.IndexLaws.{none_from, before_after, first_after, first_elsewhere}
use Rattle.smap_index.proofs.StretchLaws.{low_in_table, high_in_table, within_table, last_in_table, next_in_table, next_on_its_line, none_in_stretch, first_in_stretch}
use Rattle.smap_index.proofs.index.Index.next_to.Goals as goal

pub nearest_checkpoints-nearest-requires-clause-ordered : goal.nearest_checkpoints-nearest-requires-clause-ordered
nearest_checkpoints-nearest-requires-clause-ordered c = index_in_order _ c.self.invariant

pub nearest_checkpoints-nearest-requires-clause-low : goal.nearest_checkpoints-nearest-requires-clause-low
nearest_checkpoints-nearest-requires-clause-low c = low_in_table _ c.self.invariant _ c.self.view_is c.args.bound.now c.args.from c.args.stretch c.requires.from c.requires.holds

pub nearest_checkpoints-nearest-requires-clause-high : goal.nearest_checkpoints-nearest-requires-clause-high
nearest_checkpoints-nearest-requires-clause-high c = high_in_table _ c.self.invariant _ c.self.view_is c.args.bound.now c.args.from c.args.stretch c.requires.from c.requires.holds

pub nearest_checkpoints-nearest-requires-clause-within : goal.nearest_checkpoints-nearest-requires-clause-within
nearest_checkpoints-nearest-requires-clause-within c = within_table _ c.self.invariant _ c.self.view_is c.args.bound.now c.args.from c.args.stretch c.requires.from c.requires.holds

pub index-part-requires : goal.index-part-requires
index-part-requires c = let inside = part_within _ c.self.invariant c.args.bound.now _
    (last_in_table _ c.self.invariant c.args.bound.now c.args.stretch.low _ (ap option_copied (sym c.in-Some.is) ∙ c.nearest_checkpoints-nearest.ensures.last)) in omega arith

pub overflow_sub-self-inside : goal.overflow_sub-self-inside
overflow_sub-self-inside c = (interval_within _ c.self.invariant).0

pub decode_after-decoded-requires-clause-state : goal.decode_after-decoded-requires-clause-state
decode_after-decoded-requires-clause-state c =
    state_between _ c.self.invariant c.args.bound.now _ (last_in_table _ c.self.invariant c.args.bound.now c.args.stretch.low _ (ap option_copied (sym c.in-Some.is) ∙ c.nearest_checkpoints-nearest.ensures.last))
    c.index-part.result.now c.index-part.ensures

pub decode_after-decoded-requires-clause-on_line : goal.decode_after-decoded-requires-clause-on_line
decode_after-decoded-requires-clause-on_line c =
    state_on_line _ c.self.invariant c.args.bound.now _ (last_in_table _ c.self.invariant c.args.bound.now c.args.stretch.low _ (ap option_copied (sym c.in-Some.is) ∙ c.nearest_checkpoints-nearest.ensures.last))
    c.index-part.result.now c.index-part.ensures _ c.on-end.ensures

pub decode_after-decoded-requires-clause-in_range : goal.decode_after-decoded-requires-clause-in_range
decode_after-decoded-requires-clause-in_range c =
    part_in_range _ c.self.invariant c.args.bound.now _ (last_in_table _ c.self.invariant c.args.bound.now c.args.stretch.low _ (ap option_copied (sym c.in-Some.is) ∙ c.nearest_checkpoints-nearest.ensures.last))
    c.index-part.result.now c.index-part.ensures

pub decode_after-decoded-requires-clause-room : goal.decode_after-decoded-requires-clause-room
decode_after-decoded-requires-clause-room c =
    omega (arith, (interval_within _ c.self.invariant).1, c.nearest_checkpoints-nearest.ensures.none_decoded, c.requires.room.1)

pub returns-in-Some-clause-compared : goal.returns-in-Some-clause-compared
returns-in-Some-clause-compared c b below =
    omega (arith, c.nearest_checkpoints-nearest.ensures.few b below, c.decode_after-decoded.ensures.none_compared)

pub returns-in-Some-clause-before : goal.returns-in-Some-clause-before
returns-in-Some-clause-before c =
    before_after _ c.self.invariant c.args.bound.now _ (last_in_table _ c.self.invariant c.args.bound.now c.args.stretch.low _ (ap option_copied (sym c.in-Some.is) ∙ c.nearest_checkpoints-nearest.ensures.last))
    c.index-part.result.now c.index-part.ensures _ c.self.view_is c.args.from c.if-checkpoint-from.true _ c.on-end.ensures
    c.decode_after-decoded.result.last c.decode_after-decoded.ensures.last

pub returns-in-Some-2-clause-before : goal.returns-in-Some-2-clause-before
returns-in-Some-2-clause-before c =
    none_from _ c.self.invariant c.args.bound.now _ (last_in_table _ c.self.invariant c.args.bound.now c.args.stretch.low _ (ap option_copied (sym c.in-Some.is) ∙ c.nearest_checkpoints-nearest.ensures.last))
    _ c.self.view_is c.args.from c.if-checkpoint-from.false

pub returns-in-None-clause-before : goal.returns-in-None-clause-before
returns-in-None-clause-before c =
    none_in_stretch _ c.self.invariant _ c.self.view_is c.args.bound.now c.args.from c.args.stretch c.requires.from c.requires.holds
    (sym c.nearest_checkpoints-nearest.ensures.last ∙ ap option_copied c.in-None.is)

pub returns-in-Some-clause-after : goal.returns-in-Some-clause-after
returns-in-Some-clause-after c whole =
    c.or.ensures ∙ ap (option_or c.decode_after-decoded.result.next)
    (c.mapping_at-next.ensures ∙ ap (option_map mapping_of) c.nearest_checkpoints-nearest.ensures.next
    ∙ ap (option_map mapping_of) (next_in_table _ c.self.invariant _ c.self.view_is c.args.bound.now c.args.from c.args.stretch c.requires.from c.requires.holds whole))
    ∙ first_after _ c.self.invariant c.args.bound.now _ (last_in_table _ c.self.invariant c.args.bound.now c.args.stretch.low _ (ap option_copied (sym c.in-Some.is) ∙ c.nearest_checkpoints-nearest.ensures.last))
    c.index-part.result.now c.index-part.ensures _ c.self.view_is _ c.on-end.ensures c.decode_after-decoded.result.next
    c.decode_after-decoded.ensures.next

pub returns-in-Some-clause-after_on_line : goal.returns-in-Some-clause-after_on_line
returns-in-Some-clause-after_on_line c =
    ap (on_line c.args.bound.now.line) (c.or.ensures ∙ ap (option_or c.decode_after-decoded.result.next)
    (c.mapping_at-next.ensures ∙ ap (option_map mapping_of) c.nearest_checkpoints-nearest.ensures.next))
    ∙ next_on_its_line _ c.self.invariant _ c.self.view_is c.args.bound.now c.args.from c.args.stretch c.requires.from c.requires.holds
    c.decode_after-decoded.result.next
    ∙ ap (on_line c.args.bound.now.line) (first_after _ c.self.invariant c.args.bound.now _ (last_in_table _ c.self.invariant c.args.bound.now c.args.stretch.low _ (ap option_copied (sym c.in-Some.is) ∙ c.nearest_checkpoints-nearest.ensures.last))
    c.index-part.result.now c.index-part.ensures _ c.self.view_is _ c.on-end.ensures c.decode_after-decoded.result.next
    c.decode_after-decoded.ensures.next)

pub returns-in-Some-2-clause-after : goal.returns-in-Some-2-clause-after
returns-in-Some-2-clause-after c whole =
    c.mapping_at-next.ensures ∙ ap (option_map mapping_of) c.nearest_checkpoints-nearest.ensures.next
    ∙ ap (option_map mapping_of) (next_in_table _ c.self.invariant _ c.self.view_is c.args.bound.now c.args.from c.args.stretch c.requires.from c.requires.holds whole)
    ∙ first_elsewhere _ c.self.invariant c.args.bound.now _
    (last_in_table _ c.self.invariant c.args.bound.now c.args.stretch.low _ (ap option_copied (sym c.in-Some.is) ∙ c.nearest_checkpoints-nearest.ensures.last)) _ c.self.view_is (omega (arith, c.if-checkpoint-from.false, c.requires.from))

pub returns-in-Some-2-clause-after_on_line : goal.returns-in-Some-2-clause-after_on_line
returns-in-Some-2-clause-after_on_line c =
    ap (on_line c.args.bound.now.line) (c.mapping_at-next.ensures ∙ ap (option_map mapping_of) c.nearest_checkpoints-nearest.ensures.next)
    ∙ next_on_its_line _ c.self.invariant _ c.self.view_is c.args.bound.now c.args.from c.args.stretch c.requires.from c.requires.holds None
    ∙ ap (on_line c.args.bound.now.line) (first_elsewhere _ c.self.invariant c.args.bound.now _
    (last_in_table _ c.self.invariant c.args.bound.now c.args.stretch.low _ (ap option_copied (sym c.in-Some.is) ∙ c.nearest_checkpoints-nearest.ensures.last)) _ c.self.view_is (omega (arith, c.if-checkpoint-from.false, c.requires.from)))

pub returns-in-None-clause-after : goal.returns-in-None-clause-after
returns-in-None-clause-after c whole =
    c.mapping_at-next.ensures ∙ ap (option_map mapping_of) c.nearest_checkpoints-nearest.ensures.next
    ∙ ap (option_map mapping_of) (next_in_table _ c.self.invariant _ c.self.view_is c.args.bound.now c.args.from c.args.stretch c.requires.from c.requires.holds whole)
    ∙ first_in_stretch _ c.self.invariant _ c.self.view_is c.args.bound.now c.args.from c.args.stretch c.requires.from c.requires.holds
    (sym c.nearest_checkpoints-nearest.ensures.last ∙ ap option_copied c.in-None.is)

pub returns-in-None-clause-after_on_line : goal.returns-in-None-clause-after_on_line
returns-in-None-clause-after_on_line c =
    ap (on_line c.args.bound.now.line) (c.mapping_at-next.ensures ∙ ap (option_map mapping_of) c.nearest_checkpoints-nearest.ensures.next)
    ∙ next_on_its_line _ c.self.invariant _ c.self.view_is c.args.bound.now c.args.from c.args.stretch c.requires.from c.requires.holds None
    ∙ ap (on_line c.args.bound.now.line) (first_in_stretch _ c.self.invariant _ c.self.view_is c.args.bound.now c.args.from c.args.stretch c.requires.from c.requires.holds
    (sym c.nearest_checkpoints-nearest.ensures.last ∙ ap option_copied c.in-None.is))

pub returns-in-Some-clause-ordered : goal.returns-in-Some-clause-ordered
returns-in-Some-clause-ordered c = mappings_in_order _ c.self.invariant _ c.self.view_is

pub returns-in-Some-2-clause-ordered : goal.returns-in-Some-2-clause-ordered
returns-in-Some-2-clause-ordered c = mappings_in_order _ c.self.invariant _ c.self.view_is

pub returns-in-None-clause-ordered : goal.returns-in-None-clause-ordered
returns-in-None-clause-ordered c = mappings_in_order _ c.self.invariant _ c.self.view_is
