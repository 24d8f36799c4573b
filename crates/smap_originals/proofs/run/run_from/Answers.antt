use Rattle.std.proofs.Common.{◌≡◌, sym, ap, subst, ◌∙◌, arith}
use Rattle.std.proofs.lemmas.Option.{get_or_from_slice_get, slice_get_within}
use Rattle.smap_originals.specs.Originals.{order_of, original_order}
use Rattle.smap_originals.specs.Private.Run.{AreFound, IsSplitAt}
use Rattle.smap_originals.specs.declared.asked.OriginalDirection.TheVariants.{AtOrAfter}
use Rattle.smap_originals.proofs.FoundLaws.{found_from, none_from_end, none_from_line}
use Rattle.smap_originals.proofs.OrderLaws.{no_next}
use Rattle.smap_originals.proofs.run.run_from.Goals as goal

pub end_of_run-end-requires-clause-room : goal.end_of_run-end-requires-clause-room
end_of_run-end-requires-clause-room c = omega (arith, c.split_at-split.ensures.at_most, c.requires.room)

pub returns-in-Some-clause-found : goal.returns-in-Some-clause-found
returns-in-Some-clause-found c =
    let places = c.args.places.now in
    let index = c.split_at-split.result.index in
    let next = c.in-Some.next in
    let split = subst (λ n. IsSplitAt n c.args.places.now c.split_at-split.result.index) c.order_of.ensures c.split_at-split.ensures.split in
    let there = sym c.split_at-split.ensures.next ∙ c.in-Some.is in
    let inside = slice_get_within places index next there in
    let seen = get_or_from_slice_get places index next next there in
    let small = c.requires.ordered.in_range index next inside in
    let above = split.1 index next (omega arith) inside in
    let same : c.original_order.result ≡ order_of c.args.line next.original_column = omega (arith, c.original_order.ensures, c.if-next-line.true) in
    subst (AreFound AtOrAfter c.args.line c.args.column places) (sym c.lend.ensures)
    (found_from places c.args.line c.args.column index c.end_of_run-end.result next.original_column c.requires.ordered
    (omega (arith, small, ap (λ p. p.original_column) seen))
    c.end_of_run-end.ensures.end.0 c.end_of_run-end.ensures.end.1
    (λ k d low high. c.end_of_run-end.ensures.run k d low high ∙ same)
    (λ k d low high. let less = split.0 k d low high in omega (arith, less, above, same, ap original_order seen, c.original_order.ensures))
    (λ k d low high. let more = c.end_of_run-end.ensures.behind k d low high in omega (arith, more, same))
    next split)

pub returns-in-Some-2-clause-found : goal.returns-in-Some-2-clause-found
returns-in-Some-2-clause-found c =
    let places = c.args.places.now in
    let index = c.split_at-split.result.index in
    let next = c.in-Some.next in
    let split = subst (λ n. IsSplitAt n c.args.places.now c.split_at-split.result.index) c.order_of.ensures c.split_at-split.ensures.split in
    let there = sym c.split_at-split.ensures.next ∙ c.in-Some.is in
    let seen = get_or_from_slice_get places index next next there in
    let small = c.requires.ordered.in_range index next (slice_get_within places index next there) in
    none_from_line places c.args.line c.args.column index c.requires.ordered next split there
    (omega (arith, small, ap (λ p. p.original_column) seen)) (omega (arith, c.ranges.column)) c.if-next-line.false

pub returns-in-None-clause-found : goal.returns-in-None-clause-found
returns-in-None-clause-found c =
    none_from_end c.args.places.now c.args.line c.args.column c.split_at-split.result.index c.requires.ordered
    (subst (λ n. IsSplitAt n c.args.places.now c.split_at-split.result.index) c.order_of.ensures c.split_at-split.ensures.split)
    (no_next c.args.places.now c.split_at-split.result.index (sym c.split_at-split.ensures.next ∙ c.in-None.is))
