use Rattle.std.proofs.Common.{◌≡◌, ◌+◌, ◌-◌, get_or, sym, ap, subst, ◌∙◌, arith}
use Rattle.std.proofs.lemmas.Option.{get_or_from_slice_get}
use Rattle.smap_originals.specs.Originals.{order_of, original_order}
use Rattle.smap_originals.specs.Private.Run.{AreFound, IsSplitAt}
use Rattle.smap_originals.specs.declared.asked.OriginalDirection.TheVariants.{AtOrBefore}
use Rattle.smap_originals.proofs.FoundLaws.{found_up_to, none_up_to_line, none_up_to_start}
use Rattle.smap_originals.proofs.OrderLaws.{last_there, no_last}
use Rattle.smap_originals.proofs.run.run_up_to.Goals as goal

pub first_of_run-first-requires-clause-order : goal.first_of_run-first-requires-clause-order
first_of_run-first-requires-clause-order c = λ k d low high.
    let index = c.split_at-split.result.index in
    let there = last_there c.args.places.now index _ c.in-Some.last c.split_at-split.ensures.last c.in-Some.is in
    let same : k ≡ index - 1 = omega arith in
    subst (λ n. original_order (get_or c.args.places.now n d) ≡ c.original_order.result) (sym same)
    (ap original_order (get_or_from_slice_get c.args.places.now (index - 1) c.in-Some.last d there.1) ∙ sym c.original_order.ensures)

pub first_of_run-first-requires-clause-room : goal.first_of_run-first-requires-clause-room
first_of_run-first-requires-clause-room c = omega (arith, c.split_at-split.ensures.at_most, c.requires.room)

pub returns-in-Some-clause-found : goal.returns-in-Some-clause-found
returns-in-Some-clause-found c =
    let places = c.args.places.now in
    let index = c.split_at-split.result.index in
    let last = c.in-Some.last in
    let split = subst (λ n. IsSplitAt (n + 1) c.args.places.now c.split_at-split.result.index) c.order_of.ensures c.split_at-split.ensures.split in
    let there = last_there places index _ last c.split_at-split.ensures.last c.in-Some.is in
    let seen = get_or_from_slice_get places (index - 1) last last there.1 in
    let small = c.requires.ordered.in_range (index - 1) last (omega (arith, there.0, c.split_at-split.ensures.within)) in
    let below = split.0 (index - 1) last (omega arith) (omega (arith, there.0)) in
    let same : c.original_order.result ≡ order_of c.args.line last.original_column = omega (arith, c.original_order.ensures, c.if-last-line.true) in
    subst (AreFound AtOrBefore c.args.line c.args.column places) (sym c.lend.ensures)
    (found_up_to places c.args.line c.args.column c.first_of_run-first.result index last.original_column c.requires.ordered
    (omega (arith, small, ap (λ p. p.original_column) seen))
    (omega (arith, there.0, c.first_of_run-first.ensures.front)) c.split_at-split.ensures.within
    (λ k d low high. c.first_of_run-first.ensures.run k d low (omega (arith, high, there.0)) ∙ same)
    (λ k d low high. let less = c.first_of_run-first.ensures.before k d low high in omega (arith, less, same))
    (λ k d low high. let more = split.1 k d low high in omega (arith, more, below, same, ap original_order seen, c.original_order.ensures))
    last split)

pub returns-in-Some-2-clause-found : goal.returns-in-Some-2-clause-found
returns-in-Some-2-clause-found c =
    let places = c.args.places.now in
    let index = c.split_at-split.result.index in
    let last = c.in-Some.last in
    let split = subst (λ n. IsSplitAt (n + 1) c.args.places.now c.split_at-split.result.index) c.order_of.ensures c.split_at-split.ensures.split in
    let there = last_there places index _ last c.split_at-split.ensures.last c.in-Some.is in
    let seen = get_or_from_slice_get places (index - 1) last last there.1 in
    let small = c.requires.ordered.in_range (index - 1) last (omega (arith, there.0, c.split_at-split.ensures.within)) in
    none_up_to_line places c.args.line c.args.column index c.requires.ordered last split there.0 there.1
    (omega (arith, small, ap (λ p. p.original_column) seen)) (omega (arith, c.ranges.column)) c.if-last-line.false

pub returns-in-None-clause-found : goal.returns-in-None-clause-found
returns-in-None-clause-found c =
    none_up_to_start c.args.places.now c.args.line c.args.column c.split_at-split.result.index c.requires.ordered
    (subst (λ n. IsSplitAt (n + 1) c.args.places.now c.split_at-split.result.index) c.order_of.ensures c.split_at-split.ensures.split)
    (no_last c.args.places.now c.split_at-split.result.index _ c.split_at-split.ensures.last c.in-None.is)
