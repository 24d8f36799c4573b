use Rattle.std.proofs.Common.{◌+◌, length, subst, sym, ◌∙◌, arith}
use Rattle.smap_originals.specs.Private.Run.{IsSplitAt}
use Rattle.smap_originals.proofs.FoundLaws.{line_begins, line_kept}
use Rattle.smap_originals.proofs.run.run_of_line.Goals as goal

pub split_at-end-requires-clause-room : goal.split_at-end-requires-clause-room
split_at-end-requires-clause-room c = omega (arith, c.split_at-first.ensures.at_most, c.requires.room)

pub lend-requires-clause-ordered : goal.lend-requires-clause-ordered
lend-requires-clause-ordered c =
    line_begins c.args.places.now c.args.line c.split_at-first.result.index c.split_at-end.result.index
    (subst (λ n. IsSplitAt n c.args.places.now c.split_at-first.result.index) c.order_of-start.ensures c.split_at-first.ensures.split)
    (subst (λ n. IsSplitAt (n + 1) c.args.places.now c.split_at-end.result.index) c.order_of-last.ensures c.split_at-end.ensures.split)
    c.split_at-first.ensures.within c.split_at-end.ensures.within

pub returns-clause-found : goal.returns-clause-found
returns-clause-found c =
    let start = subst (λ n. IsSplitAt n c.args.places.now c.split_at-first.result.index) c.order_of-start.ensures c.split_at-first.ensures.split in
    let behind = subst (λ n. IsSplitAt (n + 1) c.args.places.now c.split_at-end.result.index) c.order_of-last.ensures c.split_at-end.ensures.split in
    let ordered = line_begins c.args.places.now c.args.line c.split_at-first.result.index c.split_at-end.result.index start behind
    c.split_at-first.ensures.within c.split_at-end.ensures.within in
    c.lend.ensures ∙ line_kept c.args.places.now c.args.line c.split_at-first.result.index c.split_at-end.result.index start behind
    c.split_at-first.ensures.within c.split_at-end.ensures.within c.requires.ordered ordered
