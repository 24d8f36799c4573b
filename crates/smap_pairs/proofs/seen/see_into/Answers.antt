use Rattle.std.proofs.Common.{◌≡◌, ◌++◌, [], ap, arith, drop, length, sym, take, ◌∙◌}
use Rattle.std.proofs.lemmas.List.{append-nil, drop_all, take_all}
use Rattle.smap_pairs.specs.Seen.{counted_from, seen_of, settled_from}
use Rattle.smap_pairs.specs.Signs.{text_of}
use Rattle.smap_pairs.proofs.SeenBytesLaws.{settled_bytes}
use Rattle.smap_pairs.proofs.seen.see_into.Goals as goal

pub returns-clause-seen : goal.returns-clause-seen
unfolding seen_of
returns-clause-seen c =
    let line = c.args.line.now in
    let now = c.settle.new.seen in
    let items = c.count_into.new.seen.items in
    let size : length now ≡ length items = omega (arith, c.settle.auto.seen, ap length c.deref_mut.ensures.value) in
    let none : drop (length now) items ≡ [] = drop_all (length now) items (omega (arith, size)) in
    ap (λ l. take c.count_into.new.seen.len (now ++ l)) none ∙ ap (take c.count_into.new.seen.len) (append-nil now)
    ∙ take_all c.count_into.new.seen.len now (omega (arith, size, c.deref_mut.ensures.len, ap length c.deref_mut.ensures.value))
    ∙ c.settle.ensures ∙ ap (settled_from [] line) (c.deref_mut.ensures.value ∙ c.in_ok-count_into.ensures.counted)

pub returns-clause-stands : goal.returns-clause-stands
unfolding seen_of
returns-clause-stands c =
    ap text_of (returns-clause-seen c) ∙ settled_bytes [] c.args.line.now (counted_from 0 c.args.line.now)
    ∙ ap text_of (sym c.in_ok-count_into.ensures.counted) ∙ c.in_ok-count_into.ensures.stands
