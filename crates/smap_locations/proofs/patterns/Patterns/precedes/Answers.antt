use Rattle.std.proofs.Common.{◌&&◌, ap, sym, ◌∙◌, arith}
use Rattle.std.specs.Prelude.{nat_lt, not}
use Rattle.std.proofs.lemmas.Bool.{lt-ltb, or_left}
use Rattle.smap_locations.specs.PatternSeen.{pattern_seen}
use Rattle.smap_locations.specs.Patterns.{comes_before}
use Rattle.smap_locations.proofs.BestLaws.{covered_so, first_by_both, goes_first, goes_later, later_by_before, later_by_place}
use Rattle.smap_locations.proofs.PlaceLaws.{seen_at}
use Rattle.smap_locations.proofs.patterns.Patterns.precedes.Goals as goal

pub returns-then-comes_before-clause-yes : goal.returns-then-comes_before-clause-yes
returns-then-comes_before-clause-yes c on =
    let one = pattern_seen c.index.result.now in
    let two = pattern_seen c.index-2.result.now in
    let there = seen_at c.self.inside.all.items c.args.self.now c.self.view_is c.args.place c.index.result.now c.requires.place c.index.ensures in
    let also = seen_at c.self.inside.all.items c.args.self.now c.self.view_is c.args.other c.index-2.result.now c.requires.other c.index-2.ensures in
    covered_so c.args.self.now c.args.place c.args.other one two there also
    (goes_first one two c.args.place c.args.other
    (or_left (comes_before one two) (nat_lt c.args.place c.args.other && not (comes_before two one)) (sym c.comes_before.ensures ∙ on)))

pub returns-then-place-other-clause-yes : goal.returns-then-place-other-clause-yes
returns-then-place-other-clause-yes c on =
    let one = pattern_seen c.index.result.now in
    let two = pattern_seen c.index-2.result.now in
    let there = seen_at c.self.inside.all.items c.args.self.now c.self.view_is c.args.place c.index.result.now c.requires.place c.index.ensures in
    let also = seen_at c.self.inside.all.items c.args.self.now c.self.view_is c.args.other c.index-2.result.now c.requires.other c.index-2.ensures in
    covered_so c.args.self.now c.args.place c.args.other one two there also
    (goes_first one two c.args.place c.args.other
    (first_by_both (comes_before one two) (nat_lt c.args.place c.args.other) (not (comes_before two one))
    (lt-ltb c.args.place c.args.other (omega arith)) (ap not (sym c.comes_before-then-place-other.ensures) ∙ on)))

pub returns-then-place-other-clause-no : goal.returns-then-place-other-clause-no
returns-then-place-other-clause-no c off =
    let one = pattern_seen c.index.result.now in
    let two = pattern_seen c.index-2.result.now in
    let there = seen_at c.self.inside.all.items c.args.self.now c.self.view_is c.args.place c.index.result.now c.requires.place c.index.ensures in
    let also = seen_at c.self.inside.all.items c.args.self.now c.self.view_is c.args.other c.index-2.result.now c.requires.other c.index-2.ensures in
    covered_so c.args.self.now c.args.other c.args.place two one also there
    (goes_later one two c.args.place c.args.other
    (later_by_before (comes_before one two) (nat_lt c.args.place c.args.other) (not (comes_before two one))
    (sym c.comes_before.ensures ∙ c.if-comes_before.false) (ap not (sym c.comes_before-then-place-other.ensures) ∙ off)))

pub returns-else-place-other-clause-no : goal.returns-else-place-other-clause-no
returns-else-place-other-clause-no c off =
    let one = pattern_seen c.index.result.now in
    let two = pattern_seen c.index-2.result.now in
    let there = seen_at c.self.inside.all.items c.args.self.now c.self.view_is c.args.place c.index.result.now c.requires.place c.index.ensures in
    let also = seen_at c.self.inside.all.items c.args.self.now c.self.view_is c.args.other c.index-2.result.now c.requires.other c.index-2.ensures in
    covered_so c.args.self.now c.args.other c.args.place two one also there
    (goes_later one two c.args.place c.args.other
    (later_by_place (comes_before one two) (nat_lt c.args.place c.args.other) (not (comes_before two one))
    (sym c.comes_before.ensures ∙ c.if-comes_before.false) off))
