use Rattle.std.proofs.Common.{◌≡◌, length, arith, rules}
use Rattle.std.proofs.lemmas.Grind.{common_steps}
use Rattle.smap_locations.proofs.BestLaws.{walk_begins, walk_ends, walk_on}
use Rattle.smap_locations.proofs.patterns.Patterns.better_of_folders.Goals as goal

pub loop-byte-init : goal.loop-byte-init
loop-byte-init c = walk_begins c.args.self.now c.args.url.now c.args.short.now c.args.best c.requires

pub loop-byte-preserved : goal.loop-byte-preserved
loop-byte-preserved c =
    walk_on c.args.self.now c.args.url.now c.args.short.now c.args.best c.loop-byte.best c.better_here-best.result c.loop-byte.begins
    c.is_separator-begins.result c.in-Some.byte.now c.loop-byte.left.now c.in-Some.behind.now c.in-Some.ensures.cases.0 c.is_separator-begins.ensures
    c.loop-byte.invariant c.better_here-best.ensures

pub returns : goal.returns
returns c =
    let none : length c.loop-byte.left.now ≡ 0 =
    first_of (search (rules, c.split_first.ensures.cases), grind (arith, common_steps, c.split_first.ensures.cases, c.split_first.ensures.variant)) in
    walk_ends c.args.self.now c.args.url.now c.args.short.now c.args.best c.loop-byte.best c.loop-byte.begins c.loop-byte.left.now none
    c.loop-byte.invariant
