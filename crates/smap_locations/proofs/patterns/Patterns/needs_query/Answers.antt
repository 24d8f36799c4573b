use Rattle.std.proofs.Common.{◌≡◌, ◌≤◌, ◌<◌, ◌+◌, ℕ, Bool, true, false, List, Some, get_or, length, ltb, ap, sym, subst, arith, ◌∙◌}
use Rattle.std.specs.List.{slice_get}
use Rattle.std.proofs.lemmas.Bool.{both_ways}
use Rattle.std.proofs.lemmas.List.{get_or_default}
use Rattle.smap_locations.specs.Patterns.{needs_query}
use Rattle.smap_locations.specs.Private.Best.{IsOfFirst}
use Rattle.smap_locations.specs.Private.Places.{ArePlaced}
use Rattle.smap_locations.proofs.BestLaws.{last_or_before}
use Rattle.smap_locations.proofs.PlaceLaws.{needs_parts, none_there}
use Rattle.smap_locations.proofs.patterns.Patterns.needs_query.Goals as goal

pub loop-length-preserved : goal.loop-length-preserved
loop-length-preserved c place pattern there of_first on =
    let all = c.lengths-all.result.now in
    let i = c.loop-length.length-index in
    let few : i < length all = omega arith in
    last_or_before all i (get_or all i 0) few (get_or_default all i 0 (get_or all i 0) few) pattern of_first
    (λ before. c.loop-length.invariant place pattern there before on)
    (λ long. both_ways c.end_needs_query.result c.if-end_needs_query.false (c.end_needs_query.ensures.all place pattern there long on))

pub returns : goal.returns
returns c =
    let all = c.lengths-all.result.now in
    let url = c.args.url.now in
    let short = c.args.short.now in
    let placed = subst (λ p. ArePlaced p c.self.inside.files c.self.inside.folders) c.self.view_is c.self.invariant in
    let past : length all ≤ c.loop-length.length-index = omega arith in
    sym (none_there (needs_query url short) c.args.self.now
    (λ place pattern there on.
    (let parts = needs_parts url short pattern on in
    let one = c.lengths-all.ensures pattern.0 place (placed.of_files.all place pattern there parts.0) in
    let low = one.1 in
    c.loop-length.invariant place pattern there (one.0, omega (arith, low, past), get_or_default all one.0 0 (length pattern.0) low ∙ one.2) on)))
