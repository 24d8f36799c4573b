use Rattle.std.proofs.Common.{◌≡◌, ◌<◌, ◌≤◌, get_or, true, false, length, take, subst, arith}
use Rattle.std.specs.Str.{bytes_eq}
use Rattle.std.proofs.lemmas.List.{get_or_default}
use Rattle.smap_locations.specs.ListLine.{is_folder}
use Rattle.smap_locations.specs.Patterns.{has_ending}
use Rattle.smap_locations.specs.Private.Best.{IsOfFirst}
use Rattle.smap_locations.specs.Private.Places.{ArePlaced}
use Rattle.smap_locations.proofs.BestLaws.{all_tried, none_tried, tried_one}
use Rattle.smap_locations.proofs.patterns.Patterns.better_at_front.Goals as goal

pub loop-length-init : goal.loop-length-init
loop-length-init c = none_tried c.args.self.now c.args.url.now c.args.short.now c.args.best
    (λ place pattern. (is_folder pattern.1 ≡ true) × (bytes_eq (take (length pattern.0) c.args.text.now) pattern.0 ≡ true) × IsOfFirst c.lengths-all.result.now 0 pattern) c.requires
    (λ place pattern there has tried. (let low = tried.2.1 in absurd (omega (arith, low))))

pub loop-length-preserved : goal.loop-length-preserved
loop-length-preserved c =
    let all = c.lengths-all.result.now in
    let i = c.loop-length.length-index in
    let few : i < length all = omega arith in
    tried_one c.args.self.now c.args.url.now c.args.short.now c.args.best c.loop-length.best c.better_front-best.result (λ pattern. is_folder pattern.1 ≡ true) (λ pattern. bytes_eq (take (length pattern.0) c.args.text.now) pattern.0 ≡ true) all i
    (get_or all i 0) few (get_or_default all i 0 (get_or all i 0) few) c.loop-length.invariant c.better_front-best.ensures

pub returns : goal.returns
returns c =
    let all = c.lengths-all.result.now in
    let placed = subst (λ p. ArePlaced p c.self.inside.files c.self.inside.folders) c.self.view_is c.self.invariant in
    let past : length all ≤ c.loop-length.length-index = omega arith in
    all_tried c.args.self.now c.args.url.now c.args.short.now c.args.best c.loop-length.best (λ pattern. is_folder pattern.1 ≡ true)
    (λ pattern. bytes_eq (take (length pattern.0) c.args.text.now) pattern.0 ≡ true) all c.loop-length.length-index past
    (λ place pattern there kind. c.lengths-all.ensures pattern.0 place (placed.of_folders.all place pattern there kind)) c.loop-length.invariant
