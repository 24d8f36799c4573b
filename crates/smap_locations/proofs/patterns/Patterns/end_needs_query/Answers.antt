use Rattle.std.proofs.Common.{◌≡◌, false, Some, ap, sym, subst, ◌∙◌}
use Rattle.std.specs.List.{slice_get}
use Rattle.smap_locations.specs.PatternSeen.{pattern_seen}
use Rattle.smap_locations.specs.Patterns.{needs_query}
use Rattle.smap_locations.specs.Private.Places.{ArePlaced}
use Rattle.smap_locations.proofs.PlaceLaws.{any_there, end_found, found_within, needs_parts, seen_at}
use Rattle.smap_locations.proofs.patterns.Patterns.end_needs_query.Goals as goal

pub returns-in-Some-clause-one : goal.returns-in-Some-clause-one
returns-in-Some-clause-one c on =
    let files = c.self.inside.files in
    let placed = subst (λ p. ArePlaced p files c.self.inside.folders) c.self.view_is c.self.invariant in
    let place = c.in-Some.place in
    let within = found_within false c.args.self.now files placed.of_files c.split_at.result.1.now place (sym c.get.ensures ∙ c.in-Some.is) in
    any_there (needs_query c.args.url.now c.args.short.now) c.args.self.now place (pattern_seen c.index.result.now)
    (seen_at c.self.inside.all.items c.args.self.now c.self.view_is place c.index.result.now within c.index.ensures) (sym c.needs_query.ensures ∙ on)

pub returns-in-Some-clause-all : goal.returns-in-Some-clause-all
returns-in-Some-clause-all c other pattern there long on =
    let files = c.self.inside.files in
    let url = c.args.url.now in
    let short = c.args.short.now in
    let placed = subst (λ p. ArePlaced p files c.self.inside.folders) c.self.view_is c.self.invariant in
    let place = c.in-Some.place in
    let within = found_within false c.args.self.now files placed.of_files c.split_at.result.1.now place (sym c.get.ensures ∙ c.in-Some.is) in
    let seen = seen_at c.self.inside.all.items c.args.self.now c.self.view_is place c.index.result.now within c.index.ensures in
    let parts = needs_parts url short pattern on in
    let found = sym c.in-Some.is ∙ c.get.ensures
    ∙ end_found c.args.self.now files placed.of_files url c.split_at.result.1.now c.args.bytes c.split_at.ensures.back other pattern there parts.0 parts.1 long in
    let same : place ≡ other = cc in
    let here : Some (pattern_seen c.index.result.now) ≡ Some pattern = sym seen ∙ ap (slice_get c.args.self.now) same ∙ there in
    let one : pattern_seen c.index.result.now ≡ pattern = cc in
    c.needs_query.ensures ∙ ap (needs_query url short) one ∙ on
