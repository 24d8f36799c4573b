use Rattle.std.proofs.Common.{◌≡◌, [], List, None, length, map, option_map, vec_len, ap, sym, subst, arith, ◌∙◌}
use Rattle.std.specs.List.{position_or_len}
use Rattle.std.proofs.lemmas.Bool.{eqb-true}
use Rattle.std.proofs.lemmas.List.{nil_from_length}
use Rattle.smap_locations.specs.PatternSeen.{pattern_seen}
use Rattle.smap_locations.specs.Patterns.{deciding, has_text, text_by_patterns}
use Rattle.smap_locations.specs.Private.Places.{ArePlaced}
use Rattle.smap_locations.proofs.BestLaws.{best_decides, best_place}
use Rattle.smap_locations.proofs.patterns.Patterns.place_for.Goals as goal

pub returns-then-is_empty-clause-place : goal.returns-then-is_empty-clause-place
returns-then-is_empty-clause-place c =
    let items = c.self.inside.all.items in
    let zero = eqb-true (vec_len c.self.inside.all) 0 (sym c.is_empty.ensures ∙ c.if-is_empty.true) in
    let empty : length items ≡ 0 = omega (arith, zero, c.self.inside.all.ok.0) in
    let none : c.args.self.now ≡ [] = sym c.self.view_is ∙ ap (map pattern_seen) (nil_from_length items empty) in
    sym (ap (λ p. option_map (λ text. position_or_len (has_text text) p) (text_by_patterns p c.args.url.now c.args.short.now)) none)

pub returns-then-is_empty-clause-decides : goal.returns-then-is_empty-clause-decides
returns-then-is_empty-clause-decides c =
    let items = c.self.inside.all.items in
    let zero = eqb-true (vec_len c.self.inside.all) 0 (sym c.is_empty.ensures ∙ c.if-is_empty.true) in
    let empty : length items ≡ 0 = omega (arith, zero, c.self.inside.all.ok.0) in
    let none : c.args.self.now ≡ [] = sym c.self.view_is ∙ ap (map pattern_seen) (nil_from_length items empty) in
    sym (ap (deciding c.args.url.now c.args.short.now None) none)

pub returns-clause-decides : goal.returns-clause-decides
returns-clause-decides c =
    best_decides c.args.self.now c.args.url.now c.args.short.now c.best_of_files-best.result c.better_of_folders.result c.best_of_files-best.ensures
    c.better_of_folders.ensures

pub returns-clause-place : goal.returns-clause-place
returns-clause-place c =
    let placed = subst (λ p. ArePlaced p c.self.inside.files c.self.inside.folders) c.self.view_is c.self.invariant in
    best_place c.args.self.now c.args.url.now c.args.short.now c.best_of_files-best.result c.better_of_folders.result c.best_of_files-best.ensures
    c.better_of_folders.ensures placed.apart
