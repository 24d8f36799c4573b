use Rattle.std.proofs.Common.{◌≡◌, ◌<◌, ℕ, [], List, None, Some, length, map, ap, arith, refl, subst, sym, ◌∙◌}
use Rattle.std.specs.Prelude.{if◌then◌else◌, option_map}
use Rattle.std.specs.List.{position_or_len, slice_get}
use Rattle.std.proofs.lemmas.List.{length-map}
use Rattle.std.proofs.lemmas.Option.{get_or_from_slice_get, slice_get-map, slice_get_read}
use Rattle.smap_locations.specs.Locations.{LocationsSeen, pattern_for}
use Rattle.smap_locations.specs.Patterns.{has_text}
use Rattle.smap_store.specs.Fileless.{asks_no_file}
use Rattle.smap_store.specs.PatternSeen.{pattern_seen}
use Rattle.smap_store.specs.UrlTable.{deciding_text, locations_of, map_by_pattern, map_of_text}
use Rattle.smap_store.proofs.PatternLaws.{map_placed, text_placed}
use Rattle.smap_store.proofs.url_table.UrlTable.deciding_pattern.Goals as goal

pub returns-clause-map : goal.returns-clause-map
returns-clause-map c =
    let url = c.args.url.now in
    let items = c.self.inside.patterns.items in
    let seen = map pattern_seen items in
    let place = c.in_ok-place.place in
    let one = pattern_seen c.index.result.now in
    let off = ap (λ l. asks_no_file l url) (sym c.self.invariant) ∙ sym c.asks_no_file.ensures ∙ c.if-asks_no_file.false in
    let P : LocationsSeen → Type 0 = λ l. Some place ≡ option_map (λ text. position_or_len (has_text text) l.patterns) (pattern_for l url) in
    let placed = subst P c.self.invariant c.in_ok-place.ensures.place in
    let low : place < length seen =
    omega (arith, c.in_ok-place.ensures.within place refl, ap (λ l. length l.patterns) c.self.invariant, length-map {B = List ℕ × List ℕ} seen (λ pattern. (pattern.0, []))) in
    let within : place < length items = omega (arith, low, length-map items pattern_seen) in
    let there : slice_get seen place ≡ Some one =
    slice_get-map pattern_seen items place ∙ ap (option_map pattern_seen) (slice_get_read items (length items) place c.index.result.now refl within c.index.ensures) in
    map_placed seen (pattern_for (locations_of seen) url) place one placed low (sym (get_or_from_slice_get seen place one one there))
    ∙ sym (ap (λ b. if b then None else map_of_text seen (pattern_for (locations_of seen) url)) off) ∙ ap (λ t. map_by_pattern t url) c.self.view_is

pub returns-clause-text : goal.returns-clause-text
returns-clause-text c =
    let url = c.args.url.now in
    let items = c.self.inside.patterns.items in
    let seen = map pattern_seen items in
    let place = c.in_ok-place.place in
    let one = pattern_seen c.index.result.now in
    let off = ap (λ l. asks_no_file l url) (sym c.self.invariant) ∙ sym c.asks_no_file.ensures ∙ c.if-asks_no_file.false in
    let P : LocationsSeen → Type 0 = λ l. Some place ≡ option_map (λ text. position_or_len (has_text text) l.patterns) (pattern_for l url) in
    let placed = subst P c.self.invariant c.in_ok-place.ensures.place in
    let low : place < length seen =
    omega (arith, c.in_ok-place.ensures.within place refl, ap (λ l. length l.patterns) c.self.invariant, length-map {B = List ℕ × List ℕ} seen (λ pattern. (pattern.0, []))) in
    let within : place < length items = omega (arith, low, length-map items pattern_seen) in
    let there : slice_get seen place ≡ Some one =
    slice_get-map pattern_seen items place ∙ ap (option_map pattern_seen) (slice_get_read items (length items) place c.index.result.now refl within c.index.ensures) in
    text_placed seen (pattern_for (locations_of seen) url) place one placed low (sym (get_or_from_slice_get seen place one one there))
    ∙ sym (ap (λ b. if b then None else pattern_for (locations_of seen) url) off) ∙ ap (λ t. deciding_text t url) c.self.view_is
