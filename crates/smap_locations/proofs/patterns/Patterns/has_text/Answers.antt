use Rattle.std.proofs.Common.{◌≡◌, ◌||◌, true, false, is_some, ap, sym, subst, ◌∙◌}
use Rattle.std.proofs.lemmas.Bool.{or_left}
use Rattle.smap_locations.specs.ByText.{value_under}
use Rattle.smap_locations.specs.Private.Places.{ArePlaced}
use Rattle.smap_locations.proofs.PlaceLaws.{has_either}
use Rattle.smap_locations.proofs.patterns.Patterns.has_text.Goals as goal

pub returns-then-is_some : goal.returns-then-is_some
returns-then-is_some c =
    let text = c.args.text.now in
    let files = c.self.inside.files in
    let folders = c.self.inside.folders in
    let placed = subst (λ p. ArePlaced p files folders) c.self.view_is c.self.invariant in
    let one : is_some (value_under text files) ≡ true = ap is_some (sym c.get.ensures) ∙ sym c.is_some.ensures ∙ c.if-is_some.true in
    c.if-is_some.true ∙ sym (or_left (is_some (value_under text files)) (is_some (value_under text folders)) one) ∙ has_either c.args.self.now files folders placed text

pub returns-else-is_some : goal.returns-else-is_some
returns-else-is_some c =
    let text = c.args.text.now in
    let files = c.self.inside.files in
    let folders = c.self.inside.folders in
    let placed = subst (λ p. ArePlaced p files folders) c.self.view_is c.self.invariant in
    let none : is_some (value_under text files) ≡ false = ap is_some (sym c.get.ensures) ∙ sym c.is_some.ensures ∙ c.if-is_some.false in
    c.is_some-else-is_some.ensures ∙ ap is_some c.get-else-is_some.ensures
    ∙ sym (ap (λ b. b || is_some (value_under text folders)) none) ∙ has_either c.args.self.now files folders placed text
