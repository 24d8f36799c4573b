use Rattle.std.proofs.Common.{◌≡◌, ◌++◌, ◌∷◌, [], false, true, length, map, ap, arith, sym, subst, ◌∙◌}
use Rattle.std.specs.Prelude.{string_bytes}
use Rattle.std.proofs.lemmas.List.{length-map}
use Rattle.smap_locations.specs.ByText.{value_under}
use Rattle.smap_locations.specs.ListLine.{is_folder}
use Rattle.smap_locations.specs.PatternSeen.{pattern_seen}
use Rattle.smap_locations.specs.declared.pattern.Pattern.{Pattern}
use Rattle.smap_locations.specs.Private.Places.{ArePlaced}
use Rattle.smap_locations.proofs.PlaceLaws.{absent, not_refused, placed_so, seen_more}
use Rattle.smap_locations.proofs.patterns.Patterns.put.Goals as goal

pub add_place-requires-clause-file : goal.add_place-requires-clause-file
add_place-requires-clause-file c =
    let files = c.self.inside.files in
    let text = c.args.text.items in
    let path = string_bytes c.args.path in
    let placed = subst (λ p. ArePlaced p files c.self.inside.folders) c.self.view_is c.self.invariant in
    ap (λ t. value_under t files) c.in_ok-named.ensures
    ∙ absent c.args.self.now text path false files placed.of_files (not_refused c.args.self.now text path c.requires).1

pub add_place-requires-clause-folder : goal.add_place-requires-clause-folder
add_place-requires-clause-folder c =
    let folders = c.self.inside.folders in
    let text = c.args.text.items in
    let path = string_bytes c.args.path in
    let placed = subst (λ p. ArePlaced p c.self.inside.files folders) c.self.view_is c.self.invariant in
    ap (λ t. value_under t folders) c.in_ok-named.ensures
    ∙ absent c.args.self.now text path true folders placed.of_folders (not_refused c.args.self.now text path c.requires).1

pub invariant_of-self-2 : goal.invariant_of-self-2
invariant_of-self-2 c =
    let files = c.self.inside.files in
    let folders = c.self.inside.folders in
    let items = c.self.inside.all.items in
    let text = c.args.text.items in
    let path = string_bytes c.args.path in
    let placed = subst (λ p. ArePlaced p files folders) c.self.view_is c.self.invariant in
    let place : c.len-place.result ≡ length c.args.self.now =
    omega (arith, c.len-place.ensures, c.in_ok-reserve.ensures.len, c.self.inside.all.ok.0, length-map items pattern_seen, ap length c.self.view_is) in
    let one : Pattern = record { text = c.args.text; path = c.args.path } in
    let more : c.args.self.now ++ (text, path) ∷ [] ≡ map pattern_seen c.push.new.self.items =
    seen_more items c.args.self.now c.self.view_is one
    ∙ ap (map pattern_seen) (ap (λ l. l ++ one ∷ []) (sym c.in_ok-reserve.ensures.items) ∙ sym c.in-Ok.ensures.items) in
    subst (λ p. ArePlaced p c.add_place.new.files c.add_place.new.folders) more
    (placed_so c.args.self.now text path files folders placed c.requires c.add_place.new.files c.add_place.new.folders c.is_folder-for_folder.result
    (c.is_folder-for_folder.ensures ∙ ap is_folder c.as_bytes.ensures.value) c.in_ok-named.named.items c.len-place.result c.in_ok-named.ensures place
    c.in_ok-add_place.ensures.added)
