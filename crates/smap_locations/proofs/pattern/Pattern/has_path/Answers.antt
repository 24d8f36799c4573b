use Rattle.std.proofs.Common.{◌≡◌, true, Some, codes, map, option_map, string_bytes, ap, sym, ◌∙◌}
use Rattle.std.specs.Bool.{nat_eq}
use Rattle.std.specs.List.{ends_with}
use Rattle.smap_locations.specs.ListLine.{is_folder}
use Rattle.smap_locations.specs.Paths.{has_map_path}
use Rattle.smap_locations.specs.Patterns.{path_byte, rest_behind}
use Rattle.smap_locations.proofs.SlashLaws.{folder_path_is, slashes_are}
use Rattle.smap_locations.proofs.pattern.Pattern.has_path.Goals as goal

pub returns-in-Some : goal.returns-in-Some
returns-in-Some c =
    let pattern = c.args.self.now in
    let text = pattern.text.items in
    let folder : is_folder (string_bytes pattern.path) ≡ true = sym c.is_folder.ensures ∙ c.if-not-is_folder.false in
    let behind : rest_behind text c.args.short.now ≡ Some c.in-Some.rest.now =
    ap (λ t. rest_behind t c.args.short.now) (sym c.deref.ensures.value) ∙ sym c.rest_behind.ensures ∙ ap (option_map (λ rest. rest.now)) c.in-Some.is in
    let slashes : c.ends_with.result ≡ ends_with nat_eq text (codes "\\") =
    c.ends_with.ensures.value ∙ ap (λ t. ends_with nat_eq t (codes "\\")) c.deref-in-Some.ensures.value in
    c.has_map_path.ensures ∙ ap (λ b. has_map_path (map (path_byte b) c.in-Some.rest.now)) slashes
    ∙ ap has_map_path (slashes_are text c.in-Some.rest.now)
    ∙ sym (folder_path_is text (string_bytes pattern.path) c.args.short.now c.in-Some.rest.now folder behind)
