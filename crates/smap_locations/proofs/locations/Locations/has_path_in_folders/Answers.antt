use Rattle.std.proofs.Common.{[], ap, is_some, refl, string_bytes, sym, ◌∙◌}
use Rattle.smap_locations.specs.Deciding.{longest_prefix}
use Rattle.smap_locations.specs.Locations.{path_in_folders}
use Rattle.smap_locations.specs.Paths.{has_map_path}
use Rattle.smap_locations.proofs.PathLaws.{has_path_from, no_folder, some_map}
use Rattle.smap_locations.proofs.SlashLaws.{bytes_stay}
use Rattle.smap_locations.proofs.locations.Locations.has_path_in_folders.Goals as goal

pub returns-then-is_some : goal.returns-then-is_some
returns-then-is_some c =
    let url = c.args.url.now in
    c.has_map_path.ensures ∙ ap has_map_path (bytes_stay c.split_at.result.1.now ∙ c.split_at.ensures.back)
    ∙ sym (has_path_from c.self.inside.folders url (no_folder c.self.inside.folders [] c.self.invariant refl) c.longest_prefix.result c.split_at.result.0.now _
    (c.longest_prefix.ensures.prefix ∙ ap (λ seen. longest_prefix seen.folders url) (sym c.self.view_is)) c.split_at.ensures.front
    (ap is_some (sym c.path_under.ensures) ∙ some_map (λ path. string_bytes path.now) c.path_under.result ∙ sym c.is_some.ensures ∙ c.if-is_some.true))
    ∙ ap (λ seen. is_some (path_in_folders seen.folders url)) c.self.view_is

pub returns-else-is_some : goal.returns-else-is_some
returns-else-is_some c =
    let url = c.args.url.now in
    c.if-is_some.false
    ∙ sym (has_path_from c.self.inside.folders url (no_folder c.self.inside.folders [] c.self.invariant refl) c.longest_prefix.result c.split_at.result.0.now _
    (c.longest_prefix.ensures.prefix ∙ ap (λ seen. longest_prefix seen.folders url) (sym c.self.view_is)) c.split_at.ensures.front
    (ap is_some (sym c.path_under.ensures) ∙ some_map (λ path. string_bytes path.now) c.path_under.result ∙ sym c.is_some.ensures ∙ c.if-is_some.false))
    ∙ ap (λ seen. is_some (path_in_folders seen.folders url)) c.self.view_is
