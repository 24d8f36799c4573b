use Rattle.std.proofs.Common.{◌≡◌, [], None, Some, drop, string_bytes, option_map, take, ap, refl, sym, ◌∙◌}
use Rattle.std.proofs.lemmas.Result.{IfOk-weaker}
use Rattle.smap_locations.specs.ByText.{value_under}
use Rattle.smap_locations.specs.Deciding.{longest_prefix}
use Rattle.smap_locations.specs.Locations.{folder_path, path_in_folders}
use Rattle.smap_locations.specs.Paths.{map_path}
use Rattle.smap_locations.proofs.PathLaws.{no_folder, path_is}
use Rattle.smap_locations.proofs.locations.Locations.path_in_folders.Goals as goal

pub returns-in-Some : goal.returns-in-Some
returns-in-Some c =
    let folders = c.self.inside.folders in
    let same : folders ≡ c.args.self.now.folders = ap (λ seen. seen.folders) c.self.view_is in
    let url = c.args.url.now in
    let bytes = c.longest_prefix.result in
    let is : bytes ≡ longest_prefix folders url = c.longest_prefix.ensures.prefix ∙ ap (λ f. longest_prefix f url) (sym same) in
    let some : value_under (take bytes url) folders ≡ Some (string_bytes c.in-Some.folder.now) =
    ap (λ text. value_under text folders) (sym c.split_at.ensures.front) ∙ sym c.path_under.ensures
    ∙ ap (option_map (λ path. string_bytes path.now)) c.in-Some.is in
    let path : path_in_folders c.args.self.now.folders url ≡ map_path (string_bytes c.in-Some.folder.now) (drop bytes url) =
    ap (λ f. path_in_folders f url) (sym same)
    ∙ path_is folders url (no_folder folders [] c.self.invariant refl)
    ∙ ap (λ n. folder_path url n (value_under (take n url) folders) None) (sym is)
    ∙ ap (λ found. folder_path url bytes found None) some in
    IfOk-weaker c.map_path.result _ _
    (λ path_is. λ is. is ∙ ap (λ f. map_path f c.split_at.result.1.now) c.deref.ensures ∙ ap (map_path (string_bytes c.in-Some.folder.now)) c.split_at.ensures.back
    ∙ sym path)
    c.map_path.ensures

pub returns-in-None : goal.returns-in-None
returns-in-None c =
    let folders = c.self.inside.folders in
    let same : folders ≡ c.args.self.now.folders = ap (λ seen. seen.folders) c.self.view_is in
    let url = c.args.url.now in
    let bytes = c.longest_prefix.result in
    let is : bytes ≡ longest_prefix folders url = c.longest_prefix.ensures.prefix ∙ ap (λ f. longest_prefix f url) (sym same) in
    let none : value_under (take bytes url) folders ≡ None =
    ap (λ text. value_under text folders) (sym c.split_at.ensures.front) ∙ sym c.path_under.ensures
    ∙ ap (option_map (λ path. string_bytes path.now)) c.in-None.is in
    sym (ap (λ f. path_in_folders f url) (sym same)
    ∙ path_is folders url (no_folder folders [] c.self.invariant refl)
    ∙ ap (λ n. folder_path url n (value_under (take n url) folders) None) (sym is)
    ∙ ap (λ found. folder_path url bytes found None) none)
