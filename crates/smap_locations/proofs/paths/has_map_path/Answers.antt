use Rattle.std.proofs.Common.{◌≡◌, ◌&&◌, false, map, ap, sym, ◌∙◌}
use Rattle.std.specs.Str.{is_utf8}
use Rattle.std.proofs.lemmas.Bool.{false_from_ne_true}
use Rattle.std.proofs.lemmas.Str.{IsUtf8-from_is_utf8, is_utf8-from_IsUtf8}
use Rattle.smap_locations.specs.Paths.{is_plain}
use Rattle.smap_locations.specs.Patterns.{path_byte}
use Rattle.smap_locations.proofs.SlashLaws.{same_utf8}
use Rattle.smap_locations.proofs.paths.has_map_path.Goals as goal

pub returns-in-Ok : goal.returns-in-Ok
returns-in-Ok c =
    let b = c.args.has_backslashes in
    let rest = c.args.rest.now in
    c.is_plain.ensures
    ∙ ap (λ t. t && is_plain (map (path_byte b) rest)) (sym (same_utf8 b rest ∙ is_utf8-from_IsUtf8 rest c.in-Ok.ensures.cases.1))

pub returns-in-Err : goal.returns-in-Err
returns-in-Err c =
    let b = c.args.has_backslashes in
    let rest = c.args.rest.now in
    let none : is_utf8 rest ≡ false = false_from_ne_true (is_utf8 rest) (λ on. c.in-Err.ensures.cases.0 (IsUtf8-from_is_utf8 rest on)) in
    ap (λ t. t && is_plain (map (path_byte b) rest)) (sym (same_utf8 b rest ∙ none))
