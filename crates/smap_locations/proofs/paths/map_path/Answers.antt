use Rattle.std.proofs.Common.{◌≡◌, ◌&&◌, ◌++◌, true, false, cond, None, Some, codes, ap, sym, ◌∙◌}
use Rattle.std.specs.Str.{is_utf8}
use Rattle.std.proofs.lemmas.Bool.{and_right, false_from_ne_true}
use Rattle.std.proofs.lemmas.Str.{IsUtf8-from_is_utf8, is_utf8-from_IsUtf8}
use Rattle.smap_locations.specs.Paths.{is_plain}
use Rattle.smap_locations.proofs.SlashLaws.{bytes_stay}
use Rattle.smap_locations.proofs.paths.map_path.Goals as goal

pub returns-in_default : goal.returns-in_default
returns-in_default c =
    let folder = c.args.folder.now in
    let rest = c.args.rest.now in
    let none : is_utf8 rest ≡ false = false_from_ne_true (is_utf8 rest) (λ on. c.in_default.ensures.cases.0 (IsUtf8-from_is_utf8 rest on)) in
    sym (ap (λ b. cond (b && is_plain rest) (Some (folder ++ (rest ++ codes ".map"))) None) none)

pub returns-then-not-is_plain : goal.returns-then-not-is_plain
returns-then-not-is_plain c =
    let folder = c.args.folder.now in
    let rest = c.args.rest.now in
    let none : is_plain rest ≡ false =
    ap is_plain (sym (bytes_stay c.as_bytes.result.now ∙ c.as_bytes.ensures.value ∙ c.in-Ok.ensures.cases.0)) ∙ sym c.is_plain.ensures
    ∙ c.if-not-is_plain.true in
    sym (ap (λ b. cond b (Some (folder ++ (rest ++ codes ".map"))) None) (and_right (is_utf8 rest) (is_plain rest) none))

pub returns : goal.returns
returns c =
    let folder = c.args.folder.now in
    let rest = c.args.rest.now in
    let utf8 : is_utf8 rest ≡ true = is_utf8-from_IsUtf8 rest c.in-Ok.ensures.cases.1 in
    let plain : is_plain rest ≡ true =
    ap is_plain (sym (bytes_stay c.as_bytes.result.now ∙ c.as_bytes.ensures.value ∙ c.in-Ok.ensures.cases.0)) ∙ sym c.is_plain.ensures
    ∙ c.if-not-is_plain.false in
    ap Some (c.in_ok-path.ensures.ok ∙ ap (λ r. folder ++ (r ++ codes ".map")) c.in-Ok.ensures.cases.0)
    ∙ sym (ap (λ b. cond (b && is_plain rest) (Some (folder ++ (rest ++ codes ".map"))) None) utf8
    ∙ ap (λ b. cond b (Some (folder ++ (rest ++ codes ".map"))) None) plain)
