use Rattle.std.proofs.Common.{◌≡◌, true, None, ap, subst, sym, ◌∙◌}
use Rattle.std.specs.Str.{IsUtf8, is_utf8}
use Rattle.std.proofs.lemmas.Bool.{cond-false, cond-true, false_from_ne_true}
use Rattle.std.proofs.lemmas.Result.{IfOk-weaker}
use Rattle.std.proofs.lemmas.Str.{IsUtf8-from_is_utf8, is_utf8-from_IsUtf8}
use Rattle.smap_locations.specs.Paths.{without_query}
use Rattle.smap_resolve.specs.Beside.{name_beside_file}
use Rattle.smap_resolve.proofs.beside.name_beside.Goals as goal

pub returns-in-Ok : goal.returns-in-Ok
returns-in-Ok c =
    let cut = without_query c.args.path.now in
    let name = c.args.name.now in
    let path_is : c.in-Ok.file.now ≡ cut = c.in-Ok.ensures.cases.0 ∙ c.without_query.ensures in
    let utf8 : is_utf8 cut ≡ true = is_utf8-from_IsUtf8 cut (subst IsUtf8 c.without_query.ensures c.in-Ok.ensures.cases.1) in
    IfOk-weaker c.name_beside_file.result _ _
    (λ made is. is ∙ ap (λ path. name_beside_file path name) path_is ∙ sym (cond-true (is_utf8 cut) (name_beside_file cut name) None utf8))
    c.name_beside_file.ensures

pub returns-in-Err : goal.returns-in-Err
returns-in-Err c =
    let cut = without_query c.args.path.now in
    sym (cond-false (is_utf8 cut) (name_beside_file cut c.args.name.now) None
    (false_from_ne_true (is_utf8 cut) (λ is. c.in-Err.ensures.cases.0 (subst IsUtf8 (sym c.without_query.ensures) (IsUtf8-from_is_utf8 cut is)))))
