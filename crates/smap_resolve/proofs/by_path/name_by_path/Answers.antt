use Rattle.std.proofs.Common.{◌≡◌, true, None, ap, subst, sym, ◌∙◌}
use Rattle.std.specs.Str.{IsUtf8, is_utf8}
use Rattle.std.proofs.lemmas.Bool.{cond-false, cond-true, false_from_ne_true}
use Rattle.std.proofs.lemmas.Result.{IfOk-weaker}
use Rattle.std.proofs.lemmas.Str.{IsUtf8-from_is_utf8, is_utf8-from_IsUtf8}
use Rattle.smap_locations.specs.Paths.{without_query}
use Rattle.smap_resolve.specs.ByPath.{going_on_from}
use Rattle.smap_resolve.proofs.by_path.name_by_path.Goals as goal

pub returns-in-Ok : goal.returns-in-Ok
returns-in-Ok c =
    let cut = without_query c.args.url.now in
    let name = c.args.name.now in
    let path_is : c.in-Ok.path.now ≡ cut = c.in-Ok.ensures.cases.0 ∙ c.without_query.ensures in
    let utf8 : is_utf8 cut ≡ true = is_utf8-from_IsUtf8 cut (subst IsUtf8 c.without_query.ensures c.in-Ok.ensures.cases.1) in
    IfOk-weaker c.going_on_from.result _ _
    (λ made is. is ∙ ap (λ path. going_on_from path name) path_is ∙ sym (cond-true (is_utf8 cut) (going_on_from cut name) None utf8))
    c.going_on_from.ensures

pub returns-in-Err : goal.returns-in-Err
returns-in-Err c =
    let cut = without_query c.args.url.now in
    sym (cond-false (is_utf8 cut) (going_on_from cut c.args.name.now) None
    (false_from_ne_true (is_utf8 cut) (λ is. c.in-Err.ensures.cases.0 (subst IsUtf8 (sym c.without_query.ensures) (IsUtf8-from_is_utf8 cut is)))))
