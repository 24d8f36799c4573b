use Rattle.std.proofs.Common.{◌≡◌, None, ap, subst, sym, ◌∙◌}
use Rattle.std.specs.Prelude.{Some}
use Rattle.smap_replies.specs.Outcome.{misuse}
use Rattle.std.proofs.lemmas.Result.{err_from_is_err_and}
use Rattle.std.specs.Str.Lines.{lines}
use Rattle.smap_record.specs.FileText.{without_mark}
use Rattle.smap_store.specs.MapList.{AreTaken, IsRefusedAt}
use Rattle.smap_text_answers.specs.Sources.{excluded_line}
use Rattle.smap_text_answers.proofs.SourcesLaws.{adds_excluded, adds_no_text, adds_taken, adds_refused}
use Rattle.smap_text_answers.proofs.sources.with_lines.Goals as goal

pub returns-in_err-whole : goal.returns-in_err-whole
returns-in_err-whole c =
    let p = err_from_is_err_and c.from_residual.result c.from_residual.ensures.1 in
    rw (p.1, p.2) (adds_no_text c.args.anywhere c.args.list.now c.args.bytes.items c.args.sources.exact c.args.sources.locations _ c.in_err-whole.ensures.refused)

pub returns-in-Some : goal.returns-in-Some
returns-in-Some c =
    let is = c.list_text-text.ensures ∙ ap without_mark (c.deref.ensures ∙ c.in_ok-whole.ensures.same) in
    let excluded = subst (λ text. excluded_line c.args.anywhere text ≡ Some c.in-Some.number) is (sym c.excluded_line.ensures ∙ c.in-Some.is) in
    adds_excluded c.args.anywhere c.args.list.now c.args.bytes.items c.args.sources.exact c.args.sources.locations
    c.in_ok-whole.ensures.whole c.in-Some.number excluded _ (ap misuse c.in_ok-line.ensures)

pub returns-in-Ok : goal.returns-in-Ok
returns-in-Ok c =
    let is = c.list_text-text.ensures ∙ ap without_mark (c.deref.ensures ∙ c.in_ok-whole.ensures.same) in
    let allowed = subst (λ text. excluded_line c.args.anywhere text ≡ None) is (sym c.excluded_line.ensures ∙ c.in_default.is) in
    adds_taken c.args.anywhere c.args.list.now c.args.bytes.items c.args.sources.exact c.args.sources.locations
    c.in_ok-whole.ensures.whole allowed c.add_list.new.locations
    (subst (λ text. AreTaken c.args.sources.exact (lines text) c.args.sources.locations c.add_list.new.locations) is c.in-Ok.ensures)

pub returns : goal.returns
returns c =
    let is = c.list_text-text.ensures ∙ ap without_mark (c.deref.ensures ∙ c.in_ok-whole.ensures.same) in
    let allowed = subst (λ text. excluded_line c.args.anywhere text ≡ None) is (sym c.excluded_line.ensures ∙ c.in_default.is) in
    adds_refused c.args.anywhere c.args.list.now c.args.bytes.items c.args.sources.exact c.args.sources.locations
    c.in_ok-whole.ensures.whole allowed c.add_list.new.locations c.in-Err.refused
    (subst (λ text. IsRefusedAt c.args.sources.exact (lines text) c.args.sources.locations c.add_list.new.locations c.in-Err.refused)
    is c.in-Err.ensures)
    _ c.in_ok-refused_list-in-Err.ensures
