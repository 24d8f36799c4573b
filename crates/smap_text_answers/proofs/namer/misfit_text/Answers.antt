use Rattle.std.proofs.Common.{◌++◌, ◌∙◌, ap, codes}
use Rattle.smap_text.specs.Shown.{shown}
use Rattle.smap_text_answers.proofs.namer.misfit_text.Goals as goal

pub returns : goal.returns
returns c =
    c.in_ok-push_str-2.ensures.bytes
    ∙ ap (λ l. l ++ c.deref.result.now) (c.in_ok-push_str.ensures.bytes ∙ ap (λ l. l ++ codes " does not fit ") c.in_ok-text.ensures)
    ∙ ap (λ l. ((codes "names: " ++ shown c.args.path.now) ++ codes " does not fit ") ++ l) (c.deref.ensures ∙ c.in_ok-file.ensures)
