use Rattle.std.proofs.Common.{ap, ◌∙◌, [], ◌∷◌, ◌++◌}
use Rattle.std.proofs.lemmas.Bool.{cond-true}
use Rattle.std.proofs.lemmas.Option.{MatchOption-at_none}
use Rattle.smap_mappings.specs.Limits.{most_indices}
use Rattle.smap_index.specs.Answer.{answer_at_or_before}
use Rattle.smap_index.specs.Faults.{build_fault, part_fault}
use Rattle.smap_index.specs.Parts.{joined, whole_text}
use Rattle.smap_map_answers.proofs.raw.look_up.Goals as goal

pub no_memory-requires : goal.no_memory-requires
unfolding build_fault
no_memory-requires c =
    let parts = c.in_ok-push.ensures.items ∙ ap (λ list. list ++ whole_text c.args.text ∷ []) c.new-parts.ensures.items in
    let none = cond-true _ _ _ c.requires.may_stand ∙ ap part_fault parts
    ∙ c.one_text_is_its_mappings.ensures.sound c.args.text most_indices most_indices c.requires.within in
    MatchOption-at_none _ _ none c.in-Err.ensures

pub returns-in-Ok : goal.returns-in-Ok
unfolding build_fault
returns-in-Ok c =
    let parts = c.in_ok-push.ensures.items ∙ ap (λ list. list ++ whole_text c.args.text ∷ []) c.new-parts.ensures.items in
    let none = cond-true _ _ _ c.requires.may_stand ∙ ap part_fault parts
    ∙ c.one_text_is_its_mappings.ensures.sound c.args.text most_indices most_indices c.requires.within in
    let built = MatchOption-at_none _ _ none c.in-Ok.ensures in
    c.look_up.ensures.answer ∙ ap (λ list. answer_at_or_before list c.args.line c.args.column)
    (ap joined (built.parts_are ∙ parts) ∙ c.one_text_is_its_mappings.ensures.list c.args.text)
