use Rattle.std.proofs.Common.{ap, inr, sym, ◌∙◌}
use Rattle.std.specs.Prelude.{string_bytes}
use Rattle.smap_mappings.specs.Mappings.{mappings_of}
use Rattle.smap_index.specs.Answer.{answer_at_or_before}
use Rattle.smap_map_answers.specs.Raw.{raw_line, fault_or_answer}
use Rattle.smap_replies.specs.Outcome.{answer}
use Rattle.smap_map_answers.proofs.raw.answer_mappings.Goals as goal

pub returns-in-Ok : goal.returns-in-Ok
returns-in-Ok c =
    let found = c.in_ok-answer-in-Ok.ensures ∙ ap (λ text. answer_at_or_before (mappings_of text) c.args.line c.args.column) c.in-Ok.ensures.inside in
    inr (ap answer (c.in_ok-raw_line-in-Ok.ensures ∙ ap raw_line found)
    ∙ ap (λ first. fault_or_answer first (answer_at_or_before (mappings_of (string_bytes c.args.text)) c.args.line c.args.column)) (sym c.in-Ok.ensures.clean))
