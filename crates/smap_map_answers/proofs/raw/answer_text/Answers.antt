use Rattle.std.proofs.Common.{◌≡◌, ◌≤◌, ℕ, length, ap, subst, arith, inr, Vec, Global}
use Rattle.std.specs.Prelude.{string_bytes}
use Rattle.std.specs.Str.{IsUtf8}
use Rattle.std.proofs.lemmas.Str.{IsUtf8-string_bytes}
use Rattle.std.proofs.lemmas.Bool.{false≢true}
use Rattle.smap_mappings.specs.Faults.{first_fault}
use Rattle.smap_mappings.specs.Mappings.{mappings_of}
use Rattle.smap_index.specs.Answer.{answer_at_or_before}
use Rattle.smap_replies.specs.Outcome.{OrMemory, report_of}
use Rattle.smap_map_answers.specs.Raw.{fault_or_answer}
use Rattle.smap_map_answers.proofs.RawLaws.{text_is_utf8, text_not_utf8}
use Rattle.smap_mappings.specs.Limits.{most_indices, most_text_bytes}
use Rattle.smap_map_answers.proofs.raw.answer_text.Goals as goal

pub returns-in-Ok : goal.returns-in-Ok
returns-in-Ok c =
    let items : string_bytes c.in-Ok.text ≡ c.args.bytes.items = ap (λ (v : Vec ℕ Global). v.items) c.in-Ok.ensures.ok in
    let short : length c.args.bytes.items ≤ most_text_bytes = omega (arith, c.len.ensures) in
    let is_text = subst IsUtf8 items (IsUtf8-string_bytes c.in-Ok.text) in
    rw (text_is_utf8 c.args.bytes.items c.args.line c.args.column short is_text)
    (subst (λ bytes. OrMemory (λ t. t ≡ fault_or_answer (first_fault bytes most_indices most_indices)
    (answer_at_or_before (mappings_of bytes) c.args.line c.args.column)) (report_of c.answer_mappings.result)) items c.answer_mappings.ensures)

pub returns : goal.returns
returns c =
    let short : length c.args.bytes.items ≤ most_text_bytes = omega (arith, c.len.ensures) in
    rw (text_not_utf8 c.args.bytes.items c.args.line c.args.column short (λ is_text. false≢true (c.in-Err.ensures.succeeds is_text)))
    (inr c.in_ok-refused_by-in-Err.ensures)
