use Rattle.std.proofs.Common.{sym, ap, ◌∙◌, true≢false}
use Rattle.smap_record.specs.FileText.{read_utf8}
use Rattle.smap_record.proofs.FileTextLaws.{value_of_utf8, no_value}
use Rattle.smap_explain.proofs.explaining.file_value.Goals as goal

pub returns-in-Ok : goal.returns-in-Ok
returns-in-Ok c = sym (ap read_utf8 (sym c.json_text.ensures) ∙ value_of_utf8 _ _ c.in-Ok.ensures.ok.0 c.in-Ok.ensures.ok.1)

pub returns-in-Err-2 : goal.returns-in-Err-2
returns-in-Err-2 c =
    sym (ap read_utf8 (sym c.json_text.ensures) ∙ no_value _
    (c.in-Err.ensures.err (λ memory. true≢false (sym (c.is_memory.ensures.1 memory) ∙ c.if-is_memory.false))))
