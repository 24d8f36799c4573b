use Rattle.std.proofs.Common.{subst, ◌∙◌}
use Rattle.std.specs.Prelude.{Ok, string_bytes}
use Rattle.smap_text_answers.proofs.NamerLaws.{generated_is}
use Rattle.smap_text_answers.proofs.generated.read_generated.Goals as goal

pub returns-in-Ok-true : goal.returns-in-Ok-true
returns-in-Ok-true g c =
    let bytes = c.in_ok-bytes.bytes.items in
    let text = string_bytes c.in-Some.text in
    let is = generated_is c.args.map.now.stated bytes text _ c.in-Some.ensures (rw c.deref.ensures at c.in-Ok-true.ensures) in
    (subst (λ b. g.F.FileReader.gives c.args.files.now c.args.number c.args.file.now (Ok b)) is.0 c.in_ok-bytes.ensures.read, is.1 ∙ c.in-Ok-true.field-0-test)

pub returns-in-Ok-false : goal.returns-in-Ok-false
returns-in-Ok-false g c =
    let bytes = c.in_ok-bytes.bytes.items in
    let text = string_bytes c.in-Some.text in
    let is = generated_is c.args.map.now.stated bytes text _ c.in-Some.ensures (rw c.deref.ensures at c.in-Ok-false.ensures) in
    (text, subst (λ b. g.F.FileReader.gives c.args.files.now c.args.number c.args.file.now (Ok b)) is.0 c.in_ok-bytes.ensures.read, is.1 ∙ c.in-Ok-false.field-0-test)
