use Rattle.std.proofs.Common.{◌≡◌, ◌∷◌, ◌∙◌, ap, arith, length}
use Rattle.std.specs.Prelude.{encode_utf8}
use Rattle.std.specs.Str.{chars}
use Rattle.std.proofs.lemmas.List.{length-append}
use Rattle.std.proofs.lemmas.Str.{length-encode}
use Rattle.smap_fit.specs.Lines.{mark_bytes}
use Rattle.smap_fit.proofs.text_lines.code_of.Goals as goal

pub returns-in-Some-eq65279-default-clause-bytes : goal.returns-in-Some-eq65279-default-clause-bytes
returns-in-Some-eq65279-default-clause-bytes c =
    let at = c.in-Some-eq65279-default in
    let is : at.field-0-0 ≡ 0xFEFF = at.field-0-0-test in
    let mark : mark_bytes (chars c.args.text.now) ≡ 3 = ap mark_bytes (at.ensures.chars ∙ ap (λ f. f ∷ chars at.code.now) is) in
    let few : length (encode_utf8 at.field-0-0) ≡ 3 = ap (λ f. length (encode_utf8 f)) is ∙ length-encode 0xFEFF in
    omega (arith, mark, few, ap length at.ensures.bytes, length-append (encode_utf8 at.field-0-0) at.code.now)
