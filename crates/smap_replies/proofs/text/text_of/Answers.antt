use Rattle.std.proofs.Common.{◌≡◌, ◌≤◌, ℕ, length, ap, arith, subst, Vec, Global}
use Rattle.std.specs.Prelude.{string_bytes}
use Rattle.std.specs.Str.{IsUtf8}
use Rattle.std.proofs.lemmas.Bool.{false≢true}
use Rattle.std.proofs.lemmas.Str.{IsUtf8-string_bytes}
use Rattle.smap_codes.specs.declared.code.Code.TheVariants.{NotUtf8}
use Rattle.smap_record.specs.Limits.{most_file_bytes}
use Rattle.smap_replies.proofs.TextLaws.{for_code, is_no_text, is_text}
use Rattle.smap_replies.proofs.text.text_of.Goals as goal

pub returns-in-Ok-clause-same : goal.returns-in-Ok-clause-same
returns-in-Ok-clause-same c = ap (λ (v : Vec ℕ Global). v.items) c.in-Ok.ensures.ok

pub returns-in-Ok-clause-whole : goal.returns-in-Ok-clause-whole
returns-in-Ok-clause-whole c =
    let items : string_bytes c.in-Ok.text ≡ c.args.bytes.items = ap (λ (v : Vec ℕ Global). v.items) c.in-Ok.ensures.ok in
    let short : length c.args.bytes.items ≤ most_file_bytes = omega (arith, c.len.ensures) in
    is_text c.args.bytes.items short (subst IsUtf8 items (IsUtf8-string_bytes c.in-Ok.text))

pub returns-clause-refused : goal.returns-clause-refused
returns-clause-refused c =
    let short : length c.args.bytes.items ≤ most_file_bytes = omega (arith, c.len.ensures) in
    for_code c.args.path.now c.args.bytes.items NotUtf8 _
    (is_no_text c.args.bytes.items short (λ is. false≢true (c.in-Err.ensures.succeeds is))) c.in_ok-refused_file-in-Err.ensures
