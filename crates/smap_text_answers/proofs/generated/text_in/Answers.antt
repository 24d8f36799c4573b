use Rattle.std.proofs.Common.{◌≡◌, ◌≤◌, ℕ, List, length, ap, arith, if◌then◌else◌, is_none, subst, sym, Vec, Global, ◌∙◌}
use Rattle.std.specs.Prelude.{Some, None, string_bytes}
use Rattle.std.specs.Str.{IsUtf8}
use Rattle.std.proofs.lemmas.Bool.{false≢true}
use Rattle.std.proofs.lemmas.Str.{IsUtf8-string_bytes}
use Rattle.smap_record.specs.Limits.{most_file_bytes}
use Rattle.smap_replies.proofs.TextLaws.{is_no_text, is_text}
use Rattle.smap_text_answers.proofs.generated.text_in.Goals as goal

pub returns-in-Ok : goal.returns-in-Ok
returns-in-Ok c =
    let items : string_bytes c.in-Ok.text ≡ c.args.bytes.items = ap (λ (v : Vec ℕ Global). v.items) c.in-Ok.ensures.ok in
    let short : length c.args.bytes.items ≤ most_file_bytes = omega (arith, c.len.ensures) in
    ap (λ (t : List ℕ). Some t) items
    ∙ sym (ap (λ r. if is_none r then Some c.args.bytes.items else None) (is_text c.args.bytes.items short (subst IsUtf8 items (IsUtf8-string_bytes c.in-Ok.text))))

pub returns : goal.returns
returns c =
    let short : length c.args.bytes.items ≤ most_file_bytes = omega (arith, c.len.ensures) in
    sym (ap (λ r. if is_none r then Some c.args.bytes.items else None) (is_no_text c.args.bytes.items short (λ is. false≢true (c.in-Err.ensures.succeeds is))))
