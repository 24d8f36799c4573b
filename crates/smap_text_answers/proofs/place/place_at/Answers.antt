use Rattle.std.proofs.Common.{◌≡◌, ◌==◌, ◌∙◌, ℕ, List, Some, None, false, ap, length, sym}
use Rattle.std.proofs.lemmas.Bool.{cond-false, cond-true, false_from_ne_true}
use Rattle.std.proofs.lemmas.Str.{IsUtf8-from_is_utf8, is_utf8-from_IsUtf8}
use Rattle.std.specs.Str.{IsUtf8, is_utf8}
use Rattle.smap_text_answers.specs.UrlPlace.{place_with}
use Rattle.smap_printing.specs.declared.printed_position.PrintedPosition.{PrintedPosition}
use Rattle.smap_text_answers.proofs.place.place_at.Goals as goal

text_place : (url text : List ℕ) (position : PrintedPosition) → (length url == 0) ≡ false → text ≡ url → IsUtf8 url
    → Some (record { url = text; position = position }) ≡ place_with url (Some position)
text_place url text position some is utf8 =
    ap (λ u. Some (record { url = u; position = position })) is ∙ sym (cond-true (is_utf8 url) _ None (is_utf8-from_IsUtf8 _ utf8))
    ∙ sym (cond-false (length url == 0) None _ some)

no_place : (url : List ℕ) (position : PrintedPosition) → (length url == 0) ≡ false → (IsUtf8 url → ⊥) → None ≡ place_with url (Some position)
no_place url position some no_text =
    sym (cond-false (is_utf8 url) _ None (false_from_ne_true (is_utf8 url) (λ is. no_text (IsUtf8-from_is_utf8 _ is))))
    ∙ sym (cond-false (length url == 0) None _ some)

pub returns-in-Ok : goal.returns-in-Ok
returns-in-Ok c = text_place c.args.url.now c.in-Ok.url.now c.args.position (sym c.is_empty.ensures ∙ c.if-is_empty.false) c.in-Ok.ensures.cases.0 c.in-Ok.ensures.cases.1

pub returns-in-Err : goal.returns-in-Err
returns-in-Err c = no_place c.args.url.now c.args.position (sym c.is_empty.ensures ∙ c.if-is_empty.false) c.in-Err.ensures.cases.0
