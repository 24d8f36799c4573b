use Rattle.std.proofs.Common.{◌≡◌, ◌∙◌, ℕ, List, Some, None, ap, sym}
use Rattle.std.proofs.lemmas.Bool.{cond-false, cond-true, false_from_ne_true}
use Rattle.std.proofs.lemmas.Str.{IsUtf8-from_is_utf8, is_utf8-from_IsUtf8}
use Rattle.std.specs.Str.{IsUtf8, is_utf8}
use Rattle.smap_text_answers.specs.NamedPlace.{NamedPlace, with_function}
use Rattle.smap_text_answers.specs.PlaceSeen.{place_seen}
use Rattle.smap_text_answers.specs.UrlPlace.{UrlPlace}
use Rattle.smap_text_answers.proofs.named_place.with_text.Goals as goal

text_function : (place : UrlPlace) (function text : List ℕ) → text ≡ function → IsUtf8 function
    → Some (record { place = place; function = Some text }) ≡ with_function (Some place) function
text_function place function text is utf8 =
    ap (λ t. Some (record { place = place; function = Some t })) is ∙ sym (cond-true (is_utf8 function) _ None (is_utf8-from_IsUtf8 _ utf8))

no_function : (place : UrlPlace) (function : List ℕ) → (IsUtf8 function → ⊥) → None ≡ with_function (Some place) function
no_function place function no_text =
    sym (cond-false (is_utf8 function) _ None (false_from_ne_true (is_utf8 function) (λ is. no_text (IsUtf8-from_is_utf8 _ is))))

pub returns-in-Ok : goal.returns-in-Ok
returns-in-Ok c = text_function (place_seen c.args.place) c.args.function.now c.in-Ok.function.now c.in-Ok.ensures.cases.0 c.in-Ok.ensures.cases.1

pub returns-in-Err : goal.returns-in-Err
returns-in-Err c = no_function (place_seen c.args.place) c.args.function.now c.in-Err.ensures.cases.0
