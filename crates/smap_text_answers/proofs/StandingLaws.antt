-- Where the map of a URL stands that a text names.
use Rattle.std.proofs.Common.{◌≡◌, ◌∙◌, ℕ, List, ap, sym}
use Rattle.std.proofs.lemmas.Bool.{cond-false, cond-true, false_from_ne_true}
use Rattle.std.proofs.lemmas.Str.{IsUtf8-from_is_utf8, is_utf8-from_IsUtf8}
use Rattle.std.specs.Prelude.{Option}
use Rattle.std.specs.Str.{IsUtf8, is_utf8}
use Rattle.url.specs.Parts.{Parts}
use Rattle.smap_replies.specs.Standing.StandingSeen.{at_base}
use Rattle.smap_text_answers.specs.Standing.{standing_at, standing_of_text}

module _ (base : Option Parts) (url : List ℕ) where
  pub at_text : (text : List ℕ) → text ≡ url → IsUtf8 url → standing_at base text ≡ standing_of_text base url
  at_text text is utf8 = ap (standing_at base) is ∙ sym (cond-true (is_utf8 url) _ _ (is_utf8-from_IsUtf8 _ utf8))

  pub at_no_text : (IsUtf8 url → ⊥) → at_base base ≡ standing_of_text base url
  at_no_text no_text = sym (cond-false (is_utf8 url) _ _ (false_from_ne_true (is_utf8 url) (λ is. no_text (IsUtf8-from_is_utf8 _ is))))
