use Rattle.std.proofs.Common.{◌≡◌, ◌<◌, ℕ, suc, Bool, true, false, List, [], ◌∷◌, get_or, length, refl, sym, arith}
use Rattle.std.proofs.lemmas.Bool.{false_from_ne_true, or_from}
use Rattle.std.proofs.lemmas.List.Folds.{list_any_at}
use Rattle.std.specs.List.{list_any}
use Rattle.smap_anywhere.specs.Replaced.{is_quoting}
use Rattle.smap_anywhere.proofs.replacement.has_quoting.Goals as goal

-- no byte of a text passes a test
none_passes : (test : ℕ → Bool) (text : List ℕ) → ((k : ℕ) → k < length text → test (get_or text k 0) ≡ true → ⊥) → list_any test text ≡ false
none_passes test [] none = refl
none_passes test (byte ∷ text) none =
    or_from (test byte) (list_any test text) (false_from_ne_true (test byte) (none 0 (omega arith)))
    (none_passes test text (λ k within. none (suc k) (omega (arith, within))))

pub returns-in-Some : goal.returns-in-Some
returns-in-Some c = sym (list_any_at is_quoting c.args.text.now c.in-Some.field-0 0 (omega (arith, c.in-Some.ensures.0.high)) c.in-Some.ensures.1)

pub returns-in-None : goal.returns-in-None
returns-in-None c = sym (none_passes is_quoting c.args.text.now (λ k within here. c.in-None.ensures k (omega arith) within here))
