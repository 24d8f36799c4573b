-- From the bytes of a file to its JSON text: what stands after the first element that passes a test, and UTF-8.
use Rattle.std.proofs.Common.{◌≡◌, ℕ, ◌+◌, ◌-◌, List, [], length, drop, take, Bool, true, false, Some, None, cond, nat_lt, ltb-false, ⊎_elim, refl}
use Rattle.std.proofs.Common.{sym, ap, ◌∙◌, arith}
use Rattle.std.specs.List.{position, position_or_len, after_first}
use Rattle.std.specs.Str.{IsUtf8, is_utf8}
use Rattle.std.proofs.lemmas.Bool.{cond-true, cond-false, cases_Bool}
use Rattle.std.proofs.lemmas.Option.{cond_some}
use Rattle.std.proofs.lemmas.Str.{IsUtf8-from_is_utf8, is_utf8-from_IsUtf8}
use Rattle.serde_json.specs.Data.{Data}
use Rattle.serde_json.specs.Read.{read}
use Rattle.smap_record.specs.FileText.{read_utf8}
use Rattle.std.proofs.lemmas.List.{length-drop, take_all, drop_all}

-- where no index is chosen there is none
pub none_chosen : (b : Bool) (i : ℕ) → cond b (Some i) None ≡ None → b ≡ false
none_chosen true i h = absurd (cc)
none_chosen false i h = refl

pub after_first_is : (p : ℕ → Bool) (xs : List ℕ) (e : ℕ) → position p xs ≡ Some e → take (length xs - (e + 1)) (drop (e + 1) xs) ≡ after_first p xs
after_first_is p xs e h =
    let at = cond_some (nat_lt (position_or_len p xs) (length xs)) (position_or_len p xs) e h in
    take_all (length xs - (e + 1)) (drop (e + 1) xs) (omega (arith, length-drop (e + 1) xs)) ∙ ap (λ i. drop (i + 1) xs) (sym at.1)

pub nothing_after : (p : ℕ → Bool) (xs : List ℕ) → position p xs ≡ None → [] ≡ after_first p xs
nothing_after p xs h = sym (drop_all (position_or_len p xs + 1) xs (omega (arith, ltb-false _ _ (none_chosen _ _ h))))

-- ---- UTF-8

-- the value that a text of UTF-8 is
pub value_of_utf8 : (text : List ℕ) (value : Data) → IsUtf8 text → read text ≡ Some value → read_utf8 text ≡ Some value
value_of_utf8 text value utf8 is = cond-true (is_utf8 text) (read text) None (is_utf8-from_IsUtf8 text utf8) ∙ is

-- a text that is none, if it is UTF-8, is none
pub no_value : (text : List ℕ) → (IsUtf8 text → read text ≡ None) → read_utf8 text ≡ None
no_value text none =
    ⊎_elim
    (λ yes. cond-true (is_utf8 text) (read text) None yes ∙ none (IsUtf8-from_is_utf8 text yes))
    (λ no. cond-false (is_utf8 text) (read text) None no)
    (cases_Bool (is_utf8 text))
