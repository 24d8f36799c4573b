-- What is written behind a short text.
use Rattle.std.proofs.Common.{◌≡◌, ◌+◌, ◌/◌, ◌<◌, ◌≤◌, ℕ, decimal, List, ◌++◌, length, take, drop, sym, ap, ◌∙◌, arith, append_assoc, length-append}
use Rattle.itoa.proofs.Decimal.{length_one, length_pair, length_two}
use Rattle.std.proofs.lemmas.List.{length-take, take-append-drop, take_at}

-- bytes that are written where a text ends stand behind it
pub written_behind : (old new bytes : List ℕ) (start end : ℕ) → start ≤ length old → start + length bytes ≡ end →
    take start new ≡ take start old → drop start new ≡ bytes ++ drop end old → take end new ≡ take start old ++ bytes
written_behind old new bytes start end within count before written =
    let whole : new ≡ (take start old ++ bytes) ++ drop end old =
    sym (take-append-drop start new) ∙ ap (λ l. l ++ drop start new) before ∙ ap (λ l. take start old ++ l) written
    ∙ sym (append_assoc (take start old) bytes (drop end old)) in
    ap (take end) whole
    ∙ take_at (take start old ++ bytes) (drop end old) end (omega (arith, length-append (take start old) bytes, length-take start old))

-- how many digits a number below 10000 has
pub length_three : (n : ℕ) → 100 ≤ n → n < 1000 → length (decimal n) ≡ 3
length_three n low high = length_pair n low (omega arith) ∙ ap (λ count. count + 2) (length_one (n / 100) (omega arith))

pub length_four : (n : ℕ) → 1000 ≤ n → n < 10000 → length (decimal n) ≡ 4
length_four n low high =
    length_pair n (omega arith) (omega arith) ∙ ap (λ count. count + 2) (length_two (n / 100) (omega arith) (omega arith))
