-- Where the query or the fragment of a URL begins.
use Rattle.std.proofs.Common.{◌≡◌, ℕ, Bool, List, Option, Some, None, length, get_or, sym, arith}
use Rattle.std.specs.Prelude.{not}
use Rattle.std.specs.List.{prefix_len}
use Rattle.std.specs.Option.{unwrap_or}
use Rattle.std.proofs.lemmas.Bool.{false_from_ne_true, not_from_false, not_from_true}
use Rattle.std.proofs.lemmas.List.Sums.{prefix_len_is}
use Rattle.memchr.specs.Find.{IsFirstByte}

-- where the first byte of a kind stands, or else the text ends
pub first_byte : (test : ℕ → Bool) (text : List ℕ) (found : Option ℕ) → IsFirstByte test text found
    → unwrap_or found (length text) ≡ prefix_len (λ byte. not (test byte)) text
first_byte test text None nowhere =
    sym (prefix_len_is (λ byte. not (test byte)) text (length text) 0 (omega arith)
    (λ k before. not_from_false (test (get_or text k 0)) (false_from_ne_true (test (get_or text k 0)) (nowhere k (omega arith) before)))
    (λ past. absurd (omega arith)))
first_byte test text (Some at) (first, is) =
    sym (prefix_len_is (λ byte. not (test byte)) text at 0 (let high = first.high in omega arith)
    (λ k before. not_from_false (test (get_or text k 0)) (false_from_ne_true (test (get_or text k 0)) (first.before k (omega arith) before)))
    (λ within. not_from_true (test (get_or text at 0)) is))
