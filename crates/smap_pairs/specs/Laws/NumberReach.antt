-- Of how many digits and bytes the numbers are that a text begins with.
use Rattle.std.proofs.Common.{◌≡◌, ◌==◌, ◌+◌, ◌≤◌, ℕ, Bool, true, false, cond, List, [], ◌∷◌, length, take, drop, get_or, length-drop}
use Rattle.std.proofs.Common.{Option, Some, None, option_map, refl, sym, ap, ◌∙◌, arith, inl, inr}
use Rattle.std.specs.Char.{is_ascii_digit}
use Rattle.std.specs.Fmt.{decimal}
use Rattle.std.proofs.lemmas.Bool.{cases_lt}
use Rattle.std.proofs.lemmas.Fmt.{length-decimal-le}
use Rattle.std.proofs.lemmas.List.{length-take-le}
use Rattle.std.proofs.lemmas.List.Sums.{prefix_len-le-length}
use Rattle.smap_lines.specs.Laws.Number.{none_else, number_is}
use Rattle.smap_lines.specs.Numbers.{decimal_number}
use Rattle.smap_pairs.specs.Numbers.{digits, number_after, numbers_after, with_column, with_line}

-- ---- a number

no_number : {A : Type 0} (o : Option A) (b : Bool) → o ≡ None → cond b o None ≡ None
no_number o true none = none
no_number o false none = refl

-- one of more than 10 digits is none
many_digits : (text : List ℕ) → 11 ≤ length text → decimal_number text ≡ None
many_digits text many = go (decimal_number text) refl
  where
    go : (o : Option ℕ) → decimal_number text ≡ o → o ≡ None
    go None is = refl
    go (Some n) is =
        let printed = number_is text n is in
        let few : length (decimal n) ≤ 10 = length-decimal-le 10 n (omega arith) (omega (arith, printed.1)) (omega (arith, printed.1)) in
        absurd (omega (arith, many, few, ap length printed.0))

long_number : (byte : ℕ) (text : List ℕ) → 11 ≤ digits text → number_after (byte ∷ text) ≡ None
long_number byte text many =
    let size : length (take (digits text) text) ≡ digits text = length-take-le (digits text) text (prefix_len-le-length is_ascii_digit text) in
    no_number _ (byte == 58)
    (ap (option_map (λ n. (n, digits text + 1))) (many_digits (take (digits text) text) (omega (arith, size, many))))

abbrev second : Option (ℕ × ℕ) → ℕ
second None = 0
second (Some (n, more)) = more

size_of : (o : Option ℕ) (size n more : ℕ) → option_map {U = ℕ × ℕ} (λ n. (n, size)) o ≡ Some (n, more) → more ≡ size
size_of None size n more is = cc
size_of (Some m) size n more is = sym (ap second is)

-- how many bytes it is
pub number_size : (x : List ℕ) (n size : ℕ) → number_after x ≡ Some (n, size) → (size ≤ 11) × (size ≤ length x)
number_size [] n size is = cc
number_size (byte ∷ x) n size is =
    let parts = none_else (byte == 58) (option_map {U = ℕ × ℕ} (λ n. (n, digits x + 1)) (decimal_number (take (digits x) x))) (n, size) is in
    let sized : size ≡ digits x + 1 = size_of (decimal_number (take (digits x) x)) (digits x + 1) n size parts.1 in
    let within : digits x ≤ length x = prefix_len-le-length is_ascii_digit x in
    elim (cases_lt (digits x) 11) [
      | inl few ↦ (omega (arith, sized, few), omega (arith, sized, within))
      | inr many ↦ absurd (cc (long_number byte x many, is))
    ]

no_digits : (x : List ℕ) → decimal_number (take 0 x) ≡ None
no_digits [] = refl
no_digits (byte ∷ x) = refl

-- of how many digits it is
pub number_digits : (byte : ℕ) (x : List ℕ) (n size : ℕ) → number_after (byte ∷ x) ≡ Some (n, size)
    → (size ≡ digits x + 1) × (1 ≤ digits x) × (digits x ≤ 10)
number_digits byte x n size is =
    let parts = none_else (byte == 58) (option_map {U = ℕ × ℕ} (λ n. (n, digits x + 1)) (decimal_number (take (digits x) x))) (n, size) is in
    let sized : size ≡ digits x + 1 = size_of (decimal_number (take (digits x) x)) (digits x + 1) n size parts.1 in
    let most = number_size (byte ∷ x) n size is in
    let some : 1 ≤ digits x = elim (cases_lt 0 (digits x)) [
      | inl some ↦ omega (arith, some)
      | inr none ↦
          let zero : digits x ≡ 0 = omega (arith, none) in
          let off : option_map {U = ℕ × ℕ} (λ n. (n, digits x + 1)) (decimal_number (take (digits x) x)) ≡ None
          = ap (option_map {U = ℕ × ℕ} (λ n. (n, digits x + 1))) (ap (λ d. decimal_number (take d x)) zero ∙ no_digits x) in
          absurd (cc (off, parts.1))
    ] in
    (sized, some, omega (arith, sized, most.0))

-- it begins with a `:`
pub number_colon : (text : List ℕ) (number : ℕ × ℕ) → number_after text ≡ Some number → (get_or text 0 0 == 58) ≡ true
number_colon [] number is = cc
number_colon (byte ∷ text) number is =
    (none_else (byte == 58) (option_map {U = ℕ × ℕ} (λ n. (n, digits text + 1)) (decimal_number (take (digits text) text))) number is).0

-- ---- both numbers

-- ---- where they are, and how many bytes

pub no_numbers : numbers_after [] ≡ None
unfolding numbers_after
no_numbers = refl

abbrev pub third : Option (ℕ × ℕ × ℕ) → ℕ
third None = 0
third (Some (line, column, size)) = size

column_size : (line first size : ℕ) (rest : List ℕ) (o : Option (ℕ × ℕ)) (numbers : ℕ × ℕ × ℕ) → number_after rest ≡ o
    → with_column line first o ≡ Some numbers → third (Some numbers) ≤ first + length rest
column_size line first size rest None numbers from is = cc
column_size line first size rest (Some (n, bytes)) numbers from is =
    let sized = number_size rest n bytes from in let both : first + bytes ≡ third (Some numbers) = ap third is in omega (arith, sized.1, both)

line_size : (text : List ℕ) (o : Option (ℕ × ℕ)) (numbers : ℕ × ℕ × ℕ) → number_after text ≡ o → with_line text o ≡ Some numbers
    → third (Some numbers) ≤ length text
line_size text None numbers from is = cc
line_size text (Some (n, bytes)) numbers from is =
    let sized = number_size text n bytes from in
    let most = column_size n bytes 0 (drop bytes text) (number_after (drop bytes text)) numbers refl is in
    omega (arith, most, sized.1, length-drop bytes text)

pub numbers_size : (text : List ℕ) (numbers : ℕ × ℕ × ℕ) → numbers_after text ≡ Some numbers → third (Some numbers) ≤ length text
unfolding numbers_after
numbers_size text numbers is = line_size text (number_after text) numbers refl is

column_some : (line first : ℕ) (o : Option (ℕ × ℕ)) (numbers : ℕ × ℕ × ℕ) → with_column line first o ≡ Some numbers → first ≤ third (Some numbers)
column_some line first None numbers is = cc
column_some line first (Some (n, bytes)) numbers is = let both : first + bytes ≡ third (Some numbers) = ap third is in omega (arith, both)

line_some : (text : List ℕ) (o : Option (ℕ × ℕ)) (numbers : ℕ × ℕ × ℕ) → number_after text ≡ o → with_line text o ≡ Some numbers
    → 1 ≤ third (Some numbers)
line_some text None numbers from is = cc
line_some [] (Some (n, bytes)) numbers from is = cc
line_some (byte ∷ text) (Some (n, bytes)) numbers from is =
    omega (arith, (number_digits byte text n bytes from).0, column_some n bytes (number_after (drop bytes (byte ∷ text))) numbers is)

pub numbers_some : (text : List ℕ) (numbers : ℕ × ℕ × ℕ) → numbers_after text ≡ Some numbers → 1 ≤ third (Some numbers)
unfolding numbers_after
numbers_some text numbers is = line_some text (number_after text) numbers refl is
