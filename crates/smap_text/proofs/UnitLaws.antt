-- A step over one character: how far it goes, and how many units it has.
use Rattle.std.proofs.Common.{◌≡◌, ◌+◌, ◌<◌, ◌≤◌, ℕ, true, List, [], ◌∷◌, ◌++◌, length, get_or, take, drop, sum_by, refl, sym, ap, subst, ◌∙◌, arith, add-zero}
use Rattle.std.specs.Str.{IsUtf8, IsCharBoundary, chars}
use Rattle.std.proofs.lemmas.Bool.{and_from, and_parts}
use Rattle.std.proofs.lemmas.Bool.Decides.{nat_tests}
use Rattle.std.proofs.lemmas.List.{append-nil, append_assoc, length-append, length-drop, length-take-le, take_at, get_or-drop, take-append-drop}
use Rattle.std.proofs.lemmas.List.Sums.{sum_by_push}
use Rattle.std.proofs.lemmas.Str.{chars-nil, chars-append, chars_past_char, length-encode, IsUtf8-drop, IsUtf8-take, IsCharBoundary-past_char}
use lib.Utf8.{encode, encodes, scalar, scalars}
use Rattle.smap_text.specs.Private.Ends.{bytes_by_first, units_by_first}
use Rattle.smap_text.specs.Units.{units_before, units_in, units_of}
use Rattle.smap_text.proofs.CharacterLaws.{Spelled, one, two, three, four, spelled}

-- ---- the first byte

by_first : (c : ℕ) → Spelled c → (bs : List ℕ)
    → (bytes_by_first (get_or (encode c ++ bs) 0 0) ≡ length (encode c)) × (units_by_first (get_or (encode c ++ bs) 0 0) ≡ units_of c)
by_first c (one low e) bs = rw e (grind (arith, nat_tests), grind (arith, nat_tests))
by_first c (two past low e) bs = rw e (grind (arith, nat_tests), grind (arith, nat_tests))
by_first c (three past low e) bs = rw e (grind (arith, nat_tests), grind (arith, nat_tests))
by_first c (four past low e) bs = rw e (grind (arith, nat_tests), grind (arith, nat_tests))

pub units_within : (b : ℕ) → (units_by_first b ≤ bytes_by_first b) × (0 < bytes_by_first b)
units_within b = (grind (arith, nat_tests), grind (arith, nat_tests))

-- ---- the units before

chars_of_one : (c : ℕ) → scalar c ≡ true → chars (encode c) ≡ c ∷ []
chars_of_one c is =
    let whole : encode c ≡ encode c ++ [] = sym (append-nil (encode c)) in
    chars_past_char (encode c) [] c (c ∷ [], (and_from (scalar c) true is refl, append-nil (encode c))) whole ∙ ap (λ l. c ∷ l) chars-nil

pub none_before : (text : List ℕ) → units_before text 0 ≡ 0
unfolding units_before
none_before text = ap (sum_by units_of) chars-nil

pub all_before : (text : List ℕ) (at : ℕ) → at ≤ length text → length text ≤ at → units_before text at ≡ units_in text
unfolding units_in
all_before text at within past = let same : at ≡ length text = omega arith in ap (units_before text) same

-- a character stands at the byte, and has this first byte
pub record Character (text : List ℕ) (at first : ℕ) : Type 0 where
  pub boundary : IsCharBoundary text (at + bytes_by_first first)
  pub units : units_before text (at + bytes_by_first first) ≡ units_before text at + units_by_first first
  pub character : units_of (get_or (chars (drop at text)) 0 0) ≡ units_by_first first

step : (text : List ℕ) (at c : ℕ) (rest : List ℕ) → IsUtf8 text → IsCharBoundary text at → scalar c ≡ true → drop at text ≡ encode c ++ rest
    → units_before text (at + length (encode c)) ≡ units_before text at + units_of c
unfolding units_before
step text at c rest is_text begins is found =
    let front : length (take at text) ≡ at = length-take-le at text begins.0 in
    let whole : text ≡ (take at text ++ encode c) ++ rest =
    sym (take-append-drop at text) ∙ ap (λ l. take at text ++ l) found ∙ sym (append_assoc (take at text) (encode c) rest) in
    let both : length (take at text ++ encode c) ≡ at + length (encode c) = length-append (take at text) (encode c) ∙ ap (λ n. n + length (encode c)) front in
    let taken : take (at + length (encode c)) text ≡ take at text ++ encode c =
    ap (take (at + length (encode c))) whole ∙ take_at (take at text ++ encode c) rest (at + length (encode c)) both in
    ap (λ l. sum_by units_of (chars l)) taken
    ∙ ap (sum_by units_of) (chars-append (take at text) (encode c) (IsUtf8-take text at is_text begins)
    ∙ ap (λ l. chars (take at text) ++ l) (chars_of_one c is))
    ∙ sum_by_push units_of (chars (take at text)) c

of_spelled : (text : List ℕ) (at first c : ℕ) (rest : List ℕ) → IsUtf8 text → IsCharBoundary text at → scalar c ≡ true
    → drop at text ≡ encode c ++ rest → first ≡ get_or text at 0 → Character text at first
of_spelled text at first c rest is_text begins is found is_first =
    let byte : first ≡ get_or (encode c ++ rest) 0 0 =
    is_first ∙ sym (get_or-drop at text 0 0 ∙ ap (λ n. get_or text n 0) (add-zero at)) ∙ ap (λ l. get_or l 0 0) found in
    let known = by_first c (spelled c is) rest in
    let bytes : bytes_by_first first ≡ length (encode c) = ap bytes_by_first byte ∙ known.0 in
    let units : units_by_first first ≡ units_of c = ap units_by_first byte ∙ known.1 in
    let is_rest : IsUtf8 (drop at text) = IsUtf8-drop text at is_text begins in
    record {
      boundary = subst (λ n. IsCharBoundary text (at + n)) (sym (bytes ∙ length-encode c)) (IsCharBoundary-past_char text rest at c begins.0 is_rest found);
      units = ap (λ n. units_before text (at + n)) bytes ∙ step text at c rest is_text begins is found ∙ ap (λ n. units_before text at + n) (sym units);
      character = ap (λ l. units_of (get_or l 0 0)) (chars_past_char (drop at text) rest c is_rest found) ∙ sym units;
    }

pub character_at : (text : List ℕ) (at first : ℕ) → IsUtf8 text → IsCharBoundary text at → at < length text → first ≡ get_or text at 0 → Character text at first
character_at text at first is_text begins inside is_first = go is_rest.0 is_rest.1.0 is_rest.1.1
  where
    is_rest : IsUtf8 (drop at text)
    is_rest = IsUtf8-drop text at is_text begins

    go : (cs : List ℕ) → scalars cs ≡ true → encodes cs ≡ drop at text → Character text at first
    go [] _ spells = absurd (omega (arith, ap length spells, length-drop at text))
    go (c ∷ cs) is spells = of_spelled text at first c (encodes cs) is_text begins (and_parts (scalar c) (scalars cs) is).0 (sym spells) is_first
