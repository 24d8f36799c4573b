-- The tables in `src/base64.rt` hold, at each byte, the byte's place in the alphabet, and the number that it spells by
-- itself.
use Rattle.std.proofs.Common.{◌≡◌, ℕ, ◌<◌, ◌≤◌, true, false, [], ◌∷◌, get_or, Some, None, Option, cond, ltb, refl, sym, ◌∙◌, ap, map, zero-add}
use Rattle.std.proofs.Common.{lt-ltb, le-ltb, to_z, of_z, w32, Bool, eqb, leb, ◌&&◌, ◌||◌}
use Rattle.std.specs.Prelude.{ℤ, pos, int_lt}
use Rattle.std.specs.List.{range_with_len}
use Rattle.std.proofs.lemmas.Bool.{cond-true, cond-false}
use Rattle.std.proofs.lemmas.List.FromFn.{get_or-map-range_with_len}
use Rattle.smap_mappings.specs.Base64.{digit_of}
use Rattle.smap_mappings.specs.Vlq.{is_continuing, unsigned_of, number_of}
use Rattle.smap_mappings.specs.declared.base64.TheConstants.{DIGITS, NUMBERS}

-- what holds of each byte of a list of all holds of each byte
by_byte : {A : Type 0} (f g : ℕ → A) (default : A) → map f (range_with_len 0 256) ≡ map g (range_with_len 0 256) → (byte : ℕ) → byte < 256 → f byte ≡ g byte
by_byte f g default same byte below =
    sym (get_or-map-range_with_len f 0 256 byte byte default below (zero-add byte))
    ∙ ap (λ values. get_or values byte default) same
    ∙ get_or-map-range_with_len g 0 256 byte byte default below (zero-add byte)

-- what the table of digits says of a byte
abbrev pub table_digit : ℕ → Option ℕ
table_digit byte = cond (ltb (get_or DIGITS byte 0) 64) (Some (get_or DIGITS byte 0)) None

digit_of_is_table : (byte : ℕ) → byte < 256 → digit_of byte ≡ table_digit byte
unfolding digit_of
digit_of_is_table = by_byte digit_of table_digit None refl

pub digit_found : (byte : ℕ) → byte < 256 → get_or DIGITS byte 0 < 64 → Some (get_or DIGITS byte 0) ≡ digit_of byte
digit_found byte below found =
    sym (digit_of_is_table byte below ∙ ap (λ b. cond b (Some (get_or DIGITS byte 0)) None) (lt-ltb (get_or DIGITS byte 0) 64 found))

pub digit_missing : (byte : ℕ) → byte < 256 → 64 ≤ get_or DIGITS byte 0 → None ≡ digit_of byte
digit_missing byte below missing =
    sym (digit_of_is_table byte below ∙ ap (λ b. cond b (Some (get_or DIGITS byte 0)) None) (le-ltb (get_or DIGITS byte 0) 64 missing))

-- what the table of numbers says of a byte, as the code reads it
abbrev pub entry : ℕ → ℤ
entry byte = to_z w32 (of_z w32 (get_or NUMBERS byte (pos 0)))

abbrev pub table_number : ℕ → Option ℤ
table_number byte = cond (int_lt (entry byte) (pos 16)) (Some (entry byte)) None

number_is_table : (byte : ℕ) → byte < 256 → number_of (byte ∷ []) ≡ table_number byte
unfolding number_of unsigned_of digit_of
number_is_table = by_byte (λ byte. number_of (byte ∷ [])) table_number None refl

pub number_found : (byte : ℕ) → byte < 256 → int_lt (entry byte) (pos 16) ≡ true → Some (entry byte) ≡ number_of (byte ∷ [])
number_found byte below found = sym (number_is_table byte below ∙ cond-true _ _ _ found)

pub number_missing : (byte : ℕ) → byte < 256 → int_lt (entry byte) (pos 16) ≡ false → None ≡ number_of (byte ∷ [])
number_missing byte below missing = sym (number_is_table byte below ∙ cond-false _ _ _ missing)

-- what the code asks of a byte, to see whether it is a digit that goes on
abbrev pub is_continuing_byte : ℕ → Bool
is_continuing_byte byte = (leb 103 byte && leb byte 122 || leb 48 byte && leb byte 57) || eqb byte 43 || eqb byte 47

pub continuing_is : (byte : ℕ) → byte < 256 → is_continuing_byte byte ≡ is_continuing byte
unfolding digit_of
continuing_is = by_byte is_continuing_byte is_continuing false refl
