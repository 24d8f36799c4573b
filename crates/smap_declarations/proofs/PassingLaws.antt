-- A walk that passes a word at once.
use Rattle.std.proofs.Common.{◌≡◌, ◌+◌, ◌-◌, ◌<◌, ◌≤◌, ℕ, suc, Bool, true, false, not, cond, ◌&&◌, ◌||◌, List, [], ◌∷◌, ◌++◌, length, take, drop, refl, sym, ap, ap₂, subst, ◌∙◌, arith, add-zero, length-append}
use Rattle.std.specs.Prelude.{None, Option, nat_eq, nat_le, nat_lt, option_to_list}
use Rattle.std.specs.List.{list_all, prefix_len}
use Rattle.std.proofs.lemmas.Bool.{and_parts, eqb-true, false≢true, ltb-true, ne_eqb}
use Rattle.std.proofs.lemmas.List.{take-append-drop}
use Rattle.smap_record.specs.Record.{MapRecord}
use Rattle.smap_declarations.specs.Brackets.{has_first}
use Rattle.smap_declarations.specs.Bodies.{end_from}
use Rattle.smap_declarations.specs.Bytes.{behind_word, is_word_byte, word_in}
use Rattle.smap_declarations.specs.Declarations.{name_here, name_in, named_from}
use Rattle.smap_declarations.specs.Private.Open.{behind_brackets}
use Rattle.smap_declarations.specs.Private.Passing.{IsPastWord, is_ascii}
use Rattle.smap_declarations.specs.Walk.{before_after, begins_word, ends_line, is_separator_behind, keyword_of, keyword_past, place_after, units_at}
use Rattle.smap_declarations.specs.declared.walk.Before.{Before}
use Rattle.smap_declarations.specs.declared.walk.Keyword.{Keyword}
use Rattle.smap_declarations.specs.declared.walk.DeclarationPlace.{DeclarationPlace}
use Rattle.smap_declarations.proofs.BracketLaws.{past_other, past_word}
use Rattle.smap_declarations.proofs.NamingLaws.{first_named, further}

behind_byte : ℕ → Option Keyword → Before
behind_byte byte keyword = record { byte = byte; keyword = keyword }

moved : DeclarationPlace → ℕ → DeclarationPlace
moved place units = record { line = place.line; column = place.column + units }

-- ---- a letter within a word

apart : (c d : ℕ) → is_word_byte d ≡ false → is_word_byte c ≡ true → (b : Bool) → nat_eq c d ≡ b → nat_eq c d ≡ false
apart c d none word false is = is
apart c d none word true is = absurd (false≢true (sym none ∙ sym (ap is_word_byte (eqb-true c d is)) ∙ word))

letter_ends_no_line : (c : ℕ) (text : List ℕ) → is_word_byte c ≡ true → is_ascii c ≡ true → ends_line c text ≡ false
letter_ends_no_line c text word ascii =
    let low = ltb-true c 0x80 ascii in
    ap₂ (λ x y. (x || (y && not (has_first 0x0A text))) || (nat_eq c 0xE2 && is_separator_behind text))
    (apart c 0x0A refl word (nat_eq c 0x0A) refl) (apart c 0x0D refl word (nat_eq c 0x0D) refl)
    ∙ ap (λ x. x && is_separator_behind text) (ne_eqb c 0xE2 (λ is. absurd (omega arith)))

letter_is_a_unit : (place : DeclarationPlace) (c : ℕ) (text : List ℕ) → is_word_byte c ≡ true → is_ascii c ≡ true → place_after place c text ≡ moved place 1
unfolding place_after moved
letter_is_a_unit place c text word ascii =
    ap (λ b. cond b (record { line = place.line + 1; column = 0 }) (record { line = place.line; column = place.column + units_at c })) (letter_ends_no_line c text word ascii)
    ∙ ap (λ b. moved place (cond b 1 (cond (nat_lt c 0xC0) 0 (cond (nat_lt c 0xF0) 1 2)))) ascii

inside_begins_none : (before : Before) (c : ℕ) → is_word_byte before.byte ≡ true → begins_word before c ≡ false
inside_begins_none before c inside = ap (λ b. is_word_byte c && not b) inside ∙ none (is_word_byte c)
  where
    none : (b : Bool) → (b && false) ≡ false
    none true = refl
    none false = refl

inside_stays : (before : Before) (c : ℕ) (text : List ℕ) → is_word_byte before.byte ≡ true → is_word_byte c ≡ true
    → before_after before c text ≡ behind_byte c before.keyword
unfolding before_after behind_byte
inside_stays before c text inside word =
    ap₂ (λ b w. behind_byte c (cond b (keyword_of (word_in text)) (cond w before.keyword (keyword_past before.keyword c)))) (inside_begins_none before c inside) word

-- ---- behind a word only its keyword counts

other_begins_none : (before : Before) (c : ℕ) → is_word_byte c ≡ false → begins_word before c ≡ false
other_begins_none before c other = ap (λ b. b && not (is_word_byte before.byte)) other

behind_other : (before : Before) (c : ℕ) (text : List ℕ) → is_word_byte c ≡ false → before_after before c text ≡ behind_byte c (keyword_past before.keyword c)
unfolding before_after behind_byte
behind_other before c text other =
    ap₂ (λ b w. behind_byte c (cond b (keyword_of (word_in text)) (cond w before.keyword (keyword_past before.keyword c)))) (other_begins_none before c other) other

no_name : (stated : MapRecord) (before : Before) (place : DeclarationPlace) (c : ℕ) (text : List ℕ) → begins_word before c ≡ false → name_here stated before place c text ≡ None
no_name stated before place c text none = ap (λ b. cond b (name_in stated before place text) None) none

-- where nothing begins, what comes is what comes behind the byte
nothing_here : (stated : MapRecord) (before : Before) (place : DeclarationPlace) (c : ℕ) (text : List ℕ) → begins_word before c ≡ false
    → named_from stated before place (c ∷ text) ≡ named_from stated (before_after before c (c ∷ text)) (place_after place c text) text
nothing_here stated before place c text none =
    first_named stated before place c text
    ∙ ap (λ o. option_to_list o ++ named_from stated (before_after before c (c ∷ text)) (place_after place c text) text)
    (no_name stated before place c (c ∷ text) none)

EndsWord : List ℕ → Type 0
EndsWord [] = Unit {0}
EndsWord (c ∷ text) = is_word_byte c ≡ false

forget : (stated : MapRecord) (a b : ℕ) (keyword : Option Keyword) (place : DeclarationPlace) (rest : List ℕ) → EndsWord rest
    → named_from stated (behind_byte a keyword) place rest ≡ named_from stated (behind_byte b keyword) place rest
unfolding behind_byte EndsWord named_from
forget stated a b keyword place [] ends = refl
forget stated a b keyword place (c ∷ text) other =
    let first = behind_byte a keyword in
    let second = behind_byte b keyword in
    nothing_here stated first place c text (other_begins_none first c other)
    ∙ ap (λ (x : Before). named_from stated x (place_after place c text) text) (behind_other first c (c ∷ text) other)
    ∙ ap (λ (x : Before). named_from stated x (place_after place c text) text) (sym (behind_other second c (c ∷ text) other))
    ∙ sym (nothing_here stated second place c text (other_begins_none second c other))

-- ---- the letters of a word

letters : (stated : MapRecord) (a b : ℕ) (keyword : Option Keyword) (place : DeclarationPlace) (word rest : List ℕ) → is_word_byte b ≡ true
    → list_all is_word_byte word ≡ true → list_all is_ascii word ≡ true → EndsWord rest
    → named_from stated (behind_byte b keyword) place (word ++ rest) ≡ named_from stated (behind_byte a keyword) (moved place (length word)) rest
unfolding behind_byte moved
letters stated a b keyword place [] rest inside words ascii ends =
    forget stated b a keyword place rest ends
    ∙ ap (λ n. named_from stated (behind_byte a keyword) (record { line = place.line; column = n }) rest) (sym (add-zero place.column))
letters stated a b keyword place (c ∷ word) rest inside words ascii ends =
    let both = and_parts (is_word_byte c) (list_all is_word_byte word) words in
    let low = and_parts (is_ascii c) (list_all is_ascii word) ascii in
    let before = behind_byte b keyword in
    let column : place.column + 1 + length word ≡ place.column + suc (length word) = omega arith in
    nothing_here stated before place c (word ++ rest) (inside_begins_none before c inside)
    ∙ ap₂ (λ (x : Before) (p : DeclarationPlace). named_from stated x p (word ++ rest)) (inside_stays before c (c ∷ (word ++ rest)) inside both.0)
    (letter_is_a_unit place c (word ++ rest) both.0 low.0)
    ∙ letters stated a c keyword (moved place 1) word rest both.0 both.1 low.1 ends
    ∙ ap (λ n. named_from stated (behind_byte a keyword) (record { line = place.line; column = n }) rest) column

-- ---- no brace is passed

-- a byte that is no brace
abbrev IsNoBrace : ℕ → Type 0
IsNoBrace c = (nat_eq c 0x7B ≡ false) × (nat_eq c 0x7D ≡ false)

letter_is_no_brace : (c : ℕ) → is_word_byte c ≡ true → IsNoBrace c
letter_is_no_brace c word = (apart c 0x7B refl word (nat_eq c 0x7B) refl, apart c 0x7D refl word (nat_eq c 0x7D) refl)

other_ends : (depth : ℕ) (place : DeclarationPlace) (c : ℕ) (text : List ℕ) → IsNoBrace c → end_from depth place (c ∷ text) ≡ end_from depth (place_after place c text) text
unfolding end_from
other_ends depth place c text none =
    ap (λ b. cond (b && nat_le depth 1) place (end_from (cond (nat_eq c 0x7B) (depth + 1) (cond b (depth - 1) depth)) (place_after place c text) text)) none.1
    ∙ ap (λ b. end_from (cond b (depth + 1) depth) (place_after place c text) text) none.0

letters_end : (depth : ℕ) (place : DeclarationPlace) (word rest : List ℕ) → list_all is_word_byte word ≡ true → list_all is_ascii word ≡ true
    → end_from depth place (word ++ rest) ≡ end_from depth (moved place (length word)) rest
unfolding moved
letters_end depth place [] rest words ascii = ap (λ n. end_from depth (record { line = place.line; column = n }) rest) (sym (add-zero place.column))
letters_end depth place (c ∷ word) rest words ascii =
    let both = and_parts (is_word_byte c) (list_all is_word_byte word) words in
    let low = and_parts (is_ascii c) (list_all is_ascii word) ascii in
    let column : place.column + 1 + length word ≡ place.column + suc (length word) = omega arith in
    other_ends depth place c (word ++ rest) (letter_is_no_brace c both.0)
    ∙ ap (λ (p : DeclarationPlace). end_from depth p (word ++ rest)) (letter_is_a_unit place c (word ++ rest) both.0 low.0)
    ∙ letters_end depth (moved place 1) word rest both.1 low.1
    ∙ ap (λ n. end_from depth (record { line = place.line; column = n }) rest) column

-- ---- a whole word

word_is_whole : (text : List ℕ) → word_in text ++ behind_word text ≡ text
unfolding word_in behind_word
word_is_whole text = take-append-drop (prefix_len is_word_byte text) text

word_goes_on : (c : ℕ) (text : List ℕ) → is_word_byte c ≡ true → (word_in (c ∷ text) ≡ c ∷ word_in text) × (behind_word (c ∷ text) ≡ behind_word text)
unfolding word_in behind_word
word_goes_on c text word =
    let more : cond (is_word_byte c) (1 + prefix_len is_word_byte text) 0 ≡ suc (prefix_len is_word_byte text)
    = ap (λ b. cond b (1 + prefix_len is_word_byte text) 0) word ∙ omega arith in
    (ap (λ n. take n (c ∷ text)) more, ap (λ n. drop n (c ∷ text)) more)

word_ends : (c : ℕ) (text : List ℕ) → is_word_byte c ≡ false → (word_in (c ∷ text) ≡ []) × (behind_word (c ∷ text) ≡ c ∷ text)
unfolding word_in behind_word
word_ends c text other =
    let none = ap (λ b. cond b (1 + prefix_len is_word_byte text) 0) other in
    (ap (λ n. take n (c ∷ text)) none, ap (λ n. drop n (c ∷ text)) none)

all_at_first : (c : ℕ) (text : List ℕ) (b : Bool) → is_word_byte c ≡ b → list_all is_word_byte (word_in text) ≡ true → list_all is_word_byte (word_in (c ∷ text)) ≡ true
all_at_first c text true word rest =
    ap (list_all is_word_byte) (word_goes_on c text word).0 ∙ ap₂ (λ x y. x && y) word rest
all_at_first c text false other rest = ap (list_all is_word_byte) (word_ends c text other).0

all_of_a_word : (text : List ℕ) → list_all is_word_byte (word_in text) ≡ true
unfolding word_in
all_of_a_word [] = refl
all_of_a_word (c ∷ text) = all_at_first c text (is_word_byte c) refl (all_of_a_word text)

end_at_first : (c : ℕ) (text : List ℕ) (b : Bool) → is_word_byte c ≡ b → EndsWord (behind_word text) → EndsWord (behind_word (c ∷ text))
unfolding EndsWord
end_at_first c text true word rest = subst EndsWord (sym (word_goes_on c text word).1) rest
end_at_first c text false other rest = subst EndsWord (sym (word_ends c text other).1) other

ends : (text : List ℕ) → EndsWord (behind_word text)
unfolding EndsWord behind_word
ends [] = tt
ends (c ∷ text) = end_at_first c text (is_word_byte c) refl (ends text)

begun : (before : Before) (c : ℕ) → begins_word before c ≡ true → is_word_byte c ≡ true
begun before c begins = (and_parts (is_word_byte c) (not (is_word_byte before.byte)) begins).0

-- what comes where a word begins
word_here : (stated : MapRecord) (before : Before) (place : DeclarationPlace) (c : ℕ) (text : List ℕ) → begins_word before c ≡ true
    → named_from stated before place (c ∷ text)
    ≡ option_to_list (name_in stated before place (c ∷ text)) ++ named_from stated (before_after before c (c ∷ text)) (place_after place c text) text
word_here stated before place c text begins =
    first_named stated before place c text
    ∙ ap (λ b. option_to_list (cond b (name_in stated before place (c ∷ text)) None) ++ named_from stated (before_after before c (c ∷ text)) (place_after place c text) text) begins

begins_with : (before : Before) (c : ℕ) (text : List ℕ) → begins_word before c ≡ true → before_after before c text ≡ behind_byte c (keyword_of (word_in text))
unfolding before_after behind_byte
begins_with before c text begins =
    ap (λ b. behind_byte c (cond b (keyword_of (word_in text)) (cond (is_word_byte c) before.keyword (keyword_past before.keyword c)))) begins

names_past_word : (stated : MapRecord) (before : Before) (place : DeclarationPlace) (c : ℕ) (text : List ℕ) → begins_word before c ≡ true
    → list_all is_ascii (word_in (c ∷ text)) ≡ true
    → named_from stated before place (c ∷ text)
    ≡ option_to_list (name_in stated before place (c ∷ text))
    ++ named_from stated (behind_byte c (keyword_of (word_in (c ∷ text)))) (moved place (length (word_in (c ∷ text)))) (behind_word (c ∷ text))
unfolding moved
names_past_word stated before place c text begins ascii =
    let word = begun before c begins in
    let parts = word_goes_on c text word in
    let low = and_parts (is_ascii c) (list_all is_ascii (word_in text)) (sym (ap (list_all is_ascii) parts.0) ∙ ascii) in
    let keyword = keyword_of (word_in (c ∷ text)) in
    let long : length (word_in (c ∷ text)) ≡ suc (length (word_in text)) = ap length parts.0 in
    let column : place.column + 1 + length (word_in text) ≡ place.column + length (word_in (c ∷ text)) = omega (arith, long) in
    word_here stated before place c text begins
    ∙ ap (λ l. option_to_list (name_in stated before place (c ∷ text)) ++ l)
    (ap₂ (λ (x : Before) (p : DeclarationPlace). named_from stated x p text) (begins_with before c (c ∷ text) begins) (letter_is_a_unit place c text word low.0)
    ∙ ap (named_from stated (behind_byte c keyword) (moved place 1)) (sym (word_is_whole text))
    ∙ letters stated c c keyword (moved place 1) (word_in text) (behind_word text) word (all_of_a_word text) low.1 (ends text)
    ∙ ap₂ (λ (n : ℕ) (r : List ℕ). named_from stated (behind_byte c keyword) (record { line = place.line; column = n }) r) column (sym parts.1))

begun_no_brace : (before : Before) (c : ℕ) → begins_word before c ≡ true → IsNoBrace c
begun_no_brace before c begins = letter_is_no_brace c (begun before c begins)

ends_past_word : (depth : ℕ) (place : DeclarationPlace) (c : ℕ) (text : List ℕ) → is_word_byte c ≡ true → list_all is_ascii (word_in (c ∷ text)) ≡ true
    → end_from depth place (c ∷ text) ≡ end_from depth (moved place (length (word_in (c ∷ text)))) (behind_word (c ∷ text))
ends_past_word depth place c text word ascii =
    ap (end_from depth place) (sym (word_is_whole (c ∷ text)))
    ∙ letters_end depth place (word_in (c ∷ text)) (behind_word (c ∷ text)) (all_of_a_word (c ∷ text)) ascii

pub word_fits : (text : List ℕ) → length (word_in text) ≤ length text
word_fits text = omega (arith, ap length (word_is_whole text), length-append (word_in text) (behind_word text))

-- the word is passed
pub word_passed : (before : Before) (place : DeclarationPlace) (c : ℕ) (text rest : List ℕ) (keyword : Option Keyword) (units : ℕ) (after : List ℕ)
    → rest ≡ c ∷ text → begins_word before c ≡ true → list_all is_ascii (word_in rest) ≡ true
    → keyword ≡ keyword_of (word_in rest) → units ≡ length (word_in rest) → after ≡ behind_word rest
    → IsPastWord before place rest (record { byte = c; keyword = keyword }) (record { line = place.line; column = place.column + units }) after
unfolding behind_byte moved
word_passed before place c text rest keyword units after rest_is begins ascii keyword_is units_is after_is =
    let whole = ap length (word_is_whole rest) in
    let joined = length-append (word_in rest) (behind_word rest) in
    let cut = ap length after_is in
    let begins' = begun before c begins in
    let ascii' = sym (ap (λ r. list_all is_ascii (word_in r)) rest_is) ∙ ascii in
    let units_here = units_is ∙ ap (λ r. length (word_in r)) rest_is in
    let after_here = after_is ∙ ap behind_word rest_is in
    let some : 0 < length (word_in rest) = omega (arith, ap length (ap word_in rest_is ∙ (word_goes_on c text (begun before c begins)).0)) in
    record {
      names = λ stated.
          ap (named_from stated before place) rest_is
          ∙ names_past_word stated before place c text begins (sym (ap (λ r. list_all is_ascii (word_in r)) rest_is) ∙ ascii)
          ∙ sym (ap (λ r. option_to_list (name_in stated before place r)
          ++ named_from stated (behind_byte c (keyword_of (word_in r))) (moved place (length (word_in r))) (behind_word r)) rest_is)
          ∙ ap₂ (λ (k : Option Keyword) (r : List ℕ). option_to_list (name_in stated before place rest)
          ++ named_from stated (behind_byte c k) (moved place (length (word_in rest))) r) (sym keyword_is) (sym after_is)
          ∙ ap (λ n. option_to_list (name_in stated before place rest) ++ named_from stated (behind_byte c keyword) (moved place n) after) (sym units_is);
      brackets = ap behind_brackets after_is ∙ past_word rest;
      ends = λ depth. ap (end_from depth place) rest_is ∙ ends_past_word depth place c text begins' ascii' ∙ sym (ap₂ (λ (n : ℕ) (r : List ℕ). end_from depth (moved place n) r) units_here after_here);
      shorter = omega (arith, whole, joined, cut, some);
      line = omega (arith, whole, joined, cut);
      column = omega (arith, whole, joined, cut, units_is);
    }

-- its first byte is passed
pub byte_passed : (before before' : Before) (place place' : DeclarationPlace) (c : ℕ) (text rest rest' : List ℕ)
    → rest ≡ c ∷ text → begins_word before c ≡ true
    → before' ≡ before_after before c rest → place' ≡ place_after place c text → rest' ≡ text
    → IsPastWord before place rest before' place' rest'
byte_passed before before' place place' c text rest rest' rest_is begins before_is place_is left =
    let far = further place c text in
    let line = ap (λ (p : DeclarationPlace). p.line) place_is in
    let column = ap (λ (p : DeclarationPlace). p.column) place_is in
    let long = ap length rest_is in
    let cut = ap length left in
    record {
      names = λ stated.
          ap (named_from stated before place) rest_is
          ∙ word_here stated before place c text begins
          ∙ sym (ap (λ r. option_to_list (name_in stated before place r) ++ named_from stated (before_after before c r) (place_after place c text) text) rest_is)
          ∙ ap₂ (λ (x : Before) (p : DeclarationPlace). option_to_list (name_in stated before place rest) ++ named_from stated x p text) (sym before_is) (sym place_is)
          ∙ ap (λ r. option_to_list (name_in stated before place rest) ++ named_from stated before' place' r) (sym left);
      brackets = ap behind_brackets left ∙ sym (past_other c text (apart c 0x28 refl (begun before c begins) (nat_eq c 0x28) refl)) ∙ ap behind_brackets (sym rest_is);
      ends = λ depth. ap (end_from depth place) rest_is ∙ other_ends depth place c text (begun_no_brace before c begins)
          ∙ ap₂ (λ (p : DeclarationPlace) (r : List ℕ). end_from depth p r) (sym place_is) (sym left);
      shorter = omega (arith, long, cut);
      line = omega (arith, far.0, line, long, cut);
      column = omega (arith, far.1, column, long, cut);
    }

-- a byte is passed where no word begins
pub other_passed : (stated : MapRecord) (before before' : Before) (place place' : DeclarationPlace) (c : ℕ) (text rest rest' : List ℕ)
    → rest ≡ c ∷ text → begins_word before c ≡ false
    → before' ≡ before_after before c rest → place' ≡ place_after place c text → rest' ≡ text
    → named_from stated before' place' rest' ≡ named_from stated before place rest
other_passed stated before before' place place' c text rest rest' rest_is none before_is place_is left =
    ap (named_from stated before' place') left
    ∙ ap₂ (λ (x : Before) (p : DeclarationPlace). named_from stated x p text) (before_is ∙ ap (before_after before c) rest_is) place_is
    ∙ sym (nothing_here stated before place c text none)
    ∙ sym (ap (named_from stated before place) rest_is)
