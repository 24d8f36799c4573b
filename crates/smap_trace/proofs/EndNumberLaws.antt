-- Laws of a number that is read from the end of a text.
use Rattle.std.proofs.Common.{◌≡◌, ◌==◌, ◌&&◌, ◌≤◌, ◌<◌, ◌+◌, ◌-◌, ◌*◌, ℕ, Bool, true, false, nat_le, nat_lt, cond, List, [], ◌∷◌, ◌++◌, length}
use Rattle.std.proofs.Common.{Option, Some, None, option_map, refl, subst, sym, ap, ◌∙◌, arith, append_assoc}
use Rattle.std.specs.Char.{is_ascii_digit}
use Rattle.std.proofs.Math.Nat.{add-mul, le-mul_of_pos_right, mul_assoc, mul_comm}
use Rattle.std.proofs.lemmas.Bool.{and_parts, cond-true, cond-false, eqb-true, le-leb, leb-true, leb-false, lt-leb, ltb-true, or_from}
use Rattle.smap_lines.specs.Numbers.{decimal_number, read_on}
use Rattle.smap_trace.specs.Cuts.{cut_at_last_byte, later_cut}
use Rattle.smap_trace.specs.FrameOf.{location_before, location_cut, location_of, location_with}
use Rattle.smap_trace.specs.Private.EndNumber.{cut_at_number, with_front, with_number}
use Rattle.smap_trace.proofs.CutLaws.{is_without, last_cut, no_cut}

-- ---- digits, read from the last to the first

-- these digits add this value to what stands before them, in this unit
abbrev pub Reads : (unit value : ℕ) → List ℕ → Type 0
Reads unit value ds = (n : ℕ) → n ≤ 2147483648 → read_on n ds ≡ cond (nat_le (n * unit + value) 2147483648) (Some (n * unit + value)) None

pub reads_none : Reads 1 0 []
reads_none n small =
    let same : n * 1 + 0 ≡ n = omega arith in
    sym (cond-true (nat_le (n * 1 + 0) 2147483648) (Some (n * 1 + 0)) None (le-leb (n * 1 + 0) 2147483648 (omega (arith, small))) ∙ ap Some same)

limited : (m unit value : ℕ) (ds : List ℕ) (within : Bool) → nat_le m 2147483648 ≡ within → 0 < unit → Reads unit value ds
    → cond within (read_on m ds) None ≡ cond (nat_le (m * unit + value) 2147483648) (Some (m * unit + value)) None
limited m unit value ds true is some reads = reads m (leb-true m 2147483648 is)
limited m unit value ds false is some reads =
    sym (cond-false (nat_le (m * unit + value) 2147483648) (Some (m * unit + value)) None
    (lt-leb (m * unit + value) 2147483648 (omega (arith, leb-false m 2147483648 is, le-mul_of_pos_right m some))))

pub reads_more : (c unit value : ℕ) (ds : List ℕ) → is_ascii_digit c ≡ true → 0 < unit → Reads unit value ds
    → Reads (unit * 10) (value + unit * (c - 48)) (c ∷ ds)
reads_more c unit value ds digit some reads n small =
    let m : ℕ = 10 * n + (c - 48) in
    let same : m * unit + value ≡ n * (unit * 10) + (value + unit * (c - 48)) =
    omega (arith, add-mul (10 * n) (c - 48) unit, mul_assoc 10 n unit, mul_assoc n unit 10, mul_comm unit (c - 48)) in
    ap (λ b. cond (b && nat_le m 2147483648) (read_on m ds) None) digit
    ∙ limited m unit value ds (nat_le m 2147483648) refl some reads
    ∙ ap (λ k. cond (nat_le k 2147483648) (Some k) None) same

-- ---- no number

-- nothing is read on from a number that is not 0
abbrev pub ReadsNone : List ℕ → Type 0
ReadsNone ds = (n : ℕ) → 0 < n → n ≤ 2147483648 → read_on n ds ≡ None

pub long_reads_none : (unit value : ℕ) (ds : List ℕ) → 2147483648 < unit → Reads unit value ds → ReadsNone ds
long_reads_none unit value ds long reads n some small =
    reads n small ∙ cond-false (nat_le (n * unit + value) 2147483648) (Some (n * unit + value)) None
    (lt-leb (n * unit + value) 2147483648 (omega (arith, le-mul_of_pos_right unit some, mul_comm unit n)))

read_behind : (n x : ℕ) (rest : List ℕ) (within : Bool) → (is_ascii_digit x && nat_le (10 * n + (x - 48)) 2147483648) ≡ within
    → 0 < 10 * n + (x - 48) → ReadsNone rest → cond within (read_on (10 * n + (x - 48)) rest) None ≡ None
read_behind n x rest true is some none =
    none (10 * n + (x - 48)) some
    (leb-true (10 * n + (x - 48)) 2147483648 (and_parts (is_ascii_digit x) (nat_le (10 * n + (x - 48)) 2147483648) is).1)
read_behind n x rest false is some none = refl

reads_none_behind : (xs ds : List ℕ) → ReadsNone ds → ReadsNone (xs ++ ds)
reads_none_behind [] ds none n some small = none n some small
reads_none_behind (x ∷ xs) ds none n some small =
    read_behind n x (xs ++ ds) (is_ascii_digit x && nat_le (10 * n + (x - 48)) 2147483648) refl (omega (arith, some)) (reads_none_behind xs ds none)

begun : (x : ℕ) (rest : List ℕ) (is_more : Bool) → nat_lt 48 x ≡ is_more → ReadsNone rest → cond is_more (read_on 0 (x ∷ rest)) None ≡ None
begun x rest true is none =
    read_behind 0 x rest (is_ascii_digit x && nat_le (10 * 0 + (x - 48)) 2147483648) refl (omega (arith, ltb-true 48 x is)) none
begun x rest false is none = refl

-- a number has no more digits than can be read
pub long_is_none : (xs : List ℕ) (c : ℕ) (ds : List ℕ) → ReadsNone ds → decimal_number (xs ++ c ∷ ds) ≡ None
long_is_none [] c ds none = begun c ds (nat_lt 48 c) refl none
long_is_none (x ∷ xs) c ds none =
    begun x (xs ++ c ∷ ds) (nat_lt 48 x) refl (subst ReadsNone (append_assoc xs (c ∷ []) ds) (reads_none_behind (xs ++ c ∷ []) ds none))

none_if : (is : Bool) (o : Option ℕ) → o ≡ None → cond is o None ≡ None
none_if true o none = none
none_if false o none = refl

-- a byte that is no digit stands in no number
other_unread : (xs : List ℕ) (c : ℕ) (rest : List ℕ) → is_ascii_digit c ≡ false → (n : ℕ) → read_on n (xs ++ c ∷ rest) ≡ None
other_unread [] c rest other n = ap (λ b. cond (b && nat_le (10 * n + (c - 48)) 2147483648) (read_on (10 * n + (c - 48)) rest) None) other
other_unread (x ∷ xs) c rest other n =
    none_if (is_ascii_digit x && nat_le (10 * n + (x - 48)) 2147483648) (read_on (10 * n + (x - 48)) (xs ++ c ∷ rest))
    (other_unread xs c rest other (10 * n + (x - 48)))

pub other_is_none : (xs : List ℕ) (c : ℕ) (ds : List ℕ) → is_ascii_digit c ≡ false → decimal_number (xs ++ c ∷ ds) ≡ None
other_is_none [] c ds other = none_if (nat_lt 48 c) (read_on 0 (c ∷ ds)) (other_unread [] c ds other 0)
other_is_none (x ∷ xs) c ds other = none_if (nat_lt 48 x) (read_on 0 (x ∷ (xs ++ c ∷ ds))) (other_unread (x ∷ xs) c ds other 0)

-- ---- the cut

-- what follows belongs to the second part
abbrev pub with_rest : (rest : List ℕ) → List ℕ × List ℕ → List ℕ × List ℕ
with_rest rest (front, second) = (front, second ++ rest)

module _ (byte : ℕ) (rest : List ℕ) where
  cut_here : (xs : List ℕ) (is : Bool) → cond is (Some ([], xs ++ rest)) None ≡ option_map (with_rest rest) (cond is (Some ([], xs)) None)
  cut_here xs true = refl
  cut_here xs false = refl

  cut_later : (x : ℕ) (xs : List ℕ) (cut : Option (List ℕ × List ℕ))
      → later_cut byte x (xs ++ rest) (option_map (with_rest rest) cut) ≡ option_map (with_rest rest) (later_cut byte x xs cut)
  cut_later x xs None = cut_here xs (x == byte)
  cut_later x xs (Some (front, second)) = refl

  -- the last of these bytes, where none follows
  cut_before : (xs : List ℕ) → is_without byte rest → cut_at_last_byte byte (xs ++ rest) ≡ option_map (with_rest rest) (cut_at_last_byte byte xs)
  cut_before [] none = no_cut byte rest none
  cut_before (x ∷ xs) none = ap (later_cut byte x (xs ++ rest)) (cut_before xs none) ∙ cut_later x xs (cut_at_last_byte byte xs)

-- no number is behind the last `:`, where a byte before the digits rules it out
unnumbered : (c : ℕ) (ds : List ℕ) → ((xs : List ℕ) → decimal_number (xs ++ c ∷ ds) ≡ None) → (cut : Option (List ℕ × List ℕ))
    → with_number (option_map (with_rest (c ∷ ds)) cut) ≡ None
unnumbered c ds none None = refl
unnumbered c ds none (Some (front, second)) = ap (option_map (with_front front)) (none second)

pub no_number : (front : List ℕ) (c : ℕ) (ds : List ℕ) → (c == 58) ≡ false → is_without 58 ds → ((xs : List ℕ) → decimal_number (xs ++ c ∷ ds) ≡ None)
    → cut_at_number (front ++ c ∷ ds) ≡ None
no_number front c ds other none unread =
    ap with_number (cut_before 58 (c ∷ ds) front (or_from (c == 58) _ other none)) ∙ unnumbered c ds unread (cut_at_last_byte 58 front)

pub number_behind : (front ds : List ℕ) (number : Option ℕ) → is_without 58 ds → decimal_number ds ≡ number
    → cut_at_number (front ++ 58 ∷ ds) ≡ option_map (with_front front) number
number_behind front ds number none is = ap with_number (last_cut 58 front ds none) ∙ ap (option_map (with_front front)) is

pub no_number_left : (text : List ℕ) → is_without 58 text → cut_at_number text ≡ None
no_number_left text none = ap with_number (no_cut 58 text none)

-- ---- the location

nowhere : (url : List ℕ) (line : Option ℕ) → location_with url line None ≡ None
nowhere [] line = refl
nowhere (byte ∷ url) None = refl
nowhere (byte ∷ url) (Some line) = refl

without_column : (cut : Option (List ℕ × List ℕ)) → location_before cut None ≡ None
without_column None = refl
without_column (Some (url, line)) = nowhere url (decimal_number line)

no_column_in : (front : List ℕ) (column : Option ℕ) → None ≡ option_map (with_front front) column → None ≡ location_before (cut_at_last_byte 58 front) column
no_column_in front None is = sym (without_column (cut_at_last_byte 58 front))
no_column_in front (Some n) is = absurd (cc)

no_column_at : (cut : Option (List ℕ × List ℕ)) → None ≡ with_number cut → None ≡ location_cut cut
no_column_at None is = refl
no_column_at (Some (front, digits)) is = no_column_in front (decimal_number digits) is

pub no_column : (text : List ℕ) → None ≡ cut_at_number text → None ≡ location_of text
no_column text is = no_column_at (cut_at_last_byte 58 text) is

no_line_in : (url : List ℕ) (line : Option ℕ) (column : ℕ) → None ≡ option_map (with_front url) line → None ≡ location_with url line (Some column)
no_line_in [] line column is = refl
no_line_in (byte ∷ url) None column is = refl
no_line_in (byte ∷ url) (Some n) column is = absurd (cc)

no_line_at : (cut : Option (List ℕ × List ℕ)) (column : ℕ) → None ≡ with_number cut → None ≡ location_before cut (Some column)
no_line_at None column is = refl
no_line_at (Some (url, digits)) column is = no_line_in url (decimal_number digits) column is

module _ (front : List ℕ) (n : ℕ) where
  column_in : (found : List ℕ) (number : Option ℕ) → Some (front, n) ≡ option_map (with_front found) number
      → location_before (cut_at_last_byte 58 front) (Some n) ≡ location_before (cut_at_last_byte 58 found) number
  column_in found None is = absurd (cc)
  column_in found (Some m) is =
      let same : with_front front n ≡ with_front found m = cc in
      λ i. location_before (cut_at_last_byte 58 ((same i).0)) (Some ((same i).1))

  column_at : (cut : Option (List ℕ × List ℕ)) → Some (front, n) ≡ with_number cut → location_before (cut_at_last_byte 58 front) (Some n) ≡ location_cut cut
  column_at None is = absurd (cc)
  column_at (Some (found, digits)) is = column_in found (decimal_number digits) is

  line_in : (column : ℕ) (found : List ℕ) (number : Option ℕ) → Some (front, n) ≡ option_map (with_front found) number
      → location_with front (Some n) (Some column) ≡ location_with found number (Some column)
  line_in column found None is = absurd (cc)
  line_in column found (Some m) is =
      let same : with_front front n ≡ with_front found m = cc in
      λ i. location_with ((same i).0) (Some ((same i).1)) (Some column)

  line_at : (column : ℕ) (cut : Option (List ℕ × List ℕ)) → Some (front, n) ≡ with_number cut
      → location_with front (Some n) (Some column) ≡ location_before cut (Some column)
  line_at column None is = absurd (cc)
  line_at column (Some (found, digits)) is = line_in column found (decimal_number digits) is

pub no_line : (text front : List ℕ) (column : ℕ) → Some (front, column) ≡ cut_at_number text → None ≡ cut_at_number front → None ≡ location_of text
no_line text front column before is = no_line_at (cut_at_last_byte 58 front) column is ∙ column_at front column (cut_at_last_byte 58 text) before

located : (text front url : List ℕ) (line column : ℕ) → Some (front, column) ≡ cut_at_number text → Some (url, line) ≡ cut_at_number front
    → location_with url (Some line) (Some column) ≡ location_of text
located text front url line column before is =
    line_at url line column (cut_at_last_byte 58 front) is ∙ column_at front column (cut_at_last_byte 58 text) before

pub no_url : (text front url : List ℕ) (line column : ℕ) → Some (front, column) ≡ cut_at_number text → Some (url, line) ≡ cut_at_number front
    → (length url == 0) ≡ true → None ≡ location_of text
no_url text front [] line column before is none = located text front [] line column before is
no_url text front (byte ∷ url) line column before is none = absurd (omega (arith, eqb-true (length (byte ∷ url)) 0 none))

pub location_is : (text front url : List ℕ) (line column : ℕ) → Some (front, column) ≡ cut_at_number text → Some (url, line) ≡ cut_at_number front
    → (length url == 0) ≡ false → Some (record { url = url; line = line; column = column }) ≡ location_of text
location_is text front [] line column before is some = absurd (cc)
location_is text front (byte ∷ url) line column before is some = located text front (byte ∷ url) line column before is
