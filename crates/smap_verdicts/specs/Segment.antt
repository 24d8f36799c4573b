-- What is said of a faulty segment, in sentences. Lines and columns count from 0 in what a segment says, and print from 1.
use Rattle.std.specs.Prelude.{ℕ, zero, suc, ◌+◌, ◌==◌, ℤ, pos, negsuc, ◌+ℤ◌, Bool, false, Option, None, Some, List, [], ◌∷◌, codes, string_bytes, if◌then◌else◌, nat_le, ◌&&◌, encode_utf8, unsigned_abs}
use Rattle.std.specs.List.{flat_map}
use Rattle.std.specs.Int.{saturate_signed, w64}
use Rattle.std.specs.declared.vec.Vec.{Vec}
use Rattle.std.specs.declared.alloc.Global.{Global}
use Rattle.std.specs.Fmt.{decimal, digits, signed_decimal}
use Rattle.smap_mappings.specs.declared.fault.FaultKind.{FaultKind}
use Rattle.smap_mappings.specs.declared.fault.FaultKind.TheVariants.{BadDigit, Unended, TooLong, TooLarge, NegativeZero, FieldCount, Negative}
use Rattle.smap_mappings.specs.declared.fault.FaultKind.TheVariants.{PastLimit, ColumnFalls, SourceIndex, NameIndex}
use Rattle.smap_explain.specs.declared.explanation.Measure.{Measure}
use Rattle.smap_explain.specs.declared.explanation.Quantity.{Quantity}
use Rattle.smap_explain.specs.declared.explanation.Quantity.TheVariants as quantities
use Rattle.smap_explain.specs.declared.explanation.SegmentFacts.{SegmentFacts}
use Rattle.smap_text.specs.Shown.{shown}
use Rattle.smap_verdicts.specs.Texts.{text_from}

-- what a value is called
abbrev pub quantity_name : Quantity → List ℕ
quantity_name quantities.Digit = codes "digit"
quantity_name quantities.Digits = codes "digits"
quantity_name quantities.Magnitude = codes "magnitude"
quantity_name quantities.Numbers = codes "numbers"
quantity_name quantities.Column = codes "column"
quantity_name quantities.Source = codes "source index"
quantity_name quantities.OriginalLine = codes "original line"
quantity_name quantities.OriginalColumn = codes "original column"
quantity_name quantities.Name = codes "name index"

-- how much more than its value is printed: lines and columns print from 1
abbrev pub printed_from : Quantity → ℤ
printed_from quantities.Digit = pos 0
printed_from quantities.Digits = pos 0
printed_from quantities.Magnitude = pos 0
printed_from quantities.Numbers = pos 0
printed_from quantities.Column = pos 1
printed_from quantities.Source = pos 0
printed_from quantities.OriginalLine = pos 1
printed_from quantities.OriginalColumn = pos 1
printed_from quantities.Name = pos 0

-- a value as it prints
abbrev pub printed : Quantity → ℤ → ℤ
printed quantity value = saturate_signed w64 (value +ℤ printed_from quantity)

-- after other words, a value that there may be
unfoldable pub limit_text : (words : List ℕ) → Quantity → Option ℤ → List ℕ
limit_text words quantity None = []
limit_text words quantity (Some limit) = text_from (words ∷ signed_decimal (printed quantity limit) ∷ [])

-- a value, and after other words what limits it
unfoldable pub value_text : Quantity → ℤ → (limit : List ℕ) → List ℕ
value_text quantity value limit = text_from (
    quantity_name quantity ∷ codes " " ∷ signed_decimal (printed quantity value) ∷ limit ∷ [])

-- a greatest index of this is of more than one, or of one
abbrev pub plural : (most : ℤ) → List ℕ
plural (pos zero) = []
plural (pos (suc n)) = codes "s"
plural (negsuc n) = codes "s"

-- how many sources or names a map has, whose greatest index is this
unfoldable pub listed_text : (words : List ℕ) → Option ℤ → List ℕ
listed_text words None = text_from (codes ", and the map has no " ∷ words ∷ codes "s" ∷ [])
listed_text words (Some most) = text_from (
    codes ", and the map has " ∷ signed_decimal (saturate_signed w64 (most +ℤ pos 1)) ∷ codes " " ∷ words ∷ plural most ∷ [])

-- a printable character of ASCII
abbrev pub is_printable : (byte : ℕ) → Bool
is_printable byte = nat_le 32 byte && nat_le byte 126

-- the byte that is no digit: as a character where it is a printable one of ASCII
unfoldable pub digit_text : ℕ → List ℕ
digit_text byte = if is_printable byte
    then text_from (codes "\"" ∷ encode_utf8 byte ∷ codes "\" is no digit of Base64" ∷ [])
    else text_from (codes "byte 0x" ∷ digits 16 false byte ∷ codes " is no digit of Base64" ∷ [])

-- what is asked of a value of a segment with a fault of this kind
unfoldable pub measure_text : FaultKind → Measure → List ℕ
measure_text BadDigit measure = digit_text (unsigned_abs measure.value)
measure_text Unended measure = []
measure_text TooLong measure = text_from (
    codes "a number of " ∷ signed_decimal measure.value ∷ codes " digits, and a number has at most 7" ∷ [])
measure_text TooLarge measure = text_from (
    codes "a number of magnitude " ∷ signed_decimal measure.value ∷ codes ", and the most is 2147483647" ∷ [])
measure_text NegativeZero measure = []
measure_text FieldCount measure = text_from (
    signed_decimal measure.value ∷ codes " numbers, and a segment has 1, 4 or 5" ∷ [])
measure_text Negative measure =
    value_text measure.quantity measure.value (limit_text (codes ", and the least is ") measure.quantity measure.least)
measure_text PastLimit measure =
    value_text measure.quantity measure.value (limit_text (codes ", and the most is ") measure.quantity measure.most)
measure_text ColumnFalls measure =
    value_text measure.quantity measure.value (limit_text (codes " after column ") measure.quantity measure.least)
measure_text SourceIndex measure = value_text measure.quantity measure.value (listed_text (codes "source") measure.most)
measure_text NameIndex measure = value_text measure.quantity measure.value (listed_text (codes "name") measure.most)

-- a fault that is no value
abbrev pub unmeasured : FaultKind → List ℕ
unmeasured BadDigit = []
unmeasured Unended = codes "  the last digit says that another follows\n"
unmeasured TooLong = []
unmeasured TooLarge = []
unmeasured NegativeZero = codes "  a number is a negative zero\n"
unmeasured FieldCount = []
unmeasured Negative = []
unmeasured PastLimit = []
unmeasured ColumnFalls = []
unmeasured SourceIndex = []
unmeasured NameIndex = []

-- what is wrong with a segment, in a line
unfoldable pub wrong_text : FaultKind → Option Measure → List ℕ
wrong_text kind None = unmeasured kind
wrong_text kind (Some measure) = text_from (codes "  " ∷ measure_text kind measure ∷ codes "\n" ∷ [])

-- the column, which counts from 1, where it is known
unfoldable pub column_text : Option ℕ → List ℕ
column_text None = []
column_text (Some column) = text_from (codes ", column " ∷ decimal column ∷ [])

-- a number after another
abbrev pub next_number : ℤ → List ℕ
next_number number = text_from (codes ", " ∷ signed_decimal number ∷ [])

-- the numbers of a segment
unfoldable pub numbers_text : List ℤ → List ℕ
numbers_text [] = []
numbers_text (first ∷ others) = text_from (
    codes ", numbers " ∷ signed_decimal first ∷ flat_map next_number others ∷ [])

-- how many more there are
unfoldable pub more_text : ℕ → List ℕ
more_text zero = []
more_text (suc n) = text_from (codes " and " ∷ decimal (suc n) ∷ codes " more" ∷ [])

-- and where there are none
abbrev pub numbers_where : Option (Vec ℤ Global) → List ℕ
numbers_where None = []
numbers_where (Some numbers) = numbers_text numbers.items

-- the section, where it is not the first
unfoldable pub of_section : ℕ → List ℕ
of_section zero = []
of_section (suc n) = text_from (codes " of section " ∷ decimal (suc n) ∷ [])

-- then lines and columns are those of the section
abbrev pub of_its_own : ℕ → List ℕ
of_its_own section = if section == 0 then [] else codes " of that section"

-- the segment, where it stands and what it spells
unfoldable pub place_text : SegmentFacts → List ℕ
place_text facts = text_from (
    codes "  segment \"" ∷ shown (string_bytes facts.text) ∷ codes "\"" ∷ of_section facts.section
    ∷ codes " at line " ∷ decimal (facts.fault.line + 1) ∷ column_text facts.column ∷ of_its_own facts.section ∷ [])

-- all of it
unfoldable pub segment_text : SegmentFacts → List ℕ
segment_text facts = text_from (
    place_text facts ∷ numbers_where facts.numbers ∷ more_text facts.more ∷ codes "\n" ∷ wrong_text facts.fault.kind facts.measure ∷ [])
