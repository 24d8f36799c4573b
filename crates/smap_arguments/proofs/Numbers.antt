-- A number that clap reads for an argument.
use Rattle.std.proofs.Common.{◌≡◌, ◌∙◌, ◌≤◌, ◌<◌, ◌^◌, ◌+◌, ℕ, Option, Some, None, sym, subst, pos, codes, List, refl, leb, arith, false, ap, is_some}
use Rattle.std.proofs.Common.{Result}
use Rattle.std.specs.Option.{IsSome}
use Rattle.std.specs.Prelude.{IfSome, option_map, unwrap_or}
use Rattle.std.proofs.lemmas.Bool.{and_from, le-leb}
use Rattle.std.specs.Str.Parse.{ExplainsUnsignedError, HasUnsignedDigitsIfOk, ParsesUnsigned, digits_value, without_leading_plus}
use Rattle.std.specs.declared.num.ParseIntError.{ParseIntError}
use Rattle.clap.specs.Matches.{ReadsOne}
use Rattle.clap.specs.Words.{Accepts, Text, one_text, rows_of, without_minus}
use Rattle.clap.specs.declared.builder.value_parser.ValueParser.TheVariants.{Signed}
use Rattle.clap.specs.declared.parser.matches.Found.{Found}
use Rattle.clap.proofs.WalkLemmas.{one_text-rows}
use Rattle.clap.proofs.CallerReads.{signed_reads}
use Rattle.clap.specs.Words.{Row, one_of}
use Rattle.smap_command.specs.Limits.{limit, most_bytes, most_interval, usual_interval}
use Rattle.smap_arguments.specs.CommandLine.{bytes_number, interval_number, number}
use Rattle.smap_arguments.specs.Arguments.{GivesBytes, GivesInterval, GivesNumber, GivesNumberIfGiven, HasValue, HasValueIfGiven, IsIntervalOf}

-- how a `u32` is read from a text
abbrev pub ReadsU32 : Text → Result ℕ ParseIntError → Type 0
ReadsU32 text r = ParsesUnsigned 32 10 text r × ExplainsUnsignedError 10 text r × HasUnsignedDigitsIfOk text r

-- an argument whose numbers lie between these has one of them
pub number_read : (low high : ℕ) → high < 2 ^ 32 → (found : Found) (name : Text) (result : Option ℕ)
    → HasValue (Signed (pos low) (pos high)) (rows_of found) name
    → ((t : Text) → one_text found name ≡ Some t → ReadsOne ReadsU32 t result)
    → (n : ℕ) × (result ≡ Some n) × (low ≤ n) × (n ≤ high) × GivesNumber (rows_of found) name n
number_read low high fits found name result has reads =
    let one = reads (without_minus has.0) (one_text-rows found name ∙ has.1) in
    let got = signed_reads _ ReadsU32 32 low high has.0 result one (λ u x g. g.0) fits has.2 in
    let read = subst (ReadsOne ReadsU32 (without_minus has.0)) got.1 one in
    (got.0, got.1, got.2, got.3, (without_minus has.0, has.1, sym read.0.1))

-- it is none, or one that lies between these
abbrev pub IsReadWithin : (low high : ℕ) → List Row → (name : Text) → Option ℕ → Type 0
IsReadWithin low high rows name None = one_of name rows ≡ None
IsReadWithin low high rows name (Some n) = (low ≤ n) × (n ≤ high) × GivesNumber rows name n

-- so it is with one that may be missing
pub number_if_given : (low high : ℕ) → high < 2 ^ 32 → (found : Found) (name : Text) (result : Option ℕ)
    → HasValueIfGiven (Signed (pos low) (pos high)) (rows_of found) name
    → (one_text found name ≡ None → result ≡ None) → ((t : Text) → one_text found name ≡ Some t → ReadsOne ReadsU32 t result)
    → IsReadWithin low high (rows_of found) name result
number_if_given low high fits found name result has none reads = go (one_of name (rows_of found)) refl
  where
    go : (o : Option Text) → one_of name (rows_of found) ≡ o → IsReadWithin low high (rows_of found) name result
    go None is = subst (IsReadWithin low high (rows_of found) name) (sym (none (one_text-rows found name ∙ is))) is
    go (Some text) is =
        let read = number_read low high fits found name result (has (subst IsSome (sym is) refl)) reads in
        subst (IsReadWithin low high (rows_of found) name) (sym read.1) (read.2, read.3, read.4)

module _ (low high : ℕ) (rows : List Row) (name : Text) where
  pub within_given : (result : Option ℕ) → IsReadWithin low high rows name result → GivesNumberIfGiven rows name result
  within_given None read = read
  within_given (Some n) read = read.2

  pub within_high : (result : Option ℕ) → IsReadWithin low high rows name result → IfSome result (λ n. n ≤ high)
  within_high None read = tt
  within_high (Some n) read = read.1

-- a number is there where its text is
pub number_given : (rows : List Row) (name : Text) (result : Option ℕ) → GivesNumberIfGiven rows name result
    → is_some (one_of name rows) ≡ is_some result
number_given rows name None given = ap is_some given
number_given rows name (Some n) given = ap is_some given.1

-- ---- a line or column

pub position_read : (found : Found) (name : Text) (result : Option ℕ) → HasValueIfGiven number (rows_of found) name
    → (one_text found name ≡ None → result ≡ None) → ((t : Text) → one_text found name ≡ Some t → ReadsOne ReadsU32 t result)
    → IsReadWithin 1 (limit + 1) (rows_of found) name result
position_read found name result has none reads = number_if_given 1 (limit + 1) (omega arith) found name result has none reads

-- ---- a number of bytes

-- how a `u64` is read from a text
abbrev pub ReadsU64 : Text → Result ℕ ParseIntError → Type 0
ReadsU64 text r = ParsesUnsigned 64 10 text r × ExplainsUnsignedError 10 text r × HasUnsignedDigitsIfOk text r

pub bytes_read : (least : ℕ) (found : Found) (name : Text) (result : Option ℕ) → HasValueIfGiven (bytes_number least) (rows_of found) name
    → (one_text found name ≡ None → result ≡ None) → ((t : Text) → one_text found name ≡ Some t → ReadsOne ReadsU64 t result)
    → GivesBytes (rows_of found) name least result
bytes_read least found name result has none reads = go (one_of name (rows_of found)) refl
  where
    Read : Option ℕ → Type 0
    Read = GivesBytes (rows_of found) name least

    value : (text : Text) → one_of name (rows_of found) ≡ Some text → Accepts false (bytes_number least) text → (o : Option ℕ)
        → ReadsOne ReadsU64 text o → Read o
    value text is passed (Some n) read =
        let same : n ≡ digits_value 10 (without_leading_plus text) = read.0.1 in (
          ap (λ m. Some m) same ∙ sym (ap (option_map (λ t. digits_value 10 (without_leading_plus t))) is),
          (subst (λ m. least ≤ m) (sym same) passed.2, subst (λ m. m ≤ most_bytes) (sym same) passed.3),
        )
    value text is passed None read = absurd (read.1.0 (passed.0, passed.1))

    go : (o : Option Text) → one_of name (rows_of found) ≡ o → Read result
    go None is =
        subst Read (sym (none (one_text-rows found name ∙ is))) (sym (ap (option_map (λ t. digits_value 10 (without_leading_plus t))) is), tt)
    go (Some text) is =
        let given = has (subst IsSome (sym is) refl) in
        value given.0 given.1 given.2 result (reads given.0 (one_text-rows found name ∙ given.1))

-- ---- the interval

-- it is none, or this one
abbrev pub IsReadInterval : List Row → Option ℕ → Type 0
IsReadInterval rows None = GivesInterval rows usual_interval
IsReadInterval rows (Some n) = GivesInterval rows n

-- which makes the usual one of none
pub usual_or : (rows : List Row) (result : Option ℕ) → IsReadInterval rows result
    → GivesInterval rows (unwrap_or result usual_interval)
usual_or rows None read = read
usual_or rows (Some n) read = read

pub interval_read : (found : Found) (result : Option ℕ) → HasValueIfGiven interval_number (rows_of found) (codes "K")
    → (one_text found (codes "K") ≡ None → result ≡ None) → ((t : Text) → one_text found (codes "K") ≡ Some t → ReadsOne ReadsU32 t result)
    → IsReadInterval (rows_of found) result
interval_read found result has none reads = go (one_of (codes "K") (rows_of found)) refl
  where
    Read : Option ℕ → Type 0
    Read = IsReadInterval (rows_of found)

    go : (o : Option Text) → one_of (codes "K") (rows_of found) ≡ o → Read result
    go None is = subst Read (sym (none (one_text-rows found (codes "K") ∙ is))) (subst (λ text. IsIntervalOf text usual_interval) (sym is) refl, refl)
    go (Some text) is =
        let read = number_read 1 most_interval (omega arith) found (codes "K") result (has (subst IsSome (sym is) refl)) reads in
        let given = read.4 in
        subst Read (sym read.1) (
          subst (λ text. IsIntervalOf text read.0) (sym given.1) given.2,
          and_from (leb 1 read.0) (leb read.0 most_interval) (le-leb 1 read.0 read.2) (le-leb read.0 most_interval read.3),
        )
