-- What `raw` prints of a text, by the tests that it passes.
use Rattle.std.proofs.Common.{◌≡◌, ℕ, ◌+◌, ◌-◌, ◌<◌, ◌≤◌, Bool, true, false, not, eqb, List, [], ◌++◌, length, get_or, Option, Some, None, refl, sym, ap, ◌∙◌, arith, le-ltb}
use Rattle.std.proofs.Common.{lt-ltb, subst, length-append, ⊎_elim}
use Rattle.std.specs.Prelude.{IfSome}
use Rattle.std.specs.Io.KnownBytes.{IsAtEnd}
use Rattle.smap_io.specs.Device.{Gives}
use Rattle.std.specs.Str.{IsUtf8, is_utf8}
use Rattle.std.proofs.lemmas.Bool.{cond-true, cond-false, false_from_ne_true, cases_Bool, cases_lt}
use Rattle.std.proofs.lemmas.List.{append-nil, length-take-le}
use Rattle.std.proofs.lemmas.Str.{IsUtf8-from_is_utf8, is_utf8-from_IsUtf8}
use Rattle.smap_mappings.specs.Faults.{first_fault}
use Rattle.smap_mappings.specs.Mappings.{mappings_of}
use Rattle.smap_index.specs.Answer.{answer_at_or_before}
use Rattle.smap_map_answers.specs.Raw.{IsRawReport, fault_or_answer, text_result, without_last_line_end, raw_result}
use Rattle.smap_replies.specs.Lines.{input_failed_line}
use Rattle.smap_replies.specs.Outcome.{OrMemory, Report, failure, refused_by}
use Rattle.smap_codes.specs.declared.code.Code.TheVariants.{NotUtf8, TextTooLong}
use Rattle.smap_mappings.specs.Limits.{most_indices, most_text_bytes}

-- ---- the tests of a text

pub text_too_long : (text : List ℕ) (line column : ℕ) → most_text_bytes < length text → text_result text line column ≡ refused_by TextTooLong
text_too_long text line column long = cond-true _ _ _ (lt-ltb most_text_bytes (length text) long)

pub text_not_utf8 : (text : List ℕ) (line column : ℕ) → length text ≤ most_text_bytes → (IsUtf8 text → ⊥) → text_result text line column ≡ refused_by NotUtf8
text_not_utf8 text line column short not_text =
    cond-false _ _ _ (le-ltb most_text_bytes (length text) short)
    ∙ cond-true _ _ _ (ap not (false_from_ne_true (is_utf8 text) (λ is. not_text (IsUtf8-from_is_utf8 text is))))

pub text_is_utf8 : (text : List ℕ) (line column : ℕ) → length text ≤ most_text_bytes → IsUtf8 text
    → text_result text line column ≡ fault_or_answer (first_fault text most_indices most_indices) (answer_at_or_before (mappings_of text) line column)
text_is_utf8 text line column short is_text =
    cond-false _ _ _ (le-ltb most_text_bytes (length text) short) ∙ cond-false _ _ _ (ap not (is_utf8-from_IsUtf8 text is_text))

-- ---- an input that isn't read to its end

length_without : (bytes : List ℕ) → length bytes ≤ length (without_last_line_end bytes) + 1
length_without bytes =
    ⊎_elim
    (λ yes. let cut : length (without_last_line_end bytes) ≡ length bytes - 1 = ap length (cond-true _ _ _ yes)
    ∙ length-take-le (length bytes - 1) bytes (omega arith) in omega (arith, cut))
    (λ kept. let all : length (without_last_line_end bytes) ≡ length bytes = ap length (cond-false _ _ _ kept) in omega (arith, all))
    (cases_Bool (eqb (get_or bytes (length bytes - 1) 0) 10))

-- a text that is too long is so however much of it was read
pub raw_too_long : (bytes : List ℕ) (line column : ℕ) → (most_text_bytes + 2) ≤ length bytes → raw_result bytes line column ≡ refused_by TextTooLong
unfolding raw_result
raw_too_long bytes line column long = text_too_long (without_last_line_end bytes) line column (omega (arith, length_without bytes))

-- what was read decides the answer to the whole input
pub raw_of_read : (before after : Option (List ℕ)) (bytes : List ℕ) (line column : ℕ) → Gives before after bytes
    → length bytes ≤ (most_text_bytes + 2) → (length bytes < (most_text_bytes + 2) → IsAtEnd after)
    → IfSome before (λ all. raw_result all line column ≡ raw_result bytes line column)
raw_of_read before None bytes line column gives short whole_read =
    subst (λ b. IfSome b (λ all. raw_result all line column ≡ raw_result bytes line column)) (sym gives) tt
raw_of_read before (Some rest) bytes line column gives short whole_read =
    subst (λ b. IfSome b (λ all. raw_result all line column ≡ raw_result bytes line column)) (sym gives)
    (⊎_elim
    (λ (less : length bytes < (most_text_bytes + 2)). ap (λ r. raw_result (bytes ++ r) line column) (whole_read less)
    ∙ ap (λ b. raw_result b line column) (append-nil bytes))
    (λ (long : (most_text_bytes + 2) ≤ length bytes). raw_too_long (bytes ++ rest) line column (omega (arith, length-append bytes rest))
    ∙ sym (raw_too_long bytes line column long))
    (cases_lt (length bytes) (most_text_bytes + 2)))

-- ---- what is reported

-- where standard input did not fail
pub raw_of_input : (line column : ℕ) (input : List ℕ) (failed : Bool) (report : Report) → failed ≡ false
    → OrMemory (λ reported. reported ≡ raw_result input line column) report → IsRawReport line column input failed report
raw_of_input line column input failed report works is = subst (λ f. IsRawReport line column input f report) (sym works) is

-- where it did
pub raw_of_failure : (line column : ℕ) (input : List ℕ) (failed : Bool) → failed ≡ true
    → IsRawReport line column input failed (failure input_failed_line)
raw_of_failure line column input failed is = subst (λ f. IsRawReport line column input f (failure input_failed_line)) (sym is) refl

-- some bytes are those of the input
pub some_input : (left : Option (List ℕ)) → (input : List ℕ) × IfSome left (λ all. all ≡ input)
some_input None = ([], tt)
some_input (Some all) = (all, refl)

-- the input of `raw`: what was read of it decides what the whole of it gives
pub raw_input : (before after : Option (List ℕ)) (bytes : List ℕ) (line column : ℕ) → Gives before after bytes
    → length bytes ≤ (most_text_bytes + 2) → (length bytes < (most_text_bytes + 2) → IsAtEnd after)
    → (input : List ℕ) × IfSome before (λ all. all ≡ input) × (raw_result bytes line column ≡ raw_result input line column)
raw_input before after bytes line column gives short whole_read = go before (raw_of_read before after bytes line column gives short whole_read)
  where
    go : (o : Option (List ℕ)) → IfSome o (λ all. raw_result all line column ≡ raw_result bytes line column)
        → (input : List ℕ) × IfSome o (λ all. all ≡ input) × (raw_result bytes line column ≡ raw_result input line column)
    go None same = (bytes, tt, refl)
    go (Some all) same = (all, refl, sym same)
