-- What is reported of a file that is a text, by the tests that its bytes pass.
use Rattle.std.proofs.Common.{◌≡◌, ◌≤◌, ℕ, List, ap, inl, inr, le-ltb, length, not, subst, sym, ◌∙◌}
use Rattle.std.specs.Prelude.{MatchOption, Option, Some, None}
use Rattle.std.specs.Option.{IsSomeAnd}
use Rattle.std.specs.Str.{IsUtf8, is_utf8}
use Rattle.std.proofs.lemmas.Bool.{cond-false, cond-true, false_from_ne_true}
use Rattle.std.proofs.lemmas.Str.{IsUtf8-from_is_utf8, is_utf8-from_IsUtf8}
use Rattle.smap_codes.specs.declared.code.Code.{Code}
use Rattle.smap_codes.specs.declared.code.Code.TheVariants.{NotUtf8}
use Rattle.smap_record.specs.Limits.{most_file_bytes}
use Rattle.smap_replies.specs.Files.{MayRead}
use Rattle.smap_replies.specs.Map.{IsText, NeverText, OfText, refused_file, text_refusal}
use Rattle.smap_replies.specs.Outcome.{OrMemory, Report}

-- ---- its bytes

module _ (bytes : List ℕ) (short : length bytes ≤ most_file_bytes) where
  -- they are no text
  pub is_no_text : (IsUtf8 bytes → ⊥) → text_refusal bytes ≡ Some NotUtf8
  is_no_text not_text =
      cond-false _ _ _ (le-ltb most_file_bytes (length bytes) short)
      ∙ cond-true _ _ _ (ap not (false_from_ne_true (is_utf8 bytes) (λ is. not_text (IsUtf8-from_is_utf8 bytes is))))

  -- or a text
  pub is_text : IsUtf8 bytes → text_refusal bytes ≡ None
  is_text utf8 = cond-false _ _ _ (le-ltb most_file_bytes (length bytes) short) ∙ cond-false _ _ _ (ap not (is_utf8-from_IsUtf8 bytes utf8))

-- they are refused so
pub for_code : (path bytes : List ℕ) (code : Code) (report : Report) → text_refusal bytes ≡ Some code → report ≡ refused_file path code
    → OrMemory (λ t. IsSomeAnd (text_refusal bytes) (λ code. t ≡ refused_file path code)) report
for_code path bytes code report is reported = inr (subst (λ r. IsSomeAnd r (λ code. report ≡ refused_file path code)) (sym is) reported)

-- ---- the file

never_or : (why : Option Code) (P : Type 0) (Q : Code → Type 0) → MatchOption why ⊥ Q → MatchOption why P Q
never_or None P Q never = absurd never
never_or (Some code) P Q holds = holds

-- a file that is no text is reported as one over any texts
pub no_text : (Reads : MayRead) (number : ℕ) (path : List ℕ) (Reports : List ℕ → Report → Type 0) (report : Report)
    → OrMemory (OfText Reads number path NeverText) report → OrMemory (OfText Reads number path Reports) report
no_text Reads number path Reports report (inl memory) = inl memory
no_text Reads number path Reports report (inr (inl unread)) = inr (inl unread)
no_text Reads number path Reports report (inr (inr found)) =
    inr (inr (found.0, found.1, never_or (text_refusal found.0) (Reports found.0 report) (λ code. report ≡ refused_file path code) found.2))

-- and one that is a text by what is reported of that
pub of_text : (Reads : MayRead) (number : ℕ) (path text : List ℕ) (Reports : List ℕ → Report → Type 0) (report : Report)
    → IsText Reads number path text → OrMemory (Reports text) report → OrMemory (OfText Reads number path Reports) report
of_text Reads number path text Reports report is (inl memory) = inl memory
of_text Reads number path text Reports report is (inr reported) =
    inr (inr (
      is.0,
      is.1,
      subst (λ why. MatchOption why (Reports is.0 report) (λ code. report ≡ refused_file path code)) (sym is.3)
          (subst (λ t. Reports t report) is.2 reported),
    ))
