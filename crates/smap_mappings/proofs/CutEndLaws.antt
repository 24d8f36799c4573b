-- A text without the `;` at its end.
use Rattle.std.proofs.Common.{◌≡◌, ℕ, zero, suc, ◌+◌, ◌-◌, ◌<◌, Bool, true, false, not, ◌&&◌, ◌||◌, List, [], ◌∷◌, ◌++◌, length, get_or, drop, take}
use Rattle.std.proofs.Common.{replicate, refl, sym, ap, ◌∙◌, arith, ne_eqb}
use Rattle.std.specs.List.{AllByRecursion}
use Rattle.std.proofs.lemmas.Bool.{cond-false, or_parts, not-true}
use Rattle.std.proofs.lemmas.List.{drop_more, take_more}
use Rattle.smap_mappings.specs.Segments.{is_semicolon}
use Rattle.smap_mappings.specs.Private.Reading.{is_inside}
use Rattle.smap_mappings.specs.Needless.{is_needless, has_none_needless, cut_before, without_line_ends}

-- ---- what is kept

stays_before : (byte next : ℕ) (front rest : List ℕ) → cut_before byte (front ++ next ∷ rest) ≡ byte ∷ front ++ next ∷ rest
stays_before byte next [] rest = refl
stays_before byte next (x ∷ front) rest = refl

-- what stands before a byte that is kept is kept
kept_front : (front text : List ℕ) (byte : ℕ) (rest : List ℕ) → without_line_ends text ≡ byte ∷ rest
    → without_line_ends (front ++ text) ≡ front ++ byte ∷ rest
kept_front [] text byte rest is = is
kept_front (x ∷ front) text byte rest is = ap (cut_before x) (kept_front front text byte rest is) ∙ stays_before x byte front rest

kept_byte : (byte : ℕ) (rest : List ℕ) → is_semicolon byte ≡ false → cut_before byte rest ≡ byte ∷ rest
kept_byte byte [] is = cond-false _ _ _ is
kept_byte byte (next ∷ rest) is = refl

inside_is_kept : (byte : ℕ) → is_inside byte ≡ true → is_semicolon byte ≡ false
inside_is_kept byte inside = (or_parts _ _ (not-true _ inside)).0

kept_run : (byte : ℕ) (run text : List ℕ) → AllByRecursion (λ b. is_inside b ≡ true) (byte ∷ run)
    → without_line_ends ((byte ∷ run) ++ text) ≡ (byte ∷ run) ++ without_line_ends text
kept_run byte [] text inside = kept_byte byte (without_line_ends text) (inside_is_kept byte inside.0)
kept_run byte (next ∷ run) text inside = ap (cut_before byte) (kept_run next run text inside.1)

-- a segment is kept with all before it
pub kept_segment : (front : List ℕ) (byte : ℕ) (run text : List ℕ) → AllByRecursion (λ b. is_inside b ≡ true) (byte ∷ run)
    → without_line_ends (front ++ ((byte ∷ run) ++ text)) ≡ front ++ ((byte ∷ run) ++ without_line_ends text)
kept_segment front byte run text inside =
    kept_front front ((byte ∷ run) ++ text) byte (run ++ without_line_ends text) (kept_run byte run text inside)

-- ---- what is cut off

pub no_line_ends : (n : ℕ) → without_line_ends (replicate n 59) ≡ []
no_line_ends zero = refl
no_line_ends (suc n) = ap (cut_before 59) (no_line_ends n)

one_line_end : (text : List ℕ) → without_line_ends (text ++ 59 ∷ []) ≡ without_line_ends text
one_line_end [] = refl
one_line_end (x ∷ text) = ap (cut_before x) (one_line_end text)

all_kept : (text : List ℕ) (byte : ℕ) → is_semicolon byte ≡ false → without_line_ends (text ++ byte ∷ []) ≡ text ++ byte ∷ []
all_kept text byte is = kept_front text (byte ∷ []) byte [] (kept_byte byte [] is)

module _ (text : List ℕ) (end : ℕ) (some : 0 < end) (within : end - 1 < length text) where
  split : take end text ≡ take (end - 1) text ++ get_or text (end - 1) 0 ∷ []
  split = let e : end ≡ end - 1 + 1 = omega arith in ap (λ n. take n text) e ∙ take_more text (end - 1) 0 within

  pub cut_further : get_or text (end - 1) 0 ≡ 59 → without_line_ends (take end text) ≡ without_line_ends (take (end - 1) text)
  cut_further is = ap without_line_ends (split ∙ ap (λ b. take (end - 1) text ++ b ∷ []) is) ∙ one_line_end (take (end - 1) text)

  pub cut_no_further : (get_or text (end - 1) 0 ≡ 59 → ⊥) → without_line_ends (take end text) ≡ take end text
  cut_no_further other =
      ap without_line_ends split ∙ all_kept (take (end - 1) text) (get_or text (end - 1) 0) (ne_eqb _ _ other) ∙ sym split

-- ---- a walk over the bytes

regroup : (a b c : Bool) → (not a && (not b && c)) ≡ (not (a || b) && c)
regroup true b c = refl
regroup false b c = refl

pub none_further : (whole found : Bool) (text : List ℕ) (i before : ℕ) → i < length text → whole ≡ (not found && has_none_needless before (drop i text))
    → whole ≡ (not (found || is_needless before (get_or text i 0)) && has_none_needless (get_or text i 0) (drop (i + 1) text))
none_further whole found text i before within so_far =
    so_far ∙ ap (λ rest. not found && has_none_needless before rest) (drop_more text i 0 within)
    ∙ regroup found (is_needless before (get_or text i 0)) (has_none_needless (get_or text i 0) (drop (i + 1) text))
