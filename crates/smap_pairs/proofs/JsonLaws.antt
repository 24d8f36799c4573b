-- Where bytes stand in a string of JSON, byte by byte.
use Rattle.std.proofs.Common.{◌≡◌, ◌≢◌, ◌++◌, ◌&&◌, ◌⊎◌, inl, inr, ℕ, zero, suc, Bool, true, false, List, [], ◌∷◌, ap, refl, ◌∙◌}
use Rattle.std.specs.Prelude.{◌==◌, if◌then◌else◌}
use Rattle.std.specs.Char.{is_ascii_hexdigit}
use Rattle.smap_pairs.specs.Json.{InString, all_may_stand, may_stand, past, past_all, past_digit, past_first}
use Rattle.smap_pairs.specs.Json.InString.{before_digits, behind_backslash, between}

-- ---- one byte

-- no byte of an escape but of a short one
pub past_plain : (state : InString) (byte : ℕ) → (byte == 92) ≡ false → (byte == 117) ≡ false → is_ascii_hexdigit byte ≡ false → past state byte ≡ between
past_plain between byte slash u digit = ap (λ is. if is then behind_backslash else between) slash
past_plain behind_backslash byte slash u digit = ap (λ is. if is then before_digits 3 else between) u
past_plain (before_digits more) byte slash u digit =
    ap (λ is. if is then past_digit more else past_first byte) digit ∙ ap (λ is. if is then behind_backslash else between) slash

-- between characters a byte is one by itself, unless it is a `\`
pub past_byte : (byte : ℕ) → (byte == 92) ≡ false → past between byte ≡ between
past_byte byte other = ap (λ is. if is then behind_backslash else between) other

-- some bytes behind which a character begins
pub past_colon : (state : InString) → past state 58 ≡ between
past_colon between = refl
past_colon behind_backslash = refl
past_colon (before_digits more) = refl

pub past_m : (state : InString) → past state 109 ≡ between
past_m between = refl
past_m behind_backslash = refl
past_m (before_digits more) = refl

pub past_sharp : (state : InString) → past state 35 ≡ between
past_sharp between = refl
past_sharp behind_backslash = refl
past_sharp (before_digits more) = refl

pub past_apostrophe : (state : InString) → past state 39 ≡ between
past_apostrophe between = refl
past_apostrophe behind_backslash = refl
past_apostrophe (before_digits more) = refl

pub past_quotation_mark : (state : InString) → past state 34 ≡ between
past_quotation_mark between = refl
past_quotation_mark behind_backslash = refl
past_quotation_mark (before_digits more) = refl

pub past_line_end : (state : InString) → past state 10 ≡ between
past_line_end between = refl
past_line_end behind_backslash = refl
past_line_end (before_digits more) = refl

-- ---- several bytes

pub past_both : (state : InString) (first second : List ℕ) → past_all state (first ++ second) ≡ past_all (past_all state first) second
past_both state [] second = refl
past_both state (byte ∷ first) second = past_both (past state byte) first second

one_and : (one first second : Bool) (all : Bool) → all ≡ (first && second) → (one && all) ≡ ((one && first) && second)
one_and true first second all is = is
one_and false first second all is = refl

pub both_may_stand : (state : InString) (first second : List ℕ)
    → all_may_stand state (first ++ second) ≡ (all_may_stand state first && all_may_stand (past_all state first) second)
both_may_stand state [] second = refl
both_may_stand state (byte ∷ first) second =
    one_and (may_stand state byte) (all_may_stand (past state byte) first) (all_may_stand (past_all (past state byte) first) second) _
    (both_may_stand (past state byte) first second)

-- a state in which no digit is awaited
abbrev pub IsOutside : InString → Type 0
IsOutside state = (state ≡ between) ⊎ (state ≡ behind_backslash)

pub outside_backslash : (state : InString) → IsOutside (past state 92)
outside_backslash between = inr refl
outside_backslash behind_backslash = inl refl
outside_backslash (before_digits more) = inr refl

-- only a `\` begins an escape
pub behind_is : (state : InString) (byte : ℕ) → (byte == 92) ≡ false → past state byte ≢ behind_backslash
behind_is between byte other is = let plain = past_byte byte other in cc
behind_is behind_backslash byte other is = go (byte == 117) is
  where
    go : (u : Bool) → (if u then before_digits 3 else between) ≡ behind_backslash → ⊥
    go true is = cc
    go false is = cc
behind_is (before_digits more) byte other is = go (is_ascii_hexdigit byte) more is
  where
    go : (digit : Bool) (more : ℕ) → (if digit then past_digit more else past_first byte) ≡ behind_backslash → ⊥
    go true zero is = cc
    go true (suc more) is = cc
    go false more is = let plain = past_byte byte other in cc
