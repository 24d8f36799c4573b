-- How many bytes the first line of a text has.
use Rattle.std.proofs.Common.{◌≡◌, ◌<◌, ◌≤◌, ◌+◌, ◌++◌, ℕ, zero, suc, Bool, true, false, List, [], ◌∷◌, length, take, refl, ◌∙◌, arith, min}
use Rattle.std.specs.Prelude.{◌==◌, ◌||◌, not, if◌then◌else◌}
use Rattle.std.proofs.lemmas.Bool.{cond-false, ne_eqb}
use Rattle.std.proofs.lemmas.List.Folds.{prefix_len-append}
use Rattle.std.proofs.lemmas.List.Sums.{prefix_len-le-length}
use Rattle.smap_lines.specs.Lines.{has_line_end}
use Rattle.smap_pairs.specs.Chunks.{line_bytes}

pub line_within : (text : List ℕ) → line_bytes text ≤ length text
line_within text = prefix_len-le-length (λ byte. not (byte == 10)) text

-- a line that is ended stays, whatever comes behind it
pub line_stays : (text later : List ℕ) → line_bytes text < length text → line_bytes (text ++ later) ≡ line_bytes text
line_stays text later ended =
    prefix_len-append (λ byte. not (byte == 10)) text later
    ∙ cond-false _ _ _ (ne_eqb (line_bytes text) (length text) (λ (whole : line_bytes text ≡ length text). omega arith))

-- any other goes on
pub line_grows : (text later : List ℕ) → line_bytes text ≤ line_bytes (text ++ later)
line_grows [] later = omega arith
line_grows (byte ∷ text) later = go (not (byte == 10)) (line_grows text later)
  where
    go : (b : Bool) → line_bytes text ≤ line_bytes (text ++ later) → (if b then 1 + line_bytes text else 0) ≤ (if b then 1 + line_bytes (text ++ later) else 0)
    go true grows = omega arith
    go false grows = omega arith

-- the first line of the first bytes of a text
pub line_of_front : (most : ℕ) (text : List ℕ) → line_bytes (take most text) ≡ min most (line_bytes text)
line_of_front zero text = omega arith
line_of_front (suc most) [] = omega arith
line_of_front (suc most) (byte ∷ text) = go (not (byte == 10)) (line_of_front most text)
  where
    go : (b : Bool) → line_bytes (take most text) ≡ min most (line_bytes text)
        → (if b then 1 + line_bytes (take most text) else 0) ≡ min (suc most) (if b then 1 + line_bytes text else 0)
    go true front = omega arith
    go false front = omega arith

-- a line that is not ended has no LF
pub no_line_end : (text : List ℕ) → length text ≤ line_bytes text → has_line_end text ≡ false
no_line_end [] whole = refl
no_line_end (byte ∷ text) whole = go (byte == 10) (no_line_end text) whole
  where
    go : (b : Bool) → (length text ≤ line_bytes text → has_line_end text ≡ false)
        → suc (length text) ≤ (if not b then 1 + line_bytes text else 0) → (b || has_line_end text) ≡ false
    go true later whole = absurd (omega arith)
    go false later whole = later (omega arith)

-- one that is has one
pub line_ends : (text : List ℕ) → has_line_end text ≡ true → line_bytes text < length text
line_ends [] has = cc
line_ends (byte ∷ text) has = go (byte == 10) (line_ends text) has
  where
    go : (b : Bool) → (has_line_end text ≡ true → line_bytes text < length text)
        → (b || has_line_end text) ≡ true → (if not b then 1 + line_bytes text else 0) < suc (length text)
    go true later has = omega arith
    go false later has = let ends = later has in omega arith

-- so does any whose bytes are not all
pub ended_line : (text : List ℕ) → line_bytes text < length text → has_line_end text ≡ true
ended_line [] ends = absurd (omega arith)
ended_line (byte ∷ text) ends = go (byte == 10) (ended_line text) ends
  where
    go : (b : Bool) → (line_bytes text < length text → has_line_end text ≡ true)
        → (if not b then 1 + line_bytes text else 0) < suc (length text) → (b || has_line_end text) ≡ true
    go true later ends = refl
    go false later ends = later (omega arith)
