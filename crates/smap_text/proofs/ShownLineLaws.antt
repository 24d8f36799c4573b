-- How much is shown of a line: one number is so many bytes.
use Rattle.std.proofs.Common.{◌≡◌, ◌∙◌, ◌<◌, ◌≤◌, ℕ, zero, suc, true, false, List, ap, arith, cond, refl, length, subst, sym, ⊎_elim}
use Rattle.std.specs.Fmt.{is_char_start}
use Rattle.std.specs.Fmt.Cut.{floor_char_boundary}
use Rattle.std.specs.Str.{IsCharBoundary}
use Rattle.std.proofs.lemmas.Bool.{cases_lt, le-leb, le-ltb, lt-leb, lt-ltb}
use Rattle.std.proofs.lemmas.Str.{IsCharBoundary-end}
use Rattle.smap_text.specs.ShownLine.{IsFrontOf, shown_bytes}

-- ---- the last place at which a character begins

-- a byte begins one, or not
starts : (byte : ℕ) → (128 ≤ byte → 192 ≤ byte) → is_char_start byte ≡ true
starts byte begins = ⊎_elim (λ low. rw (lt-ltb byte 128 low) refl)
    (λ high. rw (le-ltb byte 128 high, le-leb 192 byte (begins high)) refl) (cases_lt byte 128)

goes_on : (byte : ℕ) → ((128 ≤ byte → 192 ≤ byte) → ⊥) → is_char_start byte ≡ false
goes_on byte stays = ⊎_elim (λ low. absurd (stays (λ high. omega arith)))
    (λ high. ⊎_elim (λ mid. rw (le-ltb byte 128 high, lt-leb 192 byte mid) refl) (λ top. absurd (stays (λ high. top))) (cases_lt byte 192))
    (cases_lt byte 128)

abbrev IsLast : (line : List ℕ) (within bytes : ℕ) → Type 0
IsLast line within bytes = (bytes ≤ within) × IsCharBoundary line bytes × ((byte : ℕ) → bytes < byte → byte ≤ within → IsCharBoundary line byte → ⊥)

last_is : (line : List ℕ) (within bytes : ℕ) → within < length line → IsLast line within bytes → floor_char_boundary line within ≡ bytes
unfolding floor_char_boundary
last_is line zero bytes long last = omega arith
last_is line (suc within) bytes long last = ⊎_elim
    (λ below. ap (λ starts. cond starts (suc within) (floor_char_boundary line within))
    (goes_on _ (λ begins. last.2 (suc within) below (omega arith) (omega arith, λ inside. begins)))
    ∙ last_is line within bytes (omega arith) (omega arith, last.1, λ byte past fits. last.2 byte past (omega arith)))
    (λ above. let same : bytes ≡ suc within = omega arith in
    ap (λ starts. cond starts (suc within) (floor_char_boundary line within)) (starts _ ((subst (IsCharBoundary line) same last.1).1 long)) ∙ sym same)
    (cases_lt bytes (suc within))

-- ---- the bytes that are shown

whole : (line : List ℕ) (bytes : ℕ) → IsFrontOf line bytes → length line ≤ 65536 → bytes ≡ length line
whole line bytes front fits = ⊎_elim (λ below. absurd (front.last (length line) below fits (IsCharBoundary-end line)))
    (λ above. omega (arith, above, front.boundary.0)) (cases_lt bytes (length line))

pub shown_is : (line : List ℕ) (bytes : ℕ) → IsFrontOf line bytes → bytes ≡ shown_bytes line
shown_is line bytes front = ⊎_elim
    (λ long. rw (lt-leb (length line) 65536 long) (sym (last_is line 65536 bytes long (front.within, front.boundary, front.last))))
    (λ fits. rw (le-leb (length line) 65536 fits) (whole line bytes front fits)) (cases_lt 65536 (length line))
