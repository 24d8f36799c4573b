-- The bytes that stay behind a chunk that is broken off.
use Rattle.std.proofs.Common.{◌≡◌, ◌<◌, ◌≤◌, ◌-◌, ◌++◌, ◌&&◌, ℕ, zero, suc, Bool, true, false, List, [], ◌∷◌, length, take, drop, map, refl, ap, sym, ◌∙◌, arith}
use Rattle.std.specs.Prelude.{◌==◌, not, if◌then◌else◌, slice_index}
use Rattle.std.proofs.lemmas.Bool.{and_left, lt-ltb}
use Rattle.smap_pairs.specs.Chunks.{begins_anew, cuts_from, staying_bytes, stays_broken}
use Rattle.smap_pairs.specs.Chunks.Cut.{stays}
use Rattle.smap_pairs.specs.Laws.Chunks.{cuts_stay}

broken_behind : (text : List ℕ) (at : ℕ) → stays_broken text (suc at) ≡ not (slice_index text at == 10)
broken_behind text at =
    let one : suc at - 1 ≡ at = omega arith in
    λ i. not (lt-ltb 0 (suc at) (omega arith) i && slice_index text (one i) == 10)

broken_next : (byte : ℕ) (text : List ℕ) (bytes : ℕ) → (byte == 10) ≡ false → stays_broken (byte ∷ text) (suc bytes) ≡ stays_broken text bytes
broken_next byte text zero other = ap not other
broken_next byte text (suc bytes) other = broken_behind (byte ∷ text) (suc bytes) ∙ sym (broken_behind text bytes)

-- the cuts that the bytes are that stay, and those behind them
pub cuts_staying : (text later : List ℕ) → cuts_from 0 true (text ++ later)
    ≡ map stays (take (staying_bytes text) text) ++ cuts_from 0 (stays_broken text (staying_bytes text)) (drop (staying_bytes text) text ++ later)
cuts_staying [] later = refl
cuts_staying (byte ∷ text) later = go (begins_anew byte) (byte == 10) refl refl (cuts_staying text later)
  where
    go : (is_quote is_end : Bool) → (begins_anew byte) ≡ is_quote → (byte == 10) ≡ is_end
        → cuts_from 0 true (text ++ later)
        ≡ map stays (take (staying_bytes text) text) ++ cuts_from 0 (stays_broken text (staying_bytes text)) (drop (staying_bytes text) text ++ later)
        → (let staying = if is_quote then 0 else if is_end then 1 else suc (staying_bytes text) in
        cuts_from 0 true (byte ∷ (text ++ later))
        ≡ map stays (take staying (byte ∷ text)) ++ cuts_from 0 (stays_broken (byte ∷ text) staying) (drop staying (byte ∷ text) ++ later))
    go true is_end quote end behind = refl
    go false true quote end behind = cuts_stay byte (text ++ later) quote
    go false false quote end behind =
        cuts_stay byte (text ++ later) quote
        ∙ ap (λ cuts. stays byte ∷ cuts) (ap (λ b. cuts_from 0 (not b) (text ++ later)) end ∙ behind
        ∙ ap (λ b. map stays (take (staying_bytes text) text) ++ cuts_from 0 b (drop (staying_bytes text) text ++ later))
        (sym (broken_next byte text (staying_bytes text) end)))

pub staying_within : (text : List ℕ) → staying_bytes text ≤ length text
staying_within [] = omega arith
staying_within (byte ∷ text) = go (begins_anew byte) (byte == 10) (staying_within text)
  where
    go : (is_quote is_end : Bool) → staying_bytes text ≤ length text
        → (if is_quote then 0 else if is_end then 1 else suc (staying_bytes text)) ≤ suc (length text)
    go true is_end within = omega arith
    go false true within = omega arith
    go false false within = omega arith

-- the first byte stays, unless it is a `"`
pub staying_some : (text : List ℕ) → 0 < length text → begins_anew (slice_index text 0) ≡ false → 0 < staying_bytes text
staying_some [] some other = absurd (omega arith)
staying_some (byte ∷ text) some other = go (begins_anew byte) (byte == 10) refl
  where
    go : (is_quote is_end : Bool) → (begins_anew byte) ≡ is_quote → 0 < (if is_quote then 0 else if is_end then 1 else suc (staying_bytes text))
    go true is_end quote = let both : true ≡ false = sym quote ∙ other in cc
    go false true quote = omega arith
    go false false quote = omega arith

-- the byte behind them does not
pub staying_ends : (text : List ℕ) → 0 < length (drop (staying_bytes text) text)
    → (stays_broken text (staying_bytes text) && not (begins_anew (slice_index text (staying_bytes text)))) ≡ false
staying_ends [] some = absurd (omega arith)
staying_ends (byte ∷ text) some = go (begins_anew byte) (byte == 10) refl refl (staying_ends text) some
  where
    go : (is_quote is_end : Bool) → (begins_anew byte) ≡ is_quote → (byte == 10) ≡ is_end
        → (0 < length (drop (staying_bytes text) text)
        → (stays_broken text (staying_bytes text) && not (begins_anew (slice_index text (staying_bytes text)))) ≡ false)
        → (let staying = if is_quote then 0 else if is_end then 1 else suc (staying_bytes text) in
        0 < length (drop staying (byte ∷ text)) → (stays_broken (byte ∷ text) staying && not (begins_anew (slice_index (byte ∷ text) staying))) ≡ false)
    go true is_end quote end later some = ap not quote
    go false true quote end later some = and_left (not (byte == 10)) (not (begins_anew (slice_index (byte ∷ text) 1))) (ap not end)
    go false false quote end later some =
        ap (λ b. b && not (begins_anew (slice_index text (staying_bytes text)))) (broken_next byte text (staying_bytes text) end) ∙ later some
