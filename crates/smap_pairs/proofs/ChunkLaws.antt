-- How the first chunk of a text is found, and the bytes that stay.
use Rattle.std.proofs.Common.{◌≡◌, ◌<◌, ◌≤◌, ◌+◌, ◌-◌, ◌++◌, ℕ, suc, Bool, true, false, List, [], ◌∷◌, Option, Some, None, length, get_or, take, refl, ap, sym, ◌∙◌, inl, inr, arith, min}
use Rattle.std.specs.Prelude.{◌==◌, ◌||◌, not, if◌then◌else◌, reverse, slice_index}
use Rattle.std.specs.List.{prefix_len}
use Rattle.std.specs.Option.{unwrap_or}
use Rattle.std.proofs.lemmas.Bool.{eqb-true, false_from_ne_true, not_from_false, not_from_true}
use Rattle.std.proofs.lemmas.List.{get_or-reverse, length-reverse, length-take}
use Rattle.std.proofs.lemmas.List.Sums.{prefix_len_is}
use Rattle.memchr.specs.Find.{IsFirstByte, IsLastByte}
use Rattle.smap_lines.specs.Limits.{most_line_bytes}
use Rattle.smap_lines.specs.Lines.{has_line_end}
use Rattle.smap_pairs.specs.declared.chunk.Chunk.{Chunk}
use Rattle.smap_pairs.specs.Chunks.{chunk_of_long, first_chunk, line_bytes, staying_bytes, without_end}
use Rattle.smap_pairs.specs.Laws.Chunks.{IsDecided, first_decided, first_line, first_of_long}
use Rattle.smap_pairs.specs.Laws.FirstLine.{ended_line, line_of_front, line_within, no_line_end}

-- ---- searches

-- where the first byte of a kind stands, or else the text ends
pub first_byte : (test : ℕ → Bool) (text : List ℕ) (found : Option ℕ) → IsFirstByte test text found
    → unwrap_or found (length text) ≡ prefix_len (λ byte. not (test byte)) text
first_byte test text None nowhere =
    sym (prefix_len_is (λ byte. not (test byte)) text (length text) 0 (omega arith)
    (λ k before. not_from_false (test (get_or text k 0)) (false_from_ne_true (test (get_or text k 0)) (nowhere k (omega arith) before)))
    (λ past. absurd (omega arith)))
first_byte test text (Some at) (first, is) =
    sym (prefix_len_is (λ byte. not (test byte)) text at 0 (let high = first.high in omega arith)
    (λ k before. not_from_false (test (get_or text k 0)) (false_from_ne_true (test (get_or text k 0)) (first.before k (omega arith) before)))
    (λ within. not_from_true (test (get_or text at 0)) is))

module _ (test : ℕ → Bool) (text : List ℕ) where
  not_at : (k : ℕ) → k < length text → (test (get_or text (length text - 1 - k) 0) ≡ true → ⊥) → not (test (get_or (reverse text) k 0)) ≡ true
  not_at k within none =
      ap (λ byte. not (test byte)) (get_or-reverse text k 0 within)
      ∙ not_from_false (test (get_or text (length text - 1 - k) 0)) (false_from_ne_true (test (get_or text (length text - 1 - k) 0)) none)

  -- where the last byte of a kind stands
  pub last_byte : (found : Option ℕ) → IsLastByte test text found → unwrap_or found 0 ≡ without_end (λ byte. not (test byte)) text - 1
  last_byte None nowhere =
      let all : prefix_len (λ byte. not (test byte)) (reverse text) ≡ length text =
      prefix_len_is (λ byte. not (test byte)) (reverse text) (length text) 0 (omega (arith, length-reverse text))
      (λ k before. not_at k before (nowhere (length text - 1 - k) (omega arith) (omega arith)))
      (λ past. absurd (omega (arith, length-reverse text))) in
      omega arith
  last_byte (Some at) (last, is) =
      let high = last.high in
      let some : prefix_len (λ byte. not (test byte)) (reverse text) ≡ length text - 1 - at =
      prefix_len_is (λ byte. not (test byte)) (reverse text) (length text - 1 - at) 0 (omega (arith, length-reverse text))
      (λ k before. not_at k (omega arith) (last.after (length text - 1 - k) (omega arith) (omega arith)))
      (λ within. ap (λ byte. not (test byte)) (get_or-reverse text (length text - 1 - at) 0 (omega arith)
      ∙ ap (λ k. get_or text k 0) (let e : length text - 1 - (length text - 1 - at) ≡ at = omega arith in e))
      ∙ not_from_true (test (get_or text at 0)) is) in
      omega arith

-- ---- the first chunk

-- the first chunk of a text, whatever comes behind it
pub record IsFirst (text : List ℕ) (first : Chunk) : Type 0 where
  pub here : first ≡ first_chunk text
  pub stays : (later : List ℕ) → first_chunk (text ++ later) ≡ first

first_is : (text : List ℕ) (first : Chunk) → IsDecided text → first ≡ first_chunk text → IsFirst text first
first_is text first decided here = record { here = here; stays = λ later. first_decided text later decided ∙ sym here }

-- the front of a text in which its first line is sought
record IsFront (text : List ℕ) (size : ℕ) : Type 0 where
  length_is : length (take size text) ≡ min (length text) (most_line_bytes + 1)
  line_is : line_bytes (take size text) ≡ min size (line_bytes text)
  size_is : size ≡ min (length text) (most_line_bytes + 1)
  within : line_bytes text ≤ length text

front_is : (text : List ℕ) (size : ℕ) → size ≡ min (length text) (most_line_bytes + 1) → IsFront text size
front_is text size is = record {
  length_is = omega (arith, length-take size text);
  line_is = line_of_front size text;
  size_is = is;
  within = line_within text;
}

pub first_ended : (text : List ℕ) (size line : ℕ) → size ≡ min (length text) (most_line_bytes + 1)
    → line ≡ line_bytes (take size text) → line < length (take size text) → IsFirst text (record { bytes = line + 1; is_broken = false })
first_ended text size line front is ends =
    let known = front_is text size front in
    let ended : line_bytes text < length text = omega arith in
    first_is text _ (inl (ended_line text ended))
    (ap (λ (n : ℕ). record { bytes = n; is_broken = false }) (let e : line + 1 ≡ min (suc (line_bytes text)) (length text) = omega arith in e)
    ∙ sym (first_line text (omega arith)))

pub first_long : (text : List ℕ) (size : ℕ) (first : Chunk) → size ≡ min (length text) (most_line_bytes + 1)
    → length (take size text) ≤ line_bytes (take size text) → most_line_bytes < length text
    → first ≡ chunk_of_long (take most_line_bytes text) → IsFirst text first
first_long text size first front goes_on long is =
    let known = front_is text size front in
    first_is text first (inr long) (is ∙ sym (first_of_long text (omega arith)))

-- a line that is not ended
pub record IsOpen (text : List ℕ) : Type 0 where
  pub first : first_chunk text ≡ record { bytes = length text; is_broken = false }
  pub none : has_line_end text ≡ false

pub first_open : (text : List ℕ) (size : ℕ) → size ≡ min (length text) (most_line_bytes + 1)
    → length (take size text) ≤ line_bytes (take size text) → length text ≤ most_line_bytes → IsOpen text
first_open text size front goes_on short =
    let known = front_is text size front in
    record {
      first = first_line text (omega arith)
          ∙ ap (λ (n : ℕ). record { bytes = n; is_broken = false }) (let e : min (suc (line_bytes text)) (length text) ≡ length text = omega arith in e);
      none = no_line_end text (omega arith);
    }

-- ---- the bytes that stay

one_more : (is_end : Bool) (bytes : ℕ) → (if is_end then suc bytes + 1 else suc bytes) ≡ suc (if is_end then bytes + 1 else bytes)
one_more true bytes = omega arith
one_more false bytes = refl

abbrev is_inner : ℕ → Bool
is_inner byte = not (byte == 34 || byte == 32 || byte == 10)

abbrev through_end : (text : List ℕ) → (at : ℕ) → ℕ
through_end text at = if slice_index text at == 10 then at + 1 else at

staying_through : (text : List ℕ) → through_end text (prefix_len is_inner text) ≡ staying_bytes text
staying_through [] = refl
staying_through (byte ∷ text) = go (byte == 34) (byte == 32) (byte == 10) refl refl refl (staying_through text)
  where
    go : (is_quote is_blank is_end : Bool) → (byte == 34) ≡ is_quote → (byte == 32) ≡ is_blank → (byte == 10) ≡ is_end
        → through_end text (prefix_len is_inner text) ≡ staying_bytes text
        → through_end (byte ∷ text) (if not (is_quote || is_blank || is_end) then 1 + prefix_len is_inner text else 0)
        ≡ (if is_quote || is_blank then 0 else if is_end then 1 else suc (staying_bytes text))
    go true is_blank true quote blank end later = let a = eqb-true byte 34 quote in let b = eqb-true byte 10 end in absurd (omega arith)
    go false true true quote blank end later = let a = eqb-true byte 32 blank in let b = eqb-true byte 10 end in absurd (omega arith)
    go true is_blank false quote blank end later = ap (λ b. if b then 1 else 0) end
    go false true false quote blank end later = ap (λ b. if b then 1 else 0) end
    go false false true quote blank end later = ap (λ b. if b then 1 else 0) end
    go false false false quote blank end later =
        let bytes = prefix_len is_inner text in
        ap (through_end (byte ∷ text)) (let e : 1 + bytes ≡ suc bytes = omega arith in e)
        ∙ one_more (slice_index text bytes == 10) bytes ∙ ap suc later

-- they end before the first `"`, or behind the first LF
pub staying_is : (text : List ℕ) (at : ℕ) → at ≡ prefix_len (λ byte. not (byte == 34 || byte == 32 || byte == 10)) text
    → (if slice_index text at == 10 then at + 1 else at) ≡ staying_bytes text
staying_is text at is = ap (through_end text) is ∙ staying_through text
