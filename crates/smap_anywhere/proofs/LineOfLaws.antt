-- A chunk and the line that it is.
use Rattle.std.proofs.Common.{◌≡◌, ◌==◌, ◌+◌, ◌≤◌, ℕ, suc, Bool, true, false, List, [], ◌∷◌, ◌++◌, length, take, refl, ap, sym, ◌∙◌, arith, inl, inr, length-append}
use Rattle.std.specs.Prelude.{not, if◌then◌else◌}
use Rattle.std.proofs.Math.Bool.{or-true}
use Rattle.std.proofs.lemmas.Bool.{cases_lt}
use Rattle.std.proofs.lemmas.List.{take-append-le, take_all}
use Rattle.std.proofs.lemmas.List.Folds.{list_any-append}
use Rattle.smap_lines.specs.Lines.{has_line_end}
use Rattle.smap_pairs.specs.Chunks.{IsInOneLine, line_bytes}
use Rattle.smap_pairs.specs.Laws.FirstLine.{line_ends, line_within}
use Rattle.smap_pairs.specs.Spans.{AreSpansInOrder}
use Rattle.smap_pairs.specs.declared.line_places.Span.{Span}
use Rattle.smap_anywhere.specs.ChunkParts.{line_of}

-- ---- with an LF at its end

ended_bytes : (line : List ℕ) → IsInOneLine (line ++ 10 ∷ []) → line_bytes (line ++ 10 ∷ []) ≡ length line
ended_bytes line one =
    let has : has_line_end (line ++ 10 ∷ []) ≡ true = list_any-append (λ byte. byte == 10) line (10 ∷ []) ∙ or-true (has_line_end line) in
    omega (arith, one.one, line_ends (line ++ 10 ∷ []) has, length-append line (10 ∷ []))

pub line_of_ended : (line : List ℕ) → IsInOneLine (line ++ 10 ∷ []) → line ≡ line_of (line ++ 10 ∷ [])
line_of_ended line one =
    sym (ap (λ n. take n (line ++ 10 ∷ [])) (ended_bytes line one) ∙ take-append-le (length line) line (10 ∷ []) (omega arith)
    ∙ take_all (length line) line (omega arith))

-- ---- without

last_is_end : (line : List ℕ) (byte : ℕ) → line_bytes (line ++ byte ∷ []) ≡ length line → (byte == 10) ≡ true
last_is_end [] byte is = go (byte == 10) is
  where
    go : (b : Bool) → (if not b then 1 + line_bytes [] else 0) ≡ 0 → b ≡ true
    go true is = refl
    go false is = absurd (omega (arith, is))
last_is_end (first ∷ line) byte is = last_is_end line byte (go (first == 10) is)
  where
    go : (b : Bool) → (if not b then 1 + line_bytes (line ++ byte ∷ []) else 0) ≡ suc (length line) → line_bytes (line ++ byte ∷ []) ≡ length line
    go true is = absurd (omega (arith, is))
    go false is = omega (arith, is)

whole_bytes : (line : List ℕ) (byte : ℕ) → (byte == 10) ≡ false → IsInOneLine (line ++ byte ∷ [])
    → line_bytes (line ++ byte ∷ []) ≡ length (line ++ byte ∷ [])
whole_bytes line byte off one = elim (cases_lt (line_bytes (line ++ byte ∷ [])) (length (line ++ byte ∷ []))) [
  | inl less ↦
      let at : line_bytes (line ++ byte ∷ []) ≡ length line = omega (arith, less, one.one, length-append line (byte ∷ [])) in
      absurd (cc (off, last_is_end line byte at))
  | inr more ↦ omega (arith, more, line_within (line ++ byte ∷ []))
]

pub line_of_whole : (line : List ℕ) (byte : ℕ) → (byte == 10) ≡ false → IsInOneLine (line ++ byte ∷ [])
    → line ++ byte ∷ [] ≡ line_of (line ++ byte ∷ [])
line_of_whole line byte off one =
    sym (ap (λ n. take n (line ++ byte ∷ [])) (whole_bytes line byte off one) ∙ take_all (length (line ++ byte ∷ [])) (line ++ byte ∷ []) (omega arith))

pub few_of_whole : (line : List ℕ) (byte : ℕ) → (byte == 10) ≡ false → IsInOneLine (line ++ byte ∷ []) → length (line ++ byte ∷ []) ≤ 65536
few_of_whole line byte off one = omega (arith, one.few, whole_bytes line byte off one)

-- ---- its places

-- the places of fewer bytes stand in more
pub spans_in_more : (from size more : ℕ) (spans : List Span) → size ≤ more → AreSpansInOrder from size spans → AreSpansInOrder from more spans
spans_in_more from size more [] least order = tt
spans_in_more from size more (span ∷ spans) least order =
    (order.0, order.1, order.2, omega (arith, order.3, least), spans_in_more span.end size more spans least order.4)
