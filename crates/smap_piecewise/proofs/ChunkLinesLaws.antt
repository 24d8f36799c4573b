-- The line in which a chunk stands, and how many lines are counted behind it.
use Rattle.std.proofs.Common.{◌≡◌, ◌==◌, ◌+◌, ◌<◌, ◌≤◌, ◌||◌, ℕ, suc, Bool, true, false, cond, List, [], ◌∷◌, ◌++◌, length, take, refl, ap, ◌∙◌, arith, append_assoc, append-nil, length-append}
use Rattle.std.specs.Prelude.{not}
use Rattle.smap_lines.specs.Lines.{end_in, has_line_end, lines_with_ends}
use Rattle.smap_pairs.specs.Chunks.{begins_anew, line_bytes, staying_bytes}
use Rattle.smap_piecewise.specs.FirstLine.{behind_line}
use Rattle.smap_piecewise.specs.Places.{lines_left}
use Rattle.smap_piecewise.specs.Private.Given.{end_size}
use Rattle.smap_piecewise.proofs.LineLaws.{behind_ended, behind_open, first_of, lines_first_of}

-- ---- a chunk in one line

-- no LF stands before its last byte
pub none_before_last : (front : List ℕ) (byte : ℕ) → length (front ++ byte ∷ []) ≤ suc (line_bytes (front ++ byte ∷ [])) → has_line_end front ≡ false
none_before_last [] byte one = refl
none_before_last (first ∷ front) byte one = go (first == 10) (none_before_last front byte) one
  where
    go : (b : Bool) → (length (front ++ byte ∷ []) ≤ suc (line_bytes (front ++ byte ∷ [])) → has_line_end front ≡ false)
        → length (first ∷ (front ++ byte ∷ [])) ≤ suc (cond (not b) (1 + line_bytes (front ++ byte ∷ [])) 0) → (b || has_line_end front) ≡ false
    go true later one = absurd (omega (arith, one, length-append front (byte ∷ [])))
    go false later one = later (omega (arith, one))

-- bytes that stay are such a chunk
pub staying_in_line : (text : List ℕ) → length (take (staying_bytes text) text) ≤ suc (line_bytes (take (staying_bytes text) text))
staying_in_line [] = omega arith
staying_in_line (byte ∷ text) = go (begins_anew byte) (byte == 10) refl (staying_in_line text)
  where
    go : (anew end : Bool) → (byte == 10) ≡ end → length (take (staying_bytes text) text) ≤ suc (line_bytes (take (staying_bytes text) text))
        → length (take (cond anew 0 (cond end 1 (suc (staying_bytes text)))) (byte ∷ text))
        ≤ suc (line_bytes (take (cond anew 0 (cond end 1 (suc (staying_bytes text)))) (byte ∷ text)))
    go true end is later = omega arith
    go false true is later = omega arith
    go false false is later =
        let more : line_bytes (byte ∷ take (staying_bytes text) text) ≡ 1 + line_bytes (take (staying_bytes text) text) =
        ap (λ b. cond (not b) (1 + line_bytes (take (staying_bytes text) text)) 0) is in
        omega (arith, more, later)

-- ---- its line

-- the lines of a text that begins with a chunk, where its line was counted, or is counted with it
behind_chunk : (e : Bool) (line rest : List ℕ) → has_line_end line ≡ false
    → length (lines_with_ends (behind_line ((line ++ end_in e) ++ rest))) ≡ lines_left (not e) rest
behind_chunk true line rest none =
    ap (λ t. length (lines_with_ends (behind_line t))) (append_assoc line (10 ∷ []) rest)
    ∙ ap (λ t. length (lines_with_ends t)) (behind_ended line rest none)
behind_chunk false line rest none =
    ap (λ t. length (lines_with_ends (behind_line (t ++ rest)))) (append-nil line)
    ∙ ap (λ t. length (lines_with_ends t)) (behind_open line rest none)

pub chunk_lines : (o e : Bool) (line rest : List ℕ) → has_line_end line ≡ false → 0 < length line + end_size e
    → lines_left o ((line ++ end_in e) ++ rest) ≡ cond o 0 1 + lines_left (not e) rest
chunk_lines true e line rest none some =
    let same : lines_left (not e) rest ≡ 0 + lines_left (not e) rest = omega arith in
    behind_chunk e line rest none ∙ same
chunk_lines false e line rest none some =
    let text : List ℕ = (line ++ end_in e) ++ rest in
    let size : 0 < length text = chunk_some e line rest some in
    let next : length (first_of text ∷ lines_with_ends (behind_line text)) ≡ 1 + length (lines_with_ends (behind_line text)) = omega arith in
    ap length (lines_first_of text size) ∙ next ∙ ap (λ n. 1 + n) (behind_chunk e line rest none)
  where
    chunk_some : (e : Bool) (line rest : List ℕ) → 0 < length line + end_size e → 0 < length ((line ++ end_in e) ++ rest)
    chunk_some true line rest some = omega (arith, length-append (line ++ 10 ∷ []) rest, length-append line (10 ∷ []))
    chunk_some false line rest some = omega (arith, some, length-append (line ++ []) rest, length-append line (let none : List ℕ = [] in none))
