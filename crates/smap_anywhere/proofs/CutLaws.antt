-- A text that is cut while it is read: its cuts so far, and those behind them.
use Rattle.std.proofs.Common.{◌≡◌, ◌==◌, ◌&&◌, ◌+◌, ◌-◌, ◌<◌, ◌≤◌, ℕ, zero, suc, Bool, true, false, List, [], ◌∷◌, ◌++◌, length, map, take, drop}
use Rattle.std.proofs.Common.{refl, sym, ap, subst, ◌∙◌, arith, append_assoc, append-nil, length-append, length-drop}
use Rattle.std.specs.Prelude.{not, slice_index}
use Rattle.std.specs.List.{flat_map}
use Rattle.std.proofs.lemmas.Grind.{flat_map-append}
use Rattle.std.proofs.lemmas.Bool.{lt-ltb}
use Rattle.std.proofs.lemmas.List.{drop-append-le, drop-drop, take-append-le}
use Rattle.smap_pairs.specs.Chunks.{Cut, begins_anew, cut_bytes, cuts_from, first_chunk, stays_broken}
use Rattle.smap_pairs.specs.Chunks.Cut.{chunk, stays}
use Rattle.smap_pairs.specs.Laws.Chunks.{cuts_next}
use Rattle.smap_pairs.specs.declared.chunk.Chunk.{Chunk}
use Rattle.smap_anywhere.specs.Private.ChunkWriter.{IsCut}

pub cut_none : (is_broken is_last : Bool) (text : List ℕ) → IsCut is_broken is_broken is_last text 0 []
cut_none is_broken is_last text = record { within = omega arith; bytes = refl; cut = λ later last. refl }

-- ---- more of it is cut

take_none : (n : ℕ) → take n [] ≡ (let none : List ℕ = [] in none)
take_none zero = refl
take_none (suc n) = refl

take_more : (text : List ℕ) (n m : ℕ) → take n text ++ take m (drop n text) ≡ take (n + m) text
take_more text zero m = ap (λ k. take k text) (omega arith)
take_more [] (suc n) m = take_none m ∙ sym (take_none (suc n + m))
take_more (byte ∷ text) (suc n) m =
    let next : suc n + m ≡ suc (n + m) = omega arith in
    ap (λ l. byte ∷ l) (take_more text n m) ∙ ap (λ k. take k (byte ∷ text)) (sym next)

pub cut_both : (old mid new is_last : Bool) (text : List ℕ) (n m : ℕ) (cuts more : List Cut) → IsCut old mid is_last text n cuts
    → IsCut mid new is_last (drop n text) m more → IsCut old new is_last text (n + m) (cuts ++ more)
cut_both old mid new is_last text n m cuts more one two = record {
  within = omega (arith, one.within, two.within, length-drop n text);
  bytes = flat_map-append cut_bytes cuts more ∙ (λ i. one.bytes i ++ two.bytes i) ∙ take_more text n m;
  cut = λ later last.
      let rest : drop m (drop n text) ≡ drop (n + m) text = drop-drop m n text in
      one.cut later last ∙ ap (λ l. cuts ++ l) (two.cut later last) ∙ sym (append_assoc cuts more (cuts_from 0 new (drop m (drop n text) ++ later)))
      ∙ ap (λ l. (cuts ++ more) ++ cuts_from 0 new (l ++ later)) rest;
}

-- ---- one chunk of it

first_of : (text later : List ℕ) → 0 < length text → slice_index (text ++ later) 0 ≡ slice_index text 0
first_of [] later some = absurd (omega (arith, some))
first_of (byte ∷ text) later some = refl

pub cut_chunk : (is_broken is_last : Bool) (text : List ℕ) (first : Chunk) → (is_broken && not (begins_anew (slice_index text 0))) ≡ false
    → (0 < first.bytes) × (first.bytes ≤ length text) → first ≡ first_chunk text → (is_last ≡ false → (later : List ℕ) → first_chunk (text ++ later) ≡ first)
    → IsCut is_broken first.is_broken is_last text first.bytes (chunk (take first.bytes text) ∷ [])
cut_chunk is_broken is_last text first begins within is decided = record {
  within = within.1;
  bytes = append-nil (take first.bytes text);
  cut = λ later last. go is_last decided later last;
}
  where
    same_later : (later : List ℕ) → first_chunk (text ++ later) ≡ first → cuts_from 0 is_broken (text ++ later)
        ≡ (chunk (take first.bytes text) ∷ []) ++ cuts_from 0 first.is_broken (drop first.bytes text ++ later)
    same_later later same =
        cuts_next is_broken (text ++ later) (omega (arith, within, length-append text later))
        (ap (λ b. is_broken && not (begins_anew b)) (first_of text later (omega (arith, within))) ∙ begins)
        ∙ ap (λ (c : Chunk). chunk (take c.bytes (text ++ later)) ∷ cuts_from 0 c.is_broken (drop c.bytes (text ++ later))) same
        ∙ (λ i. chunk (take-append-le first.bytes text later within.1 i) ∷ cuts_from 0 first.is_broken (drop-append-le first.bytes text later within.1 i))

    go : (last : Bool) → (last ≡ false → (later : List ℕ) → first_chunk (text ++ later) ≡ first) → (later : List ℕ) → (last ≡ true → later ≡ [])
        → cuts_from 0 is_broken (text ++ later) ≡ (chunk (take first.bytes text) ∷ []) ++ cuts_from 0 first.is_broken (drop first.bytes text ++ later)
    go false decided later none = same_later later (decided refl later)
    go true decided later none = same_later later (ap first_chunk (ap (λ l. text ++ l) (none refl) ∙ append-nil text) ∙ sym is)

-- ---- bytes that stay

pub bytes_that_stay : (bytes : List ℕ) → flat_map cut_bytes (map stays bytes) ≡ bytes
bytes_that_stay [] = refl
bytes_that_stay (byte ∷ bytes) = ap (λ l. byte ∷ l) (bytes_that_stay bytes)

pub cut_staying : (broken_then is_last : Bool) (text : List ℕ) (count : ℕ) → count ≤ length text
    → ((later : List ℕ) → cuts_from 0 true (text ++ later) ≡ map stays (take count text) ++ cuts_from 0 broken_then (drop count text ++ later))
    → IsCut true broken_then is_last text count (map stays (take count text))
cut_staying broken_then is_last text count within cuts = record {
  within = within;
  bytes = bytes_that_stay (take count text);
  cut = λ later last. cuts later;
}

-- where no byte stays behind a chunk that is broken off, the next begins there
pub begins_behind : (is_broken : Bool) (text : List ℕ) (count : ℕ) → count ≡ 0 → 0 < length text
    → (0 < length (drop count text) → (stays_broken text count && not (begins_anew (slice_index text count))) ≡ false)
    → (is_broken && not (begins_anew (slice_index text 0))) ≡ false
begins_behind false text count none some behind = refl
begins_behind true text count none some behind =
    let at : 0 < length (drop 0 text) → (stays_broken text 0 && not (begins_anew (slice_index text 0))) ≡ false =
    subst (λ n. 0 < length (drop n text) → (stays_broken text n && not (begins_anew (slice_index text n))) ≡ false) none behind in
    at some

-- whether the byte before the next one is an LF
pub broken_behind : (text : List ℕ) (count : ℕ) → 0 < count → not (slice_index text (count - 1) == 10) ≡ stays_broken text count
broken_behind text count some = ap (λ b. not (b && slice_index text (count - 1) == 10)) (sym (lt-ltb 0 count some))
