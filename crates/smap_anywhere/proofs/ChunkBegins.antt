-- Where the chunks of a text begin in strings of JSON.
use Rattle.std.proofs.Common.{◌≡◌, ◌==◌, ◌<◌, ◌≤◌, ◌-◌, ◌⊎◌, inl, inr, ℕ, suc, Bool, true, false, cond, List, [], ◌∷◌, ap, arith, drop, get_or, length, max, min, nat_lt, refl, reverse, subst, sym, take, ◌∙◌}
use Rattle.std.specs.Prelude.{not}
use Rattle.std.specs.List.{prefix_len}
use Rattle.std.proofs.Math.Seq.{take-suc}
use Rattle.std.proofs.lemmas.Bool.{cases_lt, eqb-true, ltb-true}
use Rattle.std.proofs.lemmas.List.{drop_all, drop_more, get_or-reverse, get_or-take, length-reverse, length-take, length-take-le, take-take}
use Rattle.std.proofs.lemmas.List.Sums.{prefix_len_passes, prefix_len_stops}
use Rattle.smap_lines.specs.Limits.{most_line_bytes}
use Rattle.smap_pairs.specs.Chunks.{chunk_end, chunk_of_long, first_chunk, goes_on_in_numbers, last_blank, last_line_end, last_quote, line_bytes, quote_begin, without_end}
use Rattle.smap_pairs.specs.Json.{InString, past, past_all}
use Rattle.smap_pairs.specs.Json.InString.{between}
use Rattle.smap_pairs.specs.Laws.Chunks.{first_line, first_of_long}
use Rattle.smap_pairs.specs.declared.chunk.Chunk.{Chunk}
use Rattle.smap_pairs.proofs.JsonLaws.{behind_is, past_both, past_line_end}
use Rattle.smap_pairs.proofs.LineEndStates.{BeginsEscape, line_end_begins}
use Rattle.smap_pairs.proofs.NamedPlaces.{byte_passed}

-- a chunk begins between two characters, or with a blank, or a `"` and backslashes right before it, or an escape
abbrev pub BeginsWith : InString → (byte : ℕ) → Type 0
BeginsWith state byte = (state ≡ between) ⊎ ((byte ≡ 32) ⊎ ((byte ≡ 34) ⊎ BeginsEscape state byte))

abbrev pub Begins : InString → (text : List ℕ) → Type 0
Begins state [] = Unit {0}
Begins state (byte ∷ text) = BeginsWith state byte

pub begins_between : (state : InString) (text : List ℕ) → state ≡ between → Begins state text
begins_between state [] is = tt
begins_between state (byte ∷ text) is = inl is

begins_at : (state : InString) (text : List ℕ) (at : ℕ) → at < length text → BeginsWith state (get_or text at 0) → Begins state (drop at text)
begins_at state text at within begins = subst (Begins state) (sym (drop_more text at 0 within)) begins

-- ---- the end of a text

module _ (test : ℕ → Bool) (text : List ℕ) where
  back : (k : ℕ) → k < length text → get_or (reverse text) (length text - 1 - k) 0 ≡ get_or text k 0
  back k within =
      let there : length text - 1 - (length text - 1 - k) ≡ k = omega (arith, within) in
      get_or-reverse text (length text - 1 - k) 0 (omega (arith, within)) ∙ ap (λ n. get_or text n 0) there

  end_passes : (k : ℕ) → without_end test text ≤ k → k < length text → test (get_or text k 0) ≡ true
  end_passes k least within =
      sym (ap test (back k within))
      ∙ prefix_len_passes test (reverse text) (length text - 1 - k) 0
      (omega (arith, least, within))

  end_stops : 0 < without_end test text → test (get_or text (without_end test text - 1) 0) ≡ false
  end_stops some =
      let n : ℕ = prefix_len test (reverse text) in
      let last : ℕ = without_end test text - 1 in
      let there : length text - 1 - last ≡ n = omega (arith, some) in
      sym (ap test (back last (omega (arith, some)))) ∙ ap (λ k. test (get_or (reverse text) k 0)) there
      ∙ prefix_len_stops test (reverse text) 0 (omega (arith, some, length-reverse text))

-- ---- the first chunk

is_byte : (byte other : ℕ) → not (byte == other) ≡ false → byte ≡ other
is_byte byte other is = go (byte == other) refl is
  where
    go : (same : Bool) → (byte == other) ≡ same → not same ≡ false → byte ≡ other
    go true same is = eqb-true byte other same
    go false same is = cc

quote_there : (front : List ℕ) → 0 < quote_begin front → (get_or front (last_quote front) 0 ≡ 34) × (last_quote front < length front) × (quote_begin front ≤ last_quote front)
quote_there front some =
    let few : quote_begin front ≤ last_quote front = omega (arith, length-take (last_quote front) front) in
    let any : 0 < without_end (λ byte. not (byte == 34)) front = omega (arith, few, some) in
    (is_byte (get_or front (last_quote front) 0) 34 (end_stops (λ byte. not (byte == 34)) front any), omega (arith, any), few)

-- the byte at which the quotation mark begins, with its backslashes
mark_begins : (front : List ℕ) → 0 < quote_begin front → (get_or front (quote_begin front) 0 ≡ 34) ⊎ (get_or front (quote_begin front) 0 ≡ 92)
mark_begins front some =
    let there = quote_there front some in
    let part : List ℕ = take (last_quote front) front in
    elim (cases_lt (quote_begin front) (last_quote front)) [
      | inl less ↦
          let size : length part ≡ last_quote front = length-take-le (last_quote front) front (omega (arith, there.1)) in
          let passes = end_passes (λ byte. byte == 92) part (quote_begin front) (omega arith) (omega (arith, less, size)) in
          inr (eqb-true (get_or front (quote_begin front) 0) 92
          (ap (λ b. b == 92) (sym (get_or-take (last_quote front) front (quote_begin front) 0 less)) ∙ passes))
      | inr more ↦
          let same : quote_begin front ≡ last_quote front = omega (arith, more, there.2) in
          inl (ap (λ k. get_or front k 0) same ∙ there.0)
    ]

before_mark : (front : List ℕ) → 0 < quote_begin front → (get_or front (quote_begin front - 1) 0 == 92) ≡ false
before_mark front some =
    let there = quote_there front some in
    let part : List ℕ = take (last_quote front) front in
    ap (λ b. b == 92) (sym (get_or-take (last_quote front) front (quote_begin front - 1) 0 (omega (arith, some, there.2))))
    ∙ end_stops (λ byte. byte == 92) part some

blank_there : (front : List ℕ) → 0 < last_blank front → (get_or front (last_blank front) 0 ≡ 32) × (last_blank front < length front)
blank_there front some =
    let any : 0 < without_end (λ byte. not (byte == 32)) front = omega (arith, some) in
    (is_byte (get_or front (last_blank front) 0) 32 (end_stops (λ byte. not (byte == 32)) front any), omega (arith, any))

-- ---- where a chunk of a long line ends

module _ (state : InString) (front : List ℕ) where
  -- a chunk begins with this byte of it
  abbrev BeginsAt : (at : ℕ) → Type 0
  BeginsAt at = (at < length front) × BeginsWith (past_all state (take at front)) (get_or front at 0)

  mark_behind : (at : ℕ) → 0 < at → at < length front → (get_or front at 0 ≡ 34) ⊎ (get_or front at 0 ≡ 92) → (get_or front (at - 1) 0 == 92) ≡ false → BeginsAt at
  mark_behind at some within (inl quote) other = (within, inr (inr (inl quote)))
  mark_behind at some within (inr slash) other =
      let last : suc (at - 1) ≡ at = omega (arith, some) in
      let parts : past_all state (take at front) ≡ past (past_all state (take (at - 1) front)) (get_or front (at - 1) 0) =
      ap (λ n. past_all state (take n front)) (sym last) ∙ ap (past_all state) (take-suc front (at - 1) 0 (omega (arith, some, within)))
      ∙ past_both state (take (at - 1) front) (get_or front (at - 1) 0 ∷ []) in (
        within,
        inr (inr (inr (inl (
          slash,
          λ is.
              behind_is (past_all state (take (at - 1) front)) (get_or front (at - 1) 0) other (sym parts ∙ is),
        )))),
      )

  end_begins : 0 < chunk_end front → BeginsAt (chunk_end front)
  end_begins some = go (nat_lt 0 (quote_begin front)) (nat_lt 0 (last_line_end front)) refl refl some
    where
      go : (b c : Bool) → nat_lt 0 (quote_begin front) ≡ b → nat_lt 0 (last_line_end front) ≡ c
          → 0 < cond b (quote_begin front) (cond c (last_line_end front) (last_blank front))
          → BeginsAt (cond b (quote_begin front) (cond c (last_line_end front) (last_blank front)))
      go true c quote line_end some =
          let there = quote_there front some in
          mark_behind (quote_begin front) some (omega (arith, there.1, there.2)) (mark_begins front some) (before_mark front some)
      go false true quote line_end some =
          let there = line_end_begins state front (ltb-true 0 (last_line_end front) line_end) in
          (there.0, inr (inr (inr there.1)))
      go false false quote line_end some =
          let there = blank_there front some in
          (there.1, inr (inl there.0))

module _ (state : InString) (text : List ℕ) where
  long_begins : (chunk_of_long (take most_line_bytes text)).is_broken ≡ false
      → Begins (past_all state (take (chunk_of_long (take most_line_bytes text)).bytes text)) (drop (chunk_of_long (take most_line_bytes text)).bytes text)
  long_begins whole = go (nat_lt 0 (chunk_end (take most_line_bytes text))) refl whole
    where
      here : 0 < chunk_end (take most_line_bytes text)
          → Begins (past_all state (take (chunk_end (take most_line_bytes text)) text)) (drop (chunk_end (take most_line_bytes text)) text)
      here some =
          let front : List ℕ = take most_line_bytes text in
          let at : ℕ = chunk_end front in
          let begins = end_begins state front some in
          let size = length-take most_line_bytes text in
          let within = begins.0 in
          let few : at < most_line_bytes = omega (arith, within, size) in
          let before : past_all state (take at front) ≡ past_all state (take at text) = ap (past_all state) (take-take at most_line_bytes text (omega (arith, few))) in
          begins_at (past_all state (take at text)) text at (omega (arith, within, size))
          (subst (λ s. BeginsWith s (get_or text at 0)) before
          (subst (BeginsWith (past_all state (take at front))) (get_or-take most_line_bytes text at 0 few) begins.1))

      go : (b : Bool) → nat_lt 0 (chunk_end (take most_line_bytes text)) ≡ b
          → (let first : Chunk = cond b (record { bytes = chunk_end (take most_line_bytes text); is_broken = false })
          (record { bytes = max 1 (without_end goes_on_in_numbers (take most_line_bytes text)); is_broken = true }) in
          first.is_broken ≡ false → Begins (past_all state (take first.bytes text)) (drop first.bytes text))
      go true some whole = here (ltb-true 0 (chunk_end (take most_line_bytes text)) some)
      go false none whole = cc

  -- what stands behind a chunk that is not broken off begins one
  pub next_begins : (first_chunk text).is_broken ≡ false → Begins (past_all state (take (first_chunk text).bytes text)) (drop (first_chunk text).bytes text)
  next_begins whole = elim (cases_lt most_line_bytes (line_bytes text)) [
    | inl long ↦
        let is = first_of_long text long in
        subst (λ (n : ℕ). Begins (past_all state (take n text)) (drop n text)) (ap (λ (first : Chunk). first.bytes) (sym is))
        (long_begins (ap (λ (first : Chunk). first.is_broken) (sym is) ∙ whole))
    | inr short ↦
        let bytes : (first_chunk text).bytes ≡ min (suc (line_bytes text)) (length text) = ap (λ (first : Chunk). first.bytes) (first_line text short) in
        elim (cases_lt (line_bytes text) (length text)) [
          | inl ended ↦
              let same : (first_chunk text).bytes ≡ suc (line_bytes text) = omega (arith, bytes, ended) in
              let lf : get_or text (line_bytes text) 0 ≡ 10 =
              is_byte (get_or text (line_bytes text) 0) 10 (prefix_len_stops (λ byte. not (byte == 10)) text 0 ended) in
              begins_between _ _ (ap (λ n. past_all state (take n text)) same ∙ byte_passed 10 past_line_end state text (line_bytes text) ended lf)
          | inr goes_on ↦
              let all : length text ≤ (first_chunk text).bytes = omega (arith, bytes, goes_on) in
              subst (Begins (past_all state (take (first_chunk text).bytes text))) (sym (drop_all (first_chunk text).bytes text all)) tt
        ]
  ]
