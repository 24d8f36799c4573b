-- The marks of a line stand apart, and have nothing of the numbers of a pair.
use Rattle.std.proofs.Common.{◌≡◌, ◌≢◌, ◌+◌, ◌-◌, ◌<◌, ◌≤◌, ◌⊎◌, ◌++◌, ℕ, suc, Bool, true, false, List, [], ◌∷◌, length, get_or, ap, refl, sym, ◌∙◌, subst, inl, inr, arith}
use Rattle.std.specs.Prelude.{if◌then◌else◌, not, ◌==◌, ◌&&◌}
use Rattle.std.specs.Char.{is_ascii_digit}
use Rattle.std.specs.List.{All}
use Rattle.std.proofs.lemmas.Bool.{cases_lt, eqb-true}
use Rattle.std.proofs.Math.ListN.{get_or-map}
use Rattle.std.proofs.lemmas.List.Elements.{All-cons, All-nil}
use Rattle.smap_pairs.specs.declared.marks.Mark.{Mark}
use Rattle.smap_pairs.specs.declared.seen.SeenByte.{SeenByte}
use Rattle.smap_pairs.specs.Apart.{AreApart, IsClearOf}
use Rattle.smap_pairs.specs.Marks.{begin_of, ends_escape, ends_mark, mark_at, marks_from, marks_of}
use Rattle.smap_pairs.specs.Seen.{by_itself, seen_of}
use Rattle.smap_pairs.proofs.SeenBytesLaws.{bytes_kept, length_kept}
use Rattle.smap_pairs.proofs.TokenLaws.{MayBegin}
use Rattle.smap_pairs.proofs.WholeLaws.{AreWhole, IsWhole, goes_on, no_line_end, seen_whole}

-- where a mark begins
begins_at : (begun at : ℕ) (seen : SeenByte) → IsWhole begun seen → ends_mark seen ≡ true → begun ≤ at
    → (begin_of at seen ≡ at - begun) ⊎ (begin_of at seen ≡ at)
begins_at begun at seen whole is within = go (ends_escape seen) refl
  where
    go : (b : Bool) → ends_escape seen ≡ b → ((if b then at + 1 - seen.size else at) ≡ at - begun) ⊎ ((if b then at + 1 - seen.size else at) ≡ at)
    go true escape = let ended = whole.ended is escape in inl (omega arith)
    go false alone = inr refl

mark_ends : (seen : SeenByte) → ends_mark seen ≡ true → goes_on seen ≡ false
mark_ends seen is = go (seen.counts == 255) refl
  where
    go : (b : Bool) → (seen.counts == 255) ≡ b → (b && (not (ends_escape seen) && not (seen.byte == 255))) ≡ false
    go false other = refl
    go true high = let none = rw (eqb-true seen.counts 255 high) at is in absurd (no_line_end (ends_escape seen) none)

-- ---- apart

begun_next : (begun : ℕ) (b : Bool) → (if b then begun + 1 else 0) ≤ begun + 1
begun_next begun true = omega arith
begun_next begun false = omega arith

module _ (line : List SeenByte) (size at begun : ℕ) (seen : SeenByte) (whole : IsWhole begun seen) (marks : List Mark)
    (later : (from : ℕ) → from + (if goes_on seen then begun + 1 else 0) ≤ suc at → AreApart from size marks) where
  apart_step : (b : Bool) (from : ℕ) → ends_mark seen ≡ b → from + begun ≤ at
      → AreApart from size ((if b then mark_at line at seen ∷ [] else []) ++ marks)
  apart_step false from is within = later from (let next = begun_next begun (goes_on seen) in omega arith)
  apart_step true from is within =
      let begins = begins_at begun at seen whole is (omega arith) in
      let few : from ≤ begin_of at seen = elim begins [ inl e ↦ omega arith | inr e ↦ omega arith ] in
      let some : begin_of at seen < at + 1 = elim begins [ inl e ↦ omega arith | inr e ↦ omega arith ] in
      (few, some, later (at + 1) (rw (mark_ends seen is) (omega arith)))

apart_from : (line : List SeenByte) (size at begun : ℕ) (rest : List SeenByte) → AreWhole begun rest → size ≡ at + length rest
    → (from : ℕ) → from + begun ≤ at → AreApart from size (marks_from line at rest)
apart_from line size at begun [] whole ends from within = omega arith
apart_from line size at begun (seen ∷ rest) whole ends from within =
    apart_step line size at begun seen whole.0 (marks_from line (suc at) rest)
    (apart_from line size (suc at) (if goes_on seen then begun + 1 else 0) rest whole.1 (omega arith))
    (ends_mark seen) from refl within

-- the marks of a line stand apart
pub marks_apart : (line : List ℕ) → AreApart 0 (length (seen_of line)) (marks_of (seen_of line))
unfolding marks_of
marks_apart line = apart_from (seen_of line) (length (seen_of line)) 0 0 (seen_of line) (seen_whole line) (omega arith) 0 (omega arith)

-- ---- numbers

abbrev pub IsNumber : ℕ → Type 0
IsNumber byte = (byte ≡ 58) ⊎ (is_ascii_digit byte ≡ true)

-- the bytes from `start` to `end` of a line are digits and `:`, as those of a pair, of which the first is a `:`
abbrev pub AreNumbers : (line : List ℕ) → (start end : ℕ) → Type 0
AreNumbers line start end =
    (start < end) × (end ≤ length line) × (get_or line start 0 ≡ 58) × ((k : ℕ) → start ≤ k → k < end → IsNumber (get_or line k 0))

pub record AreSeenNumbers (line : List SeenByte) (d : SeenByte) (start end : ℕ) : Type 0 where
  pub some : start < end
  pub within : end ≤ length line
  pub begins : (get_or line start d).byte ≡ 58
  pub each : (k : ℕ) → start ≤ k → k < end → IsNumber (get_or line k d).byte

-- no number has a byte that may begin a mark
no_number : (byte other : ℕ) → byte ≡ other → is_ascii_digit other ≡ false → other ≢ 58 → IsNumber byte → ⊥
no_number byte other same none not_colon (inr digit) = let not_one : is_ascii_digit byte ≡ false = ap is_ascii_digit same ∙ none in cc
no_number byte other same none not_colon (inl colon) = not_colon (sym same ∙ colon)

abbrev pub MayBeginMark : ℕ → Type 0
MayBeginMark byte = MayBegin byte ⊎ ((byte ≡ 34) ⊎ (byte ≡ 39))

stops : (byte : ℕ) → MayBeginMark byte → IsNumber byte → ⊥
stops byte (inl (inl is)) number = no_number byte 92 is refl (λ e. omega arith) number
stops byte (inl (inr (inl is))) number = no_number byte 35 is refl (λ e. omega arith) number
stops byte (inl (inr (inr is))) number = no_number byte 27 is refl (λ e. omega arith) number
stops byte (inr (inl is)) number = no_number byte 34 is refl (λ e. omega arith) number
stops byte (inr (inr is)) number = no_number byte 39 is refl (λ e. omega arith) number

module _ (line : List SeenByte) (d : SeenByte) (start end : ℕ) (numbers : AreSeenNumbers line d start end) where
  byte_at : ℕ → ℕ
  byte_at k = (get_or line k d).byte

  -- before the byte `at` stand so many bytes of an escape that is not ended
  record Held (at begun : ℕ) : Type 0 where
    within : begun ≤ at
    held : (k : ℕ) → at ≤ k + begun → k < at → byte_at k ≢ 58
    first : 0 < begun → MayBegin (byte_at (at - begun))

  clear_mark : (from at : ℕ) → from ≤ at → ((k : ℕ) → from ≤ k → k ≤ at → byte_at k ≢ 58) → MayBeginMark (byte_at from) → (mark : Mark)
      → mark.start ≡ from → mark.end ≡ at + 1 → IsClearOf start end mark
  unfolding byte_at
  clear_mark from at some held first mark starts ends =
      elim (cases_lt start (at + 1)) [
        | inr past ↦ inl (omega arith)
        | inl before ↦ elim (cases_lt start from) [
          | inr inside ↦ absurd (held start inside (omega arith) numbers.begins)
          | inl outside ↦ elim (cases_lt from end) [
            | inl over ↦ absurd (stops (byte_at from) first (numbers.each from (omega arith) over))
            | inr behind ↦ inr (omega arith)
          ]
        ]
      ]

  module _ (at begun : ℕ) (seen : SeenByte) (whole : IsWhole begun seen) (here : seen ≡ get_or line at d) (so_far : Held at begun) where
    here_is : seen.byte ≡ byte_at at
    unfolding byte_at
    here_is = ap (λ (s : SeenByte). s.byte) here

    held_to : seen.byte ≢ 58 → (k : ℕ) → at - begun ≤ k → k ≤ at → byte_at k ≢ 58
    held_to none k from to = elim (cases_lt k at) [
      | inl before ↦ so_far.held k (omega arith) before
      | inr last ↦ λ colon. let same : at ≡ k = omega arith in none (here_is ∙ ap byte_at same ∙ colon)
    ]

    first_of : (begun ≡ 0 → MayBegin seen.byte) → MayBegin (byte_at (at - begun))
    first_of begins = elim (cases_lt 0 begun) [
      | inl some ↦ so_far.first some
      | inr none ↦ let same : at - begun ≡ at = omega arith in rw same (subst MayBegin here_is (begins (omega arith)))
    ]

    mark_clear : (b : Bool) → ends_escape seen ≡ b → ends_mark seen ≡ true → IsClearOf start end (mark_at line at seen)
    mark_clear true escape is =
        let ended = whole.ended is escape in
        let begins : begin_of at seen ≡ at + 1 - seen.size = rw escape refl in
        clear_mark (at - begun) at (omega arith) (held_to ended.1) (inl (first_of ended.2)) (mark_at line at seen) (begins ∙ omega arith) refl
    mark_clear false alone is =
        let quote : (byte_at at ≡ 34) ⊎ (byte_at at ≡ 39) = rw (sym here_is) (whole.alone is alone) in
        let begins : begin_of at seen ≡ at = rw alone refl in
        clear_mark at at (omega arith)
        (λ k from to colon. let same : k ≡ at = omega arith in stops (byte_at at) (inr quote) (inl (ap byte_at (sym same) ∙ colon)))
        (inr quote) (mark_at line at seen) begins refl

    held_next : (b : Bool) → goes_on seen ≡ b → Held (suc at) (if b then begun + 1 else 0)
    held_next true on = record {
      within = let h = so_far.within in omega arith;
      held = λ k from to. held_to (whole.inner on).0 k (omega arith) (omega arith);
      first = λ some. let same : suc at - (begun + 1) ≡ at - begun = omega arith in rw same (first_of (whole.inner on).1);
    }
    held_next false ends = record {
      within = omega arith;
      held = λ k from to. absurd (omega arith);
      first = λ none. absurd (omega arith);
    }

    clear_step : (b : Bool) (marks : List Mark) → ends_mark seen ≡ b → All (IsClearOf start end) marks
        → All (IsClearOf start end) ((if b then mark_at line at seen ∷ [] else []) ++ marks)
    clear_step true marks is others = All-cons (IsClearOf start end) (mark_at line at seen) marks (mark_clear (ends_escape seen) refl is) others
    clear_step false marks is others = others

  clear_from : (at begun : ℕ) (rest : List SeenByte) → AreWhole begun rest → Held at begun
      → ((k : ℕ) → k < length rest → get_or rest k d ≡ get_or line (at + k) d) → All (IsClearOf start end) (marks_from line at rest)
  clear_from at begun [] whole so_far same = All-nil (IsClearOf start end)
  clear_from at begun (seen ∷ rest) whole so_far same =
      let here : seen ≡ get_or line at d = same 0 (omega arith) ∙ ap (λ n. get_or line n d) (let e : at + 0 ≡ at = omega arith in e) in
      clear_step at begun seen whole.0 here so_far (ends_mark seen) (marks_from line (suc at) rest) refl
      (clear_from (suc at) (if goes_on seen then begun + 1 else 0) rest whole.1 (held_next at begun seen whole.0 here so_far (goes_on seen) refl)
      (λ k within. same (suc k) (omega arith) ∙ ap (λ n. get_or line n d) (let e : at + suc k ≡ suc at + k = omega arith in e)))

seen_clear : (line : List ℕ) (d : SeenByte) (start end : ℕ) → AreSeenNumbers (seen_of line) d start end
    → All (IsClearOf start end) (marks_of (seen_of line))
unfolding marks_of
seen_clear line d start end numbers =
    clear_from (seen_of line) d start end numbers 0 0 (seen_of line) (seen_whole line)
    (record { within = omega arith; held = λ k from to. absurd (omega arith); first = λ none. absurd (omega arith) })
    (λ k within. ap (λ n. get_or (seen_of line) n d) (let e : k ≡ 0 + k = omega arith in e))

seen_numbers : (line : List ℕ) (start end : ℕ) → AreNumbers line start end → AreSeenNumbers (seen_of line) (by_itself 0) start end
seen_numbers line start end (some, within, begins, each) =
    let byte : (k : ℕ) → (get_or (seen_of line) k (by_itself 0)).byte ≡ get_or line k 0 =
    λ k. sym (get_or-map (λ (seen : SeenByte). seen.byte) (seen_of line) k (by_itself 0)) ∙ ap (λ l. get_or l k 0) (bytes_kept line) in
    record {
      some = some;
      within = rw (length_kept line) within;
      begins = byte start ∙ begins;
      each = λ k from to. subst IsNumber (sym (byte k)) (each k from to);
    }

-- no mark has a byte of numbers
pub marks_clear : (line : List ℕ) (start end : ℕ) → AreNumbers line start end → All (IsClearOf start end) (marks_of (seen_of line))
marks_clear line start end numbers = seen_clear line (by_itself 0) start end (seen_numbers line start end numbers)
