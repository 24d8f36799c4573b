-- Laws of texts as pieces and sequences by turns.
use Rattle.std.proofs.Common.{◌≡◌, ◌<◌, ◌≤◌, ◌⊎◌, ℕ, zero, suc, ◌+◌, ◌-◌, ◌==◌, ◌&&◌, Bool, true, false, not, leb, List, [], ◌∷◌, ◌++◌, length, take, drop, refl, sym, ap, ◌∙◌, subst}
use Rattle.std.proofs.Common.{append_assoc, append-nil, arith, if◌then◌else◌, inl, inr, length-append, length-drop, length-take, take-append-drop}
use Rattle.std.proofs.lemmas.Bool.{and_parts, eqb-true, false_from_ne_true, leb-true, or_cases, or_left, or_right}
use Rattle.std.proofs.lemmas.List.{drop_all}
use Rattle.std.specs.List.{list_all}
use Rattle.smap_io.specs.Sequences.{ending_length, goes_on, introduced_length, is_final_byte, is_intermediate_byte, is_parameter_byte, kept, one_more, sequence_length}
use Rattle.smap_io.specs.Turns.{AreTurns, HasNone, IsSequence, Turn, pieces_text, turns_text}
use Rattle.smap_io.proofs.FrontLaws.{final, goes}
use Rattle.smap_io.proofs.KeptLaws.{kept_sequence, kept_stays}

-- ---- bytes of a sequence

within : (low high byte : ℕ) → (leb low byte && leb byte high) ≡ true → (low ≤ byte) × (byte ≤ high)
within low high byte is =
    let parts = and_parts (leb low byte) (leb byte high) is in
    (leb-true low byte parts.0, leb-true byte high parts.1)

outside : (low high byte : ℕ) → (low ≤ byte → byte ≤ high → ⊥) → (leb low byte && leb byte high) ≡ false
outside low high byte never =
    false_from_ne_true (leb low byte && leb byte high) (λ is. let both = within low high byte is in never both.0 both.1)

module _ (byte : ℕ) where
  parameter_no_final : is_parameter_byte byte ≡ true → is_final_byte byte ≡ false
  parameter_no_final is = let at = within 48 63 byte is in outside 64 126 byte (λ low high. omega (arith, at.1, low))

  parameter_no_intermediate : is_parameter_byte byte ≡ true → is_intermediate_byte byte ≡ false
  parameter_no_intermediate is = let at = within 48 63 byte is in outside 32 47 byte (λ low high. omega (arith, at.0, high))

  parameter_goes_on : is_parameter_byte byte ≡ true → goes_on false byte ≡ true
  parameter_goes_on is = or_right (is_intermediate_byte byte) (is_parameter_byte byte && not false) (ap (λ b. b && not false) is)

  intermediate_no_final : is_intermediate_byte byte ≡ true → is_final_byte byte ≡ false
  intermediate_no_final is = let at = within 32 47 byte is in outside 64 126 byte (λ low high. omega (arith, at.1, low))

  intermediate_goes_on : (is_intermediate : Bool) → is_intermediate_byte byte ≡ true → goes_on is_intermediate byte ≡ true
  intermediate_goes_on is_intermediate is = or_left (is_intermediate_byte byte) (is_parameter_byte byte && not is_intermediate) is

  -- one that goes on is one of both
  goes_on_is : (is_intermediate : Bool) → goes_on is_intermediate byte ≡ true
      → (is_intermediate_byte byte ≡ true) ⊎ ((is_intermediate ≡ false) × (is_parameter_byte byte ≡ true))
  goes_on_is is_intermediate is = go (or_cases (is_intermediate_byte byte) (is_parameter_byte byte && not is_intermediate) is)
    where
      not_that : (b : Bool) → not b ≡ true → b ≡ false
      not_that true is = cc
      not_that false is = refl

      go : (is_intermediate_byte byte ≡ true) ⊎ ((is_parameter_byte byte && not is_intermediate) ≡ true)
          → (is_intermediate_byte byte ≡ true) ⊎ ((is_intermediate ≡ false) × (is_parameter_byte byte ≡ true))
      go (inl between) = inl between
      go (inr other) =
          let parts = and_parts (is_parameter_byte byte) (not is_intermediate) other in
          inr (not_that is_intermediate parts.1, parts.0)

-- ---- a sequence stands at the front of what it begins

ends_intermediate : (bytes : List ℕ) (last : ℕ) (more : List ℕ) (most : ℕ) (is_intermediate : Bool) → list_all is_intermediate_byte bytes ≡ true
    → is_final_byte last ≡ true → length bytes < most → ending_length (bytes ++ last ∷ more) most is_intermediate ≡ suc (length bytes)
ends_intermediate [] last more most i each ended few = final last i more most few ended
ends_intermediate (byte ∷ bytes) last more most i each ended few =
    let parts = and_parts (is_intermediate_byte byte) (list_all is_intermediate_byte bytes) each in
    let one = parts.0 in
    let rest = parts.1 in
    let all : suc (suc (length bytes)) ≡ suc (length (byte ∷ bytes)) = omega arith in
    goes byte i (bytes ++ last ∷ more) most (omega (arith, few)) (intermediate_no_final byte one) (intermediate_goes_on byte i one)
    ∙ (ap one_more (ends_intermediate bytes last more (most - 1) (is_intermediate_byte byte) rest ended (omega (arith, few))) ∙ all)

ends_parameter : (parameters bytes : List ℕ) (last : ℕ) (more : List ℕ) (most : ℕ) → list_all is_parameter_byte parameters ≡ true
    → list_all is_intermediate_byte bytes ≡ true → is_final_byte last ≡ true → length parameters + length bytes < most
    → ending_length (parameters ++ (bytes ++ last ∷ more)) most false ≡ suc (length parameters + length bytes)
ends_parameter [] bytes last more most each each_more ended few =
    let all : suc (length bytes) ≡ suc (0 + length bytes) = omega arith in
    ends_intermediate bytes last more most false each_more ended (omega (arith, few)) ∙ all
ends_parameter (byte ∷ parameters) bytes last more most each each_more ended few =
    let parts = and_parts (is_parameter_byte byte) (list_all is_parameter_byte parameters) each in
    let one = parts.0 in
    let rest = parts.1 in
    let all : suc (suc (length parameters + length bytes)) ≡ suc (length (byte ∷ parameters) + length bytes) = omega arith in
    goes byte false (parameters ++ (bytes ++ last ∷ more)) most (omega (arith, few)) (parameter_no_final byte one) (parameter_goes_on byte one)
    ∙ (ap (λ i. one_more (ending_length (parameters ++ (bytes ++ last ∷ more)) (most - 1) i)) (parameter_no_intermediate byte one)
    ∙ (ap one_more (ends_parameter parameters bytes last more (most - 1) rest each_more ended (omega (arith, few))) ∙ all))

joined_behind : (parameters bytes : List ℕ) (last : ℕ) (more : List ℕ) → (parameters ++ (bytes ++ last ∷ [])) ++ more ≡ parameters ++ (bytes ++ last ∷ more)
joined_behind parameters bytes last more =
    append_assoc parameters (bytes ++ last ∷ []) more ∙ ap (λ l. parameters ++ l) (append_assoc bytes (last ∷ []) more)

sequence_size : (bytes : List ℕ) (is : IsSequence bytes) → length bytes ≡ suc (suc (suc (length is.parameters + length is.intermediates)))
sequence_size bytes is =
    omega (arith, ap length is.joined, length-append is.parameters (is.intermediates ++ is.final ∷ []), length-append is.intermediates (is.final ∷ []))

sequence_stands : (bytes more : List ℕ) → IsSequence bytes → sequence_length (bytes ++ more) ≡ length bytes
sequence_stands bytes more is =
    let size = sequence_size bytes is in
    ap (λ l. sequence_length (l ++ more)) is.joined
    ∙ (ap (λ l. one_more (one_more (ending_length l 126 false))) (joined_behind is.parameters is.intermediates is.final more)
    ∙ (ap (λ n. one_more (one_more n)) (ends_parameter is.parameters is.intermediates is.final more 126 is.each_parameter is.each_intermediate is.ended
    (omega (arith, size, is.few))) ∙ sym size))

-- ---- what is counted at the front is a sequence

-- what stands behind ESC and `[`, or behind a byte of it
record IsTail (is_intermediate : Bool) (bytes : List ℕ) : Type 0 where
  parameters : List ℕ
  intermediates : List ℕ
  last : ℕ
  joined : bytes ≡ parameters ++ (intermediates ++ last ∷ [])
  each_parameter : list_all is_parameter_byte parameters ≡ true
  each_intermediate : list_all is_intermediate_byte intermediates ≡ true
  ended : is_final_byte last ≡ true
  none : is_intermediate ≡ true → parameters ≡ []

abbrev Shape : (text : List ℕ) (most : ℕ) (is_intermediate : Bool) (n : ℕ) → Type 0
Shape text most i n = IsTail i (take (suc n) text) × (suc n ≤ length text) × (suc n ≤ most)

-- a byte more before it
tail_more : (byte : ℕ) (i : Bool) (bytes : List ℕ) → (is_intermediate_byte byte ≡ true) ⊎ ((i ≡ false) × (is_parameter_byte byte ≡ true))
    → IsTail (is_intermediate_byte byte) bytes → IsTail i (byte ∷ bytes)
tail_more byte i bytes (inl between) is = record {
  parameters = [];
  intermediates = byte ∷ is.intermediates;
  last = is.last;
  joined = ap (λ l. byte ∷ l) (is.joined ∙ ap (λ p. p ++ (is.intermediates ++ is.last ∷ [])) (is.none between));
  each_parameter = refl;
  each_intermediate = ap (λ b. b && list_all is_intermediate_byte is.intermediates) between ∙ is.each_intermediate;
  ended = is.ended;
  none = λ _. refl;
}
tail_more byte i bytes (inr other) is = record {
  parameters = byte ∷ is.parameters;
  intermediates = is.intermediates;
  last = is.last;
  joined = ap (λ l. byte ∷ l) is.joined;
  each_parameter = ap (λ b. b && list_all is_parameter_byte is.parameters) other.1 ∙ is.each_parameter;
  each_intermediate = is.each_intermediate;
  ended = is.ended;
  none = λ behind. absurd (let no : true ≡ false = sym behind ∙ other.0 in cc);
}

tail_one : (byte : ℕ) (i : Bool) → is_final_byte byte ≡ true → IsTail i (byte ∷ [])
tail_one byte i is = record {
  parameters = [];
  intermediates = [];
  last = byte;
  joined = refl;
  each_parameter = refl;
  each_intermediate = refl;
  ended = is;
  none = λ _. refl;
}

shape_more : (byte : ℕ) (text : List ℕ) (most : ℕ) (i : Bool) (n count : ℕ) → goes_on i byte ≡ true → one_more count ≡ suc n
    → ((m : ℕ) → count ≡ suc m → Shape text most (is_intermediate_byte byte) m) → Shape (byte ∷ text) (suc most) i n
shape_more byte text most i n zero on is more = absurd (omega (arith, is))
shape_more byte text most i n (suc count) on is more =
    let rest = more count refl in
    let same : suc count ≡ n = omega (arith, is) in
    let P : ℕ → Type 0 = λ k. Shape (byte ∷ text) (suc most) i k in
    subst P same (
      tail_more byte i (take (suc count) text) (goes_on_is byte i on) rest.0,
      omega (arith, rest.1),
      omega (arith, rest.2),
    )

shape_one : (byte : ℕ) (text : List ℕ) (most : ℕ) (i : Bool) (n : ℕ) → is_final_byte byte ≡ true → 1 ≡ suc n → Shape (byte ∷ text) (suc most) i n
shape_one byte text most i zero last is = (tail_one byte i last, omega arith, omega arith)
shape_one byte text most i (suc n) last is = absurd (omega (arith, is))

shape_by : (byte : ℕ) (text : List ℕ) (most : ℕ) (i : Bool) (n : ℕ) (last on : Bool) → is_final_byte byte ≡ last → goes_on i byte ≡ on
    → (if last then 1 else (if on then one_more (ending_length text most (is_intermediate_byte byte)) else 0)) ≡ suc n
    → ((m : ℕ) → ending_length text most (is_intermediate_byte byte) ≡ suc m → Shape text most (is_intermediate_byte byte) m)
    → Shape (byte ∷ text) (suc most) i n
shape_by byte text most i n true on is_last is_on is more = shape_one byte text most i n is_last is
shape_by byte text most i n false true is_last is_on is more =
    shape_more byte text most i n (ending_length text most (is_intermediate_byte byte)) is_on is more
shape_by byte text most i n false false is_last is_on is more = absurd (omega (arith, is))

shape : (text : List ℕ) (most : ℕ) (i : Bool) (n : ℕ) → ending_length text most i ≡ suc n → Shape text most i n
unfolding ending_length
shape [] most i n is = absurd (omega (arith, is))
shape (byte ∷ text) zero i n is = absurd (omega (arith, is))
shape (byte ∷ text) (suc most) i n is =
    shape_by byte text most i n (is_final_byte byte) (goes_on i byte) refl refl is (λ m at. shape text most (is_intermediate_byte byte) m at)

-- the front of a text
abbrev Front : (text : List ℕ) (n : ℕ) → Type 0
Front text n = IsSequence (take (suc n) text) × (suc n ≤ length text)

front_behind : (text : List ℕ) (n count : ℕ) → one_more (one_more count) ≡ suc n → ((m : ℕ) → count ≡ suc m → Shape text 126 false m)
    → Front (27 ∷ 91 ∷ text) n
front_behind text n zero is more = absurd (omega (arith, is))
front_behind text n (suc count) is more =
    let rest = more count refl in
    let tail = rest.0 in
    let same : suc (suc (suc count)) ≡ suc n = is in
    let P : ℕ → Type 0 = λ k. IsSequence (take k (27 ∷ 91 ∷ text)) × (k ≤ length (27 ∷ 91 ∷ text)) in
    subst P same (
      record {
        parameters = tail.parameters;
        intermediates = tail.intermediates;
        final = tail.last;
        joined = ap (λ l. 27 ∷ 91 ∷ l) tail.joined;
        each_parameter = tail.each_parameter;
        each_intermediate = tail.each_intermediate;
        ended = tail.ended;
        few = omega (arith, rest.1, rest.2, length-take (suc count) text);
      },
      omega (arith, rest.1),
    )

front_bracket : (byte : ℕ) (text : List ℕ) (n : ℕ) (bracket : Bool) → (byte == 91) ≡ bracket → one_more (if bracket then one_more (ending_length text 126 false) else 0) ≡ suc n → Front (27 ∷ byte ∷ text) n
front_bracket byte text n false is_bracket is = absurd (omega (arith, is))
front_bracket byte text n true is_bracket is =
    let P : ℕ → Type 0 = λ b. Front (27 ∷ b ∷ text) n in
    subst P (sym (eqb-true byte 91 is_bracket)) (front_behind text n (ending_length text 126 false) is (λ m at. shape text 126 false m at))

front_escape : (text : List ℕ) (n : ℕ) → one_more (introduced_length text) ≡ suc n → Front (27 ∷ text) n
front_escape [] n is = absurd (omega (arith, is))
front_escape (byte ∷ text) n is = front_bracket byte text n (byte == 91) refl is

front_first : (byte : ℕ) (text : List ℕ) (n : ℕ) (escape : Bool) → (byte == 27) ≡ escape → (if escape then one_more (introduced_length text) else 0) ≡ suc n
    → Front (byte ∷ text) n
front_first byte text n false is_escape is = absurd (omega (arith, is))
front_first byte text n true is_escape is =
    let P : ℕ → Type 0 = λ b. Front (b ∷ text) n in
    subst P (sym (eqb-true byte 27 is_escape)) (front_escape text n is)

front_is : (text : List ℕ) (n : ℕ) → sequence_length text ≡ suc n → Front text n
front_is [] n is = absurd (omega (arith, is))
front_is (byte ∷ text) n is = front_first byte text n (byte == 27) refl is

-- ---- a piece stays

-- what follows a piece: nothing, or a sequence, which begins with ESC
abbrev IsBehind : List ℕ → Type 0
IsBehind rest = (rest ≡ []) ⊎ ((more : List ℕ) × (rest ≡ 27 ∷ more))

no_end : (more : List ℕ) (most : ℕ) (i : Bool) → ending_length (27 ∷ more) most i ≡ 0
unfolding ending_length
no_end more zero i = refl
no_end more (suc most) i = refl

ends_before : (bytes more : List ℕ) (most : ℕ) (i : Bool) → ending_length (bytes ++ 27 ∷ more) most i ≡ ending_length bytes most i
unfolding ending_length
ends_before [] more most i = no_end more most i
ends_before (byte ∷ bytes) more zero i = refl
ends_before (byte ∷ bytes) more (suc most) i =
    ap (λ n. if is_final_byte byte then 1 else (if goes_on i byte then one_more n else 0)) (ends_before bytes more most (is_intermediate_byte byte))

introduced_before : (bytes more : List ℕ) → introduced_length (bytes ++ 27 ∷ more) ≡ introduced_length bytes
introduced_before [] more = refl
introduced_before (byte ∷ bytes) more = ap (λ n. if byte == 91 then one_more n else 0) (ends_before bytes more 126 false)

sequence_before : (byte : ℕ) (bytes rest : List ℕ) → IsBehind rest → sequence_length (byte ∷ (bytes ++ rest)) ≡ sequence_length (byte ∷ bytes)
sequence_before byte bytes rest (inl none) =
    ap (λ l. sequence_length (byte ∷ (bytes ++ l))) none ∙ ap (λ l. sequence_length (byte ∷ l)) (append-nil bytes)
sequence_before byte bytes rest (inr is) =
    ap (λ l. sequence_length (byte ∷ (bytes ++ l))) is.1 ∙ ap (λ n. if byte == 27 then one_more n else 0) (introduced_before bytes is.0)

none_at : (byte : ℕ) (bytes : List ℕ) (n : ℕ) → HasNone (byte ∷ bytes) → sequence_length (byte ∷ bytes) ≡ n → n ≡ 0
none_at byte bytes zero none is = refl
none_at byte bytes (suc n) none is =
    absurd (none [] (take (suc n) (byte ∷ bytes)) (drop (suc n) (byte ∷ bytes)) (sym (take-append-drop (suc n) (byte ∷ bytes)))
    (front_is (byte ∷ bytes) n is).0)

piece_stays : (piece rest : List ℕ) (most : ℕ) → HasNone piece → IsBehind rest → kept (piece ++ rest) 0 most ≡ piece ++ kept rest 0 most
piece_stays [] rest most none behind = refl
piece_stays (byte ∷ piece) rest most none behind =
    let stays : sequence_length (byte ∷ piece) ≡ 0 = none_at byte piece (sequence_length (byte ∷ piece)) none refl in
    kept_stays byte (piece ++ rest) most (sequence_before byte piece rest behind ∙ stays)
    ∙ ap (λ l. byte ∷ l) (piece_stays piece rest most (λ before sequence after is of. none (byte ∷ before) sequence after (ap (λ l. byte ∷ l) is) of) behind)

-- a sequence goes
sequence_goes : (bytes more : List ℕ) (most : ℕ) → IsSequence bytes → kept (bytes ++ more) 0 (suc most) ≡ kept more 0 most
sequence_goes bytes more most is =
    let size = sequence_size bytes is in
    let n : ℕ = suc (suc (length is.parameters + length is.intermediates)) in
    kept_sequence bytes n most more (omega (arith, size)) (sequence_stands bytes more is ∙ size)
    ∙ ap (λ l. kept (l ++ more) 0 most) (drop_all (suc n) bytes (omega (arith, size)))

kept_nothing : (most : ℕ) → kept [] 0 most ≡ []
unfolding kept
kept_nothing most = refl

pub pieces_kept : (turns : List Turn) (last : List ℕ) (most : ℕ) → AreTurns turns last → length turns ≤ most
    → kept (turns_text turns last) 0 most ≡ pieces_text turns last
pieces_kept [] last most are few =
    ap (λ l. kept l 0 most) (sym (append-nil last)) ∙ (piece_stays last [] most are (inl refl) ∙ (ap (λ l. last ++ l) (kept_nothing most) ∙ append-nil last))
pieces_kept (turn ∷ turns) last zero are few = absurd (omega (arith, few))
pieces_kept (turn ∷ turns) last (suc most) are few =
    let rest : List ℕ = turns_text turns last in
    let sequence = are.1 in
    let behind : IsBehind (turn.sequence ++ rest) =
    inr ((91 ∷ (sequence.parameters ++ (sequence.intermediates ++ sequence.final ∷ []))) ++ rest, ap (λ l. l ++ rest) sequence.joined) in
    piece_stays turn.piece (turn.sequence ++ rest) (suc most) are.0 behind
    ∙ ap (λ l. turn.piece ++ l) (sequence_goes turn.sequence rest most sequence ∙ pieces_kept turns last most are.2 (omega (arith, few)))

-- ---- each text is such turns

none_in_nothing : HasNone []
none_in_nothing before sequence after is of =
    omega (arith, ap length is, length-append before (sequence ++ after), length-append sequence after, sequence_size sequence of)

none_in_more : (byte : ℕ) (piece rest : List ℕ) → HasNone piece → sequence_length (byte ∷ (piece ++ rest)) ≡ 0 → HasNone (byte ∷ piece)
none_in_more byte piece rest none stays [] sequence after is of =
    let at : sequence_length (byte ∷ (piece ++ rest)) ≡ length sequence =
    ap (λ l. sequence_length (l ++ rest)) is ∙ (ap sequence_length (append_assoc sequence after rest) ∙ sequence_stands sequence (after ++ rest) of) in
    omega (arith, at, stays, sequence_size sequence of)
none_in_more byte piece rest none stays (first ∷ before) sequence after is of =
    let more : piece ≡ before ++ (sequence ++ after) = cc in
    none before sequence after more of

abbrev Cut : (text : List ℕ) → Type 0
Cut text = (turns : List Turn) × (last : List ℕ) × AreTurns turns last × (text ≡ turns_text turns last)

with_byte : (byte : ℕ) (text : List ℕ) → sequence_length (byte ∷ text) ≡ 0 → (turns : List Turn) (last : List ℕ) → AreTurns turns last
    → text ≡ turns_text turns last → Cut (byte ∷ text)
with_byte byte text stays [] last are is =
    let at : sequence_length (byte ∷ (last ++ [])) ≡ 0 = ap (λ l. sequence_length (byte ∷ l)) (append-nil last ∙ sym is) ∙ stays in
    ([], byte ∷ last, none_in_more byte last [] are at, ap (λ l. byte ∷ l) is)
with_byte byte text stays (turn ∷ turns) last are is =
    let at : sequence_length (byte ∷ (turn.piece ++ (turn.sequence ++ turns_text turns last))) ≡ 0 =
    ap (λ l. sequence_length (byte ∷ l)) (sym is) ∙ stays in (
      record { piece = byte ∷ turn.piece; sequence = turn.sequence } ∷ turns,
      last,
      (none_in_more byte turn.piece (turn.sequence ++ turns_text turns last) are.0 at, are.1, are.2),
      ap (λ l. byte ∷ l) is,
    )

cut_by : (fuel byte : ℕ) (text : List ℕ) → ((text : List ℕ) → length text ≤ fuel → Cut text) → length (byte ∷ text) ≤ suc fuel → (n : ℕ)
    → sequence_length (byte ∷ text) ≡ n → Cut (byte ∷ text)
cut_by fuel byte text cut few zero stays =
    let more = cut text (omega (arith, few)) in
    with_byte byte text stays more.0 more.1 more.2 more.3
cut_by fuel byte text cut few (suc n) is =
    let front = front_is (byte ∷ text) n is in
    let more = cut (drop (suc n) (byte ∷ text)) (omega (arith, few, length-drop (suc n) (byte ∷ text))) in (
      record { piece = []; sequence = take (suc n) (byte ∷ text) } ∷ more.0,
      more.1,
      (none_in_nothing, front.0, more.2),
      sym (take-append-drop (suc n) (byte ∷ text)) ∙ ap (λ l. take (suc n) (byte ∷ text) ++ l) more.3,
    )

cut_within : (fuel : ℕ) (text : List ℕ) → length text ≤ fuel → Cut text
cut_within fuel [] few = ([], [], none_in_nothing, refl)
cut_within zero (byte ∷ text) few = absurd (omega (arith, few))
cut_within (suc fuel) (byte ∷ text) few = cut_by fuel byte text (cut_within fuel) few (sequence_length (byte ∷ text)) refl

pub cut_text : (text : List ℕ) → Cut text
cut_text text = cut_within (length text) text (omega arith)
