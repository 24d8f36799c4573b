-- Laws of a text without its sequences.
use Rattle.std.proofs.Common.{◌≡◌, ◌<◌, ◌≤◌, ℕ, zero, suc, ◌+◌, ◌-◌, List, [], ◌∷◌, ◌++◌, length, take, drop, set, slice_range, refl, sym, ap, subst, ◌∙◌}
use Rattle.std.proofs.Common.{arith, append_assoc, drop-drop, inl, inr, length-drop, length-take}
use Rattle.std.proofs.Common.{MatchBool, nat_lt, lt-ltb}
use Rattle.std.proofs.lemmas.List.{drop_all, drop-append-le, drop-take, take-append-le, take_all, take_more_set}
use Rattle.std.proofs.Math.Seq.{take-add}
use Rattle.smap_io.specs.Sequences.{kept, kept_byte, sequence_length}
use Rattle.smap_io.specs.Private.Front.{IsFront}
use Rattle.smap_io.specs.Private.Given.{IsGiven, IsLastGiven, IsNearer}
use Rattle.smap_io.specs.declared.front.Front.TheVariants.{Byte, Sequence}

-- bytes that are gone are those at the front
kept_gone : (bytes : List ℕ) (n most : ℕ) (more : List ℕ) → n ≤ length bytes → kept (bytes ++ more) n most ≡ kept (drop n bytes ++ more) 0 most
unfolding kept
kept_gone bytes zero most more within = refl
kept_gone [] (suc n) most more within = absurd (omega (arith, within))
kept_gone (byte ∷ bytes) (suc n) most more within = kept_gone bytes n most more (omega (arith, within))

-- a sequence is left out
pub kept_sequence : (bytes : List ℕ) (n most : ℕ) (more : List ℕ) → n < length bytes → sequence_length (bytes ++ more) ≡ suc n
    → kept (bytes ++ more) 0 (suc most) ≡ kept (drop (suc n) bytes ++ more) 0 most
unfolding kept
kept_sequence [] n most more within is = absurd (omega (arith, within))
kept_sequence (byte ∷ bytes) n most more within is =
    ap (λ l. kept_byte byte l (suc most) (λ gone most. kept (bytes ++ more) gone most)) is ∙ kept_gone bytes n most more (omega (arith, within))

-- a byte stays where no sequence begins
pub kept_stays : (byte : ℕ) (text : List ℕ) (most : ℕ) → sequence_length (byte ∷ text) ≡ 0 → kept (byte ∷ text) 0 most ≡ byte ∷ kept text 0 most
unfolding kept
kept_stays byte text most is = ap (λ l. kept_byte byte l most (λ gone most. kept text gone most)) is

-- and where none is left out any more
none_left : (byte l : ℕ) (text : List ℕ) → kept_byte byte l 0 (λ gone most. kept text gone most) ≡ byte ∷ kept text 0 0
none_left byte zero text = refl
none_left byte (suc l) text = refl

pub kept_all : (byte : ℕ) (text : List ℕ) → kept (byte ∷ text) 0 0 ≡ byte ∷ kept text 0 0
unfolding kept
kept_all byte text = none_left byte (sequence_length (byte ∷ text)) text

-- ---- what is told of bytes, step by step

-- nothing yet
pub given_none : (bytes : List ℕ) (most : ℕ) → IsGiven bytes most [] bytes most
given_none bytes most more = refl

-- one sequence more is left out
pub given_sequence : (bytes : List ℕ) (most : ℕ) (given rest : List ℕ) (left count : ℕ) → IsGiven bytes most given rest left
    → IsFront rest left (Sequence count) → IsGiven bytes most given (drop count rest) (left - 1)
given_sequence bytes most given rest left count is front more = is more ∙ ap (λ l. given ++ l) (front.3 more)

-- one byte more is given
pub given_byte : (bytes : List ℕ) (most : ℕ) (room : List ℕ) (count byte : ℕ) (rest : List ℕ) (left : ℕ)
    → IsGiven bytes most (take count room) rest left → count < length room → IsFront rest left (Byte byte)
    → IsGiven bytes most (take (count + 1) (set room count byte)) (drop 1 rest) left
given_byte bytes most room count byte rest left is fits front more =
    let after = kept (front.0 ++ more) 0 left in
    is more ∙ ap (λ l. take count room ++ l) (front.2 more) ∙ sym (append_assoc (take count room) (byte ∷ []) after)
    ∙ (λ i. sym (take_more_set room count byte fits) i ++ kept (sym (ap (drop 1) front.1) i ++ more) 0 left)

-- at the end the first byte stays, where no sequence begins
pub given_first : (held : List ℕ) (most : ℕ) (room : List ℕ) (first : ℕ) (behind new : List ℕ) → held ≡ first ∷ behind → sequence_length held ≡ 0
    → 0 < length room → new ≡ drop (length held - length behind) held → IsLastGiven held most (take 1 (set room 0 first)) new most
given_first held most [] first behind new parts stays some is = absurd (omega (arith, some))
given_first held most (byte ∷ room) first behind new parts stays some is =
    let one : length held - length behind ≡ 1 = omega (arith, ap length parts) in
    let rest : new ≡ behind = is ∙ ((λ i. drop (one i) (parts i))) in
    ap (λ l. kept l 0 most) parts
    ∙ (kept_stays first behind most (subst (λ l. sequence_length l ≡ 0) parts stays) ∙ ap (λ l. first ∷ kept l 0 most) (sym rest))

-- what is left of the bytes is their end
pub end_of : (bytes rest : List ℕ) (n : ℕ) → rest ≡ drop (length bytes - length rest) bytes → length rest ≤ length bytes → n ≤ length rest
    → drop n rest ≡ drop (length bytes - length (drop n rest)) bytes
end_of bytes rest n is within few =
    let count : length bytes - length rest + n ≡ length bytes - length (drop n rest) = omega (arith, length-drop n rest, within, few) in
    ap (drop n) is ∙ (drop-drop n (length bytes - length rest) bytes ∙ ap (λ k. drop k bytes) count)

-- a sequence was left out
pub nearer_by : (bytes : List ℕ) (most : ℕ) (rest new : List ℕ) (left : ℕ) → 0 < left → IsNearer bytes most rest left → IsNearer bytes most new (left - 1)
nearer_by bytes most rest new left some (inl fewer) = inl (omega (arith, some, fewer))
nearer_by bytes most rest new left some (inr same) = inl (omega (arith, some, same.0))

-- the end of a part of a room
pub range_end : (room : List ℕ) (start end left : ℕ) → start ≤ end → end ≤ length room → left ≤ length (slice_range room start end)
    → drop (length (slice_range room start end) - left) (slice_range room start end) ≡ slice_range room (end - left) end
range_end room start end left ordered within few =
    let bytes : ℕ = length (slice_range room start end) in
    let size : bytes ≡ end - start = omega (arith, length-take (end - start) (drop start room), length-drop start room, ordered, within) in
    let parts : end - start ≡ (bytes - left) + left = omega (arith, size, few) in
    let at : start + (bytes - left) ≡ end - left = omega (arith, size, few, ordered) in
    let last : left ≡ end - (end - left) = omega (arith, size, few, ordered) in
    ap (λ k. drop (bytes - left) (take k (drop start room))) parts
    ∙ (drop-take (bytes - left) left (drop start room)
    ∙ (ap (take left) (drop-drop (bytes - left) start room)
    ∙ (λ i. take (last i) (drop (at i) room))))

-- bytes that are read behind those that are held
pub read_behind : (front post new tail : List ℕ) (count more : ℕ) → length front ≡ count → more ≤ length new
    → slice_range (take count (front ++ post) ++ (new ++ tail)) 0 (count + more) ≡ front ++ take more new
read_behind front post new tail count more size fits =
    let whole : count + more - 0 ≡ count + more = omega arith in
    let all : List ℕ = front ++ (new ++ tail) in
    let first = λ (rest : List ℕ). take-append-le count front rest (omega (arith, size)) ∙ take_all count front (omega (arith, size)) in
    let behind : drop count all ≡ new ++ tail =
    drop-append-le count front (new ++ tail) (omega (arith, size)) ∙ ap (λ l. l ++ (new ++ tail)) (drop_all count front (omega (arith, size))) in
    (λ i. take (whole i) (first post i ++ (new ++ tail)))
    ∙ (take-add count more all
    ∙ (λ i. first (new ++ tail) i ++ ap (take more) behind i)
    ∙ ap (λ l. front ++ l) (take-append-le more new tail fits))

-- what was read, or the end
pub more_or_end : (more : ℕ) (room : List ℕ) (End : Type 0) → more ≤ length room → (more ≡ 0 → End)
    → MatchBool (nat_lt 0 more) (0 < length (take more room)) ((take more room ≡ []) × End)
more_or_end zero room End fits end = (refl, end refl)
more_or_end (suc more) room End fits end =
    subst (λ b. MatchBool b (0 < length (take (suc more) room)) ((take (suc more) room ≡ []) × End)) (sym (lt-ltb 0 (suc more) (omega arith)))
    (omega (arith, length-take (suc more) room, fits))

pub front_is : (front post : List ℕ) (count : ℕ) → length front ≡ count → take count (front ++ post) ≡ front
front_is front post count size = take-append-le count front post (omega (arith, size)) ∙ take_all count front (omega (arith, size))
