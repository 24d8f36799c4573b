-- Laws of what stands at the front of bytes.
use Rattle.std.proofs.Common.{◌≡◌, ◌<◌, ℕ, zero, suc, ◌+◌, ◌-◌, ◌&&◌, Bool, true, false, List, [], ◌∷◌, ◌++◌, length, drop, refl, sym, ap, ◌∙◌, subst}
use Rattle.std.proofs.Common.{arith, ne_eqb, if◌then◌else◌}
use Rattle.smap_io.specs.Sequences.{ending_length, goes_on, introduced_length, is_final_byte, is_intermediate_byte, kept, may_end, one_more}
use Rattle.smap_io.specs.Private.Front.{IsEnding, IsFront}
use Rattle.smap_io.specs.declared.front.Ending.TheVariants as ending
use Rattle.smap_io.specs.declared.front.Front.TheVariants as front
use Rattle.smap_io.proofs.KeptLaws.{kept_all, kept_sequence, kept_stays}

-- one more than a count that is not 0
one_more_is : (count : ℕ) → 0 < count → one_more count ≡ count + 1
one_more_is zero some = absurd (omega (arith, some))
one_more_is (suc count) some = omega arith

one_less : (n : ℕ) → n ≡ suc n - 1
one_less n = omega arith

-- ---- how a sequence goes on

ending_none : (text : List ℕ) (is_intermediate : Bool) → ending_length text 0 is_intermediate ≡ 0
unfolding ending_length
ending_none [] is_intermediate = refl
ending_none (byte ∷ text) is_intermediate = refl

pub none_left : (bytes : List ℕ) (most : ℕ) (is_intermediate : Bool) → most ≡ 0 → IsEnding bytes most is_intermediate ending.Never
none_left bytes most is_intermediate none more =
    ap (λ m. ending_length (bytes ++ more) m is_intermediate) none ∙ ending_none (bytes ++ more) is_intermediate

pub open_here : (bytes : List ℕ) (most : ℕ) (is_intermediate : Bool) → length bytes ≡ 0 → 0 < most → IsEnding bytes most is_intermediate ending.Open
unfolding ending_length
open_here [] most is_intermediate empty some = (some, refl, refl)
open_here (byte ∷ bytes) most is_intermediate empty some = absurd (omega (arith, empty))

module _ (byte : ℕ) (is_intermediate : Bool) where
  pub final : (text : List ℕ) (most : ℕ) → 0 < most → is_final_byte byte ≡ true → ending_length (byte ∷ text) most is_intermediate ≡ 1
  unfolding ending_length
  final text zero some is = absurd (omega (arith, some))
  final text (suc most) some is = ap
      (λ f. if f then 1 else (if goes_on is_intermediate byte then one_more (ending_length text most (is_intermediate_byte byte)) else 0)) is

  never : (text : List ℕ) (most : ℕ) → is_final_byte byte ≡ false → goes_on is_intermediate byte ≡ false
      → ending_length (byte ∷ text) most is_intermediate ≡ 0
  unfolding ending_length
  never text zero other stops = refl
  never text (suc most) other stops =
      ap (λ f. if f then 1 else (if goes_on is_intermediate byte then one_more (ending_length text most (is_intermediate_byte byte)) else 0)) other
      ∙ ap (λ f. if f then one_more (ending_length text most (is_intermediate_byte byte)) else 0) stops

  pub goes : (text : List ℕ) (most : ℕ) → 0 < most → is_final_byte byte ≡ false → goes_on is_intermediate byte ≡ true
      → ending_length (byte ∷ text) most is_intermediate ≡ one_more (ending_length text (most - 1) (is_intermediate_byte byte))
  unfolding ending_length
  goes text zero some other on = absurd (omega (arith, some))
  goes text (suc most) some other on =
      ap (λ f. if f then 1 else (if goes_on is_intermediate byte then one_more (ending_length text most (is_intermediate_byte byte)) else 0)) other
      ∙ ap (λ f. if f then one_more (ending_length text most (is_intermediate_byte byte)) else 0) on
      ∙ ap (λ m. one_more (ending_length text m (is_intermediate_byte byte))) (one_less most)

  module _ (bytes rest : List ℕ) (most : ℕ) (parts : bytes ≡ byte ∷ rest) (some : 0 < most) where
    pub ends_here : is_final_byte byte ≡ true → IsEnding bytes most is_intermediate (ending.Behind 1)
    ends_here is = subst (λ l. IsEnding l most is_intermediate (ending.Behind 1)) (sym parts)
        (omega arith, omega arith, λ more. final (rest ++ more) most some is)

    pub ends_nowhere : is_final_byte byte ≡ false → goes_on is_intermediate byte ≡ false → IsEnding bytes most is_intermediate ending.Never
    ends_nowhere other stops = subst (λ l. IsEnding l most is_intermediate ending.Never) (sym parts) (λ more. never (rest ++ more) most other stops)

    module _ (other : is_final_byte byte ≡ false) (on : goes_on is_intermediate byte ≡ true) where
      pub open_on : IsEnding rest (most - 1) (is_intermediate_byte byte) ending.Open → IsEnding bytes most is_intermediate ending.Open
      open_on is = subst (λ l. IsEnding l most is_intermediate ending.Open) (sym parts) (
        omega (arith, is.0, some),
        goes rest most some other on ∙ ap one_more is.1,
        ap (λ b. b && may_end rest (is_intermediate_byte byte)) on ∙ is.2,
      )

      pub never_on : IsEnding rest (most - 1) (is_intermediate_byte byte) ending.Never → IsEnding bytes most is_intermediate ending.Never
      never_on is = subst (λ l. IsEnding l most is_intermediate ending.Never) (sym parts)
          (λ more. goes (rest ++ more) most some other on ∙ ap one_more (is more))

      pub behind_on : (count : ℕ) → IsEnding rest (most - 1) (is_intermediate_byte byte) (ending.Behind count)
          → IsEnding bytes most is_intermediate (ending.Behind (count + 1))
      behind_on count is = subst (λ l. IsEnding l most is_intermediate (ending.Behind (count + 1))) (sym parts) (
        omega arith,
        omega (arith, is.1),
        λ more. goes (rest ++ more) most some other on ∙ (ap one_more (is.2 more) ∙ one_more_is count is.0),
      )

-- ---- the front of bytes

pub front_empty : (bytes : List ℕ) (most : ℕ) → length bytes ≡ 0 → IsFront bytes most front.Open
front_empty [] most none = (omega arith, refl, refl)
front_empty (byte ∷ bytes) most none = absurd (omega (arith, none))

-- another byte than ESC
pub front_byte : (bytes : List ℕ) (byte : ℕ) (rest : List ℕ) (most : ℕ) → bytes ≡ byte ∷ rest → (byte ≡ 27 → ⊥) → IsFront bytes most (front.Byte byte)
front_byte bytes byte rest most parts other = subst (λ l. IsFront l most (front.Byte byte)) (sym parts) (
  rest,
  refl,
  λ more. kept_stays byte (rest ++ more) most (ap (λ b. if b then one_more (introduced_length (rest ++ more)) else 0) (ne_eqb byte 27 other)),
)

module _ (bytes : List ℕ) (byte : ℕ) (behind_first : List ℕ) (most : ℕ) (parts : bytes ≡ byte ∷ behind_first) (is_escape : byte ≡ 27) where
  escape : bytes ≡ 27 ∷ behind_first
  escape = parts ∙ ap (λ b. b ∷ behind_first) is_escape

  -- an ESC with which no sequence begins
  stays : ((more : List ℕ) → introduced_length (behind_first ++ more) ≡ 0) → IsFront bytes most (front.Byte 27)
  stays none = subst (λ l. IsFront l most (front.Byte 27)) (sym escape)
      (behind_first, refl, λ more. kept_stays 27 (behind_first ++ more) most (ap one_more (none more)))

  pub front_one : length behind_first ≡ 0 → IsFront bytes most front.Open
  front_one none = go behind_first none escape
    where
      go : (l : List ℕ) → length l ≡ 0 → bytes ≡ 27 ∷ l → IsFront bytes most front.Open
      go [] none is = subst (λ l. IsFront l most front.Open) (sym is) (omega arith, refl, refl)
      go (b ∷ bs) none is = absurd (omega (arith, none))

  module _ (second : ℕ) (behind : List ℕ) (more_parts : behind_first ≡ second ∷ behind) where
    -- another byte than `[`
    pub front_other : (second ≡ 91 → ⊥) → IsFront bytes most (front.Byte 27)
    front_other other = stays (λ more. ap (λ l. introduced_length (l ++ more)) more_parts
        ∙ ap (λ b. if b then one_more (ending_length (behind ++ more) 126 false) else 0) (ne_eqb second 91 other))

    module _ (is_bracket : second ≡ 91) where
      introduced : (more : List ℕ) → introduced_length (behind_first ++ more) ≡ one_more (ending_length (behind ++ more) 126 false)
      introduced more = ap (λ l. introduced_length (l ++ more)) (more_parts ∙ ap (λ b. b ∷ behind) is_bracket)

      whole : bytes ≡ 27 ∷ 91 ∷ behind
      whole = escape ∙ ap (λ l. 27 ∷ l) (more_parts ∙ ap (λ b. b ∷ behind) is_bracket)

      pub front_open : IsEnding behind 126 false ending.Open → IsFront bytes most front.Open
      front_open is = subst (λ l. IsFront l most front.Open) (sym whole)
          (omega (arith, is.0), ap (λ n. one_more (one_more n)) is.1, is.2)

      pub front_never : IsEnding behind 126 false ending.Never → IsFront bytes most (front.Byte 27)
      front_never is = stays (λ more. introduced more ∙ ap one_more (is more))

      -- none is left out any more
      pub front_all : most ≡ 0 → IsFront bytes most (front.Byte 27)
      front_all none = subst (λ m. IsFront bytes m (front.Byte 27)) (sym none)
          (subst (λ l. IsFront l 0 (front.Byte 27)) (sym escape) (behind_first, refl, λ more. kept_all 27 (behind_first ++ more)))

      pub front_sequence : (count : ℕ) → IsEnding behind 126 false (ending.Behind count) → 0 < most → IsFront bytes most (front.Sequence (count + 2))
      front_sequence count is some = subst (λ l. IsFront l most (front.Sequence (count + 2))) (sym whole) (go most count some is)
        where
          go : (most count : ℕ) → 0 < most → IsEnding behind 126 false (ending.Behind count) → IsFront (27 ∷ 91 ∷ behind) most (front.Sequence (count + 2))
          go zero count some is = absurd (omega (arith, some))
          go (suc m) zero some is = absurd (omega (arith, is.0))
          go (suc m) (suc n) some is =
              let all : suc (suc (suc n)) ≡ suc n + 2 = omega arith in
              subst (λ c. IsFront (27 ∷ 91 ∷ behind) (suc m) (front.Sequence c)) all (
                some,
                omega arith,
                omega (arith, is.1),
                λ more. kept_sequence (27 ∷ 91 ∷ behind) (suc (suc n)) m more (omega (arith, is.1)) (ap (λ n. one_more (one_more n)) (is.2 more))
                    ∙ ap (λ k. kept (drop (suc (suc (suc n))) (27 ∷ 91 ∷ behind) ++ more) 0 k) (one_less m),
              )
