-- Of values within a bound: their bytes, and how many of them there is room for.
use Rattle.std.proofs.Common.{◌≡◌, ℕ, ◌+◌, ◌-◌, ◌<◌, ◌≤◌, ◌==◌, Bool, true, false, cond, List, [], ◌∷◌, ◌++◌, Option, Some, None, length, length-append, take, drop, nat_le, refl, sym, ap, arith, eqb-true, le-leb, leb-true, leb-false, inl, inr, ◌∙◌}
use Rattle.std.proofs.lemmas.Bool.{cases_Bool, lt-leb, or_cases, or_left, or_right}
use Rattle.std.proofs.lemmas.List.Sums.{sum_by-cons, sum_by-append}
use Rattle.std.proofs.lemmas.Slice.Eq.{bytes_eq-Decides}
use Rattle.std.specs.Option.{option_map_or}
use Rattle.std.specs.Str.{bytes_eq}
use Rattle.smap_locations.specs.ByText.{value_under}
use Rattle.smap_kept.specs.Bounded.{bytes_of, entry_bytes, fitting, is_within}
use Rattle.smap_kept.specs.InOrder.{in_front, used, without}
use Rattle.smap_kept.specs.declared.bounded.Counted.{Counted}
use Rattle.smap_kept.proofs.Numbers.{all_stay}

module _ {T : Type 0} where
  -- ---- one comes or goes

  pub bytes_with : (e : List ℕ × Counted T) (entries : List (List ℕ × Counted T)) → bytes_of (e ∷ entries) ≡ entry_bytes e + bytes_of entries
  bytes_with e entries = sum_by-cons entry_bytes e entries

  out_or : (text : List ℕ) (e : List ℕ × Counted T) (entries : List (List ℕ × Counted T)) (one : Counted T) (b : Bool) → bytes_eq text e.0 ≡ b
      → cond b (Some e.1) (value_under text entries) ≡ Some one
      → (value_under text entries ≡ Some one → bytes_of (without text entries) + entry_bytes (text, one) ≡ bytes_of entries)
      → bytes_of (cond b entries (e ∷ without text entries)) + entry_bytes (text, one) ≡ bytes_of (e ∷ entries)
  out_or text e entries one true same is below =
      let same_one : e.1 ≡ one = cc in
      let same_bytes : entry_bytes (text, one) ≡ entry_bytes e =
      ap (λ t. entry_bytes (t, one)) ((bytes_eq-Decides text e.0).0 same) ∙ ap (λ o. entry_bytes (e.0, o)) (sym same_one) in
      omega (arith, same_bytes, bytes_with e entries)
  out_or text e entries one false differ is below =
      omega (arith, below is, bytes_with e entries, bytes_with e (without text entries))

  pub bytes_without : (text : List ℕ) (entries : List (List ℕ × Counted T)) (one : Counted T) → value_under text entries ≡ Some one
      → bytes_of (without text entries) + entry_bytes (text, one) ≡ bytes_of entries
  bytes_without text [] one is = cc
  bytes_without text (e ∷ entries) one is =
      out_or text e entries one (bytes_eq text e.0) refl is (bytes_without text entries one)

  count_or : (e : List ℕ × Counted T) (left entries : List (List ℕ × Counted T)) (b : Bool) (value : Counted T) (rest : Option (Counted T)) (one : Counted T)
      → cond b (Some value) rest ≡ Some one → (rest ≡ Some one → length left + 1 ≡ length entries) → length (cond b entries (e ∷ left)) + 1 ≡ length (e ∷ entries)
  count_or e left entries true value rest one is below = omega arith
  count_or e left entries false value rest one is below = omega (arith, below is)

  pub count_without : (text : List ℕ) (entries : List (List ℕ × Counted T)) (one : Counted T) → value_under text entries ≡ Some one
      → length (without text entries) + 1 ≡ length entries
  count_without text [] one is = cc
  count_without text (e ∷ entries) one is =
      count_or e (without text entries) entries (bytes_eq text e.0) e.1 (value_under text entries) one is (count_without text entries one)

  pub bytes_out : (text : List ℕ) (entries : List (List ℕ × Counted T)) (found : Option (Counted T)) → value_under text entries ≡ found
      → bytes_of (without text entries) + option_map_or (λ one. entry_bytes (text, one)) found 0 ≡ bytes_of entries
  bytes_out text entries None is = omega (arith, ap bytes_of (all_stay text entries is))
  bytes_out text entries (Some one) is = bytes_without text entries one is

  pub count_out : (text : List ℕ) (entries : List (List ℕ × Counted T)) (found : Option (Counted T)) → value_under text entries ≡ found
      → length (without text entries) ≤ length entries
  count_out text entries None is = omega (arith, ap length (all_stay text entries is))
  count_out text entries (Some one) is = omega (arith, count_without text entries one is)

  -- what is used keeps its bytes
  used_or : (text : List ℕ) (entries : List (List ℕ × Counted T)) (found : Option (Counted T)) → value_under text entries ≡ found
      → (bytes_of (in_front text found entries) ≡ bytes_of entries) × (length (in_front text found entries) ≡ length entries)
  used_or text entries None is = (refl, refl)
  used_or text entries (Some one) is =
      (omega (arith, bytes_without text entries one is, bytes_with (text, one) (without text entries)), omega (arith, count_without text entries one is))

  pub used_bytes : (text : List ℕ) (entries : List (List ℕ × Counted T))
      → (bytes_of (used text entries) ≡ bytes_of entries) × (length (used text entries) ≡ length entries)
  used_bytes text entries = used_or text entries (value_under text entries) refl

  -- ---- within the bound

  alone : (most : ℕ) (entries : List (List ℕ × Counted T)) → length entries ≤ 1 → is_within most entries ≡ true
  alone most [] few = or_left _ _ (le-leb 0 most (omega arith))
  alone most (e ∷ []) few = or_right _ _ refl
  alone most (e ∷ x ∷ entries) few = absurd (omega (arith, few))

  pub within_fewer : (most : ℕ) (entries new : List (List ℕ × Counted T)) → bytes_of new ≤ bytes_of entries → length new ≤ length entries
      → is_within most entries ≡ true → is_within most new ≡ true
  within_fewer most entries new bytes count within =
      elim (or_cases (nat_le (bytes_of entries) most) (length entries == 1) within) [
        | inl le ↦ or_left _ _ (le-leb (bytes_of new) most (omega (arith, leb-true (bytes_of entries) most le, bytes)))
        | inr one ↦ alone most new (omega (arith, eqb-true (length entries) 1 one, count))
      ]

  -- ---- what there is room for

  fits_or : (room : ℕ) (e : List ℕ × Counted T) (fit : List (List ℕ × Counted T)) (b : Bool) → nat_le (entry_bytes e) room ≡ b
      → bytes_of fit ≤ room - entry_bytes e → bytes_of (cond b (e ∷ fit) []) ≤ room
  fits_or room e fit true le below = omega (arith, leb-true (entry_bytes e) room le, bytes_with e fit, below)
  fits_or room e fit false le below = omega arith

  pub fits : (room : ℕ) (entries : List (List ℕ × Counted T)) → bytes_of (fitting room entries) ≤ room
  fits room [] = omega arith
  fits room (e ∷ entries) =
      fits_or room e (fitting (room - entry_bytes e) entries) (nat_le (entry_bytes e) room) refl (fits (room - entry_bytes e) entries)

  fewer_or : (e : List ℕ × Counted T) (fit entries : List (List ℕ × Counted T)) (b : Bool) → length fit ≤ length entries
      → length (cond b (e ∷ fit) []) ≤ length (e ∷ entries)
  fewer_or e fit entries true below = omega (arith, below)
  fewer_or e fit entries false below = omega arith

  pub fewer : (room : ℕ) (entries : List (List ℕ × Counted T)) → length (fitting room entries) ≤ length entries
  fewer room [] = omega arith
  fewer room (e ∷ entries) =
      fewer_or e (fitting (room - entry_bytes e) entries) entries (nat_le (entry_bytes e) room) (fewer (room - entry_bytes e) entries)

  -- all, where their bytes are within it
  pub all_fit : (room : ℕ) (entries : List (List ℕ × Counted T)) → bytes_of entries ≤ room → fitting room entries ≡ entries
  all_fit room [] within = refl
  all_fit room (e ∷ entries) within =
      let sum = bytes_with e entries in
      let one : entry_bytes e ≤ room = omega (arith, sum, within) in
      let others : bytes_of entries ≤ room - entry_bytes e = omega (arith, sum, within) in
      ap (λ b. cond b (e ∷ fitting (room - entry_bytes e) entries) []) (le-leb (entry_bytes e) room one)
      ∙ ap (λ l. e ∷ l) (all_fit (room - entry_bytes e) entries others)

  -- the last goes, where all are too many
  last_or : (room : ℕ) (x : List ℕ × Counted T) (with_last rest : List (List ℕ × Counted T)) (b : Bool) → nat_le (entry_bytes x) room ≡ b
      → (entry_bytes x ≤ room → with_last ≡ rest) → cond b (x ∷ with_last) [] ≡ cond b (x ∷ rest) []
  last_or room x with_last rest true le below = ap (λ l. x ∷ l) (below (leb-true (entry_bytes x) room le))
  last_or room x with_last rest false le below = refl

  pub last_goes : (room : ℕ) (entries : List (List ℕ × Counted T)) (e : List ℕ × Counted T) → room < bytes_of (entries ++ e ∷ [])
      → fitting room (entries ++ e ∷ []) ≡ fitting room entries
  last_goes room [] e past =
      let long : room < entry_bytes e = omega (arith, past, bytes_with e []) in
      ap (λ b. cond b (e ∷ fitting (room - entry_bytes e) []) []) (lt-leb (entry_bytes e) room long)
  last_goes room (x ∷ entries) e past =
      let sum = bytes_with x (entries ++ e ∷ []) in
      last_or room x (fitting (room - entry_bytes x) (entries ++ e ∷ [])) (fitting (room - entry_bytes x) entries) (nat_le (entry_bytes x) room) refl
      (λ le. last_goes (room - entry_bytes x) entries e (omega (arith, sum, past, le)))

  -- none, where there is no room
  pub none_fits : (entries : List (List ℕ × Counted T)) → fitting 0 entries ≡ []
  none_fits [] = refl
  none_fits (e ∷ entries) =
      let some : 0 < entry_bytes e = omega arith in
      ap (λ b. cond b (e ∷ fitting (0 - entry_bytes e) entries) []) (lt-leb (entry_bytes e) 0 some)

  pub within_kept : (most : ℕ) (e : List ℕ × Counted T) (entries : List (List ℕ × Counted T)) → is_within most (e ∷ fitting (most - entry_bytes e) entries) ≡ true
  within_kept most e entries = elim (cases_Bool (nat_le (entry_bytes e) most)) [
    | inl le ↦ or_left _ _ (le-leb _ most
        (omega (arith, leb-true (entry_bytes e) most le, bytes_with e (fitting (most - entry_bytes e) entries), fits (most - entry_bytes e) entries)))
    | inr past ↦
        let none : most - entry_bytes e ≡ 0 = omega (arith, leb-false (entry_bytes e) most past) in
        ap (λ room. is_within most (e ∷ fitting room entries)) none ∙ ap (λ l. is_within most (e ∷ l)) (none_fits entries) ∙ or_right _ _ refl
  ]

  -- ---- one step: the last goes, and the first stays

  pub record IsStep (entries new : List (List ℕ × Counted T)) (e : List ℕ × Counted T) (left room : ℕ) : Type 0 where
    pub first : take 1 new ≡ take 1 entries
    pub sum : bytes_of (drop 1 new) + entry_bytes e ≡ left
    pub fit : fitting room (drop 1 new) ≡ fitting room (drop 1 entries)
    pub shorter : length new + 1 ≡ length entries

  pub is_step : (new : List (List ℕ × Counted T)) (e : List ℕ × Counted T) (left room : ℕ) → bytes_of (drop 1 (new ++ e ∷ [])) ≡ left → room < left
      → IsStep (new ++ e ∷ []) new e left room
  is_step [] e left room sum past =
      let none : 0 ≡ left = sum in
      absurd (omega (arith, none, past))
  is_step (x ∷ new) e left room sum past =
      let all = sum_by-append entry_bytes new (e ∷ []) in
      let last = bytes_with e [] in
      record {
        first = refl;
        sum = omega (arith, all, last, sum);
        fit = sym (last_goes room new e (omega (arith, sum, past)));
        shorter = count_last new e;
      }
    where
      count_last : (new : List (List ℕ × Counted T)) (e : List ℕ × Counted T) → length (x ∷ new) + 1 ≡ length ((x ∷ new) ++ e ∷ [])
      count_last new e = omega (arith, length-append new (e ∷ []))
