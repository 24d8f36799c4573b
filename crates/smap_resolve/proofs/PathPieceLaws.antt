-- How the pieces of a path go on, one after another: what is left has no detours, and going on by it is going on by all.
use Rattle.std.proofs.Common.{◌≡◌, ℕ, zero, suc, ◌-◌, List, [], ◌∷◌, ◌++◌, ◌⊎◌, ◌&&◌, Bool, true, false, Option, Some, length, take, drop, refl, ap, sym, subst, ◌∙◌}
use Rattle.std.proofs.Common.{arith, eqb, ⊎_elim, inl, inr, append_assoc, append-nil, length-append}
use Rattle.std.specs.List.{AllByRecursion, fold, slice_get}
use Rattle.std.specs.Option.{option_map_or}
use Rattle.std.specs.Prelude.{not}
use Rattle.std.proofs.Math.Seq.{take-append_seam}
use Rattle.std.proofs.lemmas.Bool.{cases_Bool, cond-true, cond-false, cond_both, eqb-true, and_parts, both_ways, not_from_false, not_from_true, not-true}
use Rattle.std.proofs.lemmas.List.Sums.{fold-append}
use Rattle.smap_resolve.specs.Paths.{IsWithoutDetours, can_go_back, folder_of, goes_back, is_rooted, one_further, pieces_from, pieces_of_path, stays}

-- ---- lists

pub all_take : {A : Type 0} (P : A → Type 0) (n : ℕ) (xs : List A) → AllByRecursion P xs → AllByRecursion P (take n xs)
all_take P zero xs all = tt
all_take P (suc n) [] all = tt
all_take P (suc n) (x ∷ xs) all = (all.0, all_take P n xs all.1)

pub all_drop : {A : Type 0} (P : A → Type 0) (n : ℕ) (xs : List A) → AllByRecursion P xs → AllByRecursion P (drop n xs)
all_drop P zero xs all = all
all_drop P (suc n) [] all = tt
all_drop P (suc n) (x ∷ xs) all = all_drop P n xs all.1

pub all_both : {A : Type 0} (P : A → Type 0) (xs ys : List A) → AllByRecursion P xs → AllByRecursion P ys → AllByRecursion P (xs ++ ys)
all_both P [] ys front behind = behind
all_both P (x ∷ xs) ys front behind = (front.0, all_both P xs ys front.1 behind)

pub all_front : {A : Type 0} (P : A → Type 0) (xs ys : List A) → AllByRecursion P (xs ++ ys) → AllByRecursion P xs
all_front P [] ys all = tt
all_front P (x ∷ xs) ys all = (all.0, all_front P xs ys all.1)

all_last : {A : Type 0} (P : A → Type 0) (xs : List A) (y : A) → AllByRecursion P (xs ++ y ∷ []) → P y
all_last P [] y all = all.0
all_last P (x ∷ xs) y all = all_last P xs y all.1

-- a list is empty, or it has a last element
pub ends : {A : Type 0} (xs : List A) → (xs ≡ []) ⊎ ((front : List A) × (last : A) × (xs ≡ front ++ last ∷ []))
ends [] = inl refl
ends (x ∷ xs) =
    ⊎_elim (λ none. inr ([], x, ap (λ l. x ∷ l) none)) (λ some. inr (x ∷ some.0, some.1, ap (λ l. x ∷ l) some.2)) (ends xs)

after_front : {A : Type 0} (front : List A) (last : A) → slice_get (front ++ last ∷ []) (length front) ≡ Some last
after_front [] last = refl
after_front (x ∷ front) last = after_front front last

front_length : {A : Type 0} (front : List A) (last : A) → length (front ++ last ∷ []) - 1 ≡ length front
front_length front last = omega (arith, length-append front (last ∷ []))

pub last_is : {A : Type 0} (front : List A) (last : A) → slice_get (front ++ last ∷ []) (length (front ++ last ∷ []) - 1) ≡ Some last
last_is front last = ap (slice_get (front ++ last ∷ [])) (front_length front last) ∙ after_front front last

pub without_last : {A : Type 0} (front : List A) (last : A) → take (length (front ++ last ∷ []) - 1) (front ++ last ∷ []) ≡ front
without_last front last = ap (λ n. take n (front ++ last ∷ [])) (front_length front last) ∙ take-append_seam front (last ∷ [])

none_left : {A : Type 0} (xs : List A) → eqb (length xs) 0 ≡ true → xs ≡ []
none_left [] is = refl
none_left (x ∷ xs) is = let none : length (x ∷ xs) ≡ 0 = eqb-true _ _ is in absurd (omega arith)

-- ---- one piece further

back_from : (front : List (List ℕ)) (last : List ℕ) → can_go_back (front ++ last ∷ []) ≡ not (goes_back last)
back_from front last = ap (λ (found : Option (List ℕ)). option_map_or (λ last. not (goes_back last)) found false) (last_is front last)

-- nothing goes back from `..` alone
none_to_take : (front : List (List ℕ)) → AllByRecursion (λ (piece : List ℕ). goes_back piece ≡ true) front → can_go_back front ≡ false
none_to_take front all =
    ⊎_elim (λ (none : front ≡ []). ap can_go_back none)
    (λ some.
    let last : goes_back some.1 ≡ true = all_last (λ (piece : List ℕ). goes_back piece ≡ true) some.0 some.1
    (subst (AllByRecursion (λ (piece : List ℕ). goes_back piece ≡ true)) some.2 all) in
    ap can_go_back some.2 ∙ back_from some.0 some.1 ∙ not_from_true _ last)
    (ends front)

module _ (rooted : Bool) (pieces : List (List ℕ)) (piece : List ℕ) where
  stayed : stays piece ≡ true → one_further rooted pieces piece ≡ pieces
  stayed is = cond-true _ _ _ is

  took_back : stays piece ≡ false → goes_back piece ≡ true → can_go_back pieces ≡ true → one_further rooted pieces piece ≡ take (length pieces - 1) pieces
  took_back fresh back can =
      let both : (goes_back piece && can_go_back pieces) ≡ true = λ i. back i && can i in
      cond-false _ _ _ fresh ∙ cond-true _ _ _ both

  at_root : stays piece ≡ false → goes_back piece ≡ true → can_go_back pieces ≡ false → (rooted && eqb (length pieces) 0) ≡ true
      → one_further rooted pieces piece ≡ pieces
  at_root fresh back cannot root =
      let not_both : (goes_back piece && can_go_back pieces) ≡ false = λ i. back i && cannot i in
      let rest : (goes_back piece && rooted && eqb (length pieces) 0) ≡ (rooted && eqb (length pieces) 0) =
      λ i. back i && rooted && eqb (length pieces) 0 in
      cond-false _ _ _ fresh ∙ cond-false _ _ _ not_both ∙ cond-true _ _ _ (rest ∙ root)

  pushed_back : stays piece ≡ false → goes_back piece ≡ true → can_go_back pieces ≡ false → (rooted && eqb (length pieces) 0) ≡ false
      → one_further rooted pieces piece ≡ pieces ++ piece ∷ []
  pushed_back fresh back cannot off =
      let not_both : (goes_back piece && can_go_back pieces) ≡ false = λ i. back i && cannot i in
      let rest : (goes_back piece && rooted && eqb (length pieces) 0) ≡ (rooted && eqb (length pieces) 0) =
      λ i. back i && rooted && eqb (length pieces) 0 in
      cond-false _ _ _ fresh ∙ cond-false _ _ _ not_both ∙ cond-false _ _ _ (rest ∙ off)

  pub pushed : stays piece ≡ false → goes_back piece ≡ false → one_further rooted pieces piece ≡ pieces ++ piece ∷ []
  pushed fresh name =
      let not_both : (goes_back piece && can_go_back pieces) ≡ false = λ i. name i && can_go_back pieces in
      let not_all : (goes_back piece && rooted && eqb (length pieces) 0) ≡ false = λ i. name i && rooted && eqb (length pieces) 0 in
      cond-false _ _ _ fresh ∙ cond-false _ _ _ not_both ∙ cond-false _ _ _ not_all

  -- what holds of all pieces, and of this one where it does not stay, holds of what is left
  keeps : (P : List ℕ → Type 0) → AllByRecursion P pieces → (stays piece ≡ false → P piece) → AllByRecursion P (one_further rooted pieces piece)
  keeps P all one =
      cond_both (stays piece) _ _ (AllByRecursion P) (λ _. all)
      (λ fresh.
      cond_both (goes_back piece && can_go_back pieces) _ _ (AllByRecursion P) (λ _. all_take P (length pieces - 1) pieces all)
      (λ _. cond_both (goes_back piece && rooted && eqb (length pieces) 0) _ _ (AllByRecursion P) (λ _. all)
      (λ _. all_both P pieces (piece ∷ []) all (one fresh, tt))))

pub all_kept : (P : List ℕ → Type 0) (rooted : Bool) (more pieces : List (List ℕ)) → AllByRecursion P pieces → AllByRecursion P more
    → AllByRecursion P (fold (one_further rooted) pieces more)
all_kept P rooted [] pieces all rest = all
all_kept P rooted (piece ∷ more) pieces all rest =
    all_kept P rooted more (one_further rooted pieces piece) (keeps rooted pieces piece P all (λ _. rest.0)) rest.1

-- ---- no detours

abbrev Fresh : List ℕ → Type 0
Fresh piece = stays piece ≡ false

abbrev Back : List ℕ → Type 0
Back piece = goes_back piece ≡ true

abbrev Name : List ℕ → Type 0
Name piece = goes_back piece ≡ false

module _ (rooted : Bool) (pieces : List (List ℕ)) (piece : List ℕ) (is : IsWithoutDetours rooted pieces) where
  left : AllByRecursion Fresh (one_further rooted pieces piece)
  left = keeps rooted pieces piece Fresh is.none_stays (λ fresh. fresh)

  -- where they stay
  same : one_further rooted pieces piece ≡ pieces → IsWithoutDetours rooted (one_further rooted pieces piece)
  same stay = subst (IsWithoutDetours rooted) (sym stay) is

  -- where the last name is taken back
  one_less : (names : List (List ℕ)) (last : List ℕ) → is.behind ≡ names ++ last ∷ [] → one_further rooted pieces piece ≡ take (length pieces - 1) pieces
      → IsWithoutDetours rooted (one_further rooted pieces piece)
  one_less names last behind_is took =
      let whole : pieces ≡ (is.front ++ names) ++ last ∷ [] =
      is.pieces_are ∙ ap (λ l. is.front ++ l) behind_is ∙ sym (append_assoc is.front names (last ∷ [])) in
      record {
        none_stays = left;
        front = is.front;
        behind = names;
        pieces_are = took ∙ ap (λ (l : List (List ℕ)). take (length l - 1) l) whole ∙ without_last (is.front ++ names) last;
        all_back = is.all_back;
        none_back = all_front Name names (last ∷ []) (subst (AllByRecursion Name) behind_is is.none_back);
        none_from_root = is.none_from_root;
      }

  -- where a name is put behind them
  name_more : goes_back piece ≡ false → one_further rooted pieces piece ≡ pieces ++ piece ∷ [] → IsWithoutDetours rooted (one_further rooted pieces piece)
  name_more name more = record {
    none_stays = left;
    front = is.front;
    behind = is.behind ++ piece ∷ [];
    pieces_are = more ∙ ap (λ l. l ++ piece ∷ []) is.pieces_are ∙ append_assoc is.front is.behind (piece ∷ []);
    all_back = is.all_back;
    none_back = all_both Name is.behind (piece ∷ []) is.none_back (name, tt);
    none_from_root = is.none_from_root;
  }

  all_front_is : is.behind ≡ [] → pieces ≡ is.front
  all_front_is none = is.pieces_are ∙ ap (λ l. is.front ++ l) none ∙ append-nil is.front

  -- where a `..` is put behind others
  back_more : goes_back piece ≡ true → is.behind ≡ [] → (rooted && eqb (length pieces) 0) ≡ false → one_further rooted pieces piece ≡ pieces ++ piece ∷ []
      → IsWithoutDetours rooted (one_further rooted pieces piece)
  back_more back none off more = record {
    none_stays = left;
    front = is.front ++ piece ∷ [];
    behind = [];
    pieces_are = more ∙ ap (λ l. l ++ piece ∷ []) (all_front_is none) ∙ sym (append-nil (is.front ++ piece ∷ []));
    all_back = all_both Back is.front (piece ∷ []) is.all_back (back, tt);
    none_back = tt;
    none_from_root = λ root.
        let empty : eqb (length pieces) 0 ≡ true = ap (λ (l : List (List ℕ)). eqb (length l) 0) (all_front_is none ∙ is.none_from_root root) in
        absurd (both_ways _ off (λ i. root i && empty i));
  }

  last_name : (names : List (List ℕ)) (last : List ℕ) → is.behind ≡ names ++ last ∷ [] → can_go_back pieces ≡ true
  last_name names last behind_is =
      ap can_go_back (is.pieces_are ∙ ap (λ l. is.front ++ l) behind_is ∙ sym (append_assoc is.front names (last ∷ [])))
      ∙ back_from (is.front ++ names) last
      ∙ not_from_false _ (all_last Name names last (subst (AllByRecursion Name) behind_is is.none_back))

  none_to_go : is.behind ≡ [] → can_go_back pieces ≡ false
  none_to_go none = ap can_go_back (all_front_is none) ∙ none_to_take is.front is.all_back

  further : IsWithoutDetours rooted (one_further rooted pieces piece)
  further =
      ⊎_elim
      (λ here. same (stayed rooted pieces piece here))
      (λ fresh.
      ⊎_elim
      (λ back.
      ⊎_elim
      (λ (none : is.behind ≡ []).
      let cannot = none_to_go none in
      ⊎_elim
      (λ root. same (at_root rooted pieces piece fresh back cannot root))
      (λ off. back_more back none off (pushed_back rooted pieces piece fresh back cannot off))
      (cases_Bool (rooted && eqb (length pieces) 0)))
      (λ some. one_less some.0 some.1 some.2 (took_back rooted pieces piece fresh back (last_name some.0 some.1 some.2)))
      (ends is.behind))
      (λ name. name_more name (pushed rooted pieces piece fresh name))
      (cases_Bool (goes_back piece)))
      (cases_Bool (stays piece))

pub goes_on : (rooted : Bool) (more pieces : List (List ℕ)) → IsWithoutDetours rooted pieces → IsWithoutDetours rooted (fold (one_further rooted) pieces more)
goes_on rooted [] pieces is = is
goes_on rooted (piece ∷ more) pieces is = goes_on rooted more (one_further rooted pieces piece) (further rooted pieces piece is)

pub goes_on_plainly : (file text : List ℕ) → IsWithoutDetours (is_rooted file) (pieces_from file text)
goes_on_plainly file text =
    goes_on (is_rooted file) (folder_of file ++ pieces_of_path text) []
    (record { none_stays = tt; front = []; behind = []; pieces_are = refl; all_back = tt; none_back = tt; none_from_root = λ _. refl })

-- ---- going on by what is left

-- From these pieces, or the root itself, one goes on by what is left of others as by those others: `..` takes the same
-- name back, whether it is met before or after.
module _ (rooted inner : Bool) (pieces : List (List ℕ)) (root : inner ≡ true → (rooted ≡ true) × (pieces ≡ [])) where
  abbrev on : List (List ℕ) → List (List ℕ)
  on more = fold (one_further rooted) pieces more

  module _ (met : List (List ℕ)) (piece : List ℕ) where
    on_more : on (met ++ piece ∷ []) ≡ one_further rooted (on met) piece
    on_more = fold-append (one_further rooted) pieces met (piece ∷ [])

    put : one_further inner met piece ≡ met ++ piece ∷ [] → on (one_further inner met piece) ≡ one_further rooted (on met) piece
    put more = ap on more ∙ on_more

    -- the last of them is taken back
    taken : (front : List (List ℕ)) (last : List ℕ) → met ≡ front ++ last ∷ [] → stays last ≡ false → goes_back last ≡ false → stays piece ≡ false
        → goes_back piece ≡ true → can_go_back met ≡ true → on (one_further inner met piece) ≡ one_further rooted (on met) piece
    taken front last met_is kept name fresh back can =
        let there : on met ≡ on front ++ last ∷ [] =
        ap on met_is ∙ fold-append (one_further rooted) pieces front (last ∷ []) ∙ pushed rooted (on front) last kept name in
        let less : one_further inner met piece ≡ front =
        took_back inner met piece fresh back can ∙ ap (λ (l : List (List ℕ)). take (length l - 1) l) met_is ∙ without_last front last in
        let also : one_further rooted (on met) piece ≡ on front =
        ap (λ l. one_further rooted l piece) there
        ∙ took_back rooted (on front ++ last ∷ []) piece fresh back (back_from (on front) last ∙ not_from_false _ name)
        ∙ without_last (on front) last in
        ap on less ∙ sym also

    -- nothing stands before the root
    rooted_too : stays piece ≡ false → goes_back piece ≡ true → can_go_back met ≡ false → (inner && eqb (length met) 0) ≡ true
        → on (one_further inner met piece) ≡ one_further rooted (on met) piece
    rooted_too fresh back cannot at =
        let both = and_parts _ _ at in
        let is = root both.0 in
        let none : on met ≡ [] = ap on (none_left met both.1) ∙ is.1 in
        let here : one_further rooted (on met) piece ≡ on met =
        at_root rooted (on met) piece fresh back (ap can_go_back none) (λ i. is.0 i && eqb (length (none i)) 0) in
        ap on (at_root inner met piece fresh back cannot at) ∙ sym here

    one_on : AllByRecursion Fresh met → on (one_further inner met piece) ≡ one_further rooted (on met) piece
    one_on all =
        ⊎_elim
        (λ here. ap on (stayed inner met piece here) ∙ sym (stayed rooted (on met) piece here))
        (λ fresh.
        ⊎_elim
        (λ back.
        ⊎_elim
        (λ can.
        ⊎_elim
        (λ (none : met ≡ []). absurd (both_ways _ (ap can_go_back none) can))
        (λ some.
        let name : not (goes_back some.1) ≡ true = sym (back_from some.0 some.1) ∙ sym (ap can_go_back some.2) ∙ can in
        taken some.0 some.1 some.2 (all_last Fresh some.0 some.1 (subst (AllByRecursion Fresh) some.2 all)) (not-true _ name) fresh back can)
        (ends met))
        (λ cannot.
        ⊎_elim
        (λ at. rooted_too fresh back cannot at)
        (λ off. put (pushed_back inner met piece fresh back cannot off))
        (cases_Bool (inner && eqb (length met) 0)))
        (cases_Bool (can_go_back met)))
        (λ name. put (pushed inner met piece fresh name))
        (cases_Bool (goes_back piece)))
        (cases_Bool (stays piece))

  pub on_by_all : (more met : List (List ℕ)) → AllByRecursion Fresh met
      → on (fold (one_further inner) met more) ≡ fold (one_further rooted) (on met) more
  on_by_all [] met all = refl
  on_by_all (piece ∷ more) met all =
      on_by_all more (one_further inner met piece) (keeps inner met piece Fresh all (λ fresh. fresh))
      ∙ ap (λ l. fold (one_further rooted) l more) (one_on met piece all)
