-- Laws of what is remembered: each of it is what the maps answer, and stays so.
use Rattle.std.specs.Prelude.{◌≡◌, ◌==◌, ◌&&◌, ◌||◌, ◌+◌, ◌-◌, ◌<◌, ℕ, Bool, true, false, List, [], ◌∷◌, ◌++◌, Option, Some, None, cond, if◌then◌else◌, is_some, length}
use Rattle.std.specs.Prelude.{option_and_then, option_map, replicate, slice_get, take}
use Rattle.std.specs.Char.{is_ascii_control}
use Rattle.std.specs.List.{list_all, list_any}
use Rattle.std.proofs.Common.{ap, arith, refl, set, subst, suc, sym, zero, ◌∙◌}
use Rattle.std.proofs.lemmas.Bool.{and_from, and_parts, eqb-true, eq-eqb, or_right}
use Rattle.std.proofs.lemmas.List.Elements.{All-replicate, All-set}
use Rattle.std.proofs.lemmas.List.Folds.{list_all-append}
use Rattle.std.proofs.lemmas.List.Sums.{AllPass-from_list_all, list_all-from_AllPass}
use Rattle.smap_index.specs.declared.answer.Answer.{Answer}
use Rattle.smap_index.specs.declared.answer.Answer.TheVariants.{Nothing, Unmapped, Found}
use Rattle.smap_record.specs.Record.{MapRecord, answer_of_map}
use Rattle.smap_record.specs.Written.{is_ignored_where, text_of_source}
use Rattle.smap_trace.specs.MapsOf.{MapsByUrl}
use Rattle.smap_trace.specs.Rewritten.{location_of_answer, original_at, printable}
use Rattle.smap_trace.specs.Private.Remembered.{IsRemembered, is_answer, is_of_map, is_of_url, is_origin, is_right, is_same, location_from}
use Rattle.smap_trace.specs.Private.Remembered.{origin_at, origin_of_answer, url_text}
use Rattle.smap_trace.specs.declared.original.KnownOrigin.{KnownOrigin}
use Rattle.smap_trace.specs.declared.remembered.Remembered.{Remembered}
use Rattle.smap_trace.specs.declared.remembered.RememberedPlace.{RememberedPlace}
use Rattle.smap_trace.specs.declared.remembered.RememberedUrl.{RememberedUrl}

-- ---- an origin

one_same : (one other : Bool) → is_same one other ≡ true → one ≡ other
one_same true true is = refl
one_same true false is = sym is
one_same false true is = is
one_same false false is = refl

self_same : (one : Bool) → is_same one one ≡ true
self_same true = refl
self_same false = refl

origin_is : (one other : Option KnownOrigin) → is_origin one other ≡ true → one ≡ other
origin_is None None is = refl
origin_is None (Some other) is = absurd (cc)
origin_is (Some one) None is = absurd (cc)
origin_is (Some one) (Some other) is =
    let most = and_parts (one.source == other.source && one.line == other.line && one.column == other.column) (is_same one.is_named other.is_named) is in
    let more = and_parts (one.source == other.source && one.line == other.line) (one.column == other.column) most.0 in
    let two = and_parts (one.source == other.source) (one.line == other.line) more.0 in
    let source = eqb-true one.source other.source two.0 in
    let line = eqb-true one.line other.line two.1 in
    let column = eqb-true one.column other.column more.1 in
    let named = one_same one.is_named other.is_named most.1 in
    λ i. Some (record { source = source i; line = line i; column = column i; is_named = named i })

origin_self : (one : Option KnownOrigin) → is_origin one one ≡ true
origin_self None = refl
origin_self (Some one) =
    and_from _ _
    (and_from _ _ (and_from _ _ (eq-eqb one.source one.source refl) (eq-eqb one.line one.line refl)) (eq-eqb one.column one.column refl))
    (self_same one.is_named)

-- ---- where a place comes from

known_if : (is_bad : Bool) (name : List ℕ) → cond (is_some (if is_bad then None else Some name)) (Some name) None ≡ (if is_bad then None else Some name)
known_if true name = refl
known_if false name = refl

known_is : (name : Option (List ℕ)) → cond (is_some (printable name)) name None ≡ printable name
known_is None = refl
known_is (Some name) = known_if (length name == 0 || list_any is_ascii_control name) name

location_is : (stated : MapRecord) (answer : Answer) → option_map (location_from stated) (origin_of_answer stated answer) ≡ location_of_answer stated answer
location_is stated Nothing = refl
location_is stated (Unmapped column) = refl
location_is stated (Found column origin) =
    let source = slice_get stated.sources origin.source in
    λ i. Some (record {
      name = known_is (option_and_then text_of_source source) i;
      ignored = is_ignored_where source;
      line = origin.line + 1;
      column = origin.column + 1;
    })

-- the place that has the origin
pub original_is : (stated : MapRecord) (line column : ℕ) → option_map (location_from stated) (origin_at stated line column) ≡ original_at stated line column
original_is stated line column = location_is stated (answer_of_map stated (line - 1) (column - 1))

-- ---- lists

module _ {X : Type 0} where
  get_more : (xs : List X) (i : ℕ) (x y : X) → slice_get xs i ≡ Some x → slice_get (xs ++ y ∷ []) i ≡ Some x
  get_more [] i x y at = absurd (cc)
  get_more (z ∷ xs) zero x y at = at
  get_more (z ∷ xs) (suc i) x y at = get_more xs i x y at

module _ {X : Type 0} (test : X → Bool) where
  all_at : (xs : List X) (i : ℕ) (x : X) → list_all test xs ≡ true → slice_get xs i ≡ Some x → test x ≡ true
  all_at [] i x all at = absurd (cc)
  all_at (y ∷ xs) zero x all at =
      let same : y ≡ x = cc in
      subst (λ z. test z ≡ true) same (and_parts (test y) (list_all test xs) all).0
  all_at (y ∷ xs) (suc i) x all at = all_at xs i x (and_parts (test y) (list_all test xs) all).1 at

  all_set : (xs : List X) (i : ℕ) (x : X) → test x ≡ true → list_all test xs ≡ true → list_all test (set xs i x) ≡ true
  all_set xs i x is all = list_all-from_AllPass test (set xs i x) (All-set (λ y. test y ≡ true) xs i x is (AllPass-from_list_all test xs all))

  all_take : (n : ℕ) (xs : List X) → list_all test xs ≡ true → list_all test (take n xs) ≡ true
  all_take zero xs all = refl
  all_take (suc n) [] all = refl
  all_take (suc n) (y ∷ xs) all =
      let parts = and_parts (test y) (list_all test xs) all in
      and_from (test y) (list_all test (take n xs)) parts.0 (all_take n xs parts.1)

  all_grown : (n m : ℕ) (xs : List X) (x : X) → test x ≡ true → list_all test xs ≡ true → list_all test (take n xs ++ replicate m x) ≡ true
  all_grown n m xs x is all =
      list_all-append test (take n xs) (replicate m x)
      ∙ and_from (list_all test (take n xs)) (list_all test (replicate m x)) (all_take n xs all)
      (list_all-from_AllPass test (replicate m x) (All-replicate (λ y. test y ≡ true) m x is))

-- ---- what is remembered

module _ (maps : MapsByUrl) where
  answer_under : (urls : List RememberedUrl) (place : RememberedPlace) (known : RememberedUrl) (url : List ℕ) (stated : MapRecord)
      → slice_get urls place.url ≡ Some known → url_text known ≡ url → maps url ≡ Some stated
      → is_of_url maps (slice_get urls place.url) place ≡ is_origin place.origin (origin_at stated place.line place.column)
  answer_under urls place known url stated at text is =
      ap (λ u. is_of_url maps u place) at ∙ ap (λ t. is_of_map (maps t) place) text ∙ ap (λ m. is_of_map m place) is

  -- the origin that is remembered of a place is its origin
  pub recalled : (remembered : Remembered) (url : List ℕ) (line column : ℕ) (origin : Option KnownOrigin) (stated : MapRecord)
      → IsRemembered remembered url line column origin → maps url ≡ Some stated → is_right maps remembered ≡ true → origin ≡ origin_at stated line column
  recalled remembered url line column origin stated it is right =
      let answer = all_at (is_answer maps remembered.urls.items) remembered.places.items it.index it.place right it.at in
      let of_url : is_of_url maps (slice_get remembered.urls.items it.place.url) it.place ≡ true =
      ap (λ b. b || is_of_url maps (slice_get remembered.urls.items it.place.url) it.place) (sym it.used) ∙ answer in
      let same = sym (answer_under remembered.urls.items it.place it.url_is.known url stated it.url_is.at it.url_is.text is) ∙ of_url in
      sym it.origin_is ∙ origin_is it.place.origin (origin_at stated it.place.line it.place.column) same ∙ (λ i. origin_at stated (it.line_is i) (it.column_is i))

  -- a place with its origin may be put
  pub answer_is : (urls : List RememberedUrl) (place : RememberedPlace) (known : RememberedUrl) (url : List ℕ) (stated : MapRecord)
      → slice_get urls place.url ≡ Some known → url_text known ≡ url → maps url ≡ Some stated
      → place.origin ≡ origin_at stated place.line place.column → is_answer maps urls place ≡ true
  answer_is urls place known url stated at text is origin =
      or_right (place.line == 0) _
      (answer_under urls place known url stated at text is ∙ ap (λ o. is_origin place.origin o) (sym origin) ∙ origin_self place.origin)

  pub right_put : (urls : List RememberedUrl) (places : List RememberedPlace) (index : ℕ) (place : RememberedPlace) → is_answer maps urls place ≡ true
      → list_all (is_answer maps urls) places ≡ true → list_all (is_answer maps urls) (set places index place) ≡ true
  right_put urls places index place is right = all_set (is_answer maps urls) places index place is right

  pub right_grown : (urls : List RememberedUrl) (places : List RememberedPlace) (is_grown : Bool) (n m : ℕ) (place : RememberedPlace)
      → (place.line == 0) ≡ true → list_all (is_answer maps urls) places ≡ true
      → list_all (is_answer maps urls) (if is_grown then take n places ++ replicate m place else places) ≡ true
  right_grown urls places true n m place empty right =
      all_grown (is_answer maps urls) n m places place
      (ap (λ b. b || is_of_url maps (slice_get urls place.url) place) empty) right
  right_grown urls places false n m place empty right = right

  -- a URL more
  answer_kept : (urls : List RememberedUrl) (more : RememberedUrl) (place : RememberedPlace) (is_none : Bool) (known : Option RememberedUrl)
      → slice_get urls place.url ≡ known → (is_none || is_of_url maps known place) ≡ true
      → (is_none || is_of_url maps (slice_get (urls ++ more ∷ []) place.url) place) ≡ true
  answer_kept urls more place true known at is = refl
  answer_kept urls more place false None at is = absurd (cc)
  answer_kept urls more place false (Some known) at is = ap (λ u. is_of_url maps u place) (get_more urls place.url known more at) ∙ is

  pub right_with_url : (urls : List RememberedUrl) (more : RememberedUrl) (places : List RememberedPlace) → list_all (is_answer maps urls) places ≡ true
      → list_all (is_answer maps (urls ++ more ∷ [])) places ≡ true
  right_with_url urls more [] right = refl
  right_with_url urls more (place ∷ places) right =
      let parts = and_parts (is_answer maps urls place) (list_all (is_answer maps urls) places) right in
      and_from (is_answer maps (urls ++ more ∷ []) place) (list_all (is_answer maps (urls ++ more ∷ [])) places)
      (answer_kept urls more place (place.line == 0) (slice_get urls place.url) refl parts.0) (right_with_url urls more places parts.1)

-- a room that is not empty, where it would be unless something held
pub held : (holds : Bool) (room : ℕ) → 0 < cond holds room 0 → holds ≡ true
held true room some = refl
held false room some = absurd (omega (arith, some))
