-- Entries that are moved to the front, and those that come and go.
use Rattle.std.proofs.Common.{◌≡◌, ℕ, ◌+◌, ◌-◌, ◌^◌, ◌<◌, ◌≤◌, Bool, true, false, cond, List, [], ◌∷◌, ◌++◌, Some, None, length, take, refl, sym, ap, subst, arith, ne_eqb, nat_eq, take_all, Global, Vec, ◌∙◌}
use Rattle.std.proofs.lemmas.Slice.Eq.{bytes_eq-Decides}
use Rattle.std.proofs.Math.Seq.{take-length}
use Rattle.std.proofs.lemmas.List.{take_more}
use Rattle.std.proofs.lemmas.Option.{get_or_from_slice_get, slice_get_within}
use Rattle.std.specs.BTreeMap.{BTreeMap}
use Rattle.std.specs.Cmp.Lexicographic.{nat_list_eq_equiv, slice_cmp}
use Rattle.std.specs.List.{slice_get}
use Rattle.std.specs.Map.{lookup, remove_entry, KeepsOthers}
use Rattle.std.specs.Option.{option_map_or}
use Rattle.std.specs.Ordering.{nat_cmp, eq_by_cmp}
use Rattle.std.specs.Str.{bytes_eq}
use Rattle.lru.specs.LruCache.{LruCache, lru_cache, promoted, put_entries}
use Rattle.smap_locations.specs.ByText.{value_under}
use Rattle.smap_locations.specs.Laws.ByText.{same_text}
use Rattle.smap_kept.specs.InOrder.{in_front, used, without}
use Rattle.smap_kept.specs.Private.Numbered.{IsNumbered, IsOnce, in_order, numbers_of}
use Rattle.smap_kept.specs.declared.in_order.InOrder.TheInside.{Inside}
use Rattle.smap_kept.specs.declared.in_order.Named.{Named}
use Rattle.smap_kept.proofs.TextKeys.{after_change, is_under}
use Rattle.smap_kept.proofs.Numbers.{Found, all_stay, is_fresh, no_entry, no_value, not_among_fewer, once_more, other_number, same_number, turned}

module _ {V : Type 0} (next : ℕ) (entries : List (ℕ × Named V)) (text : List ℕ) (number : ℕ) (found : Found text number next entries) where
  abbrev left : List (ℕ × Named V)
  left = remove_entry (nat_eq number) entries

  in_first_place : promoted (nat_eq number) entries ≡ (number, found.named) ∷ left
  in_first_place = ap (λ o. option_map_or (λ e. e ∷ left) o entries) found.entry_is

  -- nothing else is under the text
  pub none_left : value_under text (numbers_of left) ≡ None
  none_left = found.numbers text ∙ ap (λ b. cond b None (value_under text (numbers_of entries))) (same_text text)

  once_in_front : IsOnce next ((number, found.named) ∷ left)
  once_in_front = (found.below, subst (λ t. value_under t (numbers_of left) ≡ None) (sym found.text_is) none_left, found.gone, found.once)

  pub moved_once : IsOnce next (promoted (nat_eq number) entries)
  moved_once = subst (IsOnce next) (sym in_first_place) once_in_front

  same_under : value_under text (numbers_of entries) ≡ Some number → (other : List ℕ) (b : Bool) → bytes_eq other text ≡ b
      → cond b (Some number) (value_under other (numbers_of left)) ≡ value_under other (numbers_of entries)
  same_under is other true same =
      subst (λ t. Some number ≡ value_under t (numbers_of entries)) (sym ((bytes_eq-Decides other text).0 same)) (sym is)
  same_under is other false apart =
      found.numbers other ∙ ap (λ b. cond b None (value_under other (numbers_of entries))) (turned other text apart)

  pub moved_numbers : value_under text (numbers_of entries) ≡ Some number → (other : List ℕ)
      → value_under other (numbers_of (promoted (nat_eq number) entries)) ≡ value_under other (numbers_of entries)
  moved_numbers is other =
      ap (λ l. value_under other (numbers_of l)) in_first_place
      ∙ ap (λ t. cond (bytes_eq other t) (Some number) (value_under other (numbers_of left))) found.text_is
      ∙ same_under is other (bytes_eq other text) refl

  pub moved_count : length (promoted (nat_eq number) entries) ≡ length entries
  moved_count = omega (arith, ap length in_first_place, found.fewer)

  pub moved_order : in_order (promoted (nat_eq number) entries) ≡ used text (in_order entries)
  moved_order =
      ap in_order in_first_place
      ∙ ap (λ t. (t, found.named.value) ∷ in_order left) found.text_is
      ∙ ap (λ l. (text, found.named.value) ∷ l) found.rest
      ∙ sym (ap (λ o. in_front text o (in_order entries)) found.value_is)

-- ---- the last of them

-- a list is what stands before its last, and that
pub split_last : {X : Type 0} (entries : List X) (e : X) → slice_get entries (length entries - 1) ≡ Some e → entries ≡ take (length entries - 1) entries ++ e ∷ []
split_last entries e is =
    let within : length entries - 1 < length entries = slice_get_within entries (length entries - 1) e is in
    let whole : length entries ≡ length entries - 1 + 1 = omega (arith, within) in
    sym (take-length entries) ∙ ap (λ n. take n entries) whole
    ∙ take_more entries (length entries - 1) e within
    ∙ ap (λ x. take (length entries - 1) entries ++ x ∷ []) (get_or_from_slice_get entries (length entries - 1) e e is)

module _ {V : Type 0} (next : ℕ) (e : ℕ × Named V) where
  -- its text and its number are those of no other
  pub record IsLast (front : List (ℕ × Named V)) : Type 0 where
    pub number_is : value_under e.1.text.items (numbers_of (front ++ e ∷ [])) ≡ Some e.0
    pub named_is : lookup (nat_eq e.0) (front ++ e ∷ []) ≡ Some e.1
    pub rest : remove_entry (nat_eq e.0) (front ++ e ∷ []) ≡ front

  other_text : (text : List ℕ) (entries : List (ℕ × Named V)) → value_under text (numbers_of entries) ≡ None → value_under e.1.text.items (numbers_of entries) ≡ Some e.0
      → (b : Bool) → bytes_eq e.1.text.items text ≡ b → b ≡ false
  other_text text entries none some true same =
      let is : value_under e.1.text.items (numbers_of entries) ≡ None =
      subst (λ t. value_under t (numbers_of entries) ≡ None) (sym ((bytes_eq-Decides e.1.text.items text).0 same)) none in
      cc
  other_text text entries none some false differ = refl

  pub is_last : (front : List (ℕ × Named V)) → IsOnce next (front ++ e ∷ []) → IsLast front
  is_last [] once = record {
    number_is = ap (λ b. cond b (Some e.0) None) (same_text e.1.text.items);
    named_is = ap (λ b. cond b (Some e.1) None) (same_number e.0);
    rest = ap (λ b. cond b [] (e ∷ [])) (same_number e.0);
  }
  is_last (x ∷ front) once =
      let last = is_last front once.3 in
      let all = front ++ e ∷ [] in
      let text = other_text x.1.text.items all once.1 last.number_is (bytes_eq e.1.text.items x.1.text.items) refl in
      let number = other_number next x all e.0 e.1 once.2 last.named_is in
      record {
        number_is = ap (λ b. cond b (Some x.0) (value_under e.1.text.items (numbers_of all))) text ∙ last.number_is;
        named_is = ap (λ b. cond b (Some x.1) (lookup (nat_eq e.0) all)) number ∙ last.named_is;
        rest = ap (λ b. cond b all (x ∷ remove_entry (nat_eq e.0) all)) number ∙ ap (λ l. x ∷ l) last.rest;
      }

  order_parts : (front : List (ℕ × Named V)) → in_order (front ++ e ∷ []) ≡ in_order front ++ (e.1.text.items, e.1.value) ∷ []
  order_parts [] = refl
  order_parts (x ∷ front) = ap (λ l. (x.1.text.items, x.1.value) ∷ l) (order_parts front)

  -- all but the last of these entries are left
  module _ (entries : List (ℕ × Named V)) (once : IsOnce next entries) (is : slice_get entries (length entries - 1) ≡ Some e) where
    abbrev front : List (ℕ × Named V)
    front = take (length entries - 1) entries

    parts : entries ≡ front ++ e ∷ []
    parts = split_last entries e is

    pub last_of : IsLast front
    last_of = is_last front (subst (IsOnce next) parts once)

    pub last_number : value_under e.1.text.items (numbers_of entries) ≡ Some e.0
    last_number = ap (λ l. value_under e.1.text.items (numbers_of l)) parts ∙ last_of.number_is

    pub last_rest : remove_entry (nat_eq e.0) entries ≡ front
    last_rest = ap (remove_entry (nat_eq e.0)) parts ∙ last_of.rest

    pub last_order : in_order entries ≡ in_order front ++ (e.1.text.items, e.1.value) ∷ []
    last_order = ap in_order parts ∙ order_parts front

-- ---- one more in front

module _ {V : Type 0} (text : List ℕ) (next : ℕ) (entries : List (ℕ × Named V)) where
  -- what is left where what is under a text is taken out
  pub record IsWithout (left : List (ℕ × Named V)) : Type 0 where
    pub numbers : (other : List ℕ) → value_under other (numbers_of left) ≡ cond (bytes_eq text other) None (value_under other (numbers_of entries))
    pub order : in_order left ≡ without text (in_order entries)
    pub once : IsOnce next left
    pub fresh : lookup (nat_eq next) left ≡ None
    pub few : length left ≤ next

  module _ (once : IsOnce next entries) (few : length entries ≤ next) where
    none_there : value_under text (numbers_of entries) ≡ None → (other : List ℕ) (b : Bool) → bytes_eq text other ≡ b
        → value_under other (numbers_of entries) ≡ cond b None (value_under other (numbers_of entries))
    none_there none other true same = subst (λ t. value_under t (numbers_of entries) ≡ None) ((bytes_eq-Decides text other).0 same) none
    none_there none other false differ = refl

    pub none_out : value_under text (numbers_of entries) ≡ None → IsWithout entries
    none_out none = record {
      numbers = λ other. none_there none other (bytes_eq text other) refl;
      order = sym (all_stay text (in_order entries) (no_value text entries none));
      once = once;
      fresh = is_fresh next entries once;
      few = few;
    }

    pub one_out : (number : ℕ) (found : Found text number next entries) → IsWithout (remove_entry (nat_eq number) entries)
    one_out number found = record {
      numbers = found.numbers;
      order = found.rest;
      once = found.once;
      fresh = not_among_fewer (nat_eq next) (nat_eq number) entries (is_fresh next entries once);
      few = omega (arith, found.fewer, few);
    }

  module _ (named : Named V) (text_is : named.text.items ≡ text) (left : List (ℕ × Named V)) (is : IsWithout left) where
    none_under : value_under text (numbers_of left) ≡ None
    none_under = is.numbers text ∙ ap (λ b. cond b None (value_under text (numbers_of entries))) (same_text text)

    pub once_with : IsOnce (next + 1) ((next, named) ∷ left)
    once_with =
        (omega arith, subst (λ t. value_under t (numbers_of left) ≡ None) (sym text_is) none_under, is.fresh, once_more next left is.once)

    pub few_with : length ((next, named) ∷ left) ≤ next + 1
    few_with = omega (arith, is.few)

    pub order_with : in_order ((next, named) ∷ left) ≡ (text, named.value) ∷ without text (in_order entries)
    order_with = ap (λ t. (t, named.value) ∷ in_order left) text_is ∙ ap (λ l. (text, named.value) ∷ l) is.order

    both_ways : (other : List ℕ) (b : Bool) → bytes_eq text other ≡ b → bytes_eq other text ≡ b
        → cond (bytes_eq other text) (Some next) (cond (bytes_eq text other) None (value_under other (numbers_of entries)))
        ≡ cond (bytes_eq text other) (Some next) (value_under other (numbers_of entries))
    both_ways other true one two =
        ap (λ b. cond b (Some next) (cond (bytes_eq text other) None (value_under other (numbers_of entries)))) two
        ∙ sym (ap (λ b. cond b (Some next) (value_under other (numbers_of entries))) one)
    both_ways other false one two =
        ap (λ b. cond b (Some next) (cond (bytes_eq text other) None (value_under other (numbers_of entries)))) two
        ∙ ap (λ b. cond b None (value_under other (numbers_of entries))) one
        ∙ sym (ap (λ b. cond b (Some next) (value_under other (numbers_of entries))) one)

    pub numbers_with : (other : List ℕ) → value_under other (numbers_of ((next, named) ∷ left))
        ≡ cond (bytes_eq text other) (Some next) (value_under other (numbers_of entries))
    numbers_with other =
        ap (λ t. cond (bytes_eq other t) (Some next) (value_under other (numbers_of left))) text_is
        ∙ ap (cond (bytes_eq other text) (Some next)) (is.numbers other)
        ∙ both_ways other (bytes_eq text other) refl (nat_list_eq_equiv.symm other text)

module _ {V : Type 0} (next : ℕ) (named : Named V) where
  -- a new number comes first, and nothing goes
  pub put_in_front : (all : LruCache ℕ (Named V)) → IsOnce next all.entries → length all.entries ≤ next → all.cap ≡ 2 ^ 64 - 1 → next + 1 < 2 ^ 64
      → put_entries nat_eq all next named ≡ (next, named) ∷ all.entries
  put_in_front all once few wide below =
      let room : length all.entries ≤ all.cap - 1 = omega (arith, few, wide, below) in
      ap (λ o. option_map_or (λ e. (e.0, named) ∷ remove_entry (nat_eq next) all.entries) o ((next, named) ∷ take (all.cap - 1) all.entries))
      (no_entry (nat_eq next) all.entries (is_fresh next all.entries once))
      ∙ ap (λ l. (next, named) ∷ l) (take_all (all.cap - 1) all.entries room)

  -- it is found by its number alone
  pub passed_in_front : (number : ℕ) (entries : List (ℕ × Named V)) → number < next → remove_entry (nat_eq number) ((next, named) ∷ entries)
      ≡ (next, named) ∷ remove_entry (nat_eq number) entries
  passed_in_front number entries below =
      ap (λ b. cond b entries ((next, named) ∷ remove_entry (nat_eq number) entries)) (ne_eqb number next (λ same. omega (arith, same, below)))

  pub looked_past : (number : ℕ) (entries : List (ℕ × Named V)) → number < next
      → lookup (nat_eq number) ((next, named) ∷ entries) ≡ lookup (nat_eq number) entries
  looked_past number entries below =
      ap (λ b. cond b (Some named) (lookup (nat_eq number) entries)) (ne_eqb number next (λ same. omega (arith, same, below)))

  pub out_again : (entries : List (ℕ × Named V)) → remove_entry (nat_eq next) ((next, named) ∷ entries) ≡ entries
  out_again entries = ap (λ b. cond b entries ((next, named) ∷ remove_entry (nat_eq next) entries)) (same_number next)

  pub seen_again : (entries : List (ℕ × Named V)) → lookup (nat_eq next) ((next, named) ∷ entries) ≡ Some named
  seen_again entries = ap (λ b. cond b (Some named) (lookup (nat_eq next) entries)) (same_number next)

-- ---- as the fields have them

module _ {V : Type 0} (inside : Inside V) (was : IsNumbered inside) (named : Named V) (below : inside.next + 1 < 2 ^ 64) (put : LruCache ℕ (Named V))
    (put_is : put ≡ lru_cache (put_entries nat_eq inside.entries inside.next named) inside.entries.cap) where
  pub put_first : put.entries ≡ (inside.next, named) ∷ inside.entries.entries
  put_first = ap (λ it. it.entries) put_is ∙ put_in_front inside.next named inside.entries was.once was.few was.wide below

  pub put_wide : put.cap ≡ 2 ^ 64 - 1
  put_wide = ap (λ it. it.cap) put_is ∙ was.wide

  module _ (numbers : BTreeMap (Vec ℕ Global) ℕ) (new : LruCache ℕ (Named V)) (text : List ℕ) (left : List (ℕ × Named V))
      (is : IsWithout text inside.next inside.entries.entries left) (text_is : named.text.items ≡ text) (new_is : new.entries ≡ (inside.next, named) ∷ left)
      (wide : new.cap ≡ 2 ^ 64 - 1) (here : lookup (is_under (λ k. k.items) text) numbers.entries ≡ Some inside.next)
      (others : KeepsOthers (eq_by_cmp (λ x y. slice_cmp nat_cmp x.items y.items)) (is_under (λ k. k.items) text) inside.numbers.entries numbers.entries) where
    pub numbered_with : (next : ℕ) → next ≡ inside.next + 1 → IsNumbered (record { numbers = numbers; entries = new; next = next })
    numbered_with next next_is = record {
      numbers = λ other. after_change (λ k. k.items) text inside.numbers.entries numbers.entries (Some inside.next) here others other
          ∙ ap (cond (bytes_eq text other) (Some inside.next)) (was.numbers other)
          ∙ sym (numbers_with text inside.next inside.entries.entries named text_is left is other)
          ∙ ap (λ l. value_under other (numbers_of l)) (sym new_is);
      once = subst (λ n. IsOnce n new.entries) (sym next_is)
          (subst (IsOnce (inside.next + 1)) (sym new_is) (once_with text inside.next inside.entries.entries named text_is left is));
      few = omega (arith, ap length new_is, is.few, next_is);
      wide = wide;
    }
