-- Entries with a number each: what is under a text, and what is left without it.
use Rattle.std.proofs.Common.{◌≡◌, ℕ, ◌+◌, ◌<◌, Bool, true, false, cond, List, [], ◌∷◌, Option, Some, None, length, refl, sym, ap, subst, arith, eq-eqb, ne_eqb, ◌∙◌, nat_eq}
use Rattle.std.proofs.lemmas.Bool.{false≢true}
use Rattle.std.proofs.lemmas.Slice.Eq.{bytes_eq-Decides}
use Rattle.std.specs.Map.{lookup, lookup_entry, remove_entry}
use Rattle.std.specs.Str.{bytes_eq}
use Rattle.smap_locations.specs.ByText.{value_under}
use Rattle.smap_locations.specs.Laws.ByText.{same_text}
use Rattle.smap_kept.specs.InOrder.{without}
use Rattle.smap_kept.specs.Private.Numbered.{IsOnce, in_order, numbers_of}
use Rattle.smap_kept.specs.declared.in_order.Named.{Named}

pub same_number : (n : ℕ) → nat_eq n n ≡ true
same_number n = eq-eqb n n refl

-- texts that differ one way differ the other way
pub turned : (one other : List ℕ) → bytes_eq one other ≡ false → bytes_eq other one ≡ false
turned one other apart = go (bytes_eq other one) refl
  where
    go : (b : Bool) → bytes_eq other one ≡ b → b ≡ false
    go true is = absurd (false≢true (sym apart ∙ (bytes_eq-Decides one other).1 (sym ((bytes_eq-Decides other one).0 is))))
    go false is = refl

pub passed : {A : Type 0} (b : Bool) (value : A) (rest : Option A) → cond b (Some value) rest ≡ None → (b ≡ false) × (rest ≡ None)
passed true value rest is = cc
passed false value rest is = (refl, is)

module _ {T : Type 0} where
  -- where nothing is under a text, all stay
  pub all_stay : (text : List ℕ) (entries : List (List ℕ × T)) → value_under text entries ≡ None → without text entries ≡ entries
  all_stay text [] is = refl
  all_stay text (e ∷ entries) is =
      let parts = passed (bytes_eq text e.0) e.1 (value_under text entries) is in
      ap (λ b. cond b entries (e ∷ without text entries)) parts.0 ∙ ap (λ l. e ∷ l) (all_stay text entries parts.1)

module _ {K X : Type 0} (test other : K → Bool) where
  fewer_first : (e : K × X) (entries : List (K × X)) → lookup test entries ≡ None → lookup test (remove_entry other entries) ≡ None → test e.0 ≡ false
      → (b : Bool) → lookup test (cond b entries (e ∷ remove_entry other entries)) ≡ None
  fewer_first e entries none fewer off true = none
  fewer_first e entries none fewer off false = ap (λ b. cond b (Some e.1) (lookup test (remove_entry other entries))) off ∙ fewer

  -- what is not found is not found among fewer
  pub not_among_fewer : (entries : List (K × X)) → lookup test entries ≡ None → lookup test (remove_entry other entries) ≡ None
  not_among_fewer [] is = is
  not_among_fewer (e ∷ entries) is =
      let parts = passed (test e.0) e.1 (lookup test entries) is in
      fewer_first e entries parts.1 (not_among_fewer entries parts.1) parts.0 (other e.0)

module _ {K X : Type 0} (test : K → Bool) where
  pub no_entry : (entries : List (K × X)) → lookup test entries ≡ None → lookup_entry test entries ≡ None
  no_entry [] is = refl
  no_entry (e ∷ entries) is =
      let parts = passed (test e.0) e.1 (lookup test entries) is in
      ap (λ b. cond b (Some e) (lookup_entry test entries)) parts.0 ∙ no_entry entries parts.1

module _ {V : Type 0} where
  -- what has no number has no value
  pub no_value : (text : List ℕ) (entries : List (ℕ × Named V)) → value_under text (numbers_of entries) ≡ None → value_under text (in_order entries) ≡ None
  no_value text [] is = refl
  no_value text (e ∷ entries) is =
      let parts = passed (bytes_eq text e.1.text.items) e.0 (value_under text (numbers_of entries)) is in
      ap (λ b. cond b (Some e.1.value) (value_under text (in_order entries))) parts.0 ∙ no_value text entries parts.1

  -- the next number is none of these
  pub is_fresh : (next : ℕ) (entries : List (ℕ × Named V)) → IsOnce next entries → lookup (nat_eq next) entries ≡ None
  is_fresh next [] once = refl
  is_fresh next (e ∷ entries) once =
      let below : e.0 < next = once.0 in
      let off : nat_eq next e.0 ≡ false = ne_eqb next e.0 (λ same. omega (arith, same, below)) in
      ap (λ b. cond b (Some e.1) (lookup (nat_eq next) entries)) off ∙ is_fresh next entries once.3

  pub once_more : (next : ℕ) (entries : List (ℕ × Named V)) → IsOnce next entries → IsOnce (next + 1) entries
  once_more next [] once = tt
  once_more next (e ∷ entries) once =
      let below : e.0 < next = once.0 in
      (omega (arith, below), once.1, once.2, once_more next entries once.3)

  -- ---- what is under a text, which has a number

  pub record Found (text : List ℕ) (number next : ℕ) (entries : List (ℕ × Named V)) : Type 0 where
    pub named : Named V
    pub entry_is : lookup_entry (nat_eq number) entries ≡ Some (number, named)
    pub named_is : lookup (nat_eq number) entries ≡ Some named
    pub text_is : named.text.items ≡ text
    pub below : number < next
    pub value_is : value_under text (in_order entries) ≡ Some named.value
    pub rest : in_order (remove_entry (nat_eq number) entries) ≡ without text (in_order entries)
    pub numbers : (other : List ℕ) → value_under other (numbers_of (remove_entry (nat_eq number) entries))
        ≡ cond (bytes_eq text other) None (value_under other (numbers_of entries))
    pub once : IsOnce next (remove_entry (nat_eq number) entries)
    pub fewer : length (remove_entry (nat_eq number) entries) + 1 ≡ length entries
    pub gone : lookup (nat_eq number) (remove_entry (nat_eq number) entries) ≡ None

  module _ (next : ℕ) where
    -- it is the first
    numbers_behind : (e : ℕ × Named V) (entries : List (ℕ × Named V)) → IsOnce next (e ∷ entries) → (other : List ℕ) (b : Bool) → bytes_eq e.1.text.items other ≡ b
        → value_under other (numbers_of entries) ≡ cond b None (cond (bytes_eq other e.1.text.items) (Some e.0) (value_under other (numbers_of entries)))
    numbers_behind e entries once other true same =
        subst (λ t. value_under t (numbers_of entries) ≡ None) ((bytes_eq-Decides e.1.text.items other).0 same) once.1
    numbers_behind e entries once other false apart =
        sym (ap (λ b. cond b (Some e.0) (value_under other (numbers_of entries))) (turned e.1.text.items other apart))

    first : (e : ℕ × Named V) (entries : List (ℕ × Named V)) → IsOnce next (e ∷ entries) → Found e.1.text.items e.0 next (e ∷ entries)
    first e entries once =
        let one = same_number e.0 in
        let text = e.1.text.items in
        let left : remove_entry (nat_eq e.0) (e ∷ entries) ≡ entries = ap (λ b. cond b entries (e ∷ remove_entry (nat_eq e.0) entries)) one in
        record {
          named = e.1;
          entry_is = ap (λ b. cond b (Some e) (lookup_entry (nat_eq e.0) entries)) one;
          named_is = ap (λ b. cond b (Some e.1) (lookup (nat_eq e.0) entries)) one;
          text_is = refl;
          below = once.0;
          value_is = ap (λ b. cond b (Some e.1.value) (value_under text (in_order entries))) (same_text text);
          rest = ap in_order left ∙ sym (ap (λ b. cond b (in_order entries) ((text, e.1.value) ∷ without text (in_order entries))) (same_text text));
          numbers = λ other. ap (λ l. value_under other (numbers_of l)) left ∙ numbers_behind e entries once other (bytes_eq text other) refl;
          once = subst (IsOnce next) (sym left) once.3;
          fewer = omega (arith, ap length left);
          gone = ap (lookup (nat_eq e.0)) left ∙ once.2;
        }

    -- it is among the others
    numbers_among : (e : ℕ × Named V) (text other : List ℕ) (left all : Option ℕ) → bytes_eq text e.1.text.items ≡ false → (b : Bool) → bytes_eq text other ≡ b
        → left ≡ cond b None all
        → cond (bytes_eq other e.1.text.items) (Some e.0) left ≡ cond b None (cond (bytes_eq other e.1.text.items) (Some e.0) all)
    numbers_among e text other left all apart true same is =
        let off : bytes_eq other e.1.text.items ≡ false = subst (λ t. bytes_eq t e.1.text.items ≡ false) ((bytes_eq-Decides text other).0 same) apart in
        ap (λ b. cond b (Some e.0) left) off ∙ is
    numbers_among e text other left all apart false differ is = ap (λ l. cond (bytes_eq other e.1.text.items) (Some e.0) l) is

    pub other_number : (e : ℕ × Named V) (entries : List (ℕ × Named V)) (number : ℕ) (named : Named V) → lookup (nat_eq e.0) entries ≡ None
        → lookup (nat_eq number) entries ≡ Some named → nat_eq number e.0 ≡ false
    other_number e entries number named none some =
        ne_eqb number e.0 (λ same. let is : lookup (nat_eq e.0) entries ≡ Some named = subst (λ n. lookup (nat_eq n) entries ≡ Some named) same some in cc)

    among : (e : ℕ × Named V) (entries : List (ℕ × Named V)) (text : List ℕ) (number : ℕ) → IsOnce next (e ∷ entries) → bytes_eq text e.1.text.items ≡ false
        → Found text number next entries → Found text number next (e ∷ entries)
    among e entries text number once apart found =
        let off = other_number e entries number found.named once.2 found.named_is in
        let rest = remove_entry (nat_eq number) entries in
        let left : remove_entry (nat_eq number) (e ∷ entries) ≡ e ∷ rest = ap (λ b. cond b entries (e ∷ rest)) off in
        let pair : List ℕ × V = (e.1.text.items, e.1.value) in
        record {
          named = found.named;
          entry_is = ap (λ b. cond b (Some e) (lookup_entry (nat_eq number) entries)) off ∙ found.entry_is;
          named_is = ap (λ b. cond b (Some e.1) (lookup (nat_eq number) entries)) off ∙ found.named_is;
          text_is = found.text_is;
          below = found.below;
          value_is = ap (λ b. cond b (Some e.1.value) (value_under text (in_order entries))) apart ∙ found.value_is;
          rest = ap in_order left ∙ ap (λ l. pair ∷ l) found.rest
              ∙ sym (ap (λ b. cond b (in_order entries) (pair ∷ without text (in_order entries))) apart);
          numbers = λ other. ap (λ l. value_under other (numbers_of l)) left
              ∙ numbers_among e text other (value_under other (numbers_of rest)) (value_under other (numbers_of entries)) apart (bytes_eq text other) refl
              (found.numbers other);
          once = subst (IsOnce next) (sym left) (
            once.0,
            found.numbers e.1.text.items ∙ ap (λ b. cond b None (value_under e.1.text.items (numbers_of entries))) apart ∙ once.1,
            not_among_fewer (nat_eq e.0) (nat_eq number) entries once.2,
            found.once,
          );
          fewer = omega (arith, ap length left, found.fewer);
          gone = ap (lookup (nat_eq number)) left ∙ ap (λ b. cond b (Some e.1) (lookup (nat_eq number) rest)) off ∙ found.gone;
        }

    found_or : (e : ℕ × Named V) (entries : List (ℕ × Named V)) (text : List ℕ) (number : ℕ) → IsOnce next (e ∷ entries)
        → (value_under text (numbers_of entries) ≡ Some number → Found text number next entries)
        → (b : Bool) → bytes_eq text e.1.text.items ≡ b → cond b (Some e.0) (value_under text (numbers_of entries)) ≡ Some number
        → Found text number next (e ∷ entries)
    found_or e entries text number once below true same is =
        let same_number : e.0 ≡ number = cc in
        subst (λ n. Found text n next (e ∷ entries)) same_number
        (subst (λ t. Found t e.0 next (e ∷ entries)) (sym ((bytes_eq-Decides text e.1.text.items).0 same)) (first e entries once))
    found_or e entries text number once below false apart is = among e entries text number once apart (below is)

    pub found : (entries : List (ℕ × Named V)) (text : List ℕ) (number : ℕ) → IsOnce next entries → value_under text (numbers_of entries) ≡ Some number
        → Found text number next entries
    found [] text number once is = cc
    found (e ∷ entries) text number once is =
        found_or e entries text number once (found entries text number once.3) (bytes_eq text e.1.text.items) refl is
