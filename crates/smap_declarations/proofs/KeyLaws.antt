-- What the keys of names tell of their order.
use Rattle.std.proofs.Common.{◌≡◌, ◌+◌, ◌-◌, ◌*◌, ◌^◌, ◌<◌, ◌≤◌, ℕ, zero, suc, List, [], ◌∷◌, length, get_or, refl, sym, ap, ap₂, subst, ◌∙◌, ◌⊎◌, inl, inr, arith}
use Rattle.std.specs.Cmp.{nat_cmp_is}
use Rattle.std.specs.Cmp.Lexicographic.{slice_cmp}
use Rattle.std.specs.Ordering.{nat_cmp, ordering_reverse, ordering_then}
use Rattle.std.specs.declared.cmp.Ordering.{Ordering}
use Rattle.std.specs.declared.cmp.Ordering.TheVariants.{Less, Equal, Greater}
use Rattle.std.proofs.Math.Nat.{pow-le-pow_right, pow-suc}
use Rattle.std.proofs.lemmas.Bool.{cases_lt}
use Rattle.std.proofs.lemmas.Cmp.{nat_list_cmp_total}
use Rattle.smap_declarations.specs.Private.Keys.{AreBytes, IsKey, followed_by}

pub bytes_behind : (c : ℕ) (text : List ℕ) → AreBytes (c ∷ text) → AreBytes text
bytes_behind c text bytes = λ i. bytes (suc i)

-- ---- how a key grows

-- a number of fewer bytes has room for one more
pub room : (i key : ℕ) → i < 8 → key < 256 ^ i → key * 256 + 255 < 2 ^ 64
room i key few below = omega (arith, below, pow-le-pow_right {n = 256} (omega arith) {i = i} {j = 7} (omega arith))

pub one_more : (i key c : ℕ) → key < 256 ^ i → c < 256 → key * 256 + c < 256 ^ (i + 1)
one_more i key c below byte =
    let next : i + 1 ≡ suc i = omega arith in
    omega (arith, below, byte, pow-suc 256 i, ap (λ n. 256 ^ n) next)

pub with_byte : (i key c : ℕ) (text : List ℕ) → i < 8 → followed_by (8 - (i + 1)) (key * 256 + c) text ≡ followed_by (8 - i) key (c ∷ text)
unfolding followed_by
with_byte i key c text few =
    let left : suc (8 - (i + 1)) ≡ 8 - i = omega arith in
    ap (λ n. followed_by n key (c ∷ text)) left

pub with_zero : (i key : ℕ) → i < 8 → followed_by (8 - (i + 1)) (key * 256) [] ≡ followed_by (8 - i) key []
unfolding followed_by
with_zero i key few =
    let left : suc (8 - (i + 1)) ≡ 8 - i = omega arith in
    ap (λ n. followed_by n key []) left

pub with_none : (i key : ℕ) (text : List ℕ) → 8 ≤ i → key ≡ followed_by (8 - i) key text
unfolding followed_by
with_none i key text all =
    let none : zero ≡ 8 - i = omega arith in
    ap (λ n. followed_by n key text) none

-- ---- two keys

three : (x y : ℕ) → (x < y) ⊎ ((x ≡ y) ⊎ (y < x))
three x y = at (cases_lt x y) (cases_lt y x)
  where
    at : (x < y) ⊎ (y ≤ x) → (y < x) ⊎ (x ≤ y) → (x < y) ⊎ ((x ≡ y) ⊎ (y < x))
    at (inl less) _ = inl less
    at (inr _) (inl more) = inr (inr more)
    at (inr le) (inr ge) = inr (inl (omega (arith, le, ge)))

-- a lower number is lower with whatever bytes behind it
apart : (n p q : ℕ) (a b : List ℕ) → AreBytes a → p < q → followed_by n p a < followed_by n q b
unfolding followed_by
apart zero p q a b bytes less = less
apart (suc n) p q [] [] bytes less = apart n (p * 256) (q * 256) [] [] bytes (omega (arith, less))
apart (suc n) p q [] (d ∷ b) bytes less = apart n (p * 256) (q * 256 + d) [] b bytes (omega (arith, less))
apart (suc n) p q (c ∷ a) [] bytes less = apart n (p * 256 + c) (q * 256) a [] (bytes_behind c a bytes) (omega (arith, less, bytes 0))
apart (suc n) p q (c ∷ a) (d ∷ b) bytes less = apart n (p * 256 + c) (q * 256 + d) a b (bytes_behind c a bytes) (omega (arith, less, bytes 0))

-- the number of a text that ends is the least
least : (n p q : ℕ) (a : List ℕ) → q ≤ p → followed_by n q [] ≤ followed_by n p a
unfolding followed_by
least zero p q a le = le
least (suc n) p q [] le = least n (p * 256) (q * 256) [] (omega (arith, le))
least (suc n) p q (c ∷ a) le = least n (p * 256 + c) (q * 256) a (omega (arith, le))

-- of two texts, that with the lower number is first
lower_first : (n p : ℕ) (a b : List ℕ) → AreBytes b → followed_by n p a < followed_by n p b → slice_cmp nat_cmp a b ≡ Less
unfolding followed_by
lower_first zero p a b bytes less = absurd (omega (arith, less))
lower_first (suc n) p [] [] bytes less = lower_first n (p * 256) [] [] bytes less
lower_first (suc n) p [] (d ∷ b) bytes less = refl
lower_first (suc n) p (c ∷ a) [] bytes less = absurd (omega (arith, less, least n (p * 256 + c) (p * 256) a (omega arith)))
lower_first (suc n) p (c ∷ a) (d ∷ b) bytes less =
    at (three c d) (λ same. lower_first n (p * 256 + c) a b (bytes_behind d b bytes) (subst (λ e. followed_by n (p * 256 + c) a < followed_by n (p * 256 + e) b) (sym same) less))
  where
    at : (c < d) ⊎ ((c ≡ d) ⊎ (d < c)) → (c ≡ d → slice_cmp nat_cmp a b ≡ Less) → slice_cmp nat_cmp (c ∷ a) (d ∷ b) ≡ Less
    at (inl lower) _ = ap (λ o. ordering_then o (slice_cmp nat_cmp a b)) (sym (nat_cmp_is c d Less lower))
    at (inr (inl same)) others = ap (λ o. ordering_then o (slice_cmp nat_cmp a b)) (sym (nat_cmp_is c d Equal same)) ∙ others same
    at (inr (inr higher)) _ =
        absurd (omega (arith, less, apart n (p * 256 + d) (p * 256 + c) b a (bytes_behind d b bytes) (omega (arith, higher))))

-- two texts of one length that have one number, and no more bytes than it, are alike
alike : (n p : ℕ) (a b : List ℕ) → AreBytes a → AreBytes b → followed_by n p a ≡ followed_by n p b → length a ≡ length b → length a ≤ n → a ≡ b
unfolding followed_by
alike n p [] [] bytes bytes' same long short = refl
alike n p [] (d ∷ b) bytes bytes' same long short = absurd (omega (arith, long))
alike n p (c ∷ a) [] bytes bytes' same long short = absurd (omega (arith, long))
alike zero p (c ∷ a) (d ∷ b) bytes bytes' same long short = absurd (omega (arith, short))
alike (suc n) p (c ∷ a) (d ∷ b) bytes bytes' same long short =
    at (three c d) (λ equal. alike n (p * 256 + c) a b (bytes_behind c a bytes) (bytes_behind d b bytes') (subst (λ e. followed_by n (p * 256 + c) a ≡ followed_by n (p * 256 + e) b) (sym equal) same) (omega (arith, long)) (omega (arith, short)))
  where
    at : (c < d) ⊎ ((c ≡ d) ⊎ (d < c)) → (c ≡ d → a ≡ b) → c ∷ a ≡ d ∷ b
    at (inl lower) _ = absurd (omega (arith, same, apart n (p * 256 + c) (p * 256 + d) a b (bytes_behind c a bytes) (omega (arith, lower))))
    at (inr (inl equal)) others = ap₂ (λ x xs. x ∷ xs) equal (others equal)
    at (inr (inr higher)) _ = absurd (omega (arith, same, apart n (p * 256 + d) (p * 256 + c) b a (bytes_behind d b bytes') (omega (arith, higher))))

equal_alike : (a : List ℕ) → slice_cmp nat_cmp a a ≡ Equal
equal_alike a = own (slice_cmp nat_cmp a a) (nat_list_cmp_total.antisymm a a)
  where
    own : (o : Ordering) → o ≡ ordering_reverse o → o ≡ Equal
    own Less is = cc
    own Equal is = refl
    own Greater is = cc

module _ (a b : List ℕ) (k m : ℕ) (is : IsKey a k) (is' : IsKey b m) where
  pub lower_key : k < m → slice_cmp nat_cmp a b ≡ Less
  lower_key less = lower_first 8 0 a b is'.1 (omega (arith, less, is.0, is'.0))

  pub higher_key : m < k → slice_cmp nat_cmp a b ≡ Greater
  higher_key more = nat_list_cmp_total.antisymm a b ∙ ap ordering_reverse (lower_first 8 0 b a is.1 (omega (arith, more, is.0, is'.0)))

  pub same_key : k ≡ m → length a ≡ length b → length a ≤ 8 → slice_cmp nat_cmp a b ≡ Equal
  same_key same long short =
      subst (λ x. slice_cmp nat_cmp a x ≡ Equal) (alike 8 0 a b is.1 is'.1 (sym is.0 ∙ same ∙ is'.0) long short) (equal_alike a)
