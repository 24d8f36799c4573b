-- When two sources are the same, and two names: what is the same is equal in all that it is compared by.
use Rattle.std.specs.Borrow.{Bor}
use Rattle.std.specs.declared.cmp.Ordering.{Ordering}
use Rattle.std.specs.declared.cmp.Ordering.TheVariants.{Less, Equal, Greater}
use Rattle.std.proofs.Common.{◌≡◌, ℕ, Bool, true, false, ◌&&◌, List, Option, Some, None, refl, sym, ap, ◌∙◌, ⊎_elim}
use Rattle.std.specs.Prelude.{option_map, bytes_eq}
use Rattle.std.specs.Cmp.{IsEquivalence}
use Rattle.std.specs.Cmp.Lexicographic.{slice_cmp}
use Rattle.std.specs.Option.{option_cmp, option_eq}
use Rattle.std.specs.Ordering.{bool_cmp, eq_by_cmp, is_eq, nat_cmp, ordering_then}
use Rattle.std.proofs.lemmas.Bool.{and_parts, and_from, cases_Bool}
use Rattle.std.proofs.lemmas.Cmp.{nat_list_eq_equiv}
use Rattle.std.proofs.lemmas.Map.Text.{is_eq-slice_cmp}
use Rattle.std.proofs.lemmas.Slice.Eq.{bytes_eq-Decides}
use mathlib.Core.Bool.{beq}
use Rattle.smap_compose.specs.Pruned.{NamedSource, is_same_named}
use Rattle.smap_compose.specs.Private.Keys.{key_seen}

-- ---- texts

pub same_texts : (a b : List ℕ) → bytes_eq a b ≡ true → a ≡ b
same_texts a b same = (bytes_eq-Decides a b).0 same

pub same_option : (a b : Option (List ℕ)) → option_eq bytes_eq a b ≡ true → a ≡ b
same_option None None same = refl
same_option None (Some b) same = absurd (cc)
same_option (Some a) None same = absurd (cc)
same_option (Some a) (Some b) same = ap Some (same_texts a b same)

option_itself : (a : Option (List ℕ)) → option_eq bytes_eq a a ≡ true
option_itself None = refl
option_itself (Some a) = nat_list_eq_equiv.refl a

same_marks : (a b : Bool) → beq a b ≡ true → a ≡ b
same_marks true true same = refl
same_marks false false same = refl
same_marks true false same = absurd (cc)
same_marks false true same = absurd (cc)

mark_itself : (a : Bool) → beq a a ≡ true
mark_itself true = refl
mark_itself false = refl

-- ---- sources

pub same_named : (a b : NamedSource) → is_same_named a b ≡ true → a ≡ b
same_named a b same =
    let both = and_parts (option_eq bytes_eq a.text b.text && option_eq bytes_eq a.content b.content) (beq a.ignored b.ignored) same in
    let texts = and_parts (option_eq bytes_eq a.text b.text) (option_eq bytes_eq a.content b.content) both.0 in
    let text : a.text ≡ b.text = same_option a.text b.text texts.0 in
    let content : a.content ≡ b.content = same_option a.content b.content texts.1 in
    let mark : a.ignored ≡ b.ignored = same_marks a.ignored b.ignored both.1 in
    by a.text a.content a.ignored b.text b.content b.ignored text content mark
  where
    by : (t c : Option (List ℕ)) (m : Bool) (t' c' : Option (List ℕ)) (m' : Bool) → t ≡ t' → c ≡ c' → m ≡ m'
        → ◌≡◌ {A = NamedSource} (record { text = t; content = c; ignored = m }) (record { text = t'; content = c'; ignored = m' })
    by t c m t' c' m' text content mark = rw (text, content, mark) refl

named_itself : (a : NamedSource) → is_same_named a a ≡ true
named_itself a = and_from _ _ (and_from _ _ (option_itself a.text) (option_itself a.content)) (mark_itself a.ignored)

-- a test that holds of equals alone
module _ {A : Type 0} (same : A → A → Bool) (itself : (a : A) → same a a ≡ true) (equal : (a b : A) → same a b ≡ true → a ≡ b) where
  back : (a b : A) → same a b ≡ true → same b a ≡ true
  back a b alike = ap (same b) (equal a b alike) ∙ itself b

  pub equals_alone : IsEquivalence same
  equals_alone = record {
    refl = itself;
    symm = λ a b.
        ⊎_elim
        (λ alike. alike ∙ sym (back a b alike))
        (λ apart. apart ∙ ⊎_elim (λ alike. absurd (cc (back b a alike))) (λ apart. sym apart) (cases_Bool (same b a)))
        (cases_Bool (same a b));
    congr = λ a b c alike. ap (λ a. same a c) (equal a b alike);
  }

pub named_equivalence : IsEquivalence is_same_named
named_equivalence = equals_alone is_same_named named_itself same_named

-- ---- the order of keys

then_eq : (a b : Ordering) → is_eq (ordering_then a b) ≡ (is_eq a && is_eq b)
then_eq Less b = refl
then_eq Equal b = refl
then_eq Greater b = refl

abbrev pub text_order : Bor (List ℕ) → Bor (List ℕ) → Ordering
text_order a b = slice_cmp nat_cmp a.now b.now

pub texts_alike : (a b : Bor (List ℕ)) → eq_by_cmp text_order a b ≡ bytes_eq a.now b.now
texts_alike a b = is_eq-slice_cmp a.now b.now

options_alike : (a b : Option (Bor (List ℕ))) → is_eq (option_cmp text_order a b)
    ≡ option_eq bytes_eq (option_map (λ (text : Bor (List ℕ)). text.now) a) (option_map (λ (text : Bor (List ℕ)). text.now) b)
options_alike None None = refl
options_alike None (Some b) = refl
options_alike (Some a) None = refl
options_alike (Some a) (Some b) = texts_alike a b

marks_alike : (a b : Bool) → is_eq (bool_cmp a b) ≡ beq a b
marks_alike true true = refl
marks_alike true false = refl
marks_alike false true = refl
marks_alike false false = refl

abbrev pub SourceKey : Type 0
SourceKey = Option (Bor (List ℕ)) × Option (Bor (List ℕ)) × Bool

abbrev pub key_order : SourceKey → SourceKey → Ordering
key_order a b = ordering_then (ordering_then (option_cmp text_order a.0 b.0) (option_cmp text_order a.1 b.1)) (bool_cmp a.2 b.2)

pub keys_alike : (a b : SourceKey) → eq_by_cmp key_order a b ≡ is_same_named (key_seen a) (key_seen b)
keys_alike a b =
    then_eq (ordering_then (option_cmp text_order a.0 b.0) (option_cmp text_order a.1 b.1)) (bool_cmp a.2 b.2)
    ∙ ap (λ texts. texts && is_eq (bool_cmp a.2 b.2))
    (then_eq (option_cmp text_order a.0 b.0) (option_cmp text_order a.1 b.1)
    ∙ ap (λ text. text && is_eq (option_cmp text_order a.1 b.1)) (options_alike a.0 b.0)
    ∙ ap (λ content. option_eq bytes_eq (key_seen a).text (key_seen b).text && content) (options_alike a.1 b.1))
    ∙ ap (λ mark. (option_eq bytes_eq (key_seen a).text (key_seen b).text && option_eq bytes_eq (key_seen a).content (key_seen b).content) && mark)
    (marks_alike a.2 b.2)
