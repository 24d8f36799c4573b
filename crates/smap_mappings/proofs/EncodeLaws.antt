-- A loop over a list that is encoded: which mapping is refused, and that none is.
use Rattle.std.proofs.Common.{◌≡◌, ℕ, ◌+◌, ◌<◌, ◌≤◌, cond, ltb, Bool, true, false, List, [], ◌∷◌, ◌++◌, length, take, drop, get_or, Option, Some}
use Rattle.std.proofs.Common.{None, refl, sym, ap, subst, ◌∙◌, arith, length-drop}
use Rattle.std.specs.Prelude.{MatchResult, ok_or}
use Rattle.std.specs.List.{last_or}
use Rattle.std.specs.Option.{option_or}
use Rattle.std.proofs.lemmas.List.{drop_more, take_more}
use Rattle.smap_mappings.specs.Limits.{most_text_bytes}
use Rattle.smap_mappings.specs.Range.{is_mapping_past_limit}
use Rattle.smap_mappings.specs.Canonical.{canonical_text}
use Rattle.smap_mappings.specs.Encode.{is_not_sorted, mapping_fault, list_fault_from, list_fault, is_text_too_long, encode_fault}
use Rattle.smap_mappings.specs.declared.canonical.EncodeRefusal.{EncodeRefusal}
use Rattle.smap_mappings.specs.declared.canonical.EncodeRefusal.TheVariants.{NotSorted, OutOfRange, TooLong}
use Rattle.smap_mappings.specs.declared.mapping.Mapping.{Mapping}
use Rattle.smap_mappings.specs.Laws.Lists.{last_or-push}

first_none : (first others : Option EncodeRefusal) → option_or first others ≡ None → first ≡ None
first_none None others none = refl
first_none (Some refusal) others none = absurd (cc)

second_false : (a b : Bool) (x y : EncodeRefusal) → cond a (Some x) (cond b (Some y) None) ≡ None → b ≡ false
second_false true b x y none = absurd (cc)
second_false false true x y none = absurd (cc)
second_false false false x y none = refl

pub within_limit : (i : ℕ) (earlier : Option Mapping) (m : Mapping) → mapping_fault i earlier m ≡ None → is_mapping_past_limit m ≡ false
within_limit i earlier m none = second_false (is_not_sorted earlier m) (is_mapping_past_limit m) (NotSorted i) (OutOfRange i) none

-- what a reading past the end of a list would give
abbrev pub nowhere : Mapping
nowhere = record { line = 0; column = 0; origin = None }

module _ (list : List Mapping) (i : ℕ) (d : Mapping) (within : i < length list) where
  -- the mapping at the place
  abbrev m : Mapping
  m = get_or list i d

  -- the one before it
  abbrev earlier : Option Mapping
  earlier = last_or None (take i list)

  pub one_more_taken : take i list ++ m ∷ [] ≡ take (i + 1) list
  one_more_taken = sym (take_more list i d within)

  after : list_fault_from i earlier (drop i list) ≡ option_or (mapping_fault i earlier m) (list_fault_from (i + 1) (Some m) (drop (i + 1) list))
  after = ap (list_fault_from i earlier) (drop_more list i d within)

  pub refused_here : (refusal : EncodeRefusal) → list_fault list ≡ list_fault_from i earlier (drop i list)
      → mapping_fault i earlier m ≡ Some refusal → encode_fault list ≡ Some refusal
  unfolding encode_fault
  refused_here refusal so_far is =
      ap (λ first. option_or first (cond (is_text_too_long list) (Some TooLong) None))
      (so_far ∙ after ∙ ap (λ first. option_or first (list_fault_from (i + 1) (Some m) (drop (i + 1) list))) is)

  pub passed_here : mapping_fault i earlier m ≡ None
      → list_fault_from i earlier (drop i list) ≡ list_fault_from (i + 1) (last_or None (take (i + 1) list)) (drop (i + 1) list)
  passed_here none =
      after ∙ ap (λ first. option_or first (list_fault_from (i + 1) (Some m) (drop (i + 1) list))) none
      ∙ ap (λ last. list_fault_from (i + 1) last (drop (i + 1) list)) (sym (last_or-push None (take i list) m) ∙ ap (last_or None) one_more_taken)

  pub none_here : list_fault_from i earlier (drop i list) ≡ None → mapping_fault i earlier m ≡ None
  none_here none = first_none (mapping_fault i earlier m) (list_fault_from (i + 1) (Some m) (drop (i + 1) list)) (sym after ∙ none)

pub none_at_all : (list : List Mapping) (n : ℕ) → length list ≤ n
    → list_fault list ≡ list_fault_from n (last_or None (take n list)) (drop n list) → list_fault list ≡ None
none_at_all list n all so_far = so_far ∙ none_left (drop n list) (omega (arith, length-drop n list))
  where
    none_left : (rest : List Mapping) → length rest ≤ 0 → list_fault_from n (last_or None (take n list)) rest ≡ None
    none_left [] short = refl
    none_left (x ∷ rest) short = absurd (omega arith)

length_or_refusal : (b : Bool) (n : ℕ) (fault : Option EncodeRefusal) → fault ≡ option_or None (cond b (Some TooLong) None)
    → MatchResult (ok_or (cond b None (Some n)) TooLong) (λ _. fault ≡ None) (λ refusal. fault ≡ Some refusal)
length_or_refusal true n fault is = is
length_or_refusal false n fault is = is

-- a list without a fault has a length, or is too long
pub reported : (list : List Mapping) (o : Option ℕ) → list_fault list ≡ None
    → o ≡ cond (ltb most_text_bytes (length (canonical_text list))) None (Some (length (canonical_text list)))
    → MatchResult (ok_or o TooLong) (λ _. encode_fault list ≡ None) (λ refusal. encode_fault list ≡ Some refusal)
unfolding encode_fault
reported list o none is =
    let P : Option ℕ → Type 0 = λ o. MatchResult (ok_or o TooLong) (λ _. encode_fault list ≡ None) (λ refusal. encode_fault list ≡ Some refusal) in
    subst P (sym is) (length_or_refusal (is_text_too_long list) (length (canonical_text list)) (encode_fault list)
    (ap (λ first. option_or first (cond (is_text_too_long list) (Some TooLong) None)) none))
