-- Which of several patterns decides in a text that is no trace: the one that decides anywhere, if its text is not empty.
use Rattle.std.proofs.Common.{◌≡◌, ◌≢◌, ℕ, ◌<◌, ◌==◌, ◌&&◌, ◌||◌, Bool, true, false, not, cond, List, [], ◌∷◌, Option, Some, None, is_some, length, refl, sym, ap, arith, ◌∙◌}
use Rattle.std.specs.Prelude.{filter, nat_lt}
use Rattle.std.proofs.lemmas.Bool.{and_parts, both_ways, eqb-false, eqb-true, le-ltb, lt-ltb, ne_eqb, or_left}
use Rattle.smap_locations.specs.ListLine.{is_folder}
use Rattle.smap_locations.specs.Named.{Named}
use Rattle.smap_locations.specs.Patterns.{better, comes_before, deciding, has_path_in_text, has_url, is_better, is_for_texts, path_by, path_by_patterns, path_of}

-- it decides in such a text too
abbrev pub for_texts : Option (List ℕ × List ℕ) → Option (List ℕ × List ℕ)
for_texts None = None
for_texts (Some pattern) = cond (is_for_texts pattern) (Some pattern) None

is_empty : (pattern : List ℕ × List ℕ) → is_for_texts pattern ≡ false → length pattern.0 ≡ 0
is_empty pattern is = go (length pattern.0 == 0) refl is
  where
    go : (b : Bool) → (length pattern.0 == 0) ≡ b → not b ≡ false → length pattern.0 ≡ 0
    go true same is = eqb-true (length pattern.0) 0 same
    go false same is = cc

is_long : (pattern : List ℕ × List ℕ) → is_for_texts pattern ≡ true → 0 < length pattern.0
is_long pattern is = go (length pattern.0 == 0) refl is
  where
    go : (b : Bool) → (length pattern.0 == 0) ≡ b → not b ≡ true → 0 < length pattern.0
    go true same is = cc
    go false same is = let some : length pattern.0 ≢ 0 = eqb-false (length pattern.0) 0 same in omega (arith, some)

-- one with a text decides before one without
same_better : (best : Option (List ℕ × List ℕ)) (pattern : List ℕ × List ℕ) → is_for_texts pattern ≡ true
    → is_better (for_texts best) pattern ≡ is_better best pattern
same_better None pattern on = refl
same_better (Some best) pattern on = go (is_for_texts best) refl
  where
    go : (b : Bool) → is_for_texts best ≡ b → is_better (cond b (Some best) None) pattern ≡ comes_before pattern best
    go true is = refl
    go false is =
        sym (or_left (nat_lt (length best.0) (length pattern.0)) _
        (lt-ltb (length best.0) (length pattern.0) (omega (arith, is_empty best is, is_long pattern on))))

-- one without decides before none that has one
none_better : (best : Option (List ℕ × List ℕ)) (pattern : List ℕ × List ℕ) → is_for_texts pattern ≡ false → is_better best pattern ≡ true
    → for_texts best ≡ None
none_better None pattern off before = refl
none_better (Some best) pattern off before = go (is_for_texts best) refl
  where
    go : (b : Bool) → is_for_texts best ≡ b → cond b (Some best) None ≡ None
    go false is = refl
    go true is =
        let empty : length pattern.0 ≡ 0 = is_empty pattern off in
        let long : 0 < length best.0 = is_long best is in
        let other : (length pattern.0 == length best.0) ≡ false = ne_eqb (length pattern.0) (length best.0) (λ same. absurd (omega (arith, empty, long, same))) in
        let not_before : comes_before pattern best ≡ false =
        ap (λ b. b || (length pattern.0 == length best.0) && is_folder best.1 && not (is_folder pattern.1)) (le-ltb (length best.0) (length pattern.0) (omega (arith, empty)))
        ∙ ap (λ b. b && is_folder best.1 && not (is_folder pattern.1)) other in
        absurd (both_ways (comes_before pattern best) not_before before)

module _ (url short : List ℕ) where
  with_text : (best : Option (List ℕ × List ℕ)) (pattern : List ℕ × List ℕ) → is_for_texts pattern ≡ true
      → better url short (for_texts best) pattern ≡ for_texts (better url short best pattern)
  with_text best pattern on =
      ap (λ b. cond (b && has_url pattern url short) (Some pattern) (for_texts best)) (same_better best pattern on)
      ∙ go (is_better best pattern && has_url pattern url short)
    where
      go : (b : Bool) → cond b (Some pattern) (for_texts best) ≡ for_texts (cond b (Some pattern) best)
      go true = sym (ap (λ b. cond b (Some pattern) None) on)
      go false = refl

  without_text : (best : Option (List ℕ × List ℕ)) (pattern : List ℕ × List ℕ) → is_for_texts pattern ≡ false
      → for_texts best ≡ for_texts (better url short best pattern)
  without_text best pattern off = go (is_better best pattern) (has_url pattern url short) (none_better best pattern off)
    where
      go : (before has : Bool) → (before ≡ true → for_texts best ≡ None) → for_texts best ≡ for_texts (cond (before && has) (Some pattern) best)
      go true true none = none refl ∙ sym (ap (λ b. cond b (Some pattern) None) off)
      go true false none = refl
      go false has none = refl

  deciding_in_text : (best : Option (List ℕ × List ℕ)) (patterns : Named)
      → deciding url short (for_texts best) (filter is_for_texts patterns) ≡ for_texts (deciding url short best patterns)
  deciding_in_text best [] = refl
  deciding_in_text best (pattern ∷ patterns) = go (is_for_texts pattern) refl (deciding_in_text (better url short best pattern) patterns)
    where
      go : (b : Bool) → is_for_texts pattern ≡ b
          → deciding url short (for_texts (better url short best pattern)) (filter is_for_texts patterns)
          ≡ for_texts (deciding url short (better url short best pattern) patterns)
          → deciding url short (for_texts best) (cond b (pattern ∷ filter is_for_texts patterns) (filter is_for_texts patterns))
          ≡ for_texts (deciding url short (better url short best pattern) patterns)
      go true on rest = ap (λ best. deciding url short best (filter is_for_texts patterns)) (with_text best pattern on) ∙ rest
      go false off rest = ap (λ best. deciding url short best (filter is_for_texts patterns)) (without_text best pattern off) ∙ rest

  -- what that one gives
  abbrev pub gives : Option (List ℕ × List ℕ) → Bool
  gives None = false
  gives (Some pattern) = is_for_texts pattern && is_some (path_by pattern short)

  pub in_text_is : (patterns : Named) → has_path_in_text patterns url short ≡ gives (deciding url short None patterns)
  in_text_is patterns = ap (λ one. is_some (path_of short one)) (deciding_in_text None patterns) ∙ of (deciding url short None patterns)
    where
      of : (one : Option (List ℕ × List ℕ)) → is_some (path_of short (for_texts one)) ≡ gives one
      of None = refl
      of (Some pattern) = go (is_for_texts pattern)
        where
          go : (b : Bool) → is_some (path_of short (cond b (Some pattern) None)) ≡ (b && is_some (path_by pattern short))
          go true = refl
          go false = refl

  -- so patterns have a path anywhere that have one in such a text
  pub path_in_text : (patterns : Named) → has_path_in_text patterns url short ≡ true → is_some (path_by_patterns patterns url short) ≡ true
  path_in_text patterns is = of (deciding url short None patterns) (sym (in_text_is patterns) ∙ is)
    where
      of : (one : Option (List ℕ × List ℕ)) → gives one ≡ true → is_some (path_of short one) ≡ true
      of None on = cc
      of (Some pattern) on = (and_parts (is_for_texts pattern) (is_some (path_by pattern short)) on).1
