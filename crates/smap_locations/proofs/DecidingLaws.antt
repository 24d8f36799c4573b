-- Which of several patterns decides, and what it gives.
use Rattle.std.proofs.Common.{◌≡◌, ◌≢◌, ◌⊎◌, ℕ, ◌+◌, ◌*◌, ◌<◌, ◌≤◌, ◌==◌, ◌&&◌, ◌||◌, Bool, true, false, not, ltb, List, [], ◌∷◌, ◌++◌, Option, Some, None}
use Rattle.std.proofs.Common.{get_or, length, take, drop, inl, inr, refl, sym, ap, subst, arith, zero, suc, ◌∙◌}
use Rattle.std.specs.Prelude.{MatchBool, if◌then◌else◌, nat_lt}
use Rattle.std.specs.Str.{bytes_eq}
use Rattle.std.proofs.lemmas.Bool.{and_parts, both_ways, eqb-false, eqb-true, le-ltb, lt-ltb, ltb-false, ltb-true}
use Rattle.std.proofs.lemmas.List.{take-append-drop}
use Rattle.std.proofs.lemmas.Slice.Eq.{bytes_eq-Decides}
use Rattle.smap_locations.proofs.FolderLaws.{plain_inside}
use Rattle.smap_locations.specs.ByPattern.{IsByPattern, IsInItsFolder}
use Rattle.smap_locations.specs.ListLine.{is_folder}
use Rattle.smap_locations.specs.Named.{Named}
use Rattle.smap_locations.specs.Patterns.{begins_with_separator, comes_before, deciding, has_url, is_better, is_separator, path_by_patterns}
use Rattle.smap_locations.specs.Patterns.{path_in, path_of, rest_behind, rest_from, rest_here, rest_or, with_slashes}

-- ---- one before another

-- as a number: twice the length, and one more where it is a file's
abbrev pub weight : (length : ℕ) → (folder : Bool) → ℕ
weight n true = 2 * n
weight n false = 2 * n + 1

abbrev pub rank : List ℕ × List ℕ → ℕ
rank pattern = weight (length pattern.0) (is_folder pattern.1)

shorter : (m n : ℕ) (f g : Bool) → m < n → weight m g < weight n f
shorter m n true true is = omega (arith, is)
shorter m n true false is = omega (arith, is)
shorter m n false true is = omega (arith, is)
shorter m n false false is = omega (arith, is)

as_long : (m n : ℕ) (f g : Bool) → n ≡ m → (g && not f) ≡ ltb (weight m g) (weight n f)
as_long m n true true is = sym (le-ltb (weight m true) (weight n true) (omega (arith, is)))
as_long m n true false is = sym (le-ltb (weight m false) (weight n true) (omega (arith, is)))
as_long m n false true is = sym (lt-ltb (weight m true) (weight n false) (omega (arith, is)))
as_long m n false false is = sym (le-ltb (weight m false) (weight n false) (omega (arith, is)))

by_weight : (m n : ℕ) (f g : Bool) → (nat_lt m n || n == m && g && not f) ≡ ltb (weight m g) (weight n f)
by_weight m n f g = go (nat_lt m n) refl
  where
    equal : (b : Bool) → (n == m) ≡ b → n ≤ m → (false || b && g && not f) ≡ ltb (weight m g) (weight n f)
    equal true is few = as_long m n f g (eqb-true n m is)
    equal false is few =
        let other : n ≢ m = eqb-false n m is in
        let less : n < m = omega (arith, few, other) in
        sym (le-ltb (weight m g) (weight n f) (omega (arith, shorter n m g f less)))

    go : (b : Bool) → nat_lt m n ≡ b → (nat_lt m n || n == m && g && not f) ≡ ltb (weight m g) (weight n f)
    go true is = ap (λ b. b || n == m && g && not f) is ∙ sym (lt-ltb (weight m g) (weight n f) (shorter m n f g (ltb-true m n is)))
    go false is = ap (λ b. b || n == m && g && not f) is ∙ equal (n == m) refl (ltb-false m n is)

pub by_rank : (pattern other : List ℕ × List ℕ) → comes_before pattern other ≡ ltb (rank other) (rank pattern)
by_rank pattern other = by_weight (length other.0) (length pattern.0) (is_folder pattern.1) (is_folder other.1)

-- none comes before what comes before one that none comes before
pub not_before : (one two three : List ℕ × List ℕ) → comes_before one two ≡ false → comes_before two three ≡ false → comes_before one three ≡ false
not_before one two three first second =
    let few : rank one ≤ rank two = ltb-false (rank two) (rank one) (sym (by_rank one two) ∙ first) in
    let more : rank two ≤ rank three = ltb-false (rank three) (rank two) (sym (by_rank two three) ∙ second) in
    by_rank one three ∙ le-ltb (rank three) (rank one) (omega (arith, few, more))

-- one that another comes before does not come before that
passed : (one two three : List ℕ × List ℕ) → comes_before one two ≡ true → comes_before one three ≡ false → comes_before two three ≡ false
passed one two three first second =
    let less : rank two < rank one = ltb-true (rank two) (rank one) (sym (by_rank one two) ∙ first) in
    let few : rank one ≤ rank three = ltb-false (rank three) (rank one) (sym (by_rank one three) ∙ second) in
    by_rank two three ∙ le-ltb (rank three) (rank two) (omega (arith, less, few))

-- ---- the one that decides

module _ (url short : List ℕ) where
  -- it stands among these and has the URL
  record IsAmong (patterns : Named) (pattern : List ℕ × List ℕ) : Type 0 where
    before : Named
    after : Named
    among : patterns ≡ before ++ pattern ∷ after
    has : has_url pattern url short ≡ true

  -- none of these that has the URL comes before it
  abbrev NoneBefore : (pattern : List ℕ × List ℕ) → (patterns : Named) → Type 0
  NoneBefore pattern [] = Unit {0}
  NoneBefore pattern (first ∷ patterns) =
      (has_url first url short ≡ true → comes_before first pattern ≡ false) × NoneBefore pattern patterns

  none_at : (pattern : List ℕ × List ℕ) (patterns : Named) → NoneBefore pattern patterns → (other : List ℕ × List ℕ) (k : ℕ) → k < length patterns
      → get_or patterns k other ≡ other → has_url other url short ≡ true → comes_before other pattern ≡ false
  none_at pattern [] none other k few is has = absurd (omega (arith, few))
  none_at pattern (first ∷ patterns) none other zero few is has =
      subst (λ p. comes_before p pattern ≡ false) is (none.0 (ap (λ p. has_url p url short) is ∙ has))
  none_at pattern (first ∷ patterns) none other (suc k) few is has = none_at pattern patterns none.1 other k (omega (arith, few)) is has

  abbrev IsAfter : (best : Option (List ℕ × List ℕ)) → (pattern : List ℕ × List ℕ) → Type 0
  IsAfter None pattern = Unit {0}
  IsAfter (Some best) pattern = comes_before best pattern ≡ false

  record IsBest (best : Option (List ℕ × List ℕ)) (patterns : Named) (pattern : List ℕ × List ℕ) : Type 0 where
    one : (best ≡ Some pattern) ⊎ IsAmong patterns pattern
    none : NoneBefore pattern patterns
    after : IsAfter best pattern

  first_among : (patterns : Named) (first pattern : List ℕ × List ℕ) → has_url first url short ≡ true → (Some first ≡ Some pattern) ⊎ IsAmong patterns pattern
      → IsAmong (first ∷ patterns) pattern
  first_among patterns first pattern has (inl is) =
      let same : first ≡ pattern = cc in
      record { before = []; after = patterns; among = ap (λ p. p ∷ patterns) same; has = ap (λ p. has_url p url short) (sym same) ∙ has }
  first_among patterns first pattern has (inr is) =
      record { before = first ∷ is.before; after = is.after; among = ap (λ l. first ∷ l) is.among; has = is.has }

  later_among : (patterns : Named) (first pattern : List ℕ × List ℕ) (best : Option (List ℕ × List ℕ)) → (best ≡ Some pattern) ⊎ IsAmong patterns pattern
      → (best ≡ Some pattern) ⊎ IsAmong (first ∷ patterns) pattern
  later_among patterns first pattern best (inl is) = inl is
  later_among patterns first pattern best (inr is) =
      inr (record { before = first ∷ is.before; after = is.after; among = ap (λ l. first ∷ l) is.among; has = is.has })

  -- the first of these is better than the best so far, and has the URL
  after_first : (best : Option (List ℕ × List ℕ)) (first pattern : List ℕ × List ℕ) → is_better best first ≡ true → comes_before first pattern ≡ false
      → IsAfter best pattern
  after_first None first pattern is below = tt
  after_first (Some best) first pattern is below = passed first best pattern is below

  -- or it is not
  first_passed : (best : Option (List ℕ × List ℕ)) (first pattern : List ℕ × List ℕ) → (is_better best first && has_url first url short) ≡ false
      → IsAfter best pattern → has_url first url short ≡ true → comes_before first pattern ≡ false
  first_passed None first pattern off after has = absurd (both_ways (has_url first url short) off has)
  first_passed (Some best) first pattern off after has =
      not_before first best pattern (only_first (comes_before first best) (has_url first url short) off has) after
    where
      only_first : (a b : Bool) → (a && b) ≡ false → b ≡ true → a ≡ false
      only_first false b off on = refl
      only_first true b off on = absurd (both_ways b off on)

  decides : (patterns : Named) (best : Option (List ℕ × List ℕ)) (pattern : List ℕ × List ℕ) → deciding url short best patterns ≡ Some pattern
      → IsBest best patterns pattern
  decides [] best pattern is = record { one = inl is; none = tt; after = self best is }
    where
      self : (best : Option (List ℕ × List ℕ)) → best ≡ Some pattern → IsAfter best pattern
      self None is = tt
      self (Some best) is =
          let same : best ≡ pattern = cc in
          by_rank best pattern ∙ le-ltb (rank pattern) (rank best) (omega (arith, ap rank same))
  decides (first ∷ patterns) best pattern is =
      go (is_better best first && has_url first url short) refl is (λ best is. decides patterns best pattern is)
    where
      go : (b : Bool) → (is_better best first && has_url first url short) ≡ b
          → deciding url short (if b then Some first else best) patterns ≡ Some pattern
          → ((best : Option (List ℕ × List ℕ)) → deciding url short best patterns ≡ Some pattern → IsBest best patterns pattern)
          → IsBest best (first ∷ patterns) pattern
      go true on is decided =
          let below = decided (Some first) is in
          let parts = and_parts (is_better best first) (has_url first url short) on in
          record {
            one = inr (first_among patterns first pattern parts.1 below.one);
            none = ((λ has. below.after), below.none);
            after = after_first best first pattern parts.0 below.after;
          }
      go false off is decided =
          let below = decided best is in
          record {
            one = later_among patterns first pattern best below.one;
            none = ((λ has. first_passed best first pattern off below.after has), below.none);
            after = below.after;
          }

-- ---- what it gives

here_cut : (text url rest : List ℕ) (b : Bool) → (if b then Some (drop (length text) url) else None) ≡ Some rest
    → (b ≡ true → bytes_eq (take (length text) url) text ≡ true) → url ≡ text ++ rest
here_cut text url rest true is on =
    let same : drop (length text) url ≡ rest = cc in
    sym (take-append-drop (length text) url)
    ∙ ap (λ l. l ++ drop (length text) url) ((bytes_eq-Decides (take (length text) url) text).0 (on refl)) ∙ ap (λ l. text ++ l) same
here_cut text url rest false is on = cc

rest_cut : (text : List ℕ) (begins : Bool) (url rest : List ℕ) → rest_from text begins url ≡ Some rest
    → (before : List ℕ) × (url ≡ before ++ text ++ rest)
rest_cut text begins [] rest is = cc
rest_cut text begins (byte ∷ url) rest is = go (rest_here text begins (byte ∷ url)) refl is (rest_cut text (is_separator byte) url rest)
  where
    go : (found : Option (List ℕ)) → rest_here text begins (byte ∷ url) ≡ found → rest_or found (rest_from text (is_separator byte) url) ≡ Some rest
        → (rest_from text (is_separator byte) url ≡ Some rest → (before : List ℕ) × (url ≡ before ++ text ++ rest))
        → (before : List ℕ) × (byte ∷ url ≡ before ++ text ++ rest)
    go (Some other) here is further =
        let stands = (begins || begins_with_separator (byte ∷ url)) in
        let same = bytes_eq (take (length text) (byte ∷ url)) text in
        ([], here_cut text (byte ∷ url) rest (stands && same) (here ∙ is) (λ on. (and_parts stands same on).1))
    go None here is further =
        let below = further is in
        (byte ∷ below.0, ap (λ l. byte ∷ l) below.1)

in_its_folder : (pattern : List ℕ × List ℕ) (short path : List ℕ) (found : Option (List ℕ)) → rest_behind pattern.0 short ≡ found
    → path_in pattern.0 pattern.1 found ≡ Some path → IsInItsFolder pattern short path
in_its_folder pattern short path None here is = cc
in_its_folder pattern short path (Some rest) here is =
    let cut = rest_cut pattern.0 true short rest here in
    let made = plain_inside pattern.1 (with_slashes pattern.0 rest) path is in
    record { before = cut.0; rest = rest; cut = cut.1; inside = made.0; stays = made.1 }

gives_so : (pattern : List ℕ × List ℕ) (short path : List ℕ) (folder : Bool)
    → (if folder then path_in pattern.0 pattern.1 (rest_behind pattern.0 short) else Some pattern.1) ≡ Some path
    → MatchBool folder (IsInItsFolder pattern short path) (path ≡ pattern.1)
gives_so pattern short path true is = in_its_folder pattern short path (rest_behind pattern.0 short) refl is
gives_so pattern short path false is =
    let same : pattern.1 ≡ path = cc in
    sym same

pub found_by_pattern : (patterns : Named) (url short path : List ℕ) → path_by_patterns patterns url short ≡ Some path → IsByPattern patterns url short path
found_by_pattern patterns url short path is = go (deciding url short None patterns) refl is
  where
    one_of : (pattern : List ℕ × List ℕ) → (None ≡ Some pattern) ⊎ IsAmong url short patterns pattern → IsAmong url short patterns pattern
    one_of pattern (inl none) = cc
    one_of pattern (inr among) = among

    go : (found : Option (List ℕ × List ℕ)) → deciding url short None patterns ≡ found → path_of short found ≡ Some path → IsByPattern patterns url short path
    go None decided is = cc
    go (Some pattern) decided is =
        let best = decides url short patterns None pattern decided in
        let one = one_of pattern best.one in
        record {
          pattern = pattern;
          before = one.before;
          after = one.after;
          among = one.among;
          has = one.has;
          first = λ other within has. none_at url short pattern patterns best.none other within.0 within.1 within.2 has;
          gives = gives_so pattern short path (is_folder pattern.1) is;
        }
