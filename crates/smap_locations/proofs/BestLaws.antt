-- The best of the patterns that were tried for a URL is the one that decides, when each that has the URL was.
use Rattle.std.proofs.Common.{◌≡◌, ◌⊎◌, ℕ, zero, suc, ◌+◌, ◌<◌, ◌≤◌, ◌&&◌, ◌||◌, Bool, true, false, List, [], ◌∷◌, Option, Some, None}
use Rattle.std.proofs.Common.{is_some, length, get_or, take, drop, ltb, inl, inr, refl, sym, ap, subst, arith, ◌∙◌}
use Rattle.std.specs.Prelude.{if◌then◌else◌, nat_lt, not, option_map}
use Rattle.std.specs.List.{Contains, position_or_len, slice_get}
use Rattle.std.specs.Option.{ForSome}
use Rattle.std.specs.Str.{bytes_eq}
use Rattle.std.proofs.lemmas.Bool.{and_parts, both_ways, le-ltb, ltb-false, ltb-true}
use Rattle.smap_locations.specs.ListLine.{is_folder}
use Rattle.smap_locations.specs.Named.{Named}
use Rattle.smap_locations.specs.Patterns.{begins_with_separator, comes_before, deciding, has_ending, has_text, has_url, is_better, is_separator, rest_behind, rest_from, rest_here, rest_or, text_by_patterns}
use Rattle.smap_locations.specs.Private.Best.{Comes, IsCovered, IsFor, IsOfFirst, at_place}
use Rattle.std.proofs.lemmas.List.{get_or_default}
use Rattle.smap_locations.proofs.PlaceLaws.{first_at}
use Rattle.smap_locations.proofs.DecidingLaws.{by_rank, not_before, rank}

-- ---- one decides before another

before_no_more : (one two : List ℕ × List ℕ) → comes_before one two ≡ true → comes_before two one ≡ false
before_no_more one two is =
    let less : rank two < rank one = ltb-true (rank two) (rank one) (sym (by_rank one two) ∙ is) in
    by_rank two one ∙ le-ltb (rank one) (rank two) (omega (arith, less))

-- the test says which of two places comes first
pub goes_first : (one two : List ℕ × List ℕ) (place other : ℕ) → (comes_before one two || nat_lt place other && not (comes_before two one)) ≡ true
    → (comes_before two one ≡ false) × (comes_before one two ≡ false → place ≤ other)
goes_first one two place other is = go (comes_before one two) refl (comes_before two one) refl (nat_lt place other) refl is
  where
    go : (b : Bool) → comes_before one two ≡ b → (c : Bool) → comes_before two one ≡ c → (d : Bool) → nat_lt place other ≡ d → (b || d && not c) ≡ true
        → (comes_before two one ≡ false) × (comes_before one two ≡ false → place ≤ other)
    go true before c after d low on = (before_no_more one two before, λ off. absurd (both_ways (comes_before one two) off before))
    go false before false after true low on =
        let less : place < other = ltb-true place other low in
        (after, λ off. omega (arith, less))
    go false before true after true low on = cc
    go false before c after false low on = cc

pub goes_later : (one two : List ℕ × List ℕ) (place other : ℕ) → (comes_before one two || nat_lt place other && not (comes_before two one)) ≡ false
    → (comes_before one two ≡ false) × (comes_before two one ≡ false → other ≤ place)
goes_later one two place other is = go (comes_before one two) refl (comes_before two one) refl (nat_lt place other) refl is
  where
    go : (b : Bool) → comes_before one two ≡ b → (c : Bool) → comes_before two one ≡ c → (d : Bool) → nat_lt place other ≡ d → (b || d && not c) ≡ false
        → (comes_before one two ≡ false) × (comes_before two one ≡ false → other ≤ place)
    go true before c after d low off = cc
    go false before false after true low off = cc
    go false before true after true low off = (before, λ is. absurd (both_ways (comes_before two one) is after))
    go false before c after false low off =
        let few : other ≤ place = ltb-false place other low in
        (before, λ is. few)

-- the parts of the test
pub first_by_both : (b d e : Bool) → d ≡ true → e ≡ true → (b || d && e) ≡ true
first_by_both true true true low on = refl
first_by_both false true true low on = refl
first_by_both b false e low on = cc
first_by_both b true false low on = cc

pub later_by_before : (b d e : Bool) → b ≡ false → e ≡ false → (b || d && e) ≡ false
later_by_before true d e off on = cc
later_by_before false d true off on = cc
later_by_before false true false off on = refl
later_by_before false false false off on = refl

pub later_by_place : (b d e : Bool) → b ≡ false → d ≡ false → (b || d && e) ≡ false
later_by_place true d e off low = cc
later_by_place false true e off low = cc
later_by_place false false e off low = refl

module _ (patterns : Named) where
  pub covered_so : (place other : ℕ) (one two : List ℕ × List ℕ) → slice_get patterns place ≡ Some one → slice_get patterns other ≡ Some two
      → (comes_before two one ≡ false) × (comes_before one two ≡ false → place ≤ other) → IsCovered patterns (Some place) other
  covered_so place other one two there also is pattern worse at by =
      let same : one ≡ pattern = cc in
      let such : two ≡ worse = cc in (
        ap (λ w. comes_before w pattern) (sym such) ∙ ap (comes_before two) (sym same) ∙ is.0,
        λ off. is.1 (ap (λ p. comes_before p two) same ∙ ap (comes_before pattern) such ∙ off),
      )

  self_covered : (place : ℕ) → IsCovered patterns (Some place) place
  self_covered place pattern worse there also =
      let same : pattern ≡ worse = cc in
      (by_rank worse pattern ∙ le-ltb (rank pattern) (rank worse) (omega (arith, ap rank same)), λ off. omega arith)

  covered_over : (place other last : ℕ) (two : List ℕ × List ℕ) → slice_get patterns other ≡ Some two → IsCovered patterns (Some place) other
      → IsCovered patterns (Some other) last → IsCovered patterns (Some place) last
  covered_over place other last two there first second one three at by =
      let high = first one two at there in
      let low = second two three there by in (
        not_before three two one low.0 high.0,
        λ off.
            (let few : place ≤ other = high.1 (not_before one three two off low.0) in
            let more : other ≤ last = low.1 (not_before two one three high.0 off) in
            omega (arith, few, more)),
      )

-- ---- what the best comes to

module _ (patterns : Named) (url short : List ℕ) where
  pub none_tried : (best : Option ℕ) (Tried : ℕ → List ℕ × List ℕ → Type 0) → IsFor patterns url short best
      → ((place : ℕ) (pattern : List ℕ × List ℕ) → slice_get patterns place ≡ Some pattern → has_url pattern url short ≡ true → Tried place pattern
      → IsCovered patterns best place) → Comes patterns url short best best Tried
  none_tried best Tried right none = record { has = right; kept = λ place covered. covered; tried = none }

  pub tried_then : (before now after : Option ℕ) (First Second Both : ℕ → List ℕ × List ℕ → Type 0) → Comes patterns url short before now First
      → Comes patterns url short now after Second
      → ((place : ℕ) (pattern : List ℕ × List ℕ) → slice_get patterns place ≡ Some pattern → has_url pattern url short ≡ true → Both place pattern
      → First place pattern ⊎ Second place pattern) → Comes patterns url short before after Both
  tried_then before now after First Second Both one two either = record {
    has = two.has;
    kept = λ place covered. two.kept place (one.kept place covered);
    tried = λ place pattern there has both. go place pattern there has (either place pattern there has both);
  }
    where
      go : (place : ℕ) (pattern : List ℕ × List ℕ) → slice_get patterns place ≡ Some pattern → has_url pattern url short ≡ true
          → First place pattern ⊎ Second place pattern → IsCovered patterns after place
      go place pattern there has (inl first) = two.kept place (one.tried place pattern there has first)
      go place pattern there has (inr second) = two.tried place pattern there has second

  pub tried_as : (before after : Option ℕ) (First Second : ℕ → List ℕ × List ℕ → Type 0) → Comes patterns url short before after First
      → ((place : ℕ) (pattern : List ℕ × List ℕ) → slice_get patterns place ≡ Some pattern → has_url pattern url short ≡ true → Second place pattern
      → First place pattern) → Comes patterns url short before after Second
  tried_as before after First Second one such = record {
    has = one.has;
    kept = one.kept;
    tried = λ place pattern there has second. one.tried place pattern there has (such place pattern there has second);
  }

  module _ (best found : Option ℕ) (right : IsFor patterns url short best) where
    pub nothing_found : found ≡ None → Comes patterns url short best best (λ place pattern. found ≡ Some place)
    nothing_found none = none_tried best (λ place pattern. found ≡ Some place) right (λ place pattern there has is. cc)

    module _ (place : ℕ) (is : found ≡ Some place) where
      pub found_worse : IsCovered patterns best place → Comes patterns url short best best (λ place pattern. found ≡ Some place)
      found_worse covered = none_tried best (λ place pattern. found ≡ Some place) right
          (λ other pattern there has same. let one : place ≡ other = cc in subst (λ p. IsCovered patterns best p) one covered)

      pub found_other : (pattern : List ℕ × List ℕ) → slice_get patterns place ≡ Some pattern → has_url pattern url short ≡ false
          → Comes patterns url short best best (λ place pattern. found ≡ Some place)
      found_other pattern there off = none_tried best (λ place pattern. found ≡ Some place) right
          (λ other it also has same.
          (let one : place ≡ other = cc in
          let here : slice_get patterns place ≡ Some it = ap (slice_get patterns) one ∙ also in
          let such : pattern ≡ it = cc in
          absurd (both_ways (has_url it url short) (ap (λ p. has_url p url short) (sym such) ∙ off) has)))

      over_best : (so_far : Option ℕ) → IsFor patterns url short so_far → ForSome so_far (λ other. IsCovered patterns (Some place) other)
          → (other : ℕ) → IsCovered patterns so_far other → IsCovered patterns (Some place) other
      over_best None fits better other covered = absurd covered
      over_best (Some before) fits better other covered = covered_over patterns place before other fits.0 fits.1 (better before refl) covered

      pub found_better : (pattern : List ℕ × List ℕ) → slice_get patterns place ≡ Some pattern → has_url pattern url short ≡ true
          → ForSome best (λ other. IsCovered patterns (Some place) other)
          → Comes patterns url short best (Some place) (λ place pattern. found ≡ Some place)
      found_better pattern there has better = record {
        has = (pattern, there, has);
        kept = over_best best right better;
        tried = λ other it also on same.
            (let one : place ≡ other = cc in subst (λ p. IsCovered patterns (Some place) p) one (self_covered patterns place));
      }

  -- ---- the one that decides

  stays_found : (all : Named) (pattern : List ℕ × List ℕ)
      → ((other : ℕ) (worse : List ℕ × List ℕ) → slice_get all other ≡ Some worse → has_url worse url short ≡ true → comes_before worse pattern ≡ false)
      → deciding url short (Some pattern) all ≡ Some pattern
  stays_found [] pattern none = refl
  stays_found (first ∷ all) pattern none =
      go (comes_before first pattern) refl (has_url first url short) refl (stays_found all pattern (λ other worse. none (suc other) worse))
    where
      go : (b : Bool) → comes_before first pattern ≡ b → (c : Bool) → has_url first url short ≡ c → deciding url short (Some pattern) all ≡ Some pattern
          → deciding url short (if b && c then Some first else Some pattern) all ≡ Some pattern
      go false before c has below = below
      go true before false has below = below
      go true before true has below = absurd (both_ways (comes_before first pattern) (none 0 first refl has) before)

  first_found : (all : Named) (place : ℕ) (pattern : List ℕ × List ℕ) (best : Option (List ℕ × List ℕ)) → slice_get all place ≡ Some pattern
      → has_url pattern url short ≡ true → is_better best pattern ≡ true
      → ((other : ℕ) (worse : List ℕ × List ℕ) → slice_get all other ≡ Some worse → has_url worse url short ≡ true
      → (comes_before worse pattern ≡ false) × (comes_before pattern worse ≡ false → place ≤ other))
      → deciding url short best all ≡ Some pattern
  first_found [] place pattern best there has better none = cc
  first_found (first ∷ all) zero pattern best there has better none =
      let same : first ≡ pattern = cc in
      let P : List ℕ × List ℕ → Type 0 = λ one. deciding url short (if is_better best one && has_url one url short then Some one else best) all ≡ Some pattern in
      subst P (sym same)
      (ap (λ b. deciding url short (if b && has_url pattern url short then Some pattern else best) all) better
      ∙ ap (λ b. deciding url short (if b then Some pattern else best) all) has
      ∙ stays_found all pattern (λ other worse also on. (none (suc other) worse also on).0))
  first_found (first ∷ all) (suc place) pattern best there has better none =
      go (is_better best first) refl (has_url first url short) refl (λ one before. first_found all place pattern one there has before after)
    where
      after : (other : ℕ) (worse : List ℕ × List ℕ) → slice_get all other ≡ Some worse → has_url worse url short ≡ true
          → (comes_before worse pattern ≡ false) × (comes_before pattern worse ≡ false → place ≤ other)
      after other worse also on =
          let given = none (suc other) worse also on in
          (given.0, λ off. (let few : suc place ≤ suc other = given.1 off in omega (arith, few)))

      beats : has_url first url short ≡ true → (b : Bool) → comes_before pattern first ≡ b → comes_before pattern first ≡ true
      beats on true is = is
      beats on false is =
          let few : suc place ≤ 0 = (none 0 first refl on).1 is in
          absurd (omega (arith, few))

      go : (b : Bool) → is_better best first ≡ b → (c : Bool) → has_url first url short ≡ c
          → ((one : Option (List ℕ × List ℕ)) → is_better one pattern ≡ true → deciding url short one all ≡ Some pattern)
          → deciding url short (if b && c then Some first else best) all ≡ Some pattern
      go false before c on below = below best better
      go true before false on below = below best better
      go true before true on below = below (Some first) (beats on (comes_before pattern first) refl)

  none_found : (all : Named) → ((other : ℕ) (worse : List ℕ × List ℕ) → slice_get all other ≡ Some worse → has_url worse url short ≡ true → ⊥)
      → deciding url short None all ≡ None
  none_found [] none = refl
  none_found (first ∷ all) none = go (has_url first url short) refl (none_found all (λ other worse. none (suc other) worse))
    where
      go : (c : Bool) → has_url first url short ≡ c → deciding url short None all ≡ None
          → deciding url short (if true && c then Some first else None) all ≡ None
      go false off below = below
      go true on below = absurd (none 0 first refl on)

  pub place_decides : (best : Option ℕ) → IsFor patterns url short best
      → ((place : ℕ) (pattern : List ℕ × List ℕ) → slice_get patterns place ≡ Some pattern → has_url pattern url short ≡ true → IsCovered patterns best place)
      → at_place patterns best ≡ deciding url short None patterns
  place_decides None right all = sym (none_found patterns all)
  place_decides (Some place) right all =
      right.1 ∙ sym (first_found patterns place right.0 None right.1 right.2 refl
      (λ other worse also on. all other worse also on right.0 worse right.1 also))

  -- ---- files and folders

  pub folder_has : (pattern : List ℕ × List ℕ) → is_folder pattern.1 ≡ true → has_url pattern url short ≡ true → is_some (rest_behind pattern.0 short) ≡ true
  folder_has pattern kind has =
      sym (ap (λ b. if b then is_some (rest_behind pattern.0 short) else (has_ending pattern.0 url || has_ending pattern.0 short)) kind) ∙ has

  pub file_has : (pattern : List ℕ × List ℕ) → is_folder pattern.1 ≡ false → has_url pattern url short ≡ true
      → (has_ending pattern.0 url ≡ true) ⊎ (has_ending pattern.0 short ≡ true)
  file_has pattern kind has =
      go (has_ending pattern.0 url) refl
      (sym (ap (λ b. if b then is_some (rest_behind pattern.0 short) else (has_ending pattern.0 url || has_ending pattern.0 short)) kind) ∙ has)
    where
      go : (b : Bool) → has_ending pattern.0 url ≡ b → (b || has_ending pattern.0 short) ≡ true
          → (has_ending pattern.0 url ≡ true) ⊎ (has_ending pattern.0 short ≡ true)
      go true on either = inl on
      go false off either = inr either

  -- ---- one length after another

  pub tried_one : (before now after : Option ℕ) (A B : List ℕ × List ℕ → Type 0) (lengths : List ℕ) (count one : ℕ) → count < length lengths
      → one ≡ get_or lengths count one
      → Comes patterns url short before now (λ place pattern. A pattern × B pattern × IsOfFirst lengths count pattern)
      → Comes patterns url short now after (λ place pattern. A pattern × B pattern × (length pattern.0 ≡ one))
      → Comes patterns url short before after (λ place pattern. A pattern × B pattern × IsOfFirst lengths (count + 1) pattern)
  tried_one before now after A B lengths count one few is first second = tried_then before now after
      (λ place pattern. A pattern × B pattern × IsOfFirst lengths count pattern) (λ place pattern. A pattern × B pattern × (length pattern.0 ≡ one))
      (λ place pattern. A pattern × B pattern × IsOfFirst lengths (count + 1) pattern) first second
      (λ place pattern there has tried. go pattern tried.0 tried.1 tried.2.0 tried.2.1 tried.2.2 (ltb tried.2.0 count) refl)
    where
      go : (pattern : List ℕ × List ℕ) → A pattern → B pattern → (k : ℕ) → k < count + 1 → get_or lengths k 0 ≡ length pattern.0
          → (b : Bool) → ltb k count ≡ b
          → (A pattern × B pattern × IsOfFirst lengths count pattern) ⊎ (A pattern × B pattern × (length pattern.0 ≡ one))
      go pattern a b k low same true before = inl (a, b, (k, ltb-true k count before, same))
      go pattern a b k low same false behind =
          let few_k : count ≤ k = ltb-false k count behind in
          let last : k ≡ count = omega (arith, few_k, low) in
          inr (a, b, sym same ∙ ap (λ n. get_or lengths n 0) last ∙ get_or_default lengths count 0 one few ∙ sym is)

  pub all_tried : (before after : Option ℕ) (A B : List ℕ × List ℕ → Type 0) (lengths : List ℕ) (count : ℕ) → length lengths ≤ count
      → ((place : ℕ) (pattern : List ℕ × List ℕ) → slice_get patterns place ≡ Some pattern → A pattern → Contains lengths (length pattern.0))
      → Comes patterns url short before after (λ place pattern. A pattern × B pattern × IsOfFirst lengths count pattern)
      → Comes patterns url short before after (λ place pattern. A pattern × B pattern)
  all_tried before after A B lengths count all has_length come = tried_as before after
      (λ place pattern. A pattern × B pattern × IsOfFirst lengths count pattern) (λ place pattern. A pattern × B pattern) come
      (λ place pattern there has tried. go pattern tried.0 tried.1 (has_length place pattern there tried.0))
    where
      go : (pattern : List ℕ × List ℕ) → A pattern → B pattern → Contains lengths (length pattern.0) → A pattern × B pattern × IsOfFirst lengths count pattern
      go pattern a b one =
          let low = one.1 in
          (a, b, (one.0, omega (arith, low, all), get_or_default lengths one.0 0 (length pattern.0) low ∙ one.2))

  -- ---- one piece after another

  abbrev pub IsPassed : (begins : Bool) → (left : List ℕ) → (place : ℕ) → (pattern : List ℕ × List ℕ) → Type 0
  IsPassed begins left place pattern = (is_folder pattern.1 ≡ true) × (is_some (rest_from pattern.0 begins left) ≡ false)

  abbrev pub IsHere : (begins : Bool) → (left : List ℕ) → (place : ℕ) → (pattern : List ℕ × List ℕ) → Type 0
  IsHere begins left place pattern = (is_folder pattern.1 ≡ true) × (is_some (rest_here pattern.0 begins left) ≡ true)

  pub walk_begins : (best : Option ℕ) → IsFor patterns url short best → Comes patterns url short best best (IsPassed true short)
  walk_begins best right = none_tried best (IsPassed true short) right
      (λ place pattern there has tried. absurd (both_ways (is_some (rest_behind pattern.0 short)) tried.1 (folder_has pattern tried.0 has)))

  walk_byte : (before now after : Option ℕ) (begins : Bool) (byte : ℕ) (behind : List ℕ) → Comes patterns url short before now (IsPassed begins (byte ∷ behind))
      → Comes patterns url short now after (IsHere begins (byte ∷ behind)) → Comes patterns url short before after (IsPassed (is_separator byte) behind)
  walk_byte before now after begins byte behind first second = tried_then before now after
      (IsPassed begins (byte ∷ behind)) (IsHere begins (byte ∷ behind)) (IsPassed (is_separator byte) behind) first second
      (λ place pattern there has tried. go place pattern tried.0 tried.1 (rest_here pattern.0 begins (byte ∷ behind)) refl)
    where
      go : (place : ℕ) (pattern : List ℕ × List ℕ) → is_folder pattern.1 ≡ true → is_some (rest_from pattern.0 (is_separator byte) behind) ≡ false
          → (found : Option (List ℕ)) → rest_here pattern.0 begins (byte ∷ behind) ≡ found
          → IsPassed begins (byte ∷ behind) place pattern ⊎ IsHere begins (byte ∷ behind) place pattern
      go place pattern kind off None is =
          inl (kind, ap (λ r. is_some (rest_or r (rest_from pattern.0 (is_separator byte) behind))) is ∙ off)
      go place pattern kind off (Some rest) is = inr (kind, ap is_some is)

  pub walk_on : (before now after : Option ℕ) (begins next : Bool) (byte : ℕ) (left behind : List ℕ) → left ≡ byte ∷ behind → next ≡ is_separator byte
      → Comes patterns url short before now (IsPassed begins left) → Comes patterns url short now after (IsHere begins left)
      → Comes patterns url short before after (IsPassed next behind)
  walk_on before now after begins next byte left behind is ends first second =
      subst (λ b. Comes patterns url short before after (IsPassed b behind)) (sym ends)
      (walk_byte before now after begins byte behind
      (subst (λ l. Comes patterns url short before now (IsPassed begins l)) is first)
      (subst (λ l. Comes patterns url short now after (IsHere begins l)) is second))

  nothing_left : (text : List ℕ) (begins : Bool) (left : List ℕ) → length left ≡ 0 → is_some (rest_from text begins left) ≡ false
  nothing_left text begins [] none = refl
  nothing_left text begins (byte ∷ left) none = absurd (omega (arith, none))

  pub walk_ends : (before after : Option ℕ) (begins : Bool) (left : List ℕ) → length left ≡ 0 → Comes patterns url short before after (IsPassed begins left)
      → Comes patterns url short before after (λ place pattern. is_folder pattern.1 ≡ true)
  walk_ends before after begins left none come = tried_as before after (IsPassed begins left) (λ place pattern. is_folder pattern.1 ≡ true) come
      (λ place pattern there has kind. (kind, nothing_left pattern.0 begins left none))

  -- ---- what a URL is, and what it is without its query

  pub files_of_one : (best : Option ℕ) → short ≡ url
      → Comes patterns url short None best (λ place pattern. (is_folder pattern.1 ≡ false) × (has_ending pattern.0 url ≡ true))
      → Comes patterns url short None best (λ place pattern. is_folder pattern.1 ≡ false)
  files_of_one best same come = tried_as None best (λ place pattern. (is_folder pattern.1 ≡ false) × (has_ending pattern.0 url ≡ true))
      (λ place pattern. is_folder pattern.1 ≡ false) come (λ place pattern there has kind. (kind, go pattern (file_has pattern kind has)))
    where
      go : (pattern : List ℕ × List ℕ) → (has_ending pattern.0 url ≡ true) ⊎ (has_ending pattern.0 short ≡ true) → has_ending pattern.0 url ≡ true
      go pattern (inl on) = on
      go pattern (inr on) = ap (has_ending pattern.0) (sym same) ∙ on

  pub files_of_two : (now best : Option ℕ)
      → Comes patterns url short None now (λ place pattern. (is_folder pattern.1 ≡ false) × (has_ending pattern.0 url ≡ true))
      → Comes patterns url short now best (λ place pattern. (is_folder pattern.1 ≡ false) × (has_ending pattern.0 short ≡ true))
      → Comes patterns url short None best (λ place pattern. is_folder pattern.1 ≡ false)
  files_of_two now best one two = tried_then None now best (λ place pattern. (is_folder pattern.1 ≡ false) × (has_ending pattern.0 url ≡ true))
      (λ place pattern. (is_folder pattern.1 ≡ false) × (has_ending pattern.0 short ≡ true)) (λ place pattern. is_folder pattern.1 ≡ false) one two
      (λ place pattern there has kind. go pattern kind (file_has pattern kind has))
    where
      go : (pattern : List ℕ × List ℕ) → is_folder pattern.1 ≡ false → (has_ending pattern.0 url ≡ true) ⊎ (has_ending pattern.0 short ≡ true)
          → ((is_folder pattern.1 ≡ false) × (has_ending pattern.0 url ≡ true)) ⊎ ((is_folder pattern.1 ≡ false) × (has_ending pattern.0 short ≡ true))
      go pattern kind (inl on) = inl (kind, on)
      go pattern kind (inr on) = inr (kind, on)

  here_bits : (a b : Bool) (rest : List ℕ) → is_some (if a && b then Some rest else None) ≡ true → b ≡ true
  here_bits true true rest is = refl
  here_bits true false rest is = cc
  here_bits false b rest is = cc

  pub fronts_here : (best after : Option ℕ) (begins : Bool) (left : List ℕ)
      → Comes patterns url short best after (λ place pattern. (is_folder pattern.1 ≡ true) × (bytes_eq (take (length pattern.0) left) pattern.0 ≡ true))
      → Comes patterns url short best after (λ place pattern. (is_folder pattern.1 ≡ true) × (is_some (rest_here pattern.0 begins left) ≡ true))
  fronts_here best after begins left come = tried_as best after
      (λ place pattern. (is_folder pattern.1 ≡ true) × (bytes_eq (take (length pattern.0) left) pattern.0 ≡ true))
      (λ place pattern. (is_folder pattern.1 ≡ true) × (is_some (rest_here pattern.0 begins left) ≡ true)) come
      (λ place pattern there has tried. (
        tried.0,
        here_bits (begins || begins_with_separator left) (bytes_eq (take (length pattern.0) left) pattern.0) (drop (length pattern.0) left) tried.1,
      ))

  -- ---- all patterns

  module _ (now after : Option ℕ) (files : Comes patterns url short None now (λ place pattern. is_folder pattern.1 ≡ false))
      (folders : Comes patterns url short now after (λ place pattern. is_folder pattern.1 ≡ true)) where
    each_covered : (place : ℕ) (pattern : List ℕ × List ℕ) → slice_get patterns place ≡ Some pattern → has_url pattern url short ≡ true
        → IsCovered patterns after place
    each_covered place pattern there has = go (is_folder pattern.1) refl
      where
        go : (kind : Bool) → is_folder pattern.1 ≡ kind → IsCovered patterns after place
        go false kind = folders.kept place (files.tried place pattern there has kind)
        go true kind = folders.tried place pattern there has kind

    pub best_decides : at_place patterns after ≡ deciding url short None patterns
    best_decides = place_decides after folders.has each_covered

    pub best_place : ((place other : ℕ) (pattern same : List ℕ × List ℕ) → slice_get patterns place ≡ Some pattern → slice_get patterns other ≡ Some same
        → pattern.0 ≡ same.0 → place ≡ other)
        → after ≡ option_map (λ text. position_or_len (has_text text) patterns) (text_by_patterns patterns url short)
    best_place apart = go after folders.has ∙ ap (λ one. option_map (λ text. position_or_len (has_text text) patterns) (option_map (λ pattern. pattern.0) one)) best_decides
      where
        go : (best : Option ℕ) → IsFor patterns url short best
            → best ≡ option_map (λ text. position_or_len (has_text text) patterns) (option_map (λ pattern. pattern.0) (at_place patterns best))
        go None right = refl
        go (Some place) right =
            sym (ap (λ one. option_map (λ text. position_or_len (has_text text) patterns) (option_map (λ pattern. pattern.0) one)) right.1
            ∙ ap Some (first_at patterns place right.0 right.1 (λ other same also is. apart place other right.0 same right.1 also is)))

-- a length is the last of these, or before it
pub last_or_before : {R : Type 0} (lengths : List ℕ) (count one : ℕ) → count < length lengths → one ≡ get_or lengths count one → (pattern : List ℕ × List ℕ)
    → IsOfFirst lengths (count + 1) pattern → (IsOfFirst lengths count pattern → R) → (length pattern.0 ≡ one → R) → R
last_or_before {R} lengths count one few is pattern (k, low, same) before last = go (ltb k count) refl
  where
    go : (b : Bool) → ltb k count ≡ b → R
    go true less = before (k, ltb-true k count less, same)
    go false behind =
        let few_k : count ≤ k = ltb-false k count behind in
        let at : k ≡ count = omega (arith, few_k, low) in
        last (sym same ∙ ap (λ n. get_or lengths n 0) at ∙ get_or_default lengths count 0 one few ∙ sym is)
