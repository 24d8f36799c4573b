-- Where patterns are found by their texts.
use Rattle.std.proofs.Common.{◌≡◌, ◌⊎◌, ℕ, zero, suc, ◌+◌, ◌-◌, ◌==◌, ◌<◌, ◌≤◌, ◌&&◌, ◌||◌, Bool, true, false, cond, ltb, List, [], ◌∷◌, ◌++◌, Option, Some, None}
use Rattle.std.proofs.Common.{is_some, length, map, take, drop, get_or, inl, inr, refl, sym, ap, subst, arith, ◌∙◌}
use Rattle.std.specs.Prelude.{MatchBool, if◌then◌else◌, not, option_map}
use Rattle.std.specs.List.{Contains, insert, list_any, position_or_len, prefix_len, slice_get}
use Rattle.std.specs.Str.{bytes_eq}
use Rattle.std.proofs.lemmas.Bool.{and_parts, both_ways, ltb-false, ltb-true, or_left, or_right}
use Rattle.std.proofs.lemmas.List.{length-map, map-append}
use Rattle.std.proofs.lemmas.List.Edits.{get_or-insert_above, get_or-insert_below, length-insert}
use Rattle.std.proofs.lemmas.Option.{slice_get-map, slice_get_read, slice_get_within}
use Rattle.std.proofs.lemmas.Slice.Eq.{bytes_eq-Decides}
use Rattle.smap_locations.specs.ByText.{IsWith, value_under}
use Rattle.smap_locations.specs.Laws.ByText.{IsOf, other_under, own_under}
use Rattle.smap_locations.specs.ListLine.{is_folder}
use Rattle.smap_locations.specs.Named.{Named}
use Rattle.smap_locations.specs.PatternSeen.{pattern_seen}
use Rattle.smap_locations.specs.Patterns.{before_end, begins_piece, ends_in_separator, has_ending, has_text, needs_query, pattern_refusal}
use Rattle.smap_locations.specs.Private.Places.{ArePlaced, ArePlaces, HasLengths, Places}
use Rattle.smap_locations.specs.declared.pattern.Pattern.{Pattern}
use Rattle.smap_locations.specs.declared.refusal.LocationRefusal.{LocationRefusal}
use Rattle.smap_locations.specs.declared.refusal.LocationRefusal.TheVariants.{NoFolder, Twice}

-- ---- lengths

pub insert_kept : (lengths : List ℕ) (place one other : ℕ) → place ≤ length lengths → Contains lengths other → Contains (insert lengths place one) other
insert_kept lengths place one other few (k, low, is) = go (ltb k place) refl
  where
    go : (b : Bool) → ltb k place ≡ b → Contains (insert lengths place one) other
    go true before =
        (k, omega (arith, length-insert lengths place one few, low), get_or-insert_below lengths place one other k (ltb-true k place before) few ∙ is)
    go false behind =
        (k + 1, omega (arith, length-insert lengths place one few, low), get_or-insert_above lengths place one other k (ltb-false k place behind) few ∙ is)

pub lengths_more : (old new : Places) (text : List ℕ) (place : ℕ) (lengths now : List ℕ) → HasLengths old lengths
    → ((other : ℕ) → Contains lengths other → Contains now other) → Contains now (length text) → IsWith old text place new → HasLengths new now
lengths_more old new text place lengths now has kept own added other at is = go (other_under old text place new added other at is)
  where
    go : IsOf other text place at (value_under other old) → Contains now (length other)
    go (inl same) = subst (λ t. Contains now (length t)) (sym same.0) own
    go (inr before) = kept (length other) (has other at before)

pub lengths_kept : (old new : Places) (lengths now : List ℕ) → HasLengths old lengths → ((other : ℕ) → Contains lengths other → Contains now other)
    → new ≡ old → HasLengths new now
lengths_kept old new lengths now has kept same other at is = kept (length other) (has other at (ap (value_under other) (sym same) ∙ is))

-- ---- one more at the end

module _ {X : Type 0} where
  more_there : (all : List X) (one : X) (place : ℕ) (it : X) → slice_get all place ≡ Some it → slice_get (all ++ one ∷ []) place ≡ Some it
  more_there [] one place it is = cc
  more_there (first ∷ all) one zero it is = is
  more_there (first ∷ all) one (suc place) it is = more_there all one place it is

  last_there : (all : List X) (one : X) → slice_get (all ++ one ∷ []) (length all) ≡ Some one
  last_there [] one = refl
  last_there (first ∷ all) one = last_there all one

  there_or_last : (all : List X) (one : X) (place : ℕ) (it : X) → slice_get (all ++ one ∷ []) place ≡ Some it
      → (slice_get all place ≡ Some it) ⊎ ((place ≡ length all) × (it ≡ one))
  there_or_last [] one zero it is =
      let same : it ≡ one = cc in
      inr (refl, same)
  there_or_last [] one (suc place) it is = cc
  there_or_last (first ∷ all) one zero it is = inl is
  there_or_last (first ∷ all) one (suc place) it is = go (there_or_last all one place it is)
    where
      go : (slice_get all place ≡ Some it) ⊎ ((place ≡ length all) × (it ≡ one))
          → (slice_get (first ∷ all) (suc place) ≡ Some it) ⊎ ((suc place ≡ length (first ∷ all)) × (it ≡ one))
      go (inl there) = inl there
      go (inr last) = inr (ap suc last.0, last.1)

  -- one of all passes
  pub any_there : (test : X → Bool) (all : List X) (place : ℕ) (it : X) → slice_get all place ≡ Some it → test it ≡ true → list_any test all ≡ true
  any_there test [] place it is on = cc
  any_there test (first ∷ all) zero it is on =
      let same : first ≡ it = cc in
      or_left (test first) (list_any test all) (ap test same ∙ on)
  any_there test (first ∷ all) (suc place) it is on = or_right (test first) (list_any test all) (any_there test all place it is on)

  abbrev IsPassed : (test : X → Bool) → (all : List X) → Type 0
  IsPassed test all = (place : ℕ) × (it : X) × (slice_get all place ≡ Some it) × (test it ≡ true)

  any_at : (test : X → Bool) (all : List X) → list_any test all ≡ true → IsPassed test all
  any_at test [] on = cc
  any_at test (first ∷ all) on = go (test first) refl on (any_at test all)
    where
      go : (b : Bool) → test first ≡ b → (b || list_any test all) ≡ true → (list_any test all ≡ true → IsPassed test all) → IsPassed test (first ∷ all)
      go true passed on below = (0, first, refl, passed)
      go false passed on below =
          let rest = below on in
          (suc rest.0, rest.1, rest.2, rest.3)

  pub none_there : (test : X → Bool) (all : List X) → ((place : ℕ) (it : X) → slice_get all place ≡ Some it → test it ≡ true → ⊥) → list_any test all ≡ false
  none_there test all none = go (list_any test all) refl
    where
      go : (b : Bool) → list_any test all ≡ b → list_any test all ≡ false
      go false is = is
      go true is =
          let one = any_at test all is in
          absurd (none one.0 one.1 one.2 one.3)

-- ---- values under texts

module _ {T : Type 0} where
  kept_first : (b : Bool) (value it : T) (new old : Option T) → (old ≡ Some it → new ≡ Some it) → (if b then Some value else old) ≡ Some it
      → (if b then Some value else new) ≡ Some it
  kept_first true value it new old below is = is
  kept_first false value it new old below is = below is

  not_first : (b : Bool) (value : T) (rest : Option T) → (if b then Some value else rest) ≡ None → rest ≡ None
  not_first true value rest is = cc
  not_first false value rest is = is

  kept_among : (before after : List (List ℕ × T)) (other text : List ℕ) (value it : T) → value_under text (before ++ after) ≡ None
      → value_under other (before ++ after) ≡ Some it → value_under other (before ++ (text, value) ∷ after) ≡ Some it
  kept_among [] after other text value it absent is = go (bytes_eq other text) refl
    where
      go : (b : Bool) → bytes_eq other text ≡ b → (if b then Some value else value_under other after) ≡ Some it
      go true same =
          let none : value_under other after ≡ None = ap (λ t. value_under t after) ((bytes_eq-Decides other text).0 same) ∙ absent in
          cc
      go false differs = is
  kept_among (e ∷ before) after other text value it absent is =
      kept_first (bytes_eq other e.0) e.1 it (value_under other (before ++ (text, value) ∷ after)) (value_under other (before ++ after))
      (kept_among before after other text value it (not_first (bytes_eq text e.0) e.1 (value_under text (before ++ after)) absent)) is

  -- what was under a text stays there
  kept_under : (old : List (List ℕ × T)) (text : List ℕ) (value : T) (new : List (List ℕ × T)) → IsWith old text value new → value_under text old ≡ None
      → (other : List ℕ) (it : T) → value_under other old ≡ Some it → value_under other new ≡ Some it
  kept_under old text value new added absent other it is =
      ap (value_under other) added.new_is
      ∙ kept_among added.before added.after other text value it (ap (value_under text) (sym added.old_is) ∙ absent)
      (ap (value_under other) (sym added.old_is) ∙ is)

-- ---- the places of patterns

refusal_parts : (a b : Bool) → (if a then Some NoFolder else if b then Some Twice else None) ≡ None → (a ≡ false) × (b ≡ false)
refusal_parts true b is = cc
refusal_parts false true is = cc
refusal_parts false false is = (refl, refl)

ends_if : (folder ends : Bool) → (folder && not ends) ≡ false → folder ≡ true → ends ≡ true
ends_if true true off on = refl
ends_if true false off on = cc
ends_if false ends off on = cc

module _ (patterns : Named) (text path : List ℕ) where
  pub not_refused : pattern_refusal patterns text path ≡ None
      → ((is_folder path && not (ends_in_separator text)) ≡ false) × (list_any (has_text text) patterns ≡ false)
  not_refused is = refusal_parts (is_folder path && not (ends_in_separator text)) (list_any (has_text text) patterns) is

  pub absent : (folders : Bool) (places : Places) → ArePlaces folders patterns places → list_any (has_text text) patterns ≡ false → value_under text places ≡ None
  absent folders places are none = go (value_under text places) refl
    where
      go : (found : Option ℕ) → value_under text places ≡ found → value_under text places ≡ None
      go None is = is
      go (Some place) is =
          let one = are.found text place is in
          absurd (both_ways (list_any (has_text text) patterns) none
          (any_there (has_text text) patterns place one.0 one.1 ((bytes_eq-Decides text one.0.0).1 (sym one.2))))

  same_places : (folders : Bool) (old new : Places) → ArePlaces folders patterns old → is_folder path ≡ folders → value_under text old ≡ None
      → IsWith old text (length patterns) new → ArePlaces folders (patterns ++ (text, path) ∷ []) new
  same_places folders old new are kind none added = record {
    found = λ other place under. found_in other place (other_under old text (length patterns) new added other place under);
    all = λ place pattern there of_kind. all_in place pattern of_kind (there_or_last patterns (text, path) place pattern there);
  }
    where
      found_in : (other : List ℕ) (place : ℕ) → IsOf other text (length patterns) place (value_under other old)
          → (pattern : List ℕ × List ℕ) × (slice_get (patterns ++ (text, path) ∷ []) place ≡ Some pattern) × (pattern.0 ≡ other) × (is_folder pattern.1 ≡ folders)
      found_in other place (inl own) =
          ((text, path), ap (slice_get (patterns ++ (text, path) ∷ [])) own.1 ∙ last_there patterns (text, path), sym own.0, kind)
      found_in other place (inr before) =
          let was = are.found other place before in
          (was.0, more_there patterns (text, path) place was.0 was.1, was.2, was.3)

      all_in : (place : ℕ) (pattern : List ℕ × List ℕ) → is_folder pattern.1 ≡ folders
          → (slice_get patterns place ≡ Some pattern) ⊎ ((place ≡ length patterns) × (pattern ≡ (text, path))) → value_under pattern.0 new ≡ Some place
      all_in place pattern of_kind (inl before) =
          kept_under old text (length patterns) new added none pattern.0 place (are.all place pattern before of_kind)
      all_in place pattern of_kind (inr last) =
          ap (λ p. value_under p.0 new) last.1 ∙ own_under old text (length patterns) new added none ∙ ap Some (sym last.0)

  other_places : (folders : Bool) (places : Places) → ArePlaces folders patterns places → (is_folder path ≡ folders → ⊥)
      → ArePlaces folders (patterns ++ (text, path) ∷ []) places
  other_places folders places are other_kind = record {
    found = λ other place under. found_in other place (are.found other place under);
    all = λ place pattern there of_kind. all_in place pattern of_kind (there_or_last patterns (text, path) place pattern there);
  }
    where
      found_in : (other : List ℕ) (place : ℕ)
          → ((pattern : List ℕ × List ℕ) × (slice_get patterns place ≡ Some pattern) × (pattern.0 ≡ other) × (is_folder pattern.1 ≡ folders))
          → (pattern : List ℕ × List ℕ) × (slice_get (patterns ++ (text, path) ∷ []) place ≡ Some pattern) × (pattern.0 ≡ other) × (is_folder pattern.1 ≡ folders)
      found_in other place was = (was.0, more_there patterns (text, path) place was.0 was.1, was.2, was.3)

      all_in : (place : ℕ) (pattern : List ℕ × List ℕ) → is_folder pattern.1 ≡ folders
          → (slice_get patterns place ≡ Some pattern) ⊎ ((place ≡ length patterns) × (pattern ≡ (text, path))) → value_under pattern.0 places ≡ Some place
      all_in place pattern of_kind (inl before) = are.all place pattern before of_kind
      all_in place pattern of_kind (inr last) = absurd (other_kind (ap (λ p. is_folder p.1) (sym last.1) ∙ of_kind))

  module _ (files folders : Places) (placed : ArePlaced patterns files folders) (refused : pattern_refusal patterns text path ≡ None) where
    none_has : list_any (has_text text) patterns ≡ false
    none_has = (not_refused refused).1

    has_other : (place : ℕ) (pattern : List ℕ × List ℕ) → slice_get patterns place ≡ Some pattern → text ≡ pattern.0 → ⊥
    has_other place pattern there same =
        both_ways (list_any (has_text text) patterns) none_has
        (any_there (has_text text) patterns place pattern there ((bytes_eq-Decides text pattern.0).1 same))

    apart_more : (place other : ℕ) (pattern same : List ℕ × List ℕ) → slice_get (patterns ++ (text, path) ∷ []) place ≡ Some pattern
        → slice_get (patterns ++ (text, path) ∷ []) other ≡ Some same → pattern.0 ≡ same.0 → place ≡ other
    apart_more place other pattern same there also is =
        go (there_or_last patterns (text, path) place pattern there) (there_or_last patterns (text, path) other same also)
      where
        go : (slice_get patterns place ≡ Some pattern) ⊎ ((place ≡ length patterns) × (pattern ≡ (text, path)))
            → (slice_get patterns other ≡ Some same) ⊎ ((other ≡ length patterns) × (same ≡ (text, path))) → place ≡ other
        go (inl one) (inl two) = placed.apart place other pattern same one two is
        go (inl one) (inr two) = absurd (has_other place pattern one (sym (ap (λ p. p.0) two.1) ∙ sym is))
        go (inr one) (inl two) = absurd (has_other other same two (sym (ap (λ p. p.0) one.1) ∙ is))
        go (inr one) (inr two) = one.0 ∙ sym two.0

    ends_more : (place : ℕ) (pattern : List ℕ × List ℕ) → slice_get (patterns ++ (text, path) ∷ []) place ≡ Some pattern → is_folder pattern.1 ≡ true
        → ends_in_separator pattern.0 ≡ true
    ends_more place pattern there kind = go (there_or_last patterns (text, path) place pattern there)
      where
        go : (slice_get patterns place ≡ Some pattern) ⊎ ((place ≡ length patterns) × (pattern ≡ (text, path))) → ends_in_separator pattern.0 ≡ true
        go (inl before) = placed.ends place pattern before kind
        go (inr last) =
            ap (λ p. ends_in_separator p.0) last.1
            ∙ ends_if (is_folder path) (ends_in_separator text) (not_refused refused).0 (ap (λ p. is_folder p.1) (sym last.1) ∙ kind)

    pub placed_more : (new_files new_folders : Places) (kind : Bool) → kind ≡ is_folder path
        → MatchBool kind (IsWith folders text (length patterns) new_folders × (new_files ≡ files)) (IsWith files text (length patterns) new_files × (new_folders ≡ folders))
        → ArePlaced (patterns ++ (text, path) ∷ []) new_files new_folders
    placed_more new_files new_folders true is added = record {
      of_files = subst (λ f. ArePlaces false (patterns ++ (text, path) ∷ []) f) (sym added.1)
          (other_places false files placed.of_files (λ other. both_ways (is_folder path) other (sym is)));
      of_folders = same_places true folders new_folders placed.of_folders (sym is) (absent true folders placed.of_folders none_has) added.0;
      apart = apart_more;
      ends = ends_more;
    }
    placed_more new_files new_folders false is added = record {
      of_files = same_places false files new_files placed.of_files (sym is) (absent false files placed.of_files none_has) added.0;
      of_folders = subst (λ f. ArePlaces true (patterns ++ (text, path) ∷ []) f) (sym added.1)
          (other_places true folders placed.of_folders (λ other. both_ways (is_folder path) (sym is) other));
      apart = apart_more;
      ends = ends_more;
    }

    -- the same, by a copy of the text, and by its place
    pub placed_so : (new_files new_folders : Places) (kind : Bool) → kind ≡ is_folder path → (named : List ℕ) (place : ℕ) → named ≡ text → place ≡ length patterns
        → MatchBool kind (IsWith folders named place new_folders × (new_files ≡ files)) (IsWith files named place new_files × (new_folders ≡ folders))
        → ArePlaced (patterns ++ (text, path) ∷ []) new_files new_folders
    placed_so new_files new_folders kind is named place same last added =
        let P : List ℕ → ℕ → Type 0 = λ t n. MatchBool kind (IsWith folders t n new_folders × (new_files ≡ files)) (IsWith files t n new_files × (new_folders ≡ folders)) in
        placed_more new_files new_folders kind is (subst (λ n. P text n) last (subst (λ t. P t place) same added))

-- one more is seen at the end
pub seen_more : (all : List Pattern) (seen : Named) → map pattern_seen all ≡ seen → (one : Pattern) → seen ++ pattern_seen one ∷ [] ≡ map pattern_seen (all ++ one ∷ [])
seen_more all seen view one = ap (λ l. l ++ pattern_seen one ∷ []) (sym view) ∙ sym (map-append pattern_seen all (one ∷ []))

-- a text is one of files or of folders
pub has_either : (patterns : Named) (files folders : Places) → ArePlaced patterns files folders → (text : List ℕ)
    → (is_some (value_under text files) || is_some (value_under text folders)) ≡ list_any (has_text text) patterns
has_either patterns files folders placed text = go (list_any (has_text text) patterns) refl
  where
    under : (place : ℕ) (pattern : List ℕ × List ℕ) → slice_get patterns place ≡ Some pattern → text ≡ pattern.0 → (kind : Bool) → is_folder pattern.1 ≡ kind
        → (is_some (value_under text files) || is_some (value_under text folders)) ≡ true
    under place pattern there same false kind =
        or_left (is_some (value_under text files)) (is_some (value_under text folders))
        (ap (λ t. is_some (value_under t files)) same ∙ ap is_some (placed.of_files.all place pattern there kind))
    under place pattern there same true kind =
        or_right (is_some (value_under text files)) (is_some (value_under text folders))
        (ap (λ t. is_some (value_under t folders)) same ∙ ap is_some (placed.of_folders.all place pattern there kind))

    go : (b : Bool) → list_any (has_text text) patterns ≡ b → (is_some (value_under text files) || is_some (value_under text folders)) ≡ b
    go false none =
        ap (λ f. is_some f || is_some (value_under text folders)) (absent patterns text [] false files placed.of_files none)
        ∙ ap is_some (absent patterns text [] true folders placed.of_folders none)
    go true one =
        let at = any_at (has_text text) patterns one in
        under at.0 at.1 at.2 ((bytes_eq-Decides text at.1.0).0 at.3) (is_folder at.1.1) refl

-- the first of a text
pub first_at : (patterns : Named) (place : ℕ) (pattern : List ℕ × List ℕ) → slice_get patterns place ≡ Some pattern
    → ((other : ℕ) (same : List ℕ × List ℕ) → slice_get patterns other ≡ Some same → pattern.0 ≡ same.0 → place ≡ other)
    → position_or_len (has_text pattern.0) patterns ≡ place
first_at [] place pattern there apart = cc
first_at (first ∷ patterns) zero pattern there apart =
    let same : first ≡ pattern = cc in
    let on : has_text pattern.0 first ≡ true = (bytes_eq-Decides pattern.0 first.0).1 (ap (λ p. p.0) (sym same)) in
    ap (λ b. cond (not b) (1 + prefix_len (λ x. not (has_text pattern.0 x)) patterns) 0) on
first_at (first ∷ patterns) (suc place) pattern there apart =
    go (has_text pattern.0 first) refl (first_at patterns place pattern there)
  where
    go : (b : Bool) → has_text pattern.0 first ≡ b
        → (((other : ℕ) (same : List ℕ × List ℕ) → slice_get patterns other ≡ Some same → pattern.0 ≡ same.0 → place ≡ other)
        → position_or_len (has_text pattern.0) patterns ≡ place)
        → cond (not b) (1 + position_or_len (has_text pattern.0) patterns) 0 ≡ suc place
    go true on below =
        let none : suc place ≡ 0 = apart 0 first refl ((bytes_eq-Decides pattern.0 first.0).0 on) in
        absurd (omega (arith, none))
    go false off below =
        let rest : position_or_len (has_text pattern.0) patterns ≡ place =
        below (λ other same also is. let more : suc place ≡ suc other = apart (suc other) same also is in omega (arith, more)) in
        omega (arith, rest)

-- what is seen at a place
pub seen_at : (all : List Pattern) (seen : Named) → map pattern_seen all ≡ seen → (place : ℕ) (one : Pattern) → place < length seen → one ≡ get_or all place one
    → slice_get seen place ≡ Some (pattern_seen one)
seen_at all seen view place one low is =
    let within : place < length all = omega (arith, low, length-map all pattern_seen, ap length view) in
    ap (λ l. slice_get l place) (sym view) ∙ slice_get-map pattern_seen all place
    ∙ ap (option_map pattern_seen) (slice_get_read all (length all) place one refl within is)

-- ---- what is found

pub found_within : (folders : Bool) (patterns : Named) (places : Places) → ArePlaces folders patterns places → (text : List ℕ) (place : ℕ)
    → value_under text places ≡ Some place → place < length patterns
found_within folders patterns places are text place is =
    let one = are.found text place is in
    slice_get_within patterns place one.0 one.1

-- one of a file with which a text ends
pub end_found : (patterns : Named) (files : Places) → ArePlaces false patterns files → (text end : List ℕ) (bytes : ℕ)
    → end ≡ drop (length text - bytes) text → (place : ℕ) (pattern : List ℕ × List ℕ) → slice_get patterns place ≡ Some pattern
    → is_folder pattern.1 ≡ false → has_ending pattern.0 text ≡ true → length pattern.0 ≡ bytes → value_under end files ≡ Some place
end_found patterns files are text end bytes is place pattern there kind ends long =
    let same = (and_parts (bytes_eq (drop (length text - length pattern.0) text) pattern.0)
    (length pattern.0 == 0 || begins_piece (before_end pattern.0 text) pattern.0) ends).0 in
    ap (λ t. value_under t files)
    (is ∙ ap (λ n. drop (length text - n) text) (sym long) ∙ (bytes_eq-Decides (drop (length text - length pattern.0) text) pattern.0).0 same)
    ∙ are.all place pattern there kind

-- one of a folder with which a text begins
pub front_is : (text front : List ℕ) (bytes : ℕ) → front ≡ take bytes text → (pattern : List ℕ × List ℕ)
    → bytes_eq (take (length pattern.0) text) pattern.0 ≡ true → length pattern.0 ≡ bytes → front ≡ pattern.0
front_is text front bytes is pattern same long =
    is ∙ ap (λ n. take n text) (sym long) ∙ (bytes_eq-Decides (take (length pattern.0) text) pattern.0).0 same

needs_bits : (f e s : Bool) → (not f && e && not s) ≡ true → (f ≡ false) × (e ≡ true)
needs_bits true e s is = cc
needs_bits false false s is = cc
needs_bits false true s is = (refl, refl)

pub needs_parts : (url short : List ℕ) (pattern : List ℕ × List ℕ) → needs_query url short pattern ≡ true
    → (is_folder pattern.1 ≡ false) × (has_ending pattern.0 url ≡ true)
needs_parts url short pattern is = needs_bits (is_folder pattern.1) (has_ending pattern.0 url) (has_ending pattern.0 short) is
