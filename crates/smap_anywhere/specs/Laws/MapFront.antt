-- What all URLs of maps begin with, where it is known: each does.
use Rattle.std.proofs.Common.{◌≡◌, ◌==◌, ◌&&◌, ◌||◌, ◌+◌, inl, inr, ℕ, zero, suc, Bool, true, false, cond, List, [], ◌∷◌, Option, Some, None}
use Rattle.std.proofs.Common.{ap, arith, drop, get_or, length, length-append, map, refl, subst, sym, take, ◌∙◌}
use Rattle.std.specs.Prelude.{IfSome, IsSomeAnd, is_some, nat_le, not}
use Rattle.std.specs.List.{list_any, prefix_len}
use Rattle.std.proofs.lemmas.Bool.{and_parts, eqb-true, leb-true, or_cases}
use Rattle.std.proofs.lemmas.List.{get_or_append_left, take-append-drop}
use Rattle.memchr.specs.Find.{OccursAt}
use Rattle.smap_locations.specs.ByText.{value_under}
use Rattle.smap_locations.specs.Common.{IsFront, common_front, common_of}
use Rattle.smap_locations.specs.Laws.Common.{begins_common, begins_one, begins_other, front_of_front}
use Rattle.smap_locations.specs.Locations.{folder_path, has_path_as_named, or_else, path_in_folders, path_within}
use Rattle.smap_locations.specs.Named.{Named}
use Rattle.smap_locations.specs.Paths.{without_query}
use Rattle.smap_locations.specs.Patterns.{has_path_in_text}
use Rattle.smap_pairs.specs.Known.{AllBegin, IsFrontKnown}
use Rattle.smap_pairs.specs.declared.known.NamedBy.{NamedBy}
use Rattle.smap_pairs.specs.declared.known.NamedBy.TheVariants.{Any, Argument, List as ByList}
use Rattle.smap_anywhere.specs.MapUrls.{before_backslash, common_begin, common_join, front_of, has_folder, is_argument, is_listed, is_name, is_name_by, is_without_query, urls_known}
use Rattle.smap_pairs.specs.Json.{has_quotation_mark}
use Rattle.smap_anywhere.specs.MapsSeen.{MapsSeen}

-- ---- what stands before a backslash

none_before : (text : List ℕ) → list_any (λ byte. byte == 92) (before_backslash text) ≡ false
none_before [] = refl
none_before (byte ∷ text) = go (byte == 92) refl (none_before text)
  where
    go : (is : Bool) → (byte == 92) ≡ is → list_any (λ byte. byte == 92) (before_backslash text) ≡ false
        → list_any (λ byte. byte == 92) (take (cond (not is) (1 + prefix_len (λ byte. not (byte == 92)) text) 0) (byte ∷ text)) ≡ false
    go true here below = refl
    go false here below =
        let next : 1 + prefix_len (λ byte. not (byte == 92)) text ≡ suc (prefix_len (λ byte. not (byte == 92)) text) = omega arith in
        ap (λ n. list_any (λ byte. byte == 92) (take n (byte ∷ text))) next
        ∙ ap (λ b. b || list_any (λ byte. byte == 92) (before_backslash text)) here ∙ below

taken_begins : (n : ℕ) (text : List ℕ) → IsFront (take n text) text
taken_begins n text = record { rest = drop n text; whole = sym (take-append-drop n text) }

begin_occurs : (part text : List ℕ) → IsFront part text → OccursAt text part 0
begin_occurs part text begins = record {
  fits = omega (arith, ap length begins.whole, length-append part begins.rest);
  reads = λ j inside.
      let here : 0 + j ≡ j = omega arith in
      ap (λ k. get_or text k 0) here ∙ ap (λ l. get_or l j 0) begins.whole ∙ get_or_append_left part begins.rest 0 j inside;
}

-- ---- what texts begin with in common

abbrev BeginsBoth : Option (List ℕ) → (text : List ℕ) → Type 0
BeginsBoth common text = IsSomeAnd common (λ common. IsFront common text)

join_one : (one other : Option (List ℕ)) (text : List ℕ) → BeginsBoth one text → BeginsBoth (common_join one other) text
join_one None other text begins = absurd begins
join_one (Some one) None text begins = begins
join_one (Some one) (Some other) text begins = front_of_front (common_front one other) one text (begins_one one other) begins

join_other : (one other : Option (List ℕ)) (text : List ℕ) → BeginsBoth other text → BeginsBoth (common_join one other) text
join_other None other text begins = begins
join_other (Some one) None text begins = absurd begins
join_other (Some one) (Some other) text begins = front_of_front (common_front one other) other text (begins_other one other) begins

-- ---- what the URLs of maps begin with

module _ (maps : MapsSeen) where
  abbrev of_table : Option (List ℕ)
  of_table = common_of (map (λ pair. pair.0) maps.table)

  abbrev of_files : Option (List ℕ)
  of_files = common_of (map (λ pair. pair.0) maps.locations.files)

  abbrev of_folders : Option (List ℕ)
  of_folders = common_of (map (λ pair. pair.0) maps.locations.folders)

  argument_begins : (url : List ℕ) → is_argument maps url ≡ true → BeginsBoth (common_begin maps) url
  argument_begins url is = join_one (common_join of_table of_files) of_folders url (join_one of_table of_files url (begins_common maps.table url is))

  listed_begins : (url : List ℕ) → is_listed maps url ≡ true → BeginsBoth (common_begin maps) url
  listed_begins url is = join_one (common_join of_table of_files) of_folders url (join_other of_table of_files url (begins_common maps.locations.files url is))

  folder_begins : (text : List ℕ) → has_folder maps text ≡ true → BeginsBoth (common_begin maps) text
  folder_begins text is = join_other (common_join of_table of_files) of_folders text (begins_common maps.locations.folders text is)

  name_begins : (url : List ℕ) → is_name maps url ≡ true → BeginsBoth (common_begin maps) url
  name_begins url is = elim (or_cases (is_argument maps url) (is_listed maps url) is) [
    | inl argument ↦ argument_begins url argument
    | inr listed ↦ listed_begins url listed
  ]

  -- what begins the beginning of a text begins the text
  further : (common : Option (List ℕ)) (n : ℕ) (text : List ℕ) → BeginsBoth common (take n text) → BeginsBoth common text
  further None n text begins = absurd begins
  further (Some common) n text begins = front_of_front common (take n text) text begins (taken_begins n text)

  within_begins : (url : List ℕ) (bytes : ℕ) → is_some (path_within maps.locations.folders url bytes) ≡ true → BeginsBoth (common_begin maps) url
  within_begins url zero some = cc
  within_begins url (suc bytes) some =
      go (value_under (take (suc bytes) url) maps.locations.folders) refl some (within_begins url bytes)
    where
      go : (folder : Option (List ℕ)) → value_under (take (suc bytes) url) maps.locations.folders ≡ folder
          → is_some (folder_path url (suc bytes) folder (path_within maps.locations.folders url bytes)) ≡ true
          → (is_some (path_within maps.locations.folders url bytes) ≡ true → BeginsBoth (common_begin maps) url) → BeginsBoth (common_begin maps) url
      go None none some less = less some
      go (Some folder) is some less =
          let has : has_folder maps (take (suc bytes) url) ≡ true = ap is_some is in
          further (common_begin maps) (suc bytes) url (folder_begins (take (suc bytes) url) has)

  path_begins : (url : List ℕ) → has_path_as_named maps.locations url ≡ true → BeginsBoth (common_begin maps) url
  path_begins url is =
      by (value_under url maps.locations.files) refl (value_under (without_query url) maps.locations.files) refl (path_in_folders maps.locations.folders (without_query url)) refl is
    where
      short : ℕ
      short = prefix_len (λ byte. not (byte == 63 || byte == 35)) url

      by : (whole : Option (List ℕ)) → value_under url maps.locations.files ≡ whole
          → (cut : Option (List ℕ)) → value_under (without_query url) maps.locations.files ≡ cut
          → (path : Option (List ℕ)) → path_in_folders maps.locations.folders (without_query url) ≡ path
          → is_some (or_else whole (or_else cut (or_else path None))) ≡ true → BeginsBoth (common_begin maps) url
      by (Some file) whole cut cut_is path path_is some = listed_begins url (ap is_some whole)
      by None whole (Some file) cut_is path path_is some =
          further (common_begin maps) short url (listed_begins (without_query url) (ap is_some cut_is))
      by None whole None cut_is (Some path) path_is some =
          further (common_begin maps) short url (within_begins (without_query url) (length (without_query url)) (ap is_some path_is))
      by None whole None cut_is None path_is some = cc

  own_begins : (url : List ℕ) → (is_argument maps url || has_path_as_named maps.locations url) ≡ true → BeginsBoth (common_begin maps) url
  own_begins url is = elim (or_cases (is_argument maps url) (has_path_as_named maps.locations url) is) [
    | inl argument ↦ argument_begins url argument
    | inr path ↦ path_begins url path
  ]

  named_begins : (by : NamedBy) (url : List ℕ) → is_name_by maps by url ≡ true → BeginsBoth (common_begin maps) url
  named_begins Any url is = name_begins url is
  named_begins Argument url is = argument_begins url is
  named_begins ByList url is = listed_begins url (and_parts (is_listed maps url) (is_without_query url) is).0

  no_pattern : (patterns : Named) → (length patterns == 0) ≡ true → (url : List ℕ) → has_path_in_text patterns url (without_query url) ≡ false
  no_pattern [] none url = refl
  no_pattern (pattern ∷ patterns) none url = absurd (omega (arith, eqb-true (length (pattern ∷ patterns)) 0 none))

  -- the front is what stands before the first backslash of it
  module _ (common : List ℕ) (is : common_begin maps ≡ Some common) where
    begins : (url : List ℕ) → BeginsBoth (common_begin maps) url → OccursAt url (before_backslash common) 0
    begins url both =
        begin_occurs (before_backslash common) url
        (front_of_front (before_backslash common) common url (taken_begins (prefix_len (λ byte. not (byte == 92)) common) common)
        (subst (λ o. BeginsBoth o url) is both))

    all_begin : (length maps.locations.patterns == 0) ≡ true → nat_le 2 (length (before_backslash common)) ≡ true
        → AllBegin (urls_known maps) (before_backslash common)
    all_begin none long = record {
      some = omega (arith, leb-true 2 (length (before_backslash common)) long);
      plain = none_before common;
      own = λ url on. begins url (own_begins url on);
      names = λ url on. begins url (name_begins url on);
      named = λ by url on. begins url (named_begins by url (and_parts (is_name_by maps by url) (not (has_quotation_mark url)) on).0);
      prefixes = λ text on. begins text (folder_begins text (and_parts (has_folder maps text) (is_without_query text)
          (and_parts (has_folder maps text && is_without_query text) (not (has_quotation_mark text)) on).0).0);
      patterns = λ url. no_pattern maps.locations.patterns none url;
    }

  pub front_known : IsFrontKnown (urls_known maps)
  front_known = go (length maps.locations.patterns == 0) refl (common_begin maps) refl
    where
      long : (common : List ℕ) → common_begin maps ≡ Some common → (length maps.locations.patterns == 0) ≡ true
          → (enough : Bool) → nat_le 2 (length (before_backslash common)) ≡ enough
          → IfSome (cond enough (Some (before_backslash common)) None) (AllBegin (urls_known maps))
      long common is none true enough = all_begin common is none enough
      long common is none false enough = tt

      go : (none : Bool) → (length maps.locations.patterns == 0) ≡ none → (common : Option (List ℕ)) → common_begin maps ≡ common
          → IfSome (cond none (front_of common) None) (AllBegin (urls_known maps))
      go true none None is = tt
      go true none (Some common) is = long common is none (nat_le 2 (length (before_backslash common))) refl
      go false none common is = tt
