-- The parts of a map that are left are those of the pruned map.
use Rattle.std.proofs.Common.{◌≡◌, ◌≤◌, ℕ, Bool, List, length, map, Some, sym, ap, subst, ◌∙◌, arith}
use Rattle.std.specs.Prelude.{bytes_eq, option_copied}
use Rattle.std.specs.List.{All}
use Rattle.std.proofs.lemmas.List.{length-map}
use Rattle.smap_mappings.specs.Order.{IsInOrder}
use Rattle.smap_mappings.specs.Within.{IsWithin}
use Rattle.smap_mappings.specs.declared.mapping.Mapping.{Mapping}
use Rattle.smap_record.specs.Limits.{most_listed}
use Rattle.smap_compose.specs.Composition.{Composition}
use Rattle.smap_compose.specs.Pruned.{entries_left, is_name_used, is_same_source, is_source_used, names_left, pruned, pruned_origin, sources_left}
use Rattle.smap_compose.specs.Private.Keys.{mapping_moved_to}
use Rattle.smap_compose.specs.Private.Left.{AreLeft, those_marked}
use Rattle.smap_compose.specs.Private.Listing.{lent_source, lent_text, listing_seen}
use Rattle.smap_compose.specs.declared.listing.Listing.{Listing}
use Rattle.smap_compose.specs.declared.left.Places.{Places}
use Rattle.smap_compose.proofs.FollowLaws.{alike_in_order}
use Rattle.smap_compose.proofs.FoundLaws.{few_left}
use Rattle.smap_compose.proofs.GivenLaws.{same_compositions}
use Rattle.smap_compose.proofs.PrunedLaws.{moved_are_pruned, pruned_within}
use Rattle.smap_compose.proofs.SeenLaws.{marked_alike, marked_are_left}

-- ---- at what is equal

pub left_at : {A : Type 0} {same : A → A → Bool} {is_used is_used' : ℕ → Bool} {entries entries' : List A} {places : List ℕ} {stays : List Bool}
    → is_used ≡ is_used' → entries ≡ entries' → AreLeft same is_used entries places stays → AreLeft same is_used' entries' places stays
left_at {A} {same} {is_used} {is_used'} {entries} {entries'} {places} {stays} used_is entries_are are =
    let P : (ℕ → Bool) → Type 0 = λ is_used. AreLeft same is_used entries places stays in
    let Q : List A → Type 0 = λ entries. AreLeft same is_used' entries places stays in
    subst Q entries_are (subst P used_is are)

-- ---- what is kept of a list

pub kept_are_left : {T A : Type 0} (seen : T → A) (same : A → A → Bool) (is_used : ℕ → Bool) (entries kept : List T) (places : List ℕ) (stays : List Bool)
    → AreLeft same is_used (map seen entries) places stays → kept ≡ those_marked stays entries → map seen kept ≡ entries_left same is_used (map seen entries)
kept_are_left seen same is_used entries kept places stays are kept_is =
    ap (map seen) kept_is ∙ marked_alike seen stays entries ∙ ap (λ marks. those_marked marks (map seen entries)) are.stays_are
    ∙ marked_are_left same is_used (map seen entries)

-- these mappings and what they name are left of those
pub record ArePartsLeft (mappings : List Mapping) (listing : Listing) (left : List Mapping) (others : Listing) : Type 0 where
  pub are_pruned : listing_seen left others ≡ pruned (listing_seen mappings listing)
  pub within : All (IsWithin (length others.sources.items) (length others.names.items)) left
  pub few_sources : length others.sources.items ≤ most_listed
  pub few_names : length others.names.items ≤ most_listed
  pub order : IsInOrder mappings → IsInOrder left

-- the mappings move to these places
pub moved_at : (mappings mappings' : List Mapping) (sources sources' names names' : List ℕ) → mappings ≡ mappings' → sources ≡ sources' → names ≡ names'
    → map (mapping_moved_to sources names) mappings ≡ map (mapping_moved_to sources' names') mappings'
moved_at mappings mappings' sources sources' names names' mappings_are sources_are names_are =
    ap (λ sources. map (mapping_moved_to sources names) mappings) sources_are
    ∙ ap (λ names. map (mapping_moved_to sources' names) mappings) names_are
    ∙ ap (map (mapping_moved_to sources' names')) mappings_are

module _ (mappings : List Mapping) (listing : Listing) (sources names : Places)
    (sources_are : AreLeft is_same_source (is_source_used mappings) (map lent_source listing.sources.items) sources.places.items sources.stays.items)
    (names_are : AreLeft bytes_eq (is_name_used mappings) (map lent_text listing.names.items) names.places.items names.stays.items)
    (within : All (IsWithin (length listing.sources.items) (length listing.names.items)) mappings)
    (few_sources : length listing.sources.items ≤ most_listed) (few_names : length listing.names.items ≤ most_listed) where
  abbrev whole : Composition
  whole = listing_seen mappings listing

  many_sources : length whole.sources ≡ length listing.sources.items
  many_sources = length-map listing.sources.items lent_source

  many_names : length whole.names ≡ length listing.names.items
  many_names = length-map listing.names.items lent_text

  whole_within : All (IsWithin (length whole.sources) (length whole.names)) whole.mappings
  whole_within =
      let P : ℕ → Type 0 = λ many. All (IsWithin many (length listing.names.items)) mappings in
      let Q : ℕ → Type 0 = λ many. All (IsWithin (length whole.sources) many) mappings in
      subst Q (sym many_names) (subst P (sym many_sources) within)

  left_within : All (IsWithin (length (sources_left whole)) (length (names_left whole))) (pruned whole).mappings
  left_within = pruned_within whole (omega (arith, many_sources)) (omega (arith, many_names)) whole_within

  moved_are : map (mapping_moved_to sources.places.items names.places.items) mappings ≡ (pruned whole).mappings
  moved_are = moved_are_pruned whole sources.places.items names.places.items sources.stays.items names.stays.items sources_are names_are whole_within

  module _ (left : List Mapping) (others : Listing)
      (left_are : left ≡ map (mapping_moved_to sources.places.items names.places.items) mappings)
      (sources_kept : others.sources.items ≡ those_marked sources.stays.items listing.sources.items)
      (names_kept : others.names.items ≡ those_marked names.stays.items listing.names.items)
      (same_file : others.file ≡ listing.file) where
    parts_are_pruned : listing_seen left others ≡ pruned whole
    parts_are_pruned =
        same_compositions (left_are ∙ moved_are)
        (kept_are_left lent_source is_same_source (is_source_used mappings) listing.sources.items others.sources.items _ _ sources_are sources_kept)
        (kept_are_left lent_text bytes_eq (is_name_used mappings) listing.names.items others.names.items _ _ names_are names_kept)
        (ap option_copied same_file)

    sources_counted : length others.sources.items ≡ length (sources_left whole)
    sources_counted = sym (length-map others.sources.items lent_source) ∙ ap (λ (w : Composition). length w.sources) parts_are_pruned

    names_counted : length others.names.items ≡ length (names_left whole)
    names_counted = sym (length-map others.names.items lent_text) ∙ ap (λ (w : Composition). length w.names) parts_are_pruned

    parts_within : All (IsWithin (length others.sources.items) (length others.names.items)) left
    parts_within =
        let P : ℕ → Type 0 = λ many. All (IsWithin many (length (names_left whole))) left in
        let Q : ℕ → Type 0 = λ many. All (IsWithin (length others.sources.items) many) left in
        let R : List Mapping → Type 0 = All (IsWithin (length (sources_left whole)) (length (names_left whole))) in
        subst Q (sym names_counted) (subst P (sym sources_counted) (subst R (sym (left_are ∙ moved_are)) left_within))

    few_sources_left : length others.sources.items ≤ most_listed
    few_sources_left = let few = few_left is_same_source (is_source_used mappings) whole.sources in omega (arith, sources_counted, many_sources)

    few_names_left : length others.names.items ≤ most_listed
    few_names_left = let few = few_left bytes_eq (is_name_used mappings) whole.names in omega (arith, names_counted, many_names)

    parts_in_order : IsInOrder mappings → IsInOrder left
    parts_in_order order = subst IsInOrder (sym (left_are ∙ moved_are)) (alike_in_order (λ origin. Some (pruned_origin whole origin)) mappings order)

    pub parts_left : ArePartsLeft mappings listing left others
    parts_left = record {
      are_pruned = parts_are_pruned;
      within = parts_within;
      few_sources = few_sources_left;
      few_names = few_names_left;
      order = parts_in_order;
    }
