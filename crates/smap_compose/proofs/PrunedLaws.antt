-- What is left of a map: its mappings lead to the same sources and names, and are within those that are left.
use Rattle.std.proofs.Common.{◌≡◌, ℕ, ◌<◌, ◌≤◌, Bool, true, false, List, [], ◌∷◌, length, map, filter, get_or, eqb, eq-eqb, Option, Some, None, refl, sym, ap, ◌∙◌, arith}
use Rattle.std.specs.Prelude.{bytes_eq, option_map, option_and_then, slice_get, slice_index, IfSome}
use Rattle.std.specs.List.{All, last_or}
use Rattle.std.specs.Option.{option_map_or}
use Rattle.std.proofs.lemmas.Cmp.{nat_list_eq_equiv, on_equiv}
use Rattle.std.proofs.lemmas.List.Elements.{All-filter, All-from_get_or, All-get_or, All-head, All-map, All-tail, All-weaker}
use Rattle.std.proofs.lemmas.List.Folds.{list_any_at}
use Rattle.std.proofs.lemmas.Option.{slice_get_within}
use Rattle.std.specs.Cmp.{IsEquivalence}
use Rattle.smap_mappings.specs.Laws.Lists.{there_is}
use Rattle.smap_mappings.specs.Within.{IsIndexWithin, IsOriginWithin, IsWithin}
use Rattle.smap_mappings.specs.declared.mapping.Mapping.{Mapping}
use Rattle.smap_mappings.specs.declared.mapping.Origin.{Origin}
use Rattle.smap_index.specs.Answer.{answer_at_or_before, answer_of_last, answer_with, is_on_line_at_or_before}
use Rattle.smap_record.specs.Limits.{most_listed}
use Rattle.smap_compose.specs.Composition.{Composition}
use Rattle.smap_compose.specs.Follow.{answer_with_origin, with_origin}
use Rattle.smap_compose.specs.Pruned.{NamedOrigin, has_name, has_source, is_name_used, is_same_source, is_source_used, named_answer, named_origin, named_source, names_left, place_left, pruned, pruned_origin, sources_left}
use Rattle.smap_compose.specs.Private.Keys.{mapping_moved_to, moved_to}
use Rattle.smap_compose.specs.Private.Left.{AreLeft}
use Rattle.smap_compose.proofs.FollowLaws.{answer_alike}
use Rattle.smap_compose.proofs.FoundLaws.{few_left, place_at, place_has}
use Rattle.smap_compose.proofs.SameLaws.{named_equivalence, same_named, same_texts}

same_source_equivalence : IsEquivalence is_same_source
same_source_equivalence = on_equiv named_source named_equivalence

map_alike : {X Y : Type 0} (P : X → Type 0) (f g : X → Y) → ((x : X) → P x → f x ≡ g x) → (xs : List X) → All P xs → map f xs ≡ map g xs
map_alike P f g alike [] all = refl
map_alike P f g alike (x ∷ xs) all =
    ap (λ y. y ∷ map f xs) (alike x (All-head P x xs all)) ∙ ap (λ ys. g x ∷ ys) (map_alike P f g alike xs (All-tail P x xs all))

last_of_all : {X : Type 0} (P : X → Type 0) (earlier : Option X) (xs : List X) → IfSome earlier P → All P xs → IfSome (last_or earlier xs) P
last_of_all P earlier [] first all = first
last_of_all P earlier (x ∷ xs) first all = last_of_all P (Some x) xs (All-head P x xs all) (All-tail P x xs all)

same_origins : {s s' l c : ℕ} {n n' : Option ℕ} → s ≡ s' → n ≡ n'
    → ◌≡◌ {A = Origin} (record { source = s; line = l; column = c; name = n }) (record { source = s'; line = l; column = c; name = n' })
same_origins sources names = rw (sources, names) refl

module _ (whole : Composition) where
  abbrev sources_used : ℕ → Bool
  sources_used = is_source_used whole.mappings

  abbrev names_used : ℕ → Bool
  names_used = is_name_used whole.mappings

  -- ---- what is known of the origins of its mappings

  pub record IsKnownOrigin (origin : Origin) : Type 0 where
    pub within : IsOriginWithin (length whole.sources) (length whole.names) origin
    pub source_used : sources_used origin.source ≡ true
    pub name_used : IfSome origin.name (λ name. names_used name ≡ true)

  pub record IsKnown (mapping : Mapping) : Type 0 where
    pub within : IsWithin (length whole.sources) (length whole.names) mapping
    pub origin : IfSome mapping.origin IsKnownOrigin

  abbrev none_mapped : Mapping
  none_mapped = record { line = 0; column = 0; origin = None }

  module _ (i : ℕ) (inside : i < length whole.mappings) (origin : Origin) (is : (get_or whole.mappings i none_mapped).origin ≡ Some origin) where
    source_there : sources_used origin.source ≡ true
    source_there =
        list_any_at (has_source origin.source) whole.mappings i none_mapped inside
        (ap (λ (found : Option Origin). option_map_or (λ one. eqb one.source origin.source) found false) is ∙ eq-eqb origin.source origin.source refl)

    name_there : (name : ℕ) → origin.name ≡ Some name → names_used name ≡ true
    name_there name has =
        list_any_at (has_name name) whole.mappings i none_mapped inside
        (ap (λ (found : Option Origin). option_map_or (λ one. option_map_or (λ n. eqb n name) one.name false) found false) is
        ∙ ap (λ found. option_map_or (λ n. eqb n name) found false) has ∙ eq-eqb name name refl)

  known_at : (i : ℕ) → i < length whole.mappings → (origin : Option Origin)
      → (get_or whole.mappings i none_mapped).origin ≡ origin
      → IfSome origin (IsOriginWithin (length whole.sources) (length whole.names)) → IfSome origin IsKnownOrigin
  known_at i inside None is within = tt
  known_at i inside (Some origin) is within = record {
    within = within;
    source_used = source_there i inside origin is;
    name_used = by origin.name refl;
  }
    where
      by : (name : Option ℕ) → origin.name ≡ name → IfSome name (λ name. names_used name ≡ true)
      by None has = tt
      by (Some name) has = name_there i inside origin is name has

  pub all_known : All (IsWithin (length whole.sources) (length whole.names)) whole.mappings → All IsKnown whole.mappings
  all_known within =
      All-from_get_or IsKnown whole.mappings none_mapped
      (λ i inside.
      let here : IsWithin (length whole.sources) (length whole.names) (get_or whole.mappings i none_mapped) =
      All-get_or (IsWithin (length whole.sources) (length whole.names)) whole.mappings i none_mapped inside within in
      record { within = here; origin = known_at i inside (get_or whole.mappings i none_mapped).origin refl here.origin })

  -- ---- what an origin leads to

  source_reported : (i : ℕ) → i < length whole.sources → sources_used i ≡ true
      → option_map named_source (slice_get (sources_left whole) (place_left is_same_source sources_used whole.sources i))
      ≡ option_map named_source (slice_get whole.sources i)
  source_reported i inside used =
      let source = there_is whole.sources i inside in
      let one = place_has is_same_source same_source_equivalence sources_used whole.sources i source.0 source.1 used in
      ap (option_map named_source) one.1 ∙ ap Some (sym (same_named (named_source source.0) (named_source one.0) one.2))
      ∙ ap (option_map named_source) (sym source.1)

  name_reported : (i : ℕ) → i < length whole.names → names_used i ≡ true
      → slice_get (names_left whole) (place_left bytes_eq names_used whole.names i) ≡ slice_get whole.names i
  name_reported i inside used =
      let name = there_is whole.names i inside in
      let one = place_has bytes_eq nat_list_eq_equiv names_used whole.names i name.0 name.1 used in
      one.1 ∙ ap Some (sym (same_texts name.0 one.0 one.2)) ∙ sym name.1

  maybe_name_reported : (name : Option ℕ) → IfSome name (IsIndexWithin (length whole.names)) → IfSome name (λ name. names_used name ≡ true)
      → option_and_then (slice_get (names_left whole)) (option_map (place_left bytes_eq names_used whole.names) name)
      ≡ option_and_then (slice_get whole.names) name
  maybe_name_reported None within used = refl
  maybe_name_reported (Some name) within used = name_reported name within.named used

  reported : (origin : Origin) → IsKnownOrigin origin → named_origin (pruned whole) (pruned_origin whole origin) ≡ named_origin whole origin
  reported origin known =
      same_named_origins (source_reported origin.source known.within.source.named known.source_used)
      (maybe_name_reported origin.name known.within.name known.name_used)
    where
      same_named_origins : {s s' : _} {n n' : _} → s ≡ s' → n ≡ n'
          → ◌≡◌ {A = NamedOrigin} (record { source = s; line = origin.line; column = origin.column; name = n })
          (record { source = s'; line = origin.line; column = origin.column; name = n' })
      same_named_origins sources names = rw (sources, names) refl

  reported_with : (column : ℕ) (origin : Option Origin) → IfSome origin IsKnownOrigin
      → named_answer (pruned whole) (answer_with_origin (λ origin. Some (pruned_origin whole origin)) (answer_with column origin))
      ≡ named_answer whole (answer_with column origin)
  reported_with column None known = refl
  reported_with column (Some origin) known = ap (λ named. Some (column, Some named)) (reported origin known)

  reported_last : (last : Option Mapping) → IfSome last IsKnown
      → named_answer (pruned whole) (answer_with_origin (λ origin. Some (pruned_origin whole origin)) (answer_of_last last))
      ≡ named_answer whole (answer_of_last last)
  reported_last None known = refl
  reported_last (Some mapping) known = reported_with mapping.column mapping.origin known.origin

  pub answers_reported : All (IsWithin (length whole.sources) (length whole.names)) whole.mappings → (line column : ℕ)
      → named_answer (pruned whole) (answer_at_or_before (pruned whole).mappings line column)
      ≡ named_answer whole (answer_at_or_before whole.mappings line column)
  unfolding answer_at_or_before
  answers_reported within line column =
      ap (named_answer (pruned whole)) (answer_alike (λ origin. Some (pruned_origin whole origin)) line column whole.mappings)
      ∙ reported_last (last_or None (filter (is_on_line_at_or_before line column) whole.mappings))
      (last_of_all IsKnown None (filter (is_on_line_at_or_before line column) whole.mappings) tt
      (All-filter (is_on_line_at_or_before line column) IsKnown whole.mappings (all_known within)))

  -- ---- within what is left

  source_within : length whole.sources ≤ most_listed → (i : ℕ) → i < length whole.sources → sources_used i ≡ true
      → IsIndexWithin (length (sources_left whole)) (place_left is_same_source sources_used whole.sources i)
  source_within few i inside used =
      let source = there_is whole.sources i inside in
      let one = place_has is_same_source same_source_equivalence sources_used whole.sources i source.0 source.1 used in
      let named = slice_get_within (sources_left whole) (place_left is_same_source sources_used whole.sources i) one.0 one.1 in
      let left = few_left is_same_source sources_used whole.sources in
      record { named = named; small = omega arith }

  name_within : length whole.names ≤ most_listed → (i : ℕ) → i < length whole.names → names_used i ≡ true
      → IsIndexWithin (length (names_left whole)) (place_left bytes_eq names_used whole.names i)
  name_within few i inside used =
      let name = there_is whole.names i inside in
      let one = place_has bytes_eq nat_list_eq_equiv names_used whole.names i name.0 name.1 used in
      let named = slice_get_within (names_left whole) (place_left bytes_eq names_used whole.names i) one.0 one.1 in
      let left = few_left bytes_eq names_used whole.names in
      record { named = named; small = omega arith }

  maybe_name_within : length whole.names ≤ most_listed → (name : Option ℕ) → IfSome name (IsIndexWithin (length whole.names))
      → IfSome name (λ name. names_used name ≡ true)
      → IfSome (option_map (place_left bytes_eq names_used whole.names) name) (IsIndexWithin (length (names_left whole)))
  maybe_name_within few None within used = tt
  maybe_name_within few (Some name) within used = name_within few name within.named used

  maybe_origin_within : length whole.sources ≤ most_listed → length whole.names ≤ most_listed → (origin : Option Origin) → IfSome origin IsKnownOrigin
      → IfSome (option_and_then (λ origin. Some (pruned_origin whole origin)) origin) (IsOriginWithin (length (sources_left whole)) (length (names_left whole)))
  maybe_origin_within few_sources few_names None known = tt
  maybe_origin_within few_sources few_names (Some origin) known = record {
    source = source_within few_sources origin.source known.within.source.named known.source_used;
    line = known.within.line;
    column = known.within.column;
    name = maybe_name_within few_names origin.name known.within.name known.name_used;
  }

  pub pruned_within : length whole.sources ≤ most_listed → length whole.names ≤ most_listed
      → All (IsWithin (length whole.sources) (length whole.names)) whole.mappings
      → All (IsWithin (length (sources_left whole)) (length (names_left whole))) (pruned whole).mappings
  pruned_within few_sources few_names within =
      All-map (IsWithin (length (sources_left whole)) (length (names_left whole))) (with_origin (λ origin. Some (pruned_origin whole origin))) whole.mappings
      (All-weaker IsKnown
      (λ mapping. IsWithin (length (sources_left whole)) (length (names_left whole)) (with_origin (λ origin. Some (pruned_origin whole origin)) mapping))
      (λ mapping known.
      record {
        line = known.within.line;
        column = known.within.column;
        origin = maybe_origin_within few_sources few_names mapping.origin known.origin;
      })
      whole.mappings (all_known within))

  -- ---- the places that were found are those of what is left

  module _ (source_places name_places : List ℕ) (source_marks name_marks : List Bool)
      (sources : AreLeft is_same_source sources_used whole.sources source_places source_marks)
      (names : AreLeft bytes_eq names_used whole.names name_places name_marks) where
    source_place : (i : ℕ) → i < length whole.sources → sources_used i ≡ true
        → slice_index source_places i ≡ place_left is_same_source sources_used whole.sources i
    source_place i inside used =
        let source = there_is whole.sources i inside in
        sym (place_at is_same_source same_source_equivalence sources_used whole.sources i source.0 source.1 _ (sources.placed i source.0 source.1 used))

    name_place : (i : ℕ) → i < length whole.names → names_used i ≡ true → slice_index name_places i ≡ place_left bytes_eq names_used whole.names i
    name_place i inside used =
        let name = there_is whole.names i inside in
        sym (place_at bytes_eq nat_list_eq_equiv names_used whole.names i name.0 name.1 _ (names.placed i name.0 name.1 used))

    maybe_name_place : (name : Option ℕ) → IfSome name (IsIndexWithin (length whole.names)) → IfSome name (λ name. names_used name ≡ true)
        → option_map (slice_index name_places) name ≡ option_map (place_left bytes_eq names_used whole.names) name
    maybe_name_place None within used = refl
    maybe_name_place (Some name) within used = ap Some (name_place name within.named used)

    maybe_moved : (origin : Option Origin) → IfSome origin IsKnownOrigin
        → option_and_then (λ origin. Some (moved_to source_places name_places origin)) origin
        ≡ option_and_then (λ origin. Some (pruned_origin whole origin)) origin
    maybe_moved None known = refl
    maybe_moved (Some origin) known =
        ap Some
        (same_origins (source_place origin.source known.within.source.named known.source_used)
        (maybe_name_place origin.name known.within.name known.name_used))

    pub moved_are_pruned : All (IsWithin (length whole.sources) (length whole.names)) whole.mappings
        → map (mapping_moved_to source_places name_places) whole.mappings ≡ (pruned whole).mappings
    moved_are_pruned within =
        map_alike IsKnown (mapping_moved_to source_places name_places) (with_origin (λ origin. Some (pruned_origin whole origin)))
        (λ mapping known. ap (λ origin. record mapping { origin = origin }) (maybe_moved mapping.origin known.origin))
        whole.mappings (all_known within)
