-- A line without what all URLs begin with has no place.
use Rattle.std.proofs.Common.{◌≡◌, ◌==◌, ◌&&◌, ◌||◌, ◌+◌, ◌-◌, ◌<◌, ◌≤◌, inl, inr, ℕ, zero, suc, Bool, true, false, cond, List, [], ◌∷◌, Option, Some, None}
use Rattle.std.proofs.Common.{ap, arith, drop, get_or, length, length-drop, max, nat_lt, refl, subst, sym, take, ◌∙◌}
use Rattle.std.specs.Prelude.{not}
use Rattle.std.specs.List.{filter_map, find, list_any, slice_range}
use Rattle.std.proofs.lemmas.Bool.{and_parts, cases_lt, eqb-true, ne_eqb, or_cases}
use Rattle.std.proofs.lemmas.List.{get_or-drop, get_or-take, length-take}
use Rattle.memchr.specs.Find.{OccursAt}
use Rattle.smap_pairs.specs.Behind.{is_in_folder, is_query_at}
use Rattle.smap_pairs.specs.FrameUrl.{is_for_folder, is_for_pattern}
use Rattle.smap_pairs.specs.Greatest.{greatest}
use Rattle.smap_pairs.specs.Halved.{halved}
use Rattle.smap_pairs.specs.Known.{AllBegin, IsNowhereIn, UrlsKnown}
use Rattle.smap_pairs.specs.LinePlaces.{cut_before, frame_at, frame_in, frame_span, frame_with, has_frame_url, in_frame, may_be_halved, own_before, own_place, pair_place, pattern_place, place_of, places_in, query_before, span_of, with_query}
use Rattle.smap_pairs.specs.Named.{cut_bytes, is_in_folder as is_in_folder_before, is_named_before, longest_cut, may_begin_name, named_bytes, own_bytes, prefix_bytes, with_rest}
use Rattle.smap_pairs.specs.Pairs.{pairs_of}
use Rattle.smap_pairs.specs.Seen.{seen_of}
use Rattle.smap_pairs.specs.Word.{word_begin}
use Rattle.smap_pairs.specs.Laws.Greatest.{greatest_passes}
use Rattle.smap_pairs.specs.declared.known.NamedBy.{NamedBy}
use Rattle.smap_pairs.specs.declared.known.NamedBy.TheVariants.{Any, Argument, List as ByList}
use Rattle.smap_pairs.specs.declared.line_places.Span.{Span}
use Rattle.smap_pairs.specs.declared.pairs.Pair.{Pair}
use Rattle.smap_pairs.specs.declared.seen.SeenByte.{SeenByte}
use Rattle.smap_pairs.specs.declared.virtual_lines.VirtualLine.{VirtualLine}
use Rattle.smap_pairs.proofs.PairPlaceLaws.{most_is}
use Rattle.smap_pairs.proofs.WordLaws.{positive}

-- ---- where a text stands

-- what stands in a part of a text stands in the text
pub occurs_within : (text front : List ℕ) (begin size at : ℕ) → OccursAt (take size (drop begin text)) front at → 0 < length front
    → OccursAt text front (begin + at)
occurs_within text front begin size at occurs some = record {
  fits = omega (arith, occurs.fits, some, length-take size (drop begin text), length-drop begin text);
  reads = λ j inside.
      let few : at + j < size = omega (arith, inside, occurs.fits, length-take size (drop begin text)) in
      let there : begin + (at + j) ≡ begin + at + j = omega arith in
      ap (λ k. get_or text k 0) (sym there) ∙ sym (get_or-drop begin text (at + j) 0) ∙ sym (get_or-take size (drop begin text) (at + j) 0 few) ∙ occurs.reads j inside;
}

reads_at : (text front : List ℕ) → OccursAt text front 0 → (j : ℕ) → j < length front → get_or text j 0 ≡ get_or front j 0
reads_at text front occurs j inside = let here : j ≡ 0 + j = omega arith in ap (λ k. get_or text k 0) here ∙ occurs.reads j inside

occurs_from : (text front : List ℕ) → length front ≤ length text → ((j : ℕ) → j < length front → get_or text j 0 ≡ get_or front j 0) → OccursAt text front 0
occurs_from text front fits reads = record {
  fits = omega (arith, fits);
  reads = λ j inside. let here : 0 + j ≡ j = omega arith in ap (λ k. get_or text k 0) here ∙ reads j inside;
}

-- the rest of a text that begins another stands behind its first byte
behind_first : (byte one : ℕ) (text front : List ℕ) → OccursAt (byte ∷ text) (one ∷ front) 0 → (byte ≡ one) × OccursAt text front 0
behind_first byte one text front occurs = (
  reads_at (byte ∷ text) (one ∷ front) occurs 0 (omega arith),
  occurs_from text front (omega (arith, occurs.fits)) (λ j inside. reads_at (byte ∷ text) (one ∷ front) occurs (suc j) (omega (arith, inside))),
)

before_first : (byte one : ℕ) (text front : List ℕ) → byte ≡ one → OccursAt text front 0 → OccursAt (byte ∷ text) (one ∷ front) 0
before_first byte one text front same occurs = occurs_from (byte ∷ text) (one ∷ front) (omega (arith, occurs.fits)) reads
  where
    reads : (j : ℕ) → j < length (one ∷ front) → get_or (byte ∷ text) j 0 ≡ get_or (one ∷ front) j 0
    reads zero inside = same
    reads (suc j) inside = reads_at text front occurs j (omega (arith, inside))

nothing_occurs : (text : List ℕ) → OccursAt text [] 0
nothing_occurs text = record { fits = omega arith; reads = λ j inside. absurd (omega (arith, inside)) }

-- without a backslash it begins a text that does so where two backslashes are one
pub halved_begins : (text front : List ℕ) → list_any (λ byte. byte == 92) front ≡ false → OccursAt (halved text) front 0 → OccursAt text front 0
halved_begins text [] plain occurs = nothing_occurs text
halved_begins [] (one ∷ front) plain occurs = absurd (omega (arith, occurs.fits))
halved_begins (byte ∷ []) (one ∷ front) plain occurs = occurs
halved_begins (byte ∷ next ∷ text) (one ∷ front) plain occurs = go (byte == 92 && next == 92) refl occurs (halved_begins (next ∷ text) front rest)
  where
    rest : list_any (λ byte. byte == 92) front ≡ false
    rest = tail (one == 92) plain
      where
        tail : (b : Bool) → (b || list_any (λ byte. byte == 92) front) ≡ false → list_any (λ byte. byte == 92) front ≡ false
        tail true is = cc
        tail false is = is

    other : (one == 92) ≡ false
    other = head (one == 92) refl plain
      where
        head : (b : Bool) → (one == 92) ≡ b → (b || list_any (λ byte. byte == 92) front) ≡ false → b ≡ false
        head true is none = cc
        head false is none = refl

    go : (both : Bool) → (byte == 92 && next == 92) ≡ both → OccursAt (cond both (byte ∷ halved text) (byte ∷ halved (next ∷ text))) (one ∷ front) 0
        → (OccursAt (halved (next ∷ text)) front 0 → OccursAt (next ∷ text) front 0) → OccursAt (byte ∷ next ∷ text) (one ∷ front) 0
    go true both occurs more =
        let slash = (and_parts (byte == 92) (next == 92) both).0 in
        let same = (behind_first byte one (halved text) front occurs).0 in
        let on : (one == 92) ≡ true = ap (λ b. b == 92) (sym same) ∙ slash in absurd (cc)
    go false both occurs more =
        let parts = behind_first byte one (halved (next ∷ text)) front occurs in before_first byte one (next ∷ text) front parts.0 (more parts.1)

-- ---- no place

module _ (known : UrlsKnown) (front line : List ℕ) (begin : AllBegin known front) (none : IsNowhereIn line front) where
  abbrev seen : List SeenByte
  seen = seen_of line

  -- a test that only URLs pass which begin so passes nothing that stands in the line
  not_there : (test : List ℕ → Bool) → ((url : List ℕ) → test url ≡ true → OccursAt url front 0) → (from size : ℕ) → test (take size (drop from line)) ≡ false
  not_there test begins from size = go (test (take size (drop from line))) refl
    where
      go : (on : Bool) → test (take size (drop from line)) ≡ on → on ≡ false
      go true is = absurd (none (from + 0) (occurs_within line front from size 0 (begins (take size (drop from line)) is) begin.some))
      go false is = refl

  halved_not_there : (test : List ℕ → Bool) → ((url : List ℕ) → test url ≡ true → OccursAt url front 0) → (from size : ℕ)
      → test (halved (take size (drop from line))) ≡ false
  halved_not_there test begins from size =
      not_there (λ url. test (halved url)) (λ url is. halved_begins url front begin.plain (begins (halved url) is)) from size

  -- ---- in a frame

  no_frame_url : (virtual : VirtualLine) (pair : Pair) (start : ℕ) (url : List ℕ) → known.has_own url ≡ false
      → has_frame_url known line seen virtual pair start url ≡ false
  no_frame_url virtual pair start url own = go (is_for_pattern seen virtual.start start pair) own (begin.patterns url)
    where
      go : (for_pattern : Bool) → known.has_own url ≡ false → known.has_pattern url ≡ false
          → (known.has_own url && (known.is_name url || is_for_folder seen start pair) || for_pattern && known.has_pattern url) ≡ false
      go true own pattern = rw own pattern
      go false own pattern = rw own

  no_frame_span : (virtual : VirtualLine) (pair : Pair) (start : ℕ) → frame_span known line seen virtual pair start ≡ None
  no_frame_span virtual pair start =
      let halves : has_frame_url known line seen virtual pair start (halved (slice_range line start pair.start)) ≡ false =
      no_frame_url virtual pair start (halved (slice_range line start pair.start))
      (halved_not_there known.has_own begin.own start (pair.start - start)) in
      let whole : has_frame_url known line seen virtual pair start (slice_range line start pair.start) ≡ false =
      no_frame_url virtual pair start (slice_range line start pair.start)
      (not_there known.has_own begin.own start (pair.start - start)) in
      go (may_be_halved known line seen virtual pair start) _ _ halves whole
    where
      go : (may halves whole : Bool) → halves ≡ false → whole ≡ false
          → cond (may && halves) (Some (in_frame virtual.start (span_of pair start pair.start true)))
          (cond whole (Some (in_frame virtual.start (span_of pair start pair.start false))) None) ≡ None
      go true true whole first second = cc
      go true false true first second = cc
      go true false false first second = refl
      go false halves true first second = cc
      go false halves false first second = refl

  no_frame_with : (virtual : VirtualLine) (start : ℕ) (pair : Option Pair) → frame_with known line seen virtual start pair ≡ None
  no_frame_with virtual start None = refl
  no_frame_with virtual start (Some pair) = no_frame_span virtual pair start

  no_frame_at : (pairs : List Pair) (virtual : VirtualLine) (url : Option (ℕ × ℕ)) → frame_at known line seen pairs virtual url ≡ None
  no_frame_at pairs virtual None = refl
  no_frame_at pairs virtual (Some (start, end)) =
      no_frame_with virtual (virtual.start + start) (find (λ (pair : Pair). pair.start == virtual.start + end) pairs)

  pub no_frame : (pairs : List Pair) (virtual : Option VirtualLine) → frame_in known line seen pairs virtual ≡ None
  no_frame pairs None = refl
  no_frame pairs (Some virtual) = no_frame_at pairs virtual (known.frame_url (slice_range line virtual.start virtual.end))

  -- ---- in none

  no_greatest : (test : ℕ → Bool) (n : ℕ) → ((k : ℕ) → test k ≡ false) → greatest test n ≡ 0
  no_greatest test n off = elim (greatest_passes test n) [
    | inl is ↦ is
    | inr on ↦ absurd (cc (off (greatest test n)))
  ]

  no_name : (piece : ℕ) (by : NamedBy) (end : ℕ) → named_bytes known line seen piece by end ≡ 0
  no_name piece by end = no_greatest (is_named_before known line seen piece by end) (end - piece) (λ bytes.
      let off = not_there (known.is_named by) (begin.named by) (end - bytes) (end - (end - bytes)) in
      go (may_begin_name seen (end - bytes)) (known.is_named by (slice_range line (end - bytes) end)) off)
    where
      go : (may named : Bool) → named ≡ false → (may && named) ≡ false
      go true named off = off
      go false named off = refl

  module _ (piece : ℕ) (is_query in_folder : ℕ → Bool) (end : ℕ) where
    no_cut_at : (by : NamedBy) (query : ℕ) → cut_bytes known line seen piece is_query end by query ≡ 0
    no_cut_at by query = go (is_query query)
      where
        go : (on : Bool) → cond on (with_rest (end - query) (named_bytes known line seen piece by query)) 0 ≡ 0
        go true = ap (with_rest (end - query)) (no_name piece by query)
        go false = refl

    no_cut : (by : NamedBy) → longest_cut known line seen piece is_query end by ≡ 0
    no_cut by = elim (cases_lt 0 (longest_cut known line seen piece is_query end by)) [
      | inl some ↦
          let one = most_is (cut_bytes known line seen piece is_query end by) end some in
          absurd (omega (arith, one.2, some, no_cut_at by one.0))
      | inr most ↦ omega (arith, most)
    ]

    no_prefix : (at : ℕ) → prefix_bytes known line end at ≡ 0
    no_prefix at = no_greatest (λ n. known.is_prefix (slice_range line at (at + n))) (end - at) (λ n. not_there known.is_prefix begin.prefixes at (at + n - at))

    no_folder : greatest (is_in_folder_before known line seen in_folder end) (end - piece) ≡ 0
    no_folder = no_greatest (is_in_folder_before known line seen in_folder end) (end - piece) (λ bytes.
        go (end - bytes) (may_begin_name seen (end - bytes)) (prefix_bytes known line end (end - bytes)) (no_prefix (end - bytes)))
      where
        go : (at : ℕ) (may : Bool) (prefix : ℕ) → prefix ≡ 0 → (may && (not (prefix == 0) && in_folder (at + prefix))) ≡ false
        go at true prefix is = ap (λ n. not (n == 0) && in_folder (at + n)) is
        go at false prefix is = refl

    no_own : own_bytes known line seen piece is_query in_folder end ≡ 0
    unfolding own_bytes
    no_own = omega (arith, no_name piece Any end, no_cut ByList, no_folder)

  no_pattern : (pair : Pair) (from : ℕ) → pattern_place known line seen pair from ≡ None
  no_pattern pair from =
      go (nat_lt from pair.start) (known.has_pattern (slice_range line from pair.start)) (begin.patterns (slice_range line from pair.start)) (cut_before known line seen pair)
      (no_cut pair.piece (is_query_at (take pair.start seen) pair.piece) (is_in_folder (take pair.start seen) pair.piece) pair.start Argument)
    where
      go : (less on : Bool) → on ≡ false → (cut : ℕ) → cut ≡ 0
          → cond (less && on) (Some (span_of pair from pair.start false)) (with_query known line seen pair cut (query_before known line seen pair cut)) ≡ None
      go true true off cut none_is = cc
      go true false off cut none_is = ap (λ n. with_query known line seen pair n (query_before known line seen pair n)) none_is
      go false on off cut none_is = ap (λ n. with_query known line seen pair n (query_before known line seen pair n)) none_is

  pub no_pair_place : (virtual_start : ℕ) (pair : Pair) → pair_place known line seen virtual_start pair ≡ None
  unfolding pair_place
  no_pair_place virtual_start pair =
      ap (own_place known line seen virtual_start pair) (no_own pair.piece (is_query_at (take pair.start seen) pair.piece) (is_in_folder (take pair.start seen) pair.piece) pair.start)
      ∙ no_pattern pair (word_begin seen virtual_start pair)

  -- ---- in a line

  no_place_of : (pairs : List Pair) (pair : Pair) → place_of known line seen pairs pair ≡ None
  no_place_of pairs pair = rw (no_frame pairs _, no_frame pairs _, no_frame pairs _) (no_pair_place _ pair)

  none_of : (pairs rest : List Pair) → filter_map (place_of known line seen pairs) rest ≡ (let no : List Span = [] in no)
  none_of pairs [] = refl
  none_of pairs (pair ∷ rest) = rw (no_place_of pairs pair) (none_of pairs rest)

  pub no_place : places_in known line (seen_of line) ≡ []
  unfolding places_in
  no_place = none_of (pairs_of line) (pairs_of line)
