-- The place of a pair that is in no frame: where it begins, and its URL ends.
use Rattle.std.proofs.Common.{◌≡◌, ◌==◌, ◌&&◌, ◌+◌, ◌-◌, ◌<◌, ◌≤◌, inl, inr, ℕ, zero, suc, Bool, true, false, cond, List, Option, Some, None, IfSome}
use Rattle.std.proofs.Common.{ap, arith, max, nat_lt, refl, sym, take, ◌∙◌}
use Rattle.std.specs.List.{slice_range}
use Rattle.std.proofs.lemmas.Bool.{cases_lt, eq-eqb, eqb-true, ltb-true}
use Rattle.smap_pairs.specs.Behind.{is_in_folder, is_query_at}
use Rattle.smap_pairs.specs.Greatest.{greatest, most_below}
use Rattle.smap_pairs.specs.Known.{UrlsKnown}
use Rattle.smap_pairs.specs.LinePlaces.{cut_before, own_before, own_place, pair_place, pattern_place, query_before, span_of, with_query}
use Rattle.smap_pairs.specs.Named.{cut_bytes, is_in_folder as is_in_folder_before, is_named_before, longest_cut, named_bytes, own_bytes, query_of, with_rest}
use Rattle.smap_pairs.specs.PathStart.{path_begin}
use Rattle.smap_pairs.specs.Word.{begin_in_word, begin_of_path, begin_of_scheme, word_begin, word_start}
use Rattle.smap_pairs.specs.Laws.Greatest.{greatest_passes, greatest_within}
use Rattle.smap_pairs.specs.declared.known.NamedBy.{NamedBy}
use Rattle.smap_pairs.specs.declared.known.NamedBy.TheVariants.{Any, Argument, List as ByList}
use Rattle.smap_pairs.specs.declared.line_places.Span.{Span}
use Rattle.smap_pairs.specs.declared.pairs.Pair.{Pair}
use Rattle.smap_pairs.specs.declared.seen.SeenByte.{SeenByte}
use Rattle.smap_pairs.proofs.MostLaws.{most_least}
use Rattle.smap_pairs.proofs.WordLaws.{positive}

-- a place ends with the numbers of a pair, and its URL before them
pub record IsPlaceOf (pair : Pair) (span : Span) : Type 0 where
  pub url : span.start ≤ span.url_end
  pub within : span.url_end ≤ pair.start
  pub end : span.end ≡ pair.end

-- it begins in the piece of the pair, too
pub record IsPlaceInPiece (pair : Pair) (span : Span) : Type 0 where
  pub place : IsPlaceOf pair span
  pub piece : pair.piece ≤ span.start

-- ---- numbers

some_passes : (test : ℕ → Bool) (n most : ℕ) → 0 < n → n ≤ most → test n ≡ true → 0 < greatest test most
some_passes test n zero some within on = absurd (omega (arith, some, within))
some_passes test n (suc most) some within on = elim (cases_lt n (suc most)) [
  | inl less ↦ go (test (suc most)) (some_passes test n most some (omega (arith, less)) on)
  | inr more ↦ (let same : n ≡ suc most = omega (arith, within, more) in here (test (suc most)) (ap test (sym same) ∙ on))
]
  where
    go : (b : Bool) → 0 < greatest test most → 0 < cond b (suc most) (greatest test most)
    go true is = omega arith
    go false is = is

    here : (b : Bool) → b ≡ true → 0 < cond b (suc most) (greatest test most)
    here true is = omega arith
    here false is = absurd (cc)

pub most_is : (has : ℕ → ℕ) (end : ℕ) → 0 < most_below has end → (n : ℕ) × (n < end) × (has n ≡ most_below has end)
most_is has zero some = absurd (omega (arith, some))
most_is has (suc end) some = elim (cases_lt (most_below has end) (has end)) [
  | inl more ↦ (end, omega arith, omega (arith, more))
  | inr less ↦ further (most_is has end (omega (arith, some, less))) less
]
  where
    further : (n : ℕ) × (n < end) × (has n ≡ most_below has end) → has end ≤ most_below has end
        → (n : ℕ) × (n < suc end) × (has n ≡ max (has end) (most_below has end))
    further one less = (one.0, omega (arith, one.1), omega (arith, one.2, less))

-- ---- a name

rest_is : (named piece end n : ℕ) → named ≤ n - piece → n ≤ end → (none : Bool) → (named == 0) ≡ none → 0 < cond none 0 (named + (end - n))
    → (0 < n) × (end - cond none 0 (named + (end - n)) ≤ n) × (cond none 0 (named + (end - n)) ≤ end - piece)
rest_is named piece end n within order true none some = absurd (omega (arith, some))
rest_is named piece end n within order false not_none some =
    let any : 0 < named = positive named not_none in (omega (arith, any, within), omega (arith, any, within, order), omega (arith, any, within, order))

module _ (known : UrlsKnown) (text : List ℕ) (seen : List SeenByte) (piece : ℕ) (is_query : ℕ → Bool) (end : ℕ) (by : NamedBy) where
  cut_is : (n : ℕ) → n ≤ end → 0 < cut_bytes known text seen piece is_query end by n
      → (0 < n) × (end - cut_bytes known text seen piece is_query end by n ≤ n) × (cut_bytes known text seen piece is_query end by n ≤ end - piece)
  cut_is n order = go (is_query n)
    where
      named : named_bytes known text seen piece by n ≤ n - piece
      named = greatest_within (is_named_before known text seen piece by n) (n - piece)

      go : (on : Bool) → 0 < cond on (with_rest (end - n) (named_bytes known text seen piece by n)) 0
          → (0 < n) × (end - cond on (with_rest (end - n) (named_bytes known text seen piece by n)) 0 ≤ n)
          × (cond on (with_rest (end - n) (named_bytes known text seen piece by n)) 0 ≤ end - piece)
      go true some = rest_is (named_bytes known text seen piece by n) piece end n named order (named_bytes known text seen piece by n == 0) refl some
      go false some = absurd (omega (arith, some))

  cut_within : longest_cut known text seen piece is_query end by ≤ end - piece
  cut_within = most_least (cut_bytes known text seen piece is_query end by) end (end - piece) (λ n inside.
      elim (cases_lt 0 (cut_bytes known text seen piece is_query end by n)) [
        | inl some ↦ (cut_is n (omega (arith, inside)) some).2
        | inr none ↦ omega (arith, none)
      ])

  -- the URL begins before its query
  query_behind : 0 < longest_cut known text seen piece is_query end by
      → end - longest_cut known text seen piece is_query end by ≤ query_of known text seen piece is_query end by (longest_cut known text seen piece is_query end by)
  query_behind some =
      let cut = cut_bytes known text seen piece is_query end by in
      let bytes : ℕ = longest_cut known text seen piece is_query end by in
      let one = most_is cut end some in
      let here = cut_is one.0 (omega (arith, one.1)) (omega (arith, one.2, some)) in
      let there : 0 < greatest (λ query. cut query == bytes) end =
      some_passes (λ query. cut query == bytes) one.0 end here.0 (omega (arith, one.1)) (eq-eqb (cut one.0) bytes one.2) in
      elim (greatest_passes (λ query. cut query == bytes) end) [
        | inl none ↦ absurd (omega (arith, none, there))
        | inr on ↦
            let same : cut (greatest (λ query. cut query == bytes) end) ≡ bytes = eqb-true (cut (greatest (λ query. cut query == bytes) end)) bytes on in
            let is = cut_is (greatest (λ query. cut query == bytes) end) (greatest_within (λ query. cut query == bytes) end) (omega (arith, same, some)) in
            omega (arith, same, is.1)
      ]

own_within : (known : UrlsKnown) (text : List ℕ) (seen : List SeenByte) (piece : ℕ) (is_query in_folder : ℕ → Bool) (end : ℕ)
    → own_bytes known text seen piece is_query in_folder end ≤ end - piece
unfolding own_bytes
own_within known text seen piece is_query in_folder end =
    let named : named_bytes known text seen piece Any end ≤ end - piece = greatest_within (is_named_before known text seen piece Any end) (end - piece) in
    let cut : longest_cut known text seen piece is_query end ByList ≤ end - piece = cut_within known text seen piece is_query end ByList in
    let folder : greatest (is_in_folder_before known text seen in_folder end) (end - piece) ≤ end - piece =
    greatest_within (is_in_folder_before known text seen in_folder end) (end - piece) in omega (arith, named, cut, folder)

-- ---- a word

least_of_two : (low : ℕ) (is : Bool) (one other : ℕ) → low ≤ one → low ≤ other → low ≤ cond is one other
least_of_two low true one other first second = first
least_of_two low false one other first second = second

module _ (line : List SeenByte) (virtual_start : ℕ) (pair : Pair) (order : pair.piece ≤ pair.start) where
  scheme_least : (start : ℕ) (is_longer : Bool) (scheme : Option ℕ) → pair.piece ≤ start → pair.piece ≤ begin_of_scheme start pair.start is_longer scheme
  scheme_least start is_longer None least = order
  scheme_least start is_longer (Some scheme) least =
      least_of_two pair.piece (is_longer && (scheme == 0)) pair.start (start + scheme) order (omega (arith, least))

  path_least : (begin : ℕ) → pair.piece ≤ begin → pair.piece ≤ begin_of_path line virtual_start pair begin
  path_least begin least = least_of_two pair.piece _ begin pair.start least order

  word_least_from : (start : ℕ) (is_longer : Bool) (scheme : Option ℕ) → pair.piece ≤ start
      → pair.piece ≤ begin_in_word line virtual_start pair start is_longer scheme
  word_least_from start is_longer None least =
      least_of_two pair.piece is_longer pair.start _ order
      (path_least (start + path_begin (slice_range line start pair.start)) (omega (arith, least)))
  word_least_from start is_longer (Some mark) least = scheme_least start is_longer _ least

  word_least : pair.piece ≤ word_begin line virtual_start pair
  unfolding word_begin
  word_least =
      let start : ℕ = word_start line (max pair.piece (pair.start - 2048)) pair.start in
      let least : pair.piece ≤ start = omega arith in
      least_of_two pair.piece _ pair.start _ order (word_least_from start _ _ least)

-- ---- the place

module _ (known : UrlsKnown) (text : List ℕ) (seen : List SeenByte) (pair : Pair) (order : pair.piece ≤ pair.start) where
  query_placed : (bytes query : ℕ) → bytes ≤ pair.start - pair.piece → query ≤ pair.start → (0 < bytes → pair.start - bytes ≤ query)
      → IfSome (with_query known text seen pair bytes query) (IsPlaceInPiece pair)
  query_placed bytes query within low behind = go (bytes == 0) refl
    where
      go : (none : Bool) → (bytes == 0) ≡ none → IfSome (cond none None (Some (span_of pair (pair.start - bytes) query false))) (IsPlaceInPiece pair)
      go true is = tt
      go false is =
          let some : 0 < bytes = positive bytes is in
          record { place = record { url = behind some; within = low; end = refl }; piece = omega (arith, within, order) }

  abbrev cut : ℕ
  cut = cut_before known text seen pair

  pattern_placed : (begin : ℕ) → pair.piece ≤ begin → IfSome (pattern_place known text seen pair begin) (IsPlaceInPiece pair)
  pattern_placed begin least = go (nat_lt begin pair.start && known.has_pattern (slice_range text begin pair.start)) refl
    where
      both : (one other : Bool) → (one && other) ≡ true → one ≡ true
      both true other is = refl
      both false other is = cc

      go : (on : Bool) → (nat_lt begin pair.start && known.has_pattern (slice_range text begin pair.start)) ≡ on
          → IfSome (cond on (Some (span_of pair begin pair.start false)) (with_query known text seen pair cut (query_before known text seen pair cut)))
          (IsPlaceInPiece pair)
      go true on =
          let less : begin < pair.start =
          ltb-true begin pair.start (both (nat_lt begin pair.start) (known.has_pattern (slice_range text begin pair.start)) on) in
          record { place = record { url = omega (arith, less); within = omega arith; end = refl }; piece = least }
      go false off =
          let is_query = is_query_at (take pair.start seen) pair.piece in
          query_placed cut (query_before known text seen pair cut) (cut_within known text seen pair.piece is_query pair.start Argument)
          (greatest_within (λ query. cut_bytes known text seen pair.piece is_query pair.start Argument query == cut) pair.start)
          (query_behind known text seen pair.piece is_query pair.start Argument)

  own_placed : (virtual_start bytes : ℕ) → bytes ≤ pair.start - pair.piece → IfSome (own_place known text seen virtual_start pair bytes) (IsPlaceInPiece pair)
  own_placed virtual_start bytes within = go (bytes == 0)
    where
      go : (none : Bool) → IfSome (cond none (pattern_place known text seen pair (word_begin seen virtual_start pair))
          (Some (span_of pair (pair.start - bytes) pair.start false))) (IsPlaceInPiece pair)
      go true = pattern_placed (word_begin seen virtual_start pair) (word_least seen virtual_start pair order)
      go false = record { place = record { url = omega arith; within = omega arith; end = refl }; piece = omega (arith, within, order) }

  pub placed_behind : (virtual_start : ℕ) → IfSome (pair_place known text seen virtual_start pair) (IsPlaceInPiece pair)
  unfolding pair_place
  placed_behind virtual_start =
      own_placed virtual_start (own_before known text seen pair)
      (own_within known text seen pair.piece (is_query_at (take pair.start seen) pair.piece) (is_in_folder (take pair.start seen) pair.piece) pair.start)
