-- What is named behind a byte, and how many bytes it has.
use Rattle.std.proofs.Common.{zero, suc, ◌||◌, ◌∷◌, [], if◌then◌else◌, get_or, subst, ◌≡◌, ◌==◌, ◌<◌, ◌⊎◌, cond, inl, inr, ◌≤◌, ◌-◌, ◌&&◌, ℕ, Bool, true, false, List, ap, arith, drop, length, length-drop, refl, sym, take, ◌∙◌}
use Rattle.std.proofs.lemmas.Bool.{cases_lt, eqb-true}
use Rattle.std.proofs.lemmas.List.{get_or_past, length-map, length-take-le}
use Rattle.std.specs.List.{slice_range}
use Rattle.smap_pairs.specs.Behind.{begins_query, fits_at, is_query_at, queries_below, queries_of}
use Rattle.smap_pairs.specs.Signs.{text_of}
use Rattle.smap_pairs.specs.Known.{UrlsKnown, is_among}
use Rattle.smap_pairs.specs.Named.{cut_bytes, named_bytes, with_rest}
use Rattle.smap_pairs.specs.Laws.Greatest.{head_or}
use Rattle.smap_pairs.specs.declared.known.NamedBy.{NamedBy}
use Rattle.smap_pairs.specs.declared.seen.SeenByte.{SeenByte}

pub slice_size : {X : Type 0} (text : List X) (at end : ℕ) → at ≤ end → end ≤ length text → length (slice_range text at end) ≡ end - at
slice_size {X} text at end order within =
    let size : length (drop at text) ≡ length text - at = length-drop at text in
    length-take-le (end - at) (drop at text) (omega (arith, size, within, order))

-- a text of which each that passes has its length among these
pub among_slice : (test : List ℕ → Bool) (lengths text : List ℕ) (at end : ℕ)
    → ((url : List ℕ) → test url ≡ true → is_among lengths (length url) ≡ true)
    → at ≤ end → end ≤ length text → test (slice_range text at end) ≡ true → is_among lengths (end - at) ≡ true
among_slice test lengths text at end covers order within on =
    ap (is_among lengths) (sym (slice_size text at end order within)) ∙ covers (slice_range text at end) on

pub both_rest : (one other : Bool) → (one && other) ≡ true → other ≡ true
both_rest true other is = is
both_rest false other is = cc

-- ---- queries

pub query_below : (before : List SeenByte) (piece n query : ℕ) → is_among (queries_below before piece n) query ≡ true
    → (query < n) × (is_query_at before piece query ≡ true)
query_below before piece zero query is = absurd (cc)
query_below before piece (suc n) query is = go (query_below before piece n query) (is_query_at before piece n) refl is
  where
    further : (query < n) × (is_query_at before piece query ≡ true) → (query < suc n) × (is_query_at before piece query ≡ true)
    further below = (omega (arith, below.0), below.1)

    here : (is_among (queries_below before piece n) query ≡ true → (query < n) × (is_query_at before piece query ≡ true))
        → is_query_at before piece n ≡ true → (same : Bool) → (n == query) ≡ same → (same || is_among (queries_below before piece n) query) ≡ true
        → (query < suc n) × (is_query_at before piece query ≡ true)
    here below on true same _ = (let equal : n ≡ query = eqb-true n query same in (omega (arith, equal), ap (is_query_at before piece) (sym equal) ∙ on))
    here below on false other rest = further (below rest)

    go : (is_among (queries_below before piece n) query ≡ true → (query < n) × (is_query_at before piece query ≡ true))
        → (on : Bool) → is_query_at before piece n ≡ on → is_among (if on then n ∷ queries_below before piece n else queries_below before piece n) query ≡ true
        → (query < suc n) × (is_query_at before piece query ≡ true)
    go below true on among = here below on (n == query) refl among
    go below false off among = further (below among)

pub below_query : (before : List SeenByte) (piece n query : ℕ) → query < n → is_query_at before piece query ≡ true
    → is_among (queries_below before piece n) query ≡ true
below_query before piece zero query within on = absurd (omega (arith, within))
below_query before piece (suc n) query within on = elim (cases_lt query n) [
  | inl less ↦ later (is_query_at before piece n) (below_query before piece n query less on)
  | inr more ↦ (let same : n ≡ query = omega (arith, within, more) in first (is_query_at before piece n) (ap (is_query_at before piece) same ∙ on) same)
]
  where
    later : (here : Bool) → is_among (queries_below before piece n) query ≡ true
        → is_among (if here then n ∷ queries_below before piece n else queries_below before piece n) query ≡ true
    later true rest = head_or n query (queries_below before piece n) (inr rest)
    later false rest = rest

    first : (here : Bool) → here ≡ true → n ≡ query → is_among (if here then n ∷ queries_below before piece n else queries_below before piece n) query ≡ true
    first true is same = head_or n query (queries_below before piece n) (inl same)
    first false is same = absurd (cc)

none_past : (before : List SeenByte) (piece n : ℕ) → length before ≤ n → is_query_at before piece n ≡ false
none_past before piece n past =
    let nothing : get_or (text_of before) n 0 ≡ 0 = get_or_past (text_of before) n 0 (omega (arith, length-map before (λ (seen : SeenByte). seen.byte), past)) in
    ap (λ byte. begins_query byte && fits_at before piece n) nothing

pub item_among : (numbers : List ℕ) (i : ℕ) → i < length numbers → is_among numbers (get_or numbers i 0) ≡ true
item_among [] i within = absurd (omega (arith, within))
item_among (x ∷ numbers) zero within = head_or x x numbers (inl refl)
item_among (x ∷ numbers) (suc i) within = head_or x (get_or numbers i 0) numbers (inr (item_among numbers i (omega (arith, within))))

-- one of those that are noted
pub noted_query : (before : List SeenByte) (piece : ℕ) (queries : List ℕ) (i : ℕ) → queries ≡ queries_of before piece → i < length queries
    → (get_or queries i 0 < length before) × (is_query_at before piece (get_or queries i 0) ≡ true)
noted_query before piece queries i are within =
    query_below before piece (length before) (get_or queries i 0) (subst (λ l. is_among l (get_or queries i 0) ≡ true) are (item_among queries i within))

-- what has a query up to the pair is among the queries, and else has nothing
pub covers : (known : UrlsKnown) (text : List ℕ) (seen : List SeenByte) (piece end : ℕ) (by : NamedBy) (queries : List ℕ)
    → end ≤ length seen → queries ≡ queries_of (take end seen) piece → (n : ℕ) → n < end
    → (is_among queries n ≡ true) ⊎ (cut_bytes known text seen piece (is_query_at (take end seen) piece) end by n ≡ 0)
covers known text seen piece end by queries within are n inside =
    go (is_query_at (take end seen) piece n) refl
  where
    go : (on : Bool) → is_query_at (take end seen) piece n ≡ on
        → (is_among queries n ≡ true) ⊎ (cond on (with_rest (end - n) (named_bytes known text seen piece by n)) 0 ≡ 0)
    go true on = inl (ap (λ l. is_among l n) are
        ∙ below_query (take end seen) piece (length (take end seen)) n (omega (arith, inside, length-take-le end seen within)) on)
    go false off = inr refl

-- what has a query with some bytes has it before the pair, and is among the queries
pub covered_within : (known : UrlsKnown) (text : List ℕ) (seen : List SeenByte) (piece end : ℕ) (by : NamedBy) (bytes n : ℕ)
    → end ≤ length seen → 0 < bytes → n ≤ end
    → (cut_bytes known text seen piece (is_query_at (take end seen) piece) end by n == bytes) ≡ true → n < end
covered_within known text seen piece end by bytes n within some small is = elim (cases_lt n end) [
  | inl inside ↦ inside
  | inr more ↦ absurd (go more (is_query_at (take end seen) piece n) refl (eqb-true (cut_bytes known text seen piece (is_query_at (take end seen) piece) end by n) bytes is))
]
  where
    differ : true ≡ false → ⊥
    differ same = cc

    go : end ≤ n → (on : Bool) → is_query_at (take end seen) piece n ≡ on → cond on (with_rest (end - n) (named_bytes known text seen piece by n)) 0 ≡ bytes → ⊥
    go more true on same = differ (sym on ∙ none_past (take end seen) piece n (omega (arith, length-take-le end seen within, more)))
    go more false off same = omega (arith, some, same)

pub covered : (known : UrlsKnown) (text : List ℕ) (seen : List SeenByte) (piece end : ℕ) (by : NamedBy) (queries : List ℕ)
    → end ≤ length seen → queries ≡ queries_of (take end seen) piece → (bytes n : ℕ) → 0 < bytes → n ≤ end
    → (cut_bytes known text seen piece (is_query_at (take end seen) piece) end by n == bytes) ≡ true → is_among queries n ≡ true
covered known text seen piece end by queries within are bytes n some small is =
    elim (covers known text seen piece end by queries within are n (covered_within known text seen piece end by bytes n within some small is)) [
      | inl among ↦ among
      | inr nothing ↦ absurd (omega (arith, some, nothing, eqb-true (cut_bytes known text seen piece (is_query_at (take end seen) piece) end by n) bytes is))
    ]
