-- What is noted of what stands before a pair.
use Rattle.std.proofs.Common.{◌≡◌, ◌&&◌, ◌⊎◌, ◌+◌, ◌-◌, ◌<◌, ◌≤◌, ℕ, zero, suc, Bool, true, false, cond, nat_le, List, [], ◌∷◌, ◌++◌}
use Rattle.std.proofs.Common.{add-one, ap, append_assoc, arith, drop, get_or, inl, inr, length, length-append, refl, slice_index_or, sym, ◌∙◌}
use Rattle.std.proofs.lemmas.Bool.{and_left, and_right, cases_lt, cases_order, le-leb, le-ltb, lt-leb, lt-ltb}
use Rattle.std.proofs.lemmas.List.{append-nil, drop_all, get_or-map, get_or_append_left, get_or_past, get_or_push, length_push}
use Rattle.smap_pairs.specs.Behind.{IsBehind, begins_query, fits, fits_at, is_in_folder, is_noted, is_query_at, lowest, queries_below, without_query}
use Rattle.smap_pairs.specs.FilePaths.{is_file_path}
use Rattle.smap_pairs.specs.Private.Rest.{IsEnd, IsNoting, IsRest, rest_fits}
use Rattle.smap_pairs.specs.Signs.{text_of}
use Rattle.smap_pairs.specs.declared.behind.Behind.{Behind}
use Rattle.smap_pairs.specs.declared.behind.Rest.{Rest}
use Rattle.smap_pairs.specs.declared.seen.SeenByte.{SeenByte}
use Rattle.smap_pairs.proofs.RestLaws.{rest_fits_is}

-- nothing fits that begins before a byte
abbrev pub NoFit : (before : List SeenByte) → (piece at : ℕ) → Type 0
NoFit before piece at = (i : ℕ) → i < at → fits_at before piece i ≡ false

pub none_from_end : (before : List SeenByte) (piece at : ℕ) → IsEnd before at → NoFit before piece at
none_from_end before piece at ends i below = and_right _ _ (ends i below)

pub none_too_low : (before : List SeenByte) (piece at : ℕ) → at ≤ lowest before piece → NoFit before piece at
none_too_low before piece at low i below = and_left _ _ (lt-leb (lowest before piece) i (omega (arith, low, below)))

none_below : (before : List SeenByte) (piece at : ℕ) → NoFit before piece at → queries_below before piece at ≡ []
none_below before piece zero none = refl
none_below before piece (suc at) none =
    ap (λ b. cond b (at ∷ queries_below before piece at) (queries_below before piece at)) (and_right _ _ (none at (omega arith)))
    ∙ none_below before piece at (λ i below. none i (omega (arith, below)))

past_end : (before : List SeenByte) (piece at : ℕ) → length before ≤ at → is_in_folder before piece at ≡ false
past_end before piece at past =
    let none : drop at before ≡ [] = drop_all at before past in
    and_left _ _ (and_right _ _ (ap (λ rest. is_file_path (without_query (text_of rest))) none))

pub behind_noted : (before : List SeenByte) (piece : ℕ) (behind : Behind) (at : ℕ) → IsNoting before piece behind at → at ≤ length before → NoFit before piece at
    → IsBehind before piece behind
behind_noted before piece behind at is within none = record {
  folders = λ i. folder i (cases_lt i (length before)) (cases_lt i at);
  queries = sym (append-nil behind.queries.items) ∙ ap (λ l. behind.queries.items ++ l) (sym (none_below before piece at none)) ∙ is.queries;
}
  where
    folder : (i : ℕ) → (i < length before) ⊎ (length before ≤ i) → (i < at) ⊎ (at ≤ i) → is_noted behind i ≡ is_in_folder before piece i
    folder i (inl below) (inl lower) =
        and_right _ _ (get_or_past behind.folders.items (behind.end - 1 - i) false (omega (arith, lower, is.count, is.ends)))
        ∙ sym (and_right _ _ (none i lower))
    folder i (inl below) (inr higher) =
        ap (λ b. b && slice_index_or behind.folders.items (behind.end - 1 - i) false) (lt-ltb i behind.end (omega (arith, below, is.ends)))
        ∙ ap (λ n. slice_index_or behind.folders.items (n - 1 - i) false) is.ends ∙ is.folders i higher below
    folder i (inr past) where_at = and_left _ _ (le-ltb i behind.end (omega (arith, past, is.ends))) ∙ sym (past_end before piece i past)

pub noting_more : (before : List SeenByte) (piece : ℕ) (behind with : Behind) (rest : Rest) (d : SeenByte) → IsNoting before piece behind (rest.at + 1) → IsRest before rest
    → rest.at < length before → lowest before piece ≤ rest.at → with.end ≡ behind.end
    → with.folders.items ≡ behind.folders.items ++ (rest.is_path && rest_fits rest) ∷ []
    → with.queries.items ≡ behind.queries.items ++ cond (begins_query (get_or before rest.at d).byte && rest_fits rest) (rest.at ∷ []) []
    → IsNoting before piece with rest.at
noting_more before piece behind with rest d is rested within above same_end folders queries = record {
  ends = same_end ∙ is.ends;
  count = omega (arith, ap length folders ∙ length_push behind.folders.items (rest.is_path && rest_fits rest), is.count);
  folders = λ i from below. folder i below (cases_order i rest.at) from;
  queries = ap (λ l. l ++ queries_below before piece rest.at) queries ∙ query (begins_query (get_or before rest.at d).byte && rest_fits rest) refl ∙ is.queries;
}
  where
    size : length behind.folders.items ≡ length before - 1 - rest.at
    size = omega (arith, is.count)

    enough : nat_le (lowest before piece) rest.at ≡ true
    enough = le-leb (lowest before piece) rest.at above

    fitting : rest_fits rest ≡ fits_at before piece rest.at
    fitting = rest_fits_is before rest rested ∙ ap (λ b. b && fits (drop rest.at before)) (sym enough)

    here : (rest.is_path && rest_fits rest) ≡ is_in_folder before piece rest.at
    here = λ i. rested.path i && fitting i

    folder : (i : ℕ) → i < length before → (i ≡ rest.at) ⊎ ((i < rest.at) ⊎ (rest.at < i)) → rest.at ≤ i
        → slice_index_or with.folders.items (length before - 1 - i) false ≡ is_in_folder before piece i
    folder i below (inl same) from =
        ap (λ l. slice_index_or l (length before - 1 - i) false) folders
        ∙ get_or_push behind.folders.items (rest.is_path && rest_fits rest) false (length before - 1 - i) (omega (arith, size, same))
        ∙ here ∙ ap (is_in_folder before piece) (sym same)
    folder i below (inr (inl lower)) from = absurd (omega (arith, lower, from))
    folder i below (inr (inr higher)) from =
        ap (λ l. slice_index_or l (length before - 1 - i) false) folders
        ∙ get_or_append_left behind.folders.items ((rest.is_path && rest_fits rest) ∷ []) false (length before - 1 - i) (omega (arith, size, higher, below))
        ∙ is.folders i (omega (arith, higher)) below

    at_query : (begins_query (get_or before rest.at d).byte && rest_fits rest) ≡ is_query_at before piece rest.at
    at_query = λ i. begins_query (sym (get_or-map (λ seen. seen.byte) before rest.at d 0 within) i) && fitting i

    below_more : queries_below before piece (rest.at + 1)
        ≡ cond (is_query_at before piece rest.at) (rest.at ∷ queries_below before piece rest.at) (queries_below before piece rest.at)
    below_more = ap (queries_below before piece) (add-one rest.at)

    query : (b : Bool) → (begins_query (get_or before rest.at d).byte && rest_fits rest) ≡ b
        → (behind.queries.items ++ cond b (rest.at ∷ []) []) ++ queries_below before piece rest.at ≡ behind.queries.items ++ queries_below before piece (rest.at + 1)
    query true on =
        append_assoc behind.queries.items (rest.at ∷ []) (queries_below before piece rest.at)
        ∙ ap (λ l. behind.queries.items ++ l)
        (sym (below_more ∙ ap (λ b. cond b (rest.at ∷ queries_below before piece rest.at) (queries_below before piece rest.at)) (sym at_query ∙ on)))
    query false off =
        ap (λ l. l ++ queries_below before piece rest.at) (append-nil behind.queries.items)
        ∙ ap (λ l. behind.queries.items ++ l)
        (sym (below_more ∙ ap (λ b. cond b (rest.at ∷ queries_below before piece rest.at) (queries_below before piece rest.at)) (sym at_query ∙ off)))

-- of a byte at most one query is noted
pub queries_few : (old new : List ℕ) (is_one : Bool) (at size : ℕ) → new ≡ old ++ cond is_one (at ∷ []) [] → length old + (at + 1) ≤ size
    → length new + at ≤ size
queries_few old new true at size more few = omega (arith, ap length more, length-append old (at ∷ []), few)
queries_few old new false at size more few = omega (arith, ap length more, length-append old [], few)
