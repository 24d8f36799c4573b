-- A URL that is named begins between two characters of JSON, and what stands from it up to its pair has no quotation mark.
use Rattle.std.proofs.Common.{◌≡◌, ◌≢◌, ◌==◌, ◌&&◌, ◌||◌, ◌+◌, ◌-◌, ◌<◌, ◌≤◌, inl, inr, ℕ, zero, suc, Bool, true, false, cond, List, [], ◌∷◌, Option, Some, None, IfSome}
use Rattle.std.proofs.Common.{ap, arith, drop, get_or, length, length-drop, max, refl, subst, sym, take, ◌∙◌}
use Rattle.std.specs.Prelude.{not, slice_get}
use Rattle.std.specs.List.{list_all, slice_range}
use Rattle.std.proofs.lemmas.Bool.{and_parts, cases_lt, eq-eqb, eqb-true, ne_eqb, or_cases}
use Rattle.std.proofs.lemmas.List.{get_or-drop, get_or-map, get_or-take, get_or_past, length-take}
use Rattle.std.proofs.lemmas.List.Elements.{All-from_get_or}
use Rattle.std.proofs.lemmas.List.Folds.{list_all_at, list_any_at, list_any_none}
use Rattle.smap_pairs.specs.Behind.{fits, fits_at, is_barred, is_barred_byte, is_in_folder, is_query_at}
use Rattle.smap_pairs.specs.Greatest.{greatest}
use Rattle.smap_pairs.specs.Json.{InString, has_quotation_mark, past, past_all}
use Rattle.smap_pairs.specs.Json.InString.{between}
use Rattle.smap_pairs.specs.Known.{UrlsKnown}
use Rattle.smap_pairs.specs.Named.{cut_bytes, is_before_name, is_in_folder as is_in_folder_before, is_named_before, longest_cut, may_begin_name, named_bytes, own_bytes, prefix_bytes, with_rest}
use Rattle.smap_pairs.specs.Seen.{seen_of}
use Rattle.smap_pairs.specs.StringPlaces.{AreForStrings}
use Rattle.smap_pairs.specs.Laws.Greatest.{greatest_passes, greatest_within}
use Rattle.smap_pairs.specs.declared.known.NamedBy.{NamedBy}
use Rattle.smap_pairs.specs.declared.known.NamedBy.TheVariants.{Any, List as ByList}
use Rattle.smap_pairs.specs.declared.seen.SeenByte.{SeenByte}
use Rattle.smap_pairs.proofs.EdgeStates.{edge_passed}
use Rattle.smap_pairs.proofs.JsonLaws.{past_apostrophe}
use Rattle.smap_pairs.proofs.SeenBytesLaws.{bytes_kept, bytes_seen, length_kept}
use Rattle.smap_pairs.proofs.PairPlaceLaws.{most_is}
use Rattle.smap_pairs.proofs.WordLaws.{positive}

-- ---- without a quotation mark

-- none of the bytes from `begin` to `end` is one
abbrev pub IsFree : (text : List ℕ) → (begin end : ℕ) → Type 0
IsFree text begin end = (at : ℕ) → begin ≤ at → at < end → get_or text at 0 ≢ 34

pub free_from : (text : List ℕ) (begin end : ℕ) → has_quotation_mark (slice_range text begin end) ≡ false → IsFree text begin end
free_from text begin end none at least most is =
    elim (cases_lt at (length text)) [
      | inl within ↦
          let slice = slice_range text begin end in
          let inside : at - begin < length slice = omega (arith, within, least, most, length-take (end - begin) (drop begin text), length-drop begin text) in
          let there : begin + (at - begin) ≡ at = omega (arith, least) in
          let here : get_or slice (at - begin) 0 ≡ 34 =
          get_or-take (end - begin) (drop begin text) (at - begin) 0 (omega (arith, least, most)) ∙ get_or-drop begin text (at - begin) 0
          ∙ ap (λ k. get_or text k 0) there ∙ is in
          let some : has_quotation_mark slice ≡ true = list_any_at (λ byte. byte == 34) slice (at - begin) 0 inside (eq-eqb _ 34 here) in cc
      | inr past ↦ let none : get_or text at 0 ≡ 0 = get_or_past text at 0 past in omega (arith, is, none)
    ]

pub free_slice : (text : List ℕ) (begin end : ℕ) → IsFree text begin end → has_quotation_mark (slice_range text begin end) ≡ false
free_slice text begin end free =
    let slice = slice_range text begin end in
    list_any_none (λ byte. byte == 34) slice (All-from_get_or (λ byte. (byte == 34) ≡ false) slice 0 (λ i inside.
    let few : i < end - begin = omega (arith, inside, length-take (end - begin) (drop begin text)) in
    let here : get_or slice i 0 ≡ get_or text (begin + i) 0 = get_or-take (end - begin) (drop begin text) i 0 few ∙ get_or-drop begin text i 0 in
    ap (λ b. b == 34) here ∙ ne_eqb (get_or text (begin + i) 0) 34 (free (begin + i) (omega arith) (omega (arith, few)))))

pub free_both : (text : List ℕ) (begin middle end : ℕ) → IsFree text begin middle → IsFree text middle end → IsFree text begin end
free_both text begin middle end first second at least most is =
    elim (cases_lt at middle) [
      | inl before ↦ first at least before is
      | inr behind ↦ second at behind most is
    ]

-- ---- where a name begins

-- behind a byte behind which a character begins
pub byte_passed : (byte : ℕ) → ((state : InString) → past state byte ≡ between) → (state : InString) (text : List ℕ) (at : ℕ) → at < length text
    → get_or text at 0 ≡ byte → past_all state (take (suc at) text) ≡ between
byte_passed byte passes state [] at within is = absurd (omega (arith, within))
byte_passed byte passes state (one ∷ text) zero within is = ap (past state) is ∙ passes state
byte_passed byte passes state (one ∷ text) (suc at) within is = byte_passed byte passes (past state one) text at (omega (arith, within)) is

apostrophe_passed : (state : InString) (at : ℕ) (seen : List SeenByte)
    → IfSome (slice_get seen at) (λ one. one.byte ≡ 39 → past_all state (take (suc at) (bytes_seen seen)) ≡ between)
apostrophe_passed state at [] = tt
apostrophe_passed state zero (one ∷ seen) = λ is. ap (past state) is ∙ past_apostrophe state
apostrophe_passed state (suc at) (one ∷ seen) = apostrophe_passed (past state one.byte) at seen

pub name_begins : (state : InString) (line : List ℕ) (at : ℕ) → 0 < at → may_begin_name (seen_of line) at ≡ true → past_all state (take at line) ≡ between
name_begins state line zero some may = absurd (omega arith)
name_begins state line (suc at) some may =
    go (slice_get (seen_of line) at) may (edge_passed state line at)
    (subst (λ text. IfSome (slice_get (seen_of line) at) (λ one. one.byte ≡ 39 → past_all state (take (suc at) text) ≡ between)) (bytes_kept line)
    (apostrophe_passed state at (seen_of line)))
  where
    go : (one : Option SeenByte) → is_before_name one ≡ true → IfSome one (λ one. one.is_edge ≡ true → past_all state (take (suc at) line) ≡ between)
        → IfSome one (λ one. one.byte ≡ 39 → past_all state (take (suc at) line) ≡ between) → past_all state (take (suc at) line) ≡ between
    go None may edge apostrophe = cc
    go (Some one) may edge apostrophe = elim (or_cases one.is_edge (one.byte == 39) may) [
      | inl is ↦ edge is
      | inr is ↦ apostrophe (eqb-true one.byte 39 is)
    ]

-- ---- what stands behind it

pub bytes_at : (line : List ℕ) (at : ℕ) (d : SeenByte) → at < length (seen_of line) → get_or line at 0 ≡ (get_or (seen_of line) at d).byte
bytes_at line at d within =
    ap (λ l. get_or l at 0) (sym (bytes_kept line)) ∙ get_or-map (λ (seen : SeenByte). seen.byte) (seen_of line) at d 0 within

no_byte : SeenByte
no_byte = record { size = 0; byte = 0; counts = 0; is_edge = false }

-- what may stand behind a name has none
pub fits_free : (line : List ℕ) (begin end : ℕ) → fits (drop begin (take end (seen_of line))) ≡ true → IsFree line begin end
fits_free line begin end fitting at least most is =
    elim (cases_lt at (length (seen_of line))) [
      | inl within ↦
          let rest = drop begin (take end (seen_of line)) in
          let parts = and_parts (list_all (λ (seen : SeenByte). not (is_barred seen)) rest && _) _ fitting in
          let plain = (and_parts (list_all (λ (seen : SeenByte). not (is_barred seen)) rest) _ parts.0).0 in
          let there : begin + (at - begin) ≡ at = omega (arith, least) in
          let inside : at - begin < length rest =
          omega (arith, within, least, most, length-drop begin (take end (seen_of line)), length-take end (seen_of line)) in
          let one : get_or rest (at - begin) no_byte ≡ get_or (seen_of line) at no_byte =
          get_or-drop begin (take end (seen_of line)) (at - begin) no_byte ∙ ap (λ k. get_or (take end (seen_of line)) k no_byte) there
          ∙ get_or-take end (seen_of line) at no_byte most in
          let byte : (get_or rest (at - begin) no_byte).byte ≡ 34 = ap (λ (seen : SeenByte). seen.byte) one ∙ sym (bytes_at line at no_byte within) ∙ is in
          let barred : is_barred (get_or rest (at - begin) no_byte) ≡ true = ap (λ b. is_barred_byte b || is_barred_byte (get_or rest (at - begin) no_byte).counts) byte in
          let off : list_all (λ (seen : SeenByte). not (is_barred seen)) rest ≡ false =
          list_all_at (λ (seen : SeenByte). not (is_barred seen)) rest (at - begin) no_byte inside (ap not barred) in cc
      | inr past ↦
          let none : get_or line at 0 ≡ 0 = get_or_past line at 0 (omega (arith, past, length_kept line)) in omega (arith, is, none)
    ]

-- ---- the URLs that end before a pair

module _ (known : UrlsKnown) (strings : AreForStrings known) (line : List ℕ) (piece end : ℕ) where
  abbrev seen : List SeenByte
  seen = seen_of line

  abbrev is_query : ℕ → Bool
  is_query = is_query_at (take end seen) piece

  abbrev in_folder : ℕ → Bool
  in_folder = is_in_folder (take end seen) piece

  -- so many bytes before the pair begin where a name may, and have no quotation mark
  abbrev pub IsNameBefore : (bytes : ℕ) → Type 0
  IsNameBefore bytes = (may_begin_name seen (end - bytes) ≡ true) × IsFree line (end - bytes) end

  name_is : (by : NamedBy) (query : ℕ) → 0 < named_bytes known line seen piece by query
      → let begin = query - named_bytes known line seen piece by query in (may_begin_name seen begin ≡ true) × IsFree line begin query
  name_is by query some =
      let bytes : ℕ = named_bytes known line seen piece by query in
      elim (greatest_passes (is_named_before known line seen piece by query) (query - piece)) [
        | inl none ↦ absurd (omega (arith, none, some))
        | inr on ↦
            let parts = and_parts (may_begin_name seen (query - bytes)) (known.is_named by (slice_range line (query - bytes) query)) on in
            (parts.0, free_from line (query - bytes) query (strings.names by (slice_range line (query - bytes) query) parts.1))
      ]

  query_free : (query : ℕ) → is_query query ≡ true → IsFree line query end
  query_free query is =
      let parts = and_parts _ (fits_at (take end seen) piece query) is in
      fits_free line query end (and_parts _ (fits (drop query (take end seen))) parts.1).1

  cut_is : (by : NamedBy) (query : ℕ) → query < end → 0 < cut_bytes known line seen piece is_query end by query
      → IsNameBefore (cut_bytes known line seen piece is_query end by query)
  cut_is by query order = go (is_query query) refl
    where
      named : ℕ
      named = named_bytes known line seen piece by query

      with_some : (none : Bool) → (named == 0) ≡ none → is_query query ≡ true → 0 < cond none 0 (named + (end - query)) → IsNameBefore (cond none 0 (named + (end - query)))
      with_some true is on some = absurd (omega (arith, some))
      with_some false is on some =
          let any : 0 < named = positive named is in
          let within : named ≤ query - piece = greatest_within (is_named_before known line seen piece by query) (query - piece) in
          let name = name_is by query any in
          let begin : end - (named + (end - query)) ≡ query - named = omega (arith, order, any, within) in
          rw begin (name.0, free_both line (query - named) query end name.1 (query_free query on))

      go : (on : Bool) → is_query query ≡ on → 0 < cond on (with_rest (end - query) named) 0 → IsNameBefore (cond on (with_rest (end - query) named) 0)
      go true on some = with_some (named == 0) refl on some
      go false off some = absurd (omega (arith, some))

  pub longest_is : (by : NamedBy) → 0 < longest_cut known line seen piece is_query end by → IsNameBefore (longest_cut known line seen piece is_query end by)
  longest_is by some =
      let one = most_is (cut_bytes known line seen piece is_query end by) end some in
      subst IsNameBefore one.2 (cut_is by one.0 one.1 (omega (arith, one.2, some)))

  folder_is : let bytes = greatest (is_in_folder_before known line seen in_folder end) (end - piece) in 0 < bytes → IsNameBefore bytes
  folder_is some =
      let bytes : ℕ = greatest (is_in_folder_before known line seen in_folder end) (end - piece) in
      let begin : ℕ = end - bytes in
      let prefix : ℕ = prefix_bytes known line end begin in
      elim (greatest_passes (is_in_folder_before known line seen in_folder end) (end - piece)) [
        | inl none ↦ absurd (omega (arith, none, some))
        | inr on ↦
            let parts = and_parts (may_begin_name seen begin) (not (prefix == 0) && in_folder (begin + prefix)) on in
            let behind = and_parts (not (prefix == 0)) (in_folder (begin + prefix)) parts.1 in
            let any : 0 < prefix = positive prefix (not_is (prefix == 0) behind.0) in
            let fitting = and_parts _ (fits_at (take end seen) piece (begin + prefix)) behind.1 in
            let rest = fits_free line (begin + prefix) end (and_parts _ (fits (drop (begin + prefix) (take end seen))) fitting.1).1 in
            elim (greatest_passes (λ n. known.is_prefix (slice_range line begin (begin + n))) (end - begin)) [
              | inl none ↦ absurd (omega (arith, none, any))
              | inr is ↦ (
                parts.0,
                free_both line begin (begin + prefix) end
                    (free_from line begin (begin + prefix) (strings.prefixes (slice_range line begin (begin + prefix)) is)) rest,
              )
            ]
      ]
    where
      not_is : (b : Bool) → not b ≡ true → b ≡ false
      not_is true is = cc
      not_is false is = refl

  pub own_is : 0 < own_bytes known line seen piece is_query in_folder end → IsNameBefore (own_bytes known line seen piece is_query in_folder end)
  unfolding own_bytes
  own_is some =
      let named : ℕ = named_bytes known line seen piece Any end in
      let cut : ℕ = longest_cut known line seen piece is_query end ByList in
      let folder : ℕ = greatest (is_in_folder_before known line seen in_folder end) (end - piece) in
      elim (cases_lt (max named cut) folder) [
        | inl less ↦
            let same : folder ≡ max (max named cut) folder = omega (arith, less) in subst IsNameBefore same (folder_is (omega (arith, less)))
        | inr more ↦ elim (cases_lt named cut) [
          | inl less ↦
              let same : cut ≡ max (max named cut) folder = omega (arith, less, more) in subst IsNameBefore same (longest_is ByList (omega (arith, less)))
          | inr other ↦
              let same : named ≡ max (max named cut) folder = omega (arith, more, other) in
              subst IsNameBefore same (name_is Any end (omega (arith, more, other, some)))
        ]
      ]
