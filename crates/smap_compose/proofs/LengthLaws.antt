-- How many bytes a canonical text has at most: as many as five numbers of seven digits and a `,` for each mapping, and a `;` for
-- each line.
use Rattle.std.proofs.Common.{◌≡◌, ℕ, zero, suc, ◌+◌, ◌-◌, ◌*◌, ◌≤◌, ◌/◌, ltb, eqb, false, List, [], ◌∷◌, ◌++◌, length, map, replicate, Option, Some, None, refl, sym, ap, subst, ◌∙◌, arith, length-append, le-ltb}
use Rattle.std.specs.Prelude.{ℤ}
use Rattle.std.specs.List.{concat, last_or, slice_get}
use Rattle.std.proofs.lemmas.Bool.{cond_both}
use Rattle.std.proofs.lemmas.List.{length-replicate}
use Rattle.smap_mappings.specs.Limits.{most_text_bytes}
use Rattle.smap_mappings.specs.Canonical.{letter_of, digits_of, shortest_spelling, name_fields, origin_fields, fields_after, separators, segment_bytes, canonical_after, canonical_text}
use Rattle.smap_mappings.specs.Encode.{is_text_too_long}
use Rattle.smap_mappings.specs.Laws.Lists.{last_or-push}
use Rattle.smap_mappings.specs.Laws.Order.{line_at_most}
use Rattle.smap_mappings.specs.Order.{IsInOrder}
use Rattle.smap_mappings.specs.declared.mapping.Mapping.{Mapping}
use Rattle.smap_mappings.specs.declared.mapping.Origin.{Origin}
use Rattle.smap_compose.specs.Private.Length.{line_of}

-- ---- a segment

few_digits : (most unsigned : ℕ) → length (digits_of most unsigned) ≤ most
few_digits zero unsigned = omega arith
few_digits (suc most) unsigned =
    let more = few_digits most (unsigned / 32) in
    cond_both (ltb unsigned 32) (letter_of unsigned ∷ []) _ (λ (digits : List ℕ). length digits ≤ suc most)
    (λ _. omega arith) (λ _. omega arith)

few_spelled : (n : ℤ) → length (shortest_spelling n) ≤ 7
unfolding shortest_spelling
few_spelled n = few_digits 7 _

fields_spelled : (fields : List ℤ) → length (concat (map shortest_spelling fields)) ≤ 7 * length fields
fields_spelled [] = omega arith
fields_spelled (n ∷ fields) =
    omega (arith, few_spelled n, fields_spelled fields, length-append (shortest_spelling n) (concat (map shortest_spelling fields)))

few_names : (before : List Mapping) (name : Option ℕ) → length (name_fields before name) ≤ 1
few_names before None = omega arith
few_names before (Some name) = omega arith

few_fields : (before : List Mapping) (origin : Option Origin) → length (origin_fields before origin) ≤ 4
few_fields before None = omega arith
few_fields before (Some origin) = omega (arith, few_names before origin.name)

segment_few : (before : List Mapping) (mapping : Mapping) → length (segment_bytes before mapping) ≤ 35
unfolding segment_bytes fields_after
segment_few before mapping = omega (arith, fields_spelled (fields_after before mapping), few_fields before mapping.origin)

-- ---- what stands before it

separators_few : (earlier : Option Mapping) (mapping : Mapping) → line_of earlier ≤ mapping.line
    → length (separators earlier mapping) + line_of earlier ≤ 1 + mapping.line
separators_few None mapping rises = omega (arith, length-replicate {A = ℕ} mapping.line 59)
separators_few (Some earlier) mapping rises =
    cond_both (eqb mapping.line earlier.line) (44 ∷ []) (replicate (mapping.line - earlier.line) 59)
    (λ (bytes : List ℕ). length bytes + earlier.line ≤ 1 + mapping.line)
    (λ _. omega arith) (λ _. omega (arith, length-replicate {A = ℕ} (mapping.line - earlier.line) 59))

-- ---- the whole text

-- the lines of these mappings, which stand after this one, do not fall
abbrev Rises : Option Mapping → List Mapping → Type 0
Rises earlier [] = Unit {0}
Rises earlier (mapping ∷ mappings) = (line_of earlier ≤ mapping.line) × Rises (Some mapping) mappings

rises_after : (mapping : Mapping) (mappings : List Mapping) → IsInOrder (mapping ∷ mappings) → Rises (Some mapping) mappings
rises_after mapping [] order = tt
rises_after mapping (next ∷ mappings) order = (line_at_most mapping next order.0, rises_after next mappings order.1)

rises : (list : List Mapping) → IsInOrder list → Rises None list
rises [] order = tt
rises (mapping ∷ mappings) order = (omega arith, rises_after mapping mappings order)

few_after : (before list : List Mapping) → Rises (last_or None before) list
    → length (canonical_after before list) + line_of (last_or None before) ≤ 36 * length list + line_of (last_or (last_or None before) list)
few_after before [] rise = omega arith
few_after before (mapping ∷ list) rise =
    let now = before ++ mapping ∷ [] in
    let gap = separators (last_or None before) mapping in
    let segment = segment_bytes before mapping in
    let text = canonical_after now list in
    let is_last : last_or None now ≡ Some mapping = last_or-push None before mapping in
    let later : Rises (last_or None now) list = subst (λ earlier. Rises earlier list) (sym is_last) rise.1 in
    let more = few_after now list later in
    let line_is : line_of (last_or None now) ≡ mapping.line = ap line_of is_last in
    let last_is : line_of (last_or (last_or None now) list) ≡ line_of (last_or (Some mapping) list) = ap (λ earlier. line_of (last_or earlier list)) is_last in
    omega (
      arith,
      more,
      line_is,
      last_is,
      separators_few (last_or None before) mapping rise.0,
      segment_few before mapping,
      length-append (gap ++ segment) text,
      length-append gap segment,
    )

pub few_bytes : (list : List Mapping) → IsInOrder list → length (canonical_text list) ≤ 36 * length list + line_of (last_or None list)
unfolding canonical_text
few_bytes list order = omega (arith, few_after [] list (rises list order))

pub short_text : (list : List Mapping) (count line : ℕ) → IsInOrder list → count ≡ length list → line ≡ line_of (last_or None list)
    → 36 * count + line ≤ most_text_bytes → is_text_too_long list ≡ false
short_text list count line order count_is line_is fits = le-ltb most_text_bytes (length (canonical_text list)) (omega (arith, few_bytes list order))

-- ---- the last mapping

pub last_is : (list : List Mapping) → last_or None list ≡ slice_get list (length list - 1)
last_is [] = refl
last_is (mapping ∷ []) = refl
last_is (first ∷ mapping ∷ list) =
    let at : length (mapping ∷ list) - 1 ≡ length list = omega arith in
    let before : length (first ∷ mapping ∷ list) - 1 ≡ suc (length list) = omega arith in
    last_is (mapping ∷ list) ∙ ap (slice_get (mapping ∷ list)) at ∙ sym (ap (slice_get (first ∷ mapping ∷ list)) before)
