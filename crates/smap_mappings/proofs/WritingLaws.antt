-- One mapping more in a canonical text: what it adds, and what is kept after it.
use Rattle.std.proofs.Common.{◌≡◌, ℕ, zero, suc, ◌+◌, ◌-◌, eqb, ◌<◌, min, List, [], ◌∷◌, ◌++◌, length, replicate, Option, Some, None, refl, sym, ap}
use Rattle.std.proofs.Common.{◌∙◌, arith, length-append}
use Rattle.std.specs.Prelude.{ℤ, pos, ◌-ℤ◌}
use Rattle.std.specs.List.{AllByRecursion, last_or}
use Rattle.std.proofs.lemmas.List.{append_assoc, append-nil}
use Rattle.std.specs.Str.{IsAscii}
use Rattle.std.proofs.lemmas.Bool.{cond_both}
use Rattle.std.proofs.lemmas.Str.{IsAscii-append}
use Rattle.std.proofs.lemmas.Str.Ascii.{IsAscii-nil, IsAscii-from_all}
use Rattle.std.proofs.lemmas.List.Elements.{All-from_recursion}
use Rattle.smap_mappings.proofs.ShortestLaws.{shortest_is_ascii}
use Rattle.smap_mappings.proofs.BeforeLaws.{unmapped, mapped, by_fields, origin_given, origin_kept, name_given, name_kept}
use Rattle.smap_mappings.specs.Limits.{most_text_bytes}
use Rattle.smap_mappings.specs.Canonical.{column_before, origin_before, name_before, name_fields, origin_fields, fields_after, separators}
use Rattle.smap_mappings.specs.Canonical.{shortest_spelling, segment_bytes, canonical_after, canonical_text}
use Rattle.smap_mappings.specs.Writing.{last_values_of, AreInRange, AreLastOf, MeasuredText, WrittenText, IsLengthOf, IsWritten}
use Rattle.smap_mappings.specs.Private.OneMore.{name_fields_from, origin_fields_from, fields_from, spelled, bytes_from, last_origin_after}
use Rattle.smap_mappings.specs.Private.OneMore.{last_name_after, last_values_after}
use Rattle.smap_mappings.specs.Private.Reading
use Rattle.smap_mappings.specs.Private.Reading.{fields_in}
use Rattle.smap_mappings.specs.declared.segment.Segment.{Segment}
use Rattle.smap_mappings.specs.declared.segment.OriginFields.{OriginFields}
use Rattle.smap_mappings.specs.declared.mapping.Mapping.{Mapping}
use Rattle.smap_mappings.specs.declared.mapping.Origin.{Origin}
use Rattle.smap_mappings.specs.Laws.Lists.{last_or-push}

-- ---- what is kept

origin_push : (before : List Mapping) (m : Mapping) → origin_before (before ++ m ∷ []) ≡ last_origin_after (origin_before before) m.origin
origin_push before = by_fields (λ m. origin_before (before ++ m ∷ []) ≡ last_origin_after (origin_before before) m.origin)
    (λ line column. origin_kept before (unmapped line column) refl)
    (λ line column source original_line original_column. origin_given before (mapped line column source original_line original_column None) _ refl)
    (λ line column source original_line original_column name. origin_given before (mapped line column source original_line original_column (Some name)) _ refl)

name_push : (before : List Mapping) (m : Mapping) → name_before (before ++ m ∷ []) ≡ last_name_after (name_before before) m.origin
name_push before = by_fields (λ m. name_before (before ++ m ∷ []) ≡ last_name_after (name_before before) m.origin)
    (λ line column. name_kept before (unmapped line column) refl)
    (λ line column source original_line original_column. name_kept before (mapped line column source original_line original_column None) refl)
    (λ line column source original_line original_column name. name_given before (mapped line column source original_line original_column (Some name)) name refl)

pub last_values-push : (before : List Mapping) (m : Mapping) → last_values_of (before ++ m ∷ []) ≡ last_values_after (last_values_of before) m
last_values-push before m = λ i. record {
  mapping = last_or-push None before m i;
  origin = origin_push before m i;
  name = name_push before m i;
}

-- ---- what is added

name_fields_same : (before : List Mapping) (name : Option ℕ) → name_fields before name ≡ name_fields_from (last_values_of before) name
name_fields_same before None = refl
name_fields_same before (Some name) = refl

origin_fields_same : (before : List Mapping) (origin : Option Origin) → origin_fields before origin ≡ origin_fields_from (last_values_of before) origin
origin_fields_same before None = refl
origin_fields_same before (Some origin) =
    let last = origin_before before in
    ap (λ fields. (pos origin.source -ℤ pos last.source) ∷ (pos origin.line -ℤ pos last.line) ∷ (pos origin.column -ℤ pos last.column)
    ∷ fields) (name_fields_same before origin.name)

segment_same : (before : List Mapping) (m : Mapping) → segment_bytes before m ≡ spelled (fields_from (last_values_of before) m)
unfolding segment_bytes fields_after
segment_same before m = ap (λ fields. spelled ((pos m.column -ℤ pos (column_before (last_or None before) m.line)) ∷ fields))
    (origin_fields_same before m.origin)

canonical-push : (before list : List Mapping) (m : Mapping)
    → canonical_after before (list ++ m ∷ []) ≡ canonical_after before list ++ bytes_from (last_values_of (before ++ list)) m
canonical-push before [] m =
    append-nil (separators (last_or None before) m ++ segment_bytes before m)
    ∙ ap (λ cell. separators (last_or None before) m ++ cell) (segment_same before m)
    ∙ ap (λ b. bytes_from (last_values_of b) m) (sym (append-nil before))
canonical-push before (x ∷ list) m =
    let front = separators (last_or None before) x ++ segment_bytes before x in
    let rest = canonical_after (before ++ x ∷ []) list in
    ap (λ bytes. front ++ bytes) (canonical-push (before ++ x ∷ []) list m)
    ∙ ap (λ b. front ++ (rest ++ bytes_from (last_values_of b) m)) (append_assoc before (x ∷ []) list)
    ∙ sym (append_assoc front rest (bytes_from (last_values_of (before ++ x ∷ list)) m))

pub canonical_more : (list : List Mapping) (m : Mapping) → canonical_text (list ++ m ∷ []) ≡ canonical_text list ++ bytes_from (last_values_of list) m
unfolding canonical_text
canonical_more list m = canonical-push [] list m

-- ---- from nothing, and mapping after mapping

pub length_more : (list : List Mapping) (found after : MeasuredText) (m : Mapping) (gap cell : ℕ) → IsLengthOf list found
    → gap ≡ length (separators found.last.mapping m) → cell ≡ length (spelled (fields_from found.last m))
    → after.bytes ≡ min (found.bytes + (gap + cell)) (most_text_bytes + 1) → after.last ≡ last_values_after found.last m
    → AreInRange after.last → IsLengthOf (list ++ m ∷ []) after
length_more list found after m gap cell is gap_is cell_is bytes_is last_is in_range =
    let added = ap length (canonical_more list m) ∙ length-append (canonical_text list) (bytes_from (last_values_of list) m) in
    let more = ap (λ last. length (bytes_from last m)) (sym is.last.are)
    ∙ length-append (separators found.last.mapping m) (spelled (fields_from found.last m)) in
    record {
      last = record { are = last_is ∙ ap (λ last. last_values_after last m) is.last.are ∙ sym (last_values-push list m); in_range = in_range };
      bytes = omega (arith, added, more, is.bytes);
    }

pub text_more : (list : List Mapping) (writer after : WrittenText) (m : Mapping) (gap : List ℕ) → IsWritten list writer
    → gap ≡ writer.bytes ++ separators writer.last.mapping m → after.bytes ≡ gap ++ spelled (fields_from writer.last m)
    → after.last ≡ last_values_after writer.last m → AreInRange after.last → IsWritten (list ++ m ∷ []) after
text_more list writer after m gap is gap_is bytes_is last_is in_range = record {
  last = record { are = last_is ∙ ap (λ last. last_values_after last m) is.last.are ∙ sym (last_values-push list m); in_range = in_range };
  bytes =
      bytes_is ∙ ap (λ front. front ++ spelled (fields_from writer.last m)) gap_is
      ∙ append_assoc writer.bytes (separators writer.last.mapping m) (spelled (fields_from writer.last m))
      ∙ (λ i. is.bytes i ++ bytes_from (is.last.are i) m) ∙ sym (canonical_more list m);
}

pub length_start : (found : MeasuredText) → AreLastOf [] found.last → found.bytes ≡ 0 → IsLengthOf [] found
unfolding canonical_text
length_start found last bytes = record { last = last; bytes = omega arith }

pub text_start : (writer : WrittenText) → AreLastOf [] writer.last → writer.bytes ≡ [] → IsWritten [] writer
unfolding canonical_text
text_start writer last bytes = record { last = last; bytes = bytes }

-- ---- the fields of a segment, one by one

pub fields_are : (segment : Segment) (origin : OriginFields) (name : Option ℤ) → segment.origin ≡ Some origin → origin.name ≡ name
    → fields_in segment ≡ segment.column ∷ origin.source ∷ origin.line ∷ origin.column ∷ Reading.name_fields name
fields_are segment origin name is named_is =
    ap (λ o. segment.column ∷ Reading.origin_fields o) is
    ∙ ap (λ n. segment.column ∷ origin.source ∷ origin.line ∷ origin.column ∷ Reading.name_fields n) named_is

spelled-cons : (n : ℤ) (fields : List ℤ) → length (spelled (n ∷ fields)) ≡ length (shortest_spelling n) + length (spelled fields)
spelled-cons n fields = length-append (shortest_spelling n) (spelled fields)

module _ (a b c d : ℤ) where
  pub four_lengths : length (spelled (a ∷ b ∷ c ∷ d ∷ []))
      ≡ length (shortest_spelling a) + length (shortest_spelling b) + length (shortest_spelling c) + length (shortest_spelling d)
  four_lengths = omega (arith, spelled-cons a (b ∷ c ∷ d ∷ []), spelled-cons b (c ∷ d ∷ []), spelled-cons c (d ∷ []), spelled-cons d [])

  pub five_lengths : (e : ℤ) → length (spelled (a ∷ b ∷ c ∷ d ∷ e ∷ []))
      ≡ length (shortest_spelling a) + length (shortest_spelling b) + length (shortest_spelling c) + length (shortest_spelling d) + length (shortest_spelling e)
  five_lengths e = omega (
    arith,
    spelled-cons a (b ∷ c ∷ d ∷ e ∷ []),
    spelled-cons b (c ∷ d ∷ e ∷ []),
    spelled-cons c (d ∷ e ∷ []),
    spelled-cons d (e ∷ []),
    spelled-cons e [],
  )

  pub four_written : (out : List ℕ) → out ++ shortest_spelling a ++ shortest_spelling b ++ shortest_spelling c ++ shortest_spelling d
      ≡ out ++ spelled (a ∷ b ∷ c ∷ d ∷ [])
  four_written out = simp (append_assoc, append-nil)

  pub five_written : (e : ℤ) (out : List ℕ)
      → out ++ shortest_spelling a ++ shortest_spelling b ++ shortest_spelling c ++ shortest_spelling d ++ shortest_spelling e
      ≡ out ++ spelled (a ∷ b ∷ c ∷ d ∷ e ∷ [])
  five_written e out = simp (append_assoc, append-nil)

-- ---- a canonical text is ASCII

spelled_is_ascii : (fields : List ℤ) → IsAscii (spelled fields)
spelled_is_ascii [] = IsAscii-nil
spelled_is_ascii (n ∷ fields) =
    IsAscii-append (shortest_spelling n) (spelled fields)
    (IsAscii-from_all (shortest_spelling n) (All-from_recursion _ (shortest_spelling n) (shortest_is_ascii n))) (spelled_is_ascii fields)

semicolons_are_ascii : (n : ℕ) → AllByRecursion (λ b. b < 128) (replicate n 59)
semicolons_are_ascii zero = tt
semicolons_are_ascii (suc n) = (omega arith, semicolons_are_ascii n)

lines_are_ascii : (n : ℕ) → IsAscii (replicate n 59)
lines_are_ascii n = IsAscii-from_all (replicate n 59) (All-from_recursion _ (replicate n 59) (semicolons_are_ascii n))

separators_are_ascii : (earlier : Option Mapping) (m : Mapping) → IsAscii (separators earlier m)
separators_are_ascii None m = lines_are_ascii m.line
separators_are_ascii (Some earlier) m =
    cond_both (eqb m.line earlier.line) (44 ∷ []) (replicate (m.line - earlier.line) 59) IsAscii
    (λ _. IsAscii-from_all (44 ∷ []) (All-from_recursion (λ b. b < 128) (44 ∷ []) (omega arith, tt)))
    (λ _. lines_are_ascii (m.line - earlier.line))

after_is_ascii : (before list : List Mapping) → IsAscii (canonical_after before list)
unfolding segment_bytes
after_is_ascii before [] = IsAscii-nil
after_is_ascii before (m ∷ list) =
    IsAscii-append (separators (last_or None before) m ++ segment_bytes before m) (canonical_after (before ++ m ∷ []) list)
    (IsAscii-append (separators (last_or None before) m) (segment_bytes before m) (separators_are_ascii (last_or None before) m)
    (spelled_is_ascii (fields_after before m)))
    (after_is_ascii (before ++ m ∷ []) list)

pub canonical_is_ascii : (list : List Mapping) → IsAscii (canonical_text list)
unfolding canonical_text
canonical_is_ascii list = after_is_ascii [] list
