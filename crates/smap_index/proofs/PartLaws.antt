-- A walk over the parts adds one part more at each step.
use Rattle.std.proofs.Common.{◌≡◌, ℕ, ◌+◌, ◌<◌, ◌≤◌, List, [], ◌∷◌, ◌++◌, Some, cond, length, take, map, refl, sym, ap, subst, eqb, ◌∙◌, get_or, arith}
use Rattle.std.specs.List.{AllByRecursion, AllZip, list_any, slice_get}
use Rattle.std.proofs.lemmas.List.{append-nil, append_assoc, take_more, length-map, length-take-le, flat_map_more}
use Rattle.std.proofs.lemmas.List.Sums.{sum_by_push}
use Rattle.std.proofs.lemmas.Option.{slice_get-get_or}
use Rattle.smap_mappings.specs.Counts.{segment_count, used_lines_of, new_lines}
use Rattle.smap_mappings.specs.Mappings.{Delta, delta_of, deltas_of}
use Rattle.smap_mappings.specs.Segments.{segments_of}
use Rattle.std.proofs.lemmas.Bool.{cond_both}
use Rattle.smap_index.specs.Parts.{placed, joined, bytes_in}
use Rattle.smap_index.specs.Marks.{Mark, mark_in, marked_segments, marks_from, marks, IsCheckpointIn, IsCheckpointOf, AreCheckpointsOf, used_lines_in}
use Rattle.smap_index.specs.declared.part.Part.{Part}
use Rattle.smap_index.specs.declared.checkpoint.Checkpoint.{Checkpoint}
use Rattle.smap_index.proofs.CountingLaws.{IsMarked}
use Rattle.smap_index.proofs.MarkLaws.{AllZip-append}

marks_from-push : (i n : ℕ) (parts : List Part) (part : Part) (interval : ℕ) → n ≡ i + length parts
    → marks_from i (parts ++ part ∷ []) interval ≡ marks_from i parts interval ++ map (mark_in n) (marked_segments interval [] (placed part))
marks_from-push i n [] part interval is = let e : i ≡ n = omega arith
    in append-nil (map (mark_in i) (marked_segments interval [] (placed part))) ∙ ap (λ i. map (mark_in i) (marked_segments interval [] (placed part))) e
marks_from-push i n (p ∷ parts) part interval is =
    let here = marked_segments interval [] (placed p) in
    ap (λ rest. map (mark_in i) here ++ rest) (marks_from-push (i + 1) n parts part interval (omega arith))
    ∙ sym (append_assoc (map (mark_in i) here) (marks_from (i + 1) parts interval) (map (mark_in n) (marked_segments interval [] (placed part))))

-- the table is its start and one checkpoint for each of these marks
abbrev pub IsFilled : List Part → List Mark → List Checkpoint → List Checkpoint → Type 0
IsFilled parts marks start checkpoints = (added : List Checkpoint) × (checkpoints ≡ start ++ added) × AllZip (IsCheckpointOf parts) marks added

All-push : (P : Part → Type 0) (parts : List Part) (part : Part) → AllByRecursion P parts → P part → AllByRecursion P (parts ++ part ∷ [])
All-push P [] part all here = (here, tt)
All-push P (p ∷ parts) part all here = (all.0, All-push P parts part all.1 here)

module _ (parts : List Part) (i : ℕ) (part : Part) (within : i < length parts) (is : part ≡ get_or parts i part) where
  taken : take (i + 1) parts ≡ take i parts ++ part ∷ []
  taken = take_more parts i part within ∙ ap (λ p. take i parts ++ p ∷ []) (sym is)

  pub joined_next : joined (take (i + 1) parts) ≡ joined (take i parts) ++ placed part
  joined_next = ap joined taken ∙ sym (flat_map_more placed [] (take i parts) part)

  pub used_lines_next : used_lines_in (take (i + 1) parts) ≡ used_lines_in (take i parts) + used_lines_of part.text
  used_lines_next = ap used_lines_in taken ∙ sum_by_push (λ (p : Part). used_lines_of p.text) (take i parts) part

  pub bytes_next : bytes_in (take (i + 1) parts) ≡ bytes_in (take i parts) + length part.text
  bytes_next = ap bytes_in taken ∙ sum_by_push (λ (p : Part). length p.text) (take i parts) part

  part_at : slice_get parts i ≡ Some part
  part_at = slice_get-get_or parts i part within ∙ ap Some (sym is)

  -- the checkpoints of marked segments of the part are those of its marks
  marks_of_part : (segments : List ℕ) (added : List Checkpoint) → AllZip (IsCheckpointIn part i) segments added
      → AllZip (IsCheckpointOf parts) (map (mark_in i) segments) added
  marks_of_part [] [] zip = tt
  marks_of_part [] (c ∷ added) zip = absurd zip
  marks_of_part (segment ∷ segments) [] zip = absurd zip
  marks_of_part (segment ∷ segments) (c ∷ added) zip = (record { part = part; part_is = part_at; inside = zip.0 }, marks_of_part segments added zip.1)

  pub marks_next : (interval : ℕ) (start old new : List Checkpoint) → IsFilled parts (marks (take i parts) interval) start old
      → IsMarked part i interval (placed part) old new → IsFilled parts (marks (take (i + 1) parts) interval) start new
  marks_next interval start old new (front, front_is, front_zip) (added, added_is, added_zip) =
      let segments = marked_segments interval [] (placed part) in
      let IsHere : List Mark → List Checkpoint → Type 0 = AllZip (IsCheckpointOf parts) in
      let longer : marks (take (i + 1) parts) interval ≡ marks (take i parts) interval ++ map (mark_in i) segments =
      ap (λ parts. marks parts interval) taken ∙ marks_from-push 0 i (take i parts) part interval (omega (arith, length-take-le i parts (omega arith))) in (
        front ++ added,
        added_is ∙ ap (λ list. list ++ added) front_is ∙ append_assoc start front added,
        subst (λ marks. IsHere marks (front ++ added)) (sym longer)
            (AllZip-append (IsCheckpointOf parts) (marks (take i parts) interval) (map (mark_in i) segments) front added front_zip
            (marks_of_part segments added added_zip)),
      )

  pub All_next : (P : Part → Type 0) → AllByRecursion P (take i parts) → P part → AllByRecursion P (take (i + 1) parts)
  All_next P all here = let Q : List Part → Type 0 = AllByRecursion P in subst Q (sym taken) (All-push P (take i parts) part all here)

-- ---- used lines

few_new_lines : (earlier deltas : List Delta) → new_lines earlier deltas ≤ length deltas
few_new_lines earlier [] = omega arith
few_new_lines earlier (delta ∷ deltas) =
    let rest = few_new_lines (earlier ++ delta ∷ []) deltas in
    let one : cond (list_any (λ e. eqb e.line delta.line) earlier) 0 1 ≤ 1 =
    cond_both (list_any (λ e. eqb e.line delta.line) earlier) 0 1 (λ n. n ≤ 1) (λ _. omega arith) (λ _. omega arith) in
    omega arith

-- a text has no more used lines than segments
pub few_used_lines : (text : List ℕ) → used_lines_of text ≤ segment_count text
unfolding used_lines_of deltas_of
few_used_lines text = omega (arith, few_new_lines [] (deltas_of text), length-map (segments_of text) delta_of)

-- a table with a checkpoint for each mark of the one part
one_filled : (parts : List Part) (interval : ℕ) (table : List Checkpoint) → IsFilled parts (marks parts interval) [] table
    → AreCheckpointsOf parts interval table
one_filled parts interval table (added, is, zip) = subst (λ list. AreCheckpointsOf parts interval list) (sym is) zip

pub marks_of_one : (part : Part) (interval : ℕ) (table : List Checkpoint)
    → AllZip (IsCheckpointIn part 0) (marked_segments interval [] (placed part)) table → AreCheckpointsOf (part ∷ []) interval table
marks_of_one part interval table zip = one_filled (part ∷ []) interval table
    (marks_next (part ∷ []) 0 part (omega arith) refl interval [] [] table ([], refl, tt) (table, refl, zip))
