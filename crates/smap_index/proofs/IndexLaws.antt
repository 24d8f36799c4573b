-- What the table of every index meets.
use Rattle.std.proofs.Common.{◌≡◌, ℕ, ◌+◌, ◌-◌, ◌/◌, ◌^◌, ◌<◌, ◌≤◌, List, length, take, drop, Option, Some, None, false, leb, refl, sym, ap}
use Rattle.std.proofs.Common.{subst, ◌∙◌, arith, get_or}
use Rattle.std.specs.Prelude.{option_map}
use Rattle.std.specs.List.{list_any, last_or, slice_get}
use Rattle.std.specs.Option.{option_or}
use Rattle.std.proofs.lemmas.Bool.{and_parts, cond-true, cond-false, leb-true, le-leb, false_from_ne_true}
use Rattle.std.proofs.lemmas.Option.{slice_get_within, get_or_from_slice_get, slice_get-map}
use Rattle.std.proofs.lemmas.Slice.Zip.{AllZip-long}
use Rattle.smap_mappings.specs.Order.{IsInOrder}
use Rattle.smap_mappings.specs.Range.{is_mapping_past_limit}
use Rattle.smap_mappings.specs.State.{IsAfter, IsBetween}
use Rattle.smap_mappings.specs.declared.mapping.Mapping.{Mapping}
use Rattle.smap_index.specs.Checkpoint.{mapping_of, state_of}
use Rattle.smap_index.specs.Parts.{placed, joined}
use Rattle.smap_index.specs.Faults.{most_interval}
use Rattle.smap_index.specs.Marks.{marks, IsCheckpointOf, used_lines_in, HasFewMarksOnEachLine}
use Rattle.smap_index.specs.Private.Search.{mappings_at, bound_on, front_up_to, last_from, last_up_to, first_past, on_line, from_line}
use Rattle.smap_index.specs.Private.Search.{last_checkpoint, next_checkpoint}
use Rattle.smap_index.specs.Index.{IndexContents, IsIndex}
use Rattle.smap_index.specs.declared.bound.Bound.{Bound}
use Rattle.smap_index.specs.declared.part.Part.{Part}
use Rattle.smap_index.specs.declared.checkpoint.Checkpoint.{Checkpoint}
use Rattle.smap_index.proofs.RefusalLaws.{faultless, all_in_range}
use Rattle.smap_index.proofs.Tiles.{IsTiled}
use Rattle.smap_index.proofs.TileLaws.{tiled, checkpoints_in_order}
use Rattle.smap_index.proofs.FewLaws.{few_marks}
use Rattle.smap_index.proofs.FewOnLineLaws.{few_on_each_line}
use Rattle.smap_index.proofs.ResumeLaws.{IsResumed, walked, resumed, none_resumed, some_last}

module _ (index : IndexContents) (is : IsIndex index) where
  -- its interval is one at which checkpoints may stand
  pub interval_within : (1 ≤ index.k) × (index.k ≤ most_interval)
  interval_within =
      let parts = and_parts _ _ (faultless index.parts index.k is.sound).in_range in
      (leb-true 1 index.k parts.0, leb-true index.k most_interval parts.1)

  -- the checkpoints lie on the joined list as tiles
  pub checkpoints_tiled : IsTiled index.parts index.k (joined index.parts) index.checkpoints
  checkpoints_tiled = tiled index.parts index.k interval_within.0 is.holds.ordered index.checkpoints is.holds.marked

  pub index_in_order : IsInOrder (mappings_at index.checkpoints)
  index_in_order = checkpoints_in_order index.parts index.k (joined index.parts) index.checkpoints is.holds.ordered checkpoints_tiled

  -- there are as many checkpoints as marks
  pub as_many : (seen : IndexContents) → index ≡ seen → length index.checkpoints ≡ length (marks seen.parts seen.k)
  as_many seen same = AllZip-long (IsCheckpointOf index.parts) (marks index.parts index.k) index.checkpoints is.holds.marked
      ∙ ap (λ (i : IndexContents). length (marks i.parts i.k)) same

  -- they are few
  pub bounded : (seen : IndexContents) → index ≡ seen → (count : ℕ) → count ≡ length index.checkpoints
      → count ≤ length (joined seen.parts) / seen.k + used_lines_in seen.parts
  bounded seen same count is_length =
      let few = few_marks index.parts index.k interval_within.0 is.holds.ordered in
      let here : count ≤ length (joined index.parts) / index.k + used_lines_in index.parts = omega (arith, few, is_length ∙ as_many index refl) in
      subst (λ (i : IndexContents). count ≤ length (joined i.parts) / i.k + used_lines_in i.parts) same here

  -- and on a line of a part too
  pub bounded_on_lines : (seen : IndexContents) → index ≡ seen → HasFewMarksOnEachLine seen.parts seen.k
  bounded_on_lines seen same =
      subst (λ (i : IndexContents). HasFewMarksOnEachLine i.parts i.k) same (few_on_each_line index.parts index.k interval_within.0)

  -- so what is compared is bounded by the number of marks
  pub compared : (seen : IndexContents) → index ≡ seen → (next count : ℕ) → ((b : ℕ) → length index.checkpoints < 2 ^ b → next ≤ count + b)
      → (b : ℕ) → length (marks seen.parts seen.k) < 2 ^ b → next ≤ count + b
  compared seen same next count few b below = few b (subst (λ n. n < 2 ^ b) (sym (as_many seen same)) below)

  pub mappings_in_order : (seen : IndexContents) → index ≡ seen → IsInOrder (joined seen.parts)
  mappings_in_order seen same = subst (λ (i : IndexContents). IsInOrder (joined i.parts)) same is.holds.ordered

  -- ---- the checkpoints next to a bound

  module _ (bound : Bound) where
    -- where no checkpoint stands up to it, no mapping does
    pub none_before : (seen : IndexContents) → index ≡ seen → (from : ℕ) → last_checkpoint bound index.checkpoints ≡ None
        → None ≡ from_line from (last_up_to bound (joined seen.parts))
    none_before seen same from none =
        ap (from_line from) (sym (none_resumed bound index.parts index.k (joined index.parts) index.checkpoints checkpoints_tiled none).0)
        ∙ ap (λ (i : IndexContents). from_line from (last_up_to bound (joined i.parts))) same

    -- and the first past it is the next checkpoint's mapping
    pub first_of_checkpoints : (seen : IndexContents) → index ≡ seen → last_checkpoint bound index.checkpoints ≡ None
        → option_map mapping_of (next_checkpoint bound index.checkpoints) ≡ first_past bound (joined seen.parts)
    first_of_checkpoints seen same none =
        sym (slice_get-map mapping_of index.checkpoints (front_up_to bound (mappings_at index.checkpoints)))
        ∙ sym (none_resumed bound index.parts index.k (joined index.parts) index.checkpoints checkpoints_tiled none).1
        ∙ ap (λ (i : IndexContents). first_past bound (joined i.parts)) same

    module _ (checkpoint : Checkpoint) (last : Some checkpoint ≡ last_checkpoint bound index.checkpoints) where
      pub found : IsResumed bound index.parts index.k (joined index.parts) index.checkpoints checkpoint
      found = resumed bound index.parts index.k (joined index.parts) index.checkpoints checkpoint is.holds.ordered is.holds.in_range
          checkpoints_tiled (sym last)

      pub part_within : checkpoint.part < length index.parts
      part_within = slice_get_within index.parts checkpoint.part found.part found.part_is

      -- it is so too where the last one that does stands on a line before
      pub first_elsewhere : (seen : IndexContents) → index ≡ seen → (mapping_of checkpoint).line < bound.line
          → option_map mapping_of (next_checkpoint bound index.checkpoints) ≡ first_past bound (joined seen.parts)
      first_elsewhere seen same above =
          sym (slice_get-map mapping_of index.checkpoints (front_up_to bound (mappings_at index.checkpoints)))
          ∙ sym (found.first_elsewhere above)
          ∙ ap (λ (i : IndexContents). first_past bound (joined i.parts)) same

      -- the last mapping up to the bound is on the line of that checkpoint
      before_is : (seen : IndexContents) → index ≡ seen → (from : ℕ) (m : Mapping)
          → last_from bound (Some (mapping_of checkpoint)) (walked bound index.parts index.k found.part found.segment) ≡ Some m
          → from_line from (Some m) ≡ from_line from (last_up_to bound (joined seen.parts))
      before_is seen same from m last = ap (from_line from) (sym (found.last_is None ∙ last))
          ∙ ap (λ (i : IndexContents). from_line from (last_up_to bound (joined i.parts))) same

      pub none_from : (seen : IndexContents) → index ≡ seen → (from : ℕ) → (mapping_of checkpoint).line < from
          → None ≡ from_line from (last_up_to bound (joined seen.parts))
      none_from seen same from above =
          let after = walked bound index.parts index.k found.part found.segment in
          let m = some_last (mapping_of checkpoint) (take (front_up_to bound after) after) in
          let line = found.last_line m.0 m.1 in
          sym (cond-false (leb from (m.0).line) (Some m.0) None (false_from_ne_true _ (λ least. let most = leb-true from (m.0).line least in omega arith)))
          ∙ before_is seen same from m.0 m.1

      module _ (part : Part) (read : part ≡ get_or index.parts checkpoint.part part) where
        -- the part that is read is the checkpoint's
        pub same_part : found.part ≡ part
        same_part = sym (get_or_from_slice_get index.parts checkpoint.part found.part part found.part_is) ∙ sym read

        pub state_between : IsBetween part.text (state_of part checkpoint)
        state_between = subst (λ (part : Part). IsBetween part.text (state_of part checkpoint)) same_part (found.segment + 1, found.state_is)

        pub state_after : IsAfter part.text (found.segment + 1) (state_of part checkpoint)
        state_after = subst (λ (part : Part). IsAfter part.text (found.segment + 1) (state_of part checkpoint)) same_part found.state_is

        -- the state is on the line of the bound up to which is decoded
        pub state_on_line : (end : Bound) → end ≡ bound_on (mapping_of checkpoint).line bound → part.line + (state_of part checkpoint).line ≡ end.line
        state_on_line end is_end = ap (λ (part : Part). part.line + (state_of part checkpoint).line) (sym same_part) ∙ found.line_is
            ∙ sym (ap (λ (end : Bound). end.line) is_end ∙ found.end_line)

        -- no mapping of its part is past the limit
        pub part_in_range : list_any is_mapping_past_limit (placed part) ≡ false
        part_in_range = all_in_range index.parts checkpoint.part part (faultless index.parts index.k is.sound).range part_within read

        -- what the part holds after the checkpoint has the same front up to both bounds
        front_up_to_end : (end : Bound) → end ≡ bound_on (mapping_of checkpoint).line bound
            → front_up_to end (take (index.k - 1) (drop (found.segment + 1) (placed part)))
            ≡ front_up_to bound (take (index.k - 1) (drop (found.segment + 1) (placed part)))
        front_up_to_end end is_end =
            let after : Part → List Mapping = λ part. take (index.k - 1) (drop (found.segment + 1) (placed part)) in
            ap (λ (end : Bound). front_up_to end (after part)) is_end
            ∙ subst (λ (part : Part). front_up_to (bound_on (mapping_of checkpoint).line bound) (after part) ≡ front_up_to bound (after part))
            same_part found.front_is

        -- the last up to the bound is decoded after it
        pub before_after : (seen : IndexContents) → index ≡ seen → (from : ℕ) → from ≤ (mapping_of checkpoint).line
            → (end : Bound) → end ≡ bound_on (mapping_of checkpoint).line bound → (m : Mapping)
            → ((j : ℕ) → IsAfter part.text j (state_of part checkpoint)
            → Some m ≡ last_from end (Some (mapping_of checkpoint)) (take (index.k - 1) (drop j (placed part))))
            → Some m ≡ from_line from (last_up_to bound (joined seen.parts))
        before_after seen same from least end is_end m is_last =
            let after = take (index.k - 1) (drop (found.segment + 1) (placed part)) in
            let here = ap (λ (part : Part). last_from bound (Some (mapping_of checkpoint)) (take (index.k - 1) (drop (found.segment + 1) (placed part)))) same_part
            ∙ ap (λ n. last_or (Some (mapping_of checkpoint)) (take n after)) (sym (front_up_to_end end is_end))
            ∙ sym (is_last (found.segment + 1) state_after) in
            let line = found.last_line m here in
            sym (cond-true (leb from m.line) (Some m) None (le-leb from m.line (omega arith))) ∙ before_is seen same from m here

        -- the first past the bound is decoded after it, or is the next checkpoint's mapping
        pub first_after : (seen : IndexContents) → index ≡ seen → (end : Bound) → end ≡ bound_on (mapping_of checkpoint).line bound
            → (decoded : Option Mapping)
            → ((j : ℕ) → IsAfter part.text j (state_of part checkpoint)
            → decoded ≡ on_line end.line (first_past end (take (index.k - 1) (drop j (placed part)))))
            → option_or decoded (option_map mapping_of (next_checkpoint bound index.checkpoints)) ≡ first_past bound (joined seen.parts)
        first_after seen same end is_end decoded is_first =
            let checkpoints = mappings_at index.checkpoints in
            let after = take (index.k - 1) (drop (found.segment + 1) (placed part)) in
            let line : end.line ≡ (mapping_of checkpoint).line = ap (λ (end : Bound). end.line) is_end ∙ found.end_line in
            let is_here = is_first (found.segment + 1) state_after
            ∙ ap (λ line. on_line line (first_past end after)) line
            ∙ ap (λ n. on_line (mapping_of checkpoint).line (slice_get after n)) (front_up_to_end end is_end) in
            let moved = ap (λ (part : Part). on_line (mapping_of checkpoint).line
            (first_past bound (take (index.k - 1) (drop (found.segment + 1) (placed part))))) (sym same_part) in
            ap (option_or decoded) (sym (slice_get-map mapping_of index.checkpoints (front_up_to bound checkpoints)))
            ∙ ap (λ first. option_or first (first_past bound checkpoints)) (is_here ∙ moved)
            ∙ sym found.first_is ∙ ap (λ (i : IndexContents). first_past bound (joined i.parts)) same
