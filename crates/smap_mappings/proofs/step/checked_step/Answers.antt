use Rattle.std.proofs.Common.{◌≡◌, None, length, ap, arith}
use Rattle.std.proofs.lemmas.Bool.{both_ways}
use Rattle.smap_mappings.specs.Limits.{most_indices}
use Rattle.smap_mappings.specs.Private.Step.{faulty_from}
use Rattle.smap_mappings.proofs.CheckLaws.{no_fault_from}
use Rattle.smap_mappings.proofs.SegmentLaws.{segment_begins}
use Rattle.smap_mappings.proofs.StepLaws.{steps_to, can_be_read, clean_values}
use Rattle.smap_mappings.proofs.StraightLaws.{origin_same}
use Rattle.smap_mappings.proofs.step.checked_step.Goals as goal
use Rattle.smap_mappings.proofs.step.checked_step.Goals.{Start}

-- no segment of a checked text is faulty
none : (c : Start) → faulty_from c.args.bytes.now most_indices most_indices c.requires.state.0 ≡ None
none c = no_fault_from c.args.bytes.now most_indices most_indices c.requires.state.0 c.requires.packed.accepted

pub unreachable-requires : goal.unreachable-requires
unreachable-requires c =
    both_ways _ c.in_default.ensures.none
    (can_be_read c.args.bytes.now c.requires.state.0 c.args.cursor.now most_indices most_indices
    (none (goal.at.unreachable-requires c).Start) c.requires.state.1 c.requires.within c.requires.inside)

pub advance_checked-requires : goal.advance_checked-requires
advance_checked-requires c =
    clean_values c.args.bytes.now c.requires.state.0 c.args.cursor.now most_indices most_indices
    (none (goal.at.advance_checked-requires c).Start) c.requires.state.1 c.requires.within c.requires.inside
    c.in-Some-read_segment.segment c.in-Some-read_segment.end c.in-Some-read_segment.ensures.some

pub returns-2 : goal.returns-2
returns-2 c =
    let text = c.args.bytes.now in
    let cursor = c.args.cursor.now in
    let segment = c.in-Some-read_segment.segment in
    let advances = c.advance_checked.ensures in
    let at = segment_begins text cursor.line cursor.place c.requires.within c.requires.inside in
    record {
      ahead = omega (arith, c.in-Some-read_segment.ensures.some.ends, advances.place, ap length at);
      inside = omega (arith, c.in-Some-read_segment.ensures.some.inside, advances.place);
      line = advances.line;
      next = λ j after.
          let steps = steps_to text j cursor segment c.in-Some-read_segment.end after c.requires.within c.requires.inside
          c.in-Some-read_segment.ensures.some most_indices most_indices c.advance_checked.result advances in
          rw (c.kind_of.ensures, origin_same segment.origin c.advance_checked.result) steps.next;
    }
