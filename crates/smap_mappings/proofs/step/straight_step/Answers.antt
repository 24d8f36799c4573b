use Rattle.std.proofs.Common.{◌<◌, length, arith, ap, refl, ◌∙◌}
use Rattle.smap_mappings.specs.Limits.{most_indices}
use Rattle.smap_mappings.specs.State.{values_at}
use Rattle.smap_mappings.specs.Private.Reading.{delta_in}
use Rattle.smap_mappings.specs.Private.Advance.{values_after, sums_fault, IsAdvanced}
use Rattle.smap_mappings.proofs.CheckLaws.{no_fault_from}
use Rattle.smap_mappings.proofs.StepLaws.{steps_to, clean_values}
use Rattle.smap_mappings.proofs.StraightLaws.{read_inside, mapping_same, values_from_sums, at_segment_byte}
use Rattle.smap_mappings.proofs.ValueFaultLaws.{sums_in_range}
use Rattle.smap_mappings.proofs.step.straight_step.Goals as goal

pub returns : goal.returns
returns c =
    let text = c.args.bytes.now in
    let cursor = c.args.cursor.now in
    let straight = c.in_ok-straight.straight in
    let read = c.in_ok-straight.ensures.some in
    let within : cursor.place < length text = omega arith in
    let inside = read_inside text cursor straight read within in
    let none = no_fault_from text most_indices most_indices c.requires.state.0 c.requires.packed.accepted in
    let clean = clean_values text c.requires.state.0 cursor most_indices most_indices none c.requires.state.1 within inside read.segment
    straight.after.place read.reads in
    let sums = values_after (values_at cursor) (delta_in cursor.line read.segment) in
    let values = values_from_sums text cursor straight read (sums_in_range most_indices most_indices read.segment sums clean) in
    let advances : IsAdvanced cursor read.segment straight.after.place most_indices most_indices straight.after =
    record { place = refl; line = read.line; values = values; allowed = ap (sums_fault most_indices most_indices read.segment) values ∙ clean } in
    record {
      ahead = at_segment_byte text cursor straight read within;
      inside = read.reads.inside;
      line = read.line;
      next = λ j after.
          let steps = steps_to text j cursor read.segment straight.after.place after within inside read.reads most_indices most_indices
          straight.after advances in
          rw (mapping_same text cursor straight read) steps.next;
    }
