use Rattle.std.proofs.Common.{sym, ◌∙◌, ap}
use Rattle.std.proofs.lemmas.Bool.{both_ways}
use Rattle.smap_mappings.specs.Faults.{spelling_fault}
use Rattle.smap_mappings.specs.Private.Reading.{segment_at}
use Rattle.smap_mappings.proofs.SegmentLaws.{segment_is_slice}
use Rattle.smap_mappings.proofs.SpellingFaultLaws.{spelled_known}
use Rattle.smap_mappings.proofs.step.unread_fault.Goals as goal

pub unreachable-requires : goal.unreachable-requires
unreachable-requires c =
    let same = ap spelling_fault (segment_is_slice c.args.bytes.now c.args.place c.segment_end-end.result c.segment_end-end.ensures.end) in
    both_ways _ c.requires.unread (spelled_known (segment_at c.args.bytes.now c.args.place) (sym same ∙ sym c.in-None.ensures))

pub returns : goal.returns
returns c = ap spelling_fault (sym (segment_is_slice c.args.bytes.now c.args.place c.segment_end-end.result c.segment_end-end.ensures.end))
    ∙ sym c.in-Some.ensures
