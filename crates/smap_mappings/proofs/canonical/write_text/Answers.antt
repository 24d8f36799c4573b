use Rattle.std.proofs.Common.{List, None, sym, subst, ◌∙◌, arith, take, get_or}
use Rattle.std.specs.List.{last_or}
use Rattle.smap_mappings.specs.Encode.{list_fault}
use Rattle.smap_mappings.specs.Writing.{IsWritten}
use Rattle.smap_mappings.specs.declared.mapping.Mapping.{Mapping}
use Rattle.smap_mappings.proofs.EncodeLaws.{nowhere, one_more_taken, passed_here, none_here, within_limit}
use Rattle.smap_mappings.proofs.canonical.write_text.Goals as goal

pub loop-mapping-init : goal.loop-mapping-init
unfolding list_fault
loop-mapping-init c = record { written = c.in_ok-writer.ensures; faultless = c.requires }

pub push-requires-clause-in_range : goal.push-requires-clause-in_range
push-requires-clause-in_range c =
    within_limit c.loop-mapping.mapping-index (last_or None (take c.loop-mapping.mapping-index c.args.list.now))
    (get_or c.args.list.now c.loop-mapping.mapping-index nowhere)
    (none_here c.args.list.now c.loop-mapping.mapping-index nowhere (omega arith) c.loop-mapping.invariant.faultless)

pub loop-mapping-preserved : goal.loop-mapping-preserved
loop-mapping-preserved c =
    let i = c.loop-mapping.mapping-index in
    let P : List Mapping → Type 0 = λ list. IsWritten list c.push.new.self in
    let faultless = c.loop-mapping.invariant.faultless in
    record {
      written = subst P (one_more_taken c.args.list.now i nowhere (omega arith)) (c.in_ok-push.ensures _ c.loop-mapping.invariant.written);
      faultless = sym (passed_here c.args.list.now i nowhere (omega arith) (none_here c.args.list.now i nowhere (omega arith) faultless)) ∙ faultless;
    }
