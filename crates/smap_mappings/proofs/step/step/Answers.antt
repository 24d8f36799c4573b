use Rattle.smap_mappings.specs.State.{values_at}
use Rattle.smap_mappings.proofs.StepLaws.{steps_to, faulty_values, faulty_spelling}
use Rattle.smap_mappings.proofs.StraightLaws.{origin_same}
use Rattle.smap_mappings.proofs.ValueFaultLaws.{sums_in_range}
use Rattle.smap_mappings.proofs.step.step.Goals as goal

pub returns-in_default-clause-err : goal.returns-in_default-clause-err
returns-in_default-clause-err c j after =
    faulty_spelling c.args.bytes.now j c.args.cursor.now c.args.sources c.args.names c.unread_fault.result after c.requires.within
    c.requires.inside c.unread_fault.ensures

pub returns-in-Ok-clause-ok : goal.returns-in-Ok-clause-ok
returns-in-Ok-clause-ok c j after =
    let steps = steps_to c.args.bytes.now j c.args.cursor.now c.in-Some.segment c.in-Some.end after c.requires.within
    c.requires.inside c.in-Some.ensures.some c.args.sources c.args.names c.in-Ok.after c.in-Ok.ensures.ok in
    rw (c.kind_of.ensures, origin_same c.in-Some.segment.origin c.in-Ok.after) steps

pub returns-in-Ok-clause-in_range : goal.returns-in-Ok-clause-in_range
returns-in-Ok-clause-in_range c =
    sums_in_range c.args.sources c.args.names c.in-Some.segment (values_at c.in-Ok.after) c.in-Ok.ensures.ok.allowed

pub returns-in-Err-clause-err : goal.returns-in-Err-clause-err
returns-in-Err-clause-err c j after =
    faulty_values c.args.bytes.now j c.args.cursor.now c.in-Some.segment c.in-Some.end after c.requires.within c.requires.inside
    c.in-Some.ensures.some c.args.sources c.args.names c.in-Err.kind c.in-Err.ensures.err
