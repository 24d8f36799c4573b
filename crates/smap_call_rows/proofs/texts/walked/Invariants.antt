use Rattle.smap_mappings.specs.State.{IsBetween}
use Rattle.smap_call_rows.proofs.texts.walked.Given as goal

abbrev pub invariant-loop : goal.invariant-loop
invariant-loop l = IsBetween l.packed l.state
