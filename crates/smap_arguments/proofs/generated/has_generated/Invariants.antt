use Rattle.smap_arguments.proofs.Lines.{IsBehind}
use Rattle.smap_arguments.proofs.generated.has_generated.Given as goal

abbrev pub invariant-loop-word : goal.invariant-loop-word
invariant-loop-word l = IsBehind l.words l.word-index
