use Rattle.smap_arguments.specs.Arguments.{texts}
use Rattle.smap_arguments.proofs.SpreadLaws.{ArePassed}
use Rattle.smap_arguments.proofs.spread.spread_behind.Given as goal

abbrev pub invariant-loop-word : goal.invariant-loop-word
invariant-loop-word l = ArePassed l.is_generated (texts l.all.items) l.is_spread l.word-index l.program (texts l.words)
