use Rattle.smap_arguments.specs.Arguments.{texts}
use Rattle.smap_arguments.proofs.NumberedLaws.{AreNumbered}
use Rattle.smap_arguments.proofs.numbered.numbered_behind.Given as goal

abbrev pub invariant-loop-word : goal.invariant-loop-word
invariant-loop-word l = AreNumbered (texts l.all.items) l.may_be_options l.word-index l.program (texts l.words)
