use Rattle.std.proofs.Common.{[], map, drop, option_copied}
use Rattle.std.specs.Prelude.{Ok, Result}
use Rattle.smap_replies.specs.Outcome.{Report}
use Rattle.smap_text_answers.specs.Private.Gathering.{gathered}
use Rattle.smap_text_answers.specs.Trace.{Gathers, Maps}
use Rattle.smap_replies.specs.Arguments.{argument_of}
use Rattle.smap_text_answers.proofs.trace.table_of.Given as goal

-- what the arguments that are left come to after those so far, all of them come to
abbrev pub invariant-loop-number : goal.invariant-loop-number
invariant-loop-number g l =
    let Reads = g.F.FileReader.gives l.fn.maps.files.now in
    let base = option_copied l.fn.maps.base in
    (result : Result Maps Report) → Gathers l.fn.passes_rules Reads l.fn.paths base l.fn.maps.interval l.number (gathered l.table)
    (map argument_of (drop l.number l.arguments)) result
    → Gathers l.fn.passes_rules Reads l.fn.paths base l.fn.maps.interval 0 (Ok []) (map argument_of l.arguments) result
