use Rattle.std.proofs.Common.{map, drop}
use Rattle.std.specs.Prelude.{Result}
use Rattle.smap_replies.specs.Arguments.{argument_of}
use Rattle.smap_replies.specs.Outcome.{Report}
use Rattle.smap_text_answers.specs.Fitting.{ComparesWords}
use Rattle.smap_text_answers.specs.Told.{ToldSeen, nothing_told, told_seen}
use Rattle.smap_text_answers.proofs.fitting.compare_each.Given as goal

-- what the arguments that are left come to after those so far, all of them come to
abbrev pub invariant-loop-url : goal.invariant-loop-url
invariant-loop-url g l =
    let Compares = ComparesWords (g.F.FileReader.gives l.fn.files) l.fn.number l.fn.exact in
    (result : Result ToldSeen Report) → Compares (map argument_of (drop l.url-index l.arguments)) (told_seen l.told) result
    → Compares (map argument_of l.arguments) nothing_told result
