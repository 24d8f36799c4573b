use Rattle.std.proofs.Common.{[], map, drop}
use Rattle.std.specs.Prelude.{Result}
use Rattle.smap_locations.specs.Locations.{LocationsSeen}
use Rattle.smap_replies.specs.Outcome.{Report}
use Rattle.smap_text_answers.specs.Sources.{NamesRules}
use Rattle.smap_replies.specs.Arguments.{argument_of}
use Rattle.smap_text_answers.proofs.sources.rules_of.Given as goal

-- what the arguments that are left come to after those so far, all of them come to
abbrev pub invariant-loop-url : goal.invariant-loop-url
invariant-loop-url l =
    (result : Result LocationsSeen Report) → NamesRules (map argument_of (drop l.url-index l.arguments)) l.locations result
    → NamesRules (map argument_of l.arguments) (record { files = []; folders = []; patterns = [] }) result
