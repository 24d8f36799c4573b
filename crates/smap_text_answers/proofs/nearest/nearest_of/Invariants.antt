use Rattle.std.proofs.Common.{◌≡◌, drop, fold, map, option_copied, None}
use Rattle.std.specs.Prelude.{option_map}
use Rattle.smap_replies.specs.Arguments.{argument_of}
use Rattle.smap_text_answers.specs.NearestUrl.{nearer}
use Rattle.smap_text_answers.proofs.nearest.nearest_of.Given as goal

abbrev pub invariant-loop-argument : goal.invariant-loop-argument
invariant-loop-argument l =
    fold (nearer l.url) (option_map argument_of (option_copied l.nearest)) (map argument_of (drop l.argument-index l.arguments))
    ≡ fold (nearer l.url) None (map argument_of l.arguments)
