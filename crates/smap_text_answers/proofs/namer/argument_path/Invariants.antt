use Rattle.std.proofs.Common.{◌≡◌, drop, map}
use Rattle.smap_replies.specs.Arguments.{argument_of}
use Rattle.smap_text_answers.specs.Names.{argument_path}
use Rattle.smap_text_answers.proofs.namer.argument_path.Given as goal

-- none of the arguments so far names the file
abbrev pub invariant-loop-named : goal.invariant-loop-named
invariant-loop-named l =
    argument_path (map argument_of l.arguments) l.url ≡ argument_path (map argument_of (drop l.named-index l.arguments)) l.url
