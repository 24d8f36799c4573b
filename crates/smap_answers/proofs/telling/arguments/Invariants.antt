use Rattle.std.proofs.Common.{◌≡◌, ◌++◌, drop, map}
use Rattle.smap_replies.specs.Arguments.{argument_of}
use Rattle.smap_replies.specs.Telling.{file_seen}
use Rattle.smap_answers.specs.Telling.{argument_files}
use Rattle.smap_answers.proofs.telling.arguments.Given as goal

-- the files so far, and those of the arguments that are left, are those of all
abbrev pub invariant-loop-number : goal.invariant-loop-number
invariant-loop-number l =
    map file_seen l.files.items ++ argument_files l.number (map argument_of (drop l.number l.maps)) ≡ argument_files 0 (map argument_of l.maps)
