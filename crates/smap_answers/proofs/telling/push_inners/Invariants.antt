use Rattle.std.proofs.Common.{◌≡◌, ◌++◌, drop, map}
use Rattle.smap_replies.specs.Arguments.{argument_of}
use Rattle.smap_replies.specs.Telling.{file_seen}
use Rattle.smap_answers.specs.Telling.{inner_files}
use Rattle.smap_answers.proofs.telling.push_inners.Given as goal

-- the files so far, and those that are left, are all
abbrev pub invariant-loop-path : goal.invariant-loop-path
invariant-loop-path l =
    map file_seen l.files.items ++ inner_files (map argument_of (drop l.path-index l.inners))
    ≡ map file_seen l.initial.files.items ++ inner_files (map argument_of l.inners)
