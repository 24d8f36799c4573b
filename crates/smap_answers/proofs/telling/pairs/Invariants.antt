use Rattle.std.proofs.Common.{◌≡◌, ◌*◌, ◌++◌, drop, map, string_bytes}
use Rattle.smap_replies.specs.Telling.{file_seen}
use Rattle.smap_answers.specs.Telling.{pair_files}
use Rattle.smap_answers.proofs.telling.pairs.Given as goal

-- the files so far, and those of the pairs that are left, are those of all
abbrev pub invariant-loop-number : goal.invariant-loop-number
invariant-loop-number l =
    map file_seen l.files.items ++ pair_files (2 * l.number) (map string_bytes (drop (2 * l.number) l.paths)) ≡ pair_files 0 (map string_bytes l.paths)
