use Rattle.std.proofs.Common.{◌≡◌, map, string_bytes}
use Rattle.std.specs.List.{concat, range_with_len}
use Rattle.smap_map_answers.specs.Private.Inners.{inners_stated}
use Rattle.smap_map_answers.specs.Warning.{warning_at}
use Rattle.smap_map_answers.proofs.warning.warnings.Given as goal

-- the warnings of the sources so far
abbrev pub invariant-loop-i : goal.invariant-loop-i
invariant-loop-i l =
    string_bytes l.text ≡ concat (map (warning_at l.outer.stated.sources (inners_stated l.inners)) (range_with_len 0 l.i))
