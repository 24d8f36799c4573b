use Rattle.std.proofs.Common.{◌≡◌, map, string_bytes}
use Rattle.std.specs.List.{concat, range_with_len}
use Rattle.smap_map_answers.specs.ComposedLines.{name_at}
use Rattle.smap_map_answers.proofs.composed_lines.first_names.Given as goal

-- the lines for the sources so far
abbrev pub invariant-loop-i : goal.invariant-loop-i
invariant-loop-i l = string_bytes l.names ≡ concat (map (name_at l.map.stated.sources) (range_with_len 0 l.i))
