use Rattle.std.proofs.Common.{◌≡◌, flat_map, string_bytes}
use Rattle.std.specs.List.{range_with_len}
use Rattle.smap_map_answers.specs.Generated.{alike_source}
use Rattle.smap_map_answers.proofs.generated.alike_lines.Given as goal

-- the lines for the sources so far
abbrev pub invariant-loop-index : goal.invariant-loop-index
invariant-loop-index l = string_bytes l.lines ≡ flat_map (alike_source l.map.stated.sources l.text) (range_with_len 0 l.index)
