use Rattle.std.proofs.Common.{◌≡◌}
use Rattle.std.specs.Prelude.{filter}
use Rattle.std.specs.List.{range_with_len}
use Rattle.smap_map_answers.specs.Generated.{is_asked}
use Rattle.smap_map_answers.proofs.generated.asked_sources.Given as goal

-- of the sources so far those that are asked
abbrev pub invariant-loop-index : goal.invariant-loop-index
invariant-loop-index l = l.sources.items ≡ filter (is_asked l.map.stated.sources l.text) (range_with_len 0 l.index)
