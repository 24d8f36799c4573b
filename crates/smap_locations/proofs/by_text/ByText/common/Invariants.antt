use Rattle.std.proofs.Common.{◌≡◌, map, option_map}
use Rattle.smap_locations.specs.Common.{common_after, common_of}
use Rattle.smap_locations.proofs.by_text.ByText.common.Given as goal

-- with the texts that are left, it becomes what all begin with
abbrev pub invariant-loop-text : goal.invariant-loop-text
invariant-loop-text g l =
    common_after (option_map (λ text. text.now) l.common) (map (λ k. k.items) l.text-iterator) ≡ common_of (map (λ pair. pair.0) l.self)
