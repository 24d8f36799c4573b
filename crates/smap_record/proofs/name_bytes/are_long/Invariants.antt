use Rattle.std.proofs.Common.{◌≡◌, ◌+◌, take}
use Rattle.std.specs.List.{sum_by}
use Rattle.smap_record.specs.NameBytes.{section_name_bytes}
use Rattle.smap_record.specs.Private.Seen.{sources_seen}
use Rattle.smap_record.proofs.name_bytes.are_long.Given as goal

-- what the names of the sections so far are made of, and what is left
abbrev pub invariant-loop-section : goal.invariant-loop-section
invariant-loop-section l =
    sum_by (λ section. section_name_bytes l.base (sources_seen section)) (take l.section-index l.sections) + l.left ≡ l.most
