use Rattle.std.proofs.Common.{◌≡◌, ◌+◌, take}
use Rattle.std.specs.List.{sum_by}
use Rattle.smap_record.specs.NamedSources.{source_bytes}
use Rattle.smap_record.specs.Sources.{source_of}
use Rattle.smap_record.proofs.beside.left_behind.Given as goal

-- what the names so far are made of, and what is left
abbrev pub invariant-loop-source : goal.invariant-loop-source
invariant-loop-source l =
    sum_by (λ entry. source_bytes l.before (source_of entry)) (take l.source-index l.sources) + l.left ≡ l.most
