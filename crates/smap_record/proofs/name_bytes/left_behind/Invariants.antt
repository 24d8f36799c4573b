use Rattle.std.proofs.Common.{◌≡◌, ◌+◌, option_map, string_bytes, take}
use Rattle.std.specs.List.{sum_by}
use Rattle.smap_record.specs.NameBytes.{text_bytes}
use Rattle.smap_record.proofs.name_bytes.left_behind.Given as goal

-- what the names so far are made of, and what is left
abbrev pub invariant-loop-text : goal.invariant-loop-text
invariant-loop-text l =
    sum_by (λ text. text_bytes (l.base + l.prefix) (option_map string_bytes text)) (take l.text-index l.text-items) + l.left ≡ l.most
