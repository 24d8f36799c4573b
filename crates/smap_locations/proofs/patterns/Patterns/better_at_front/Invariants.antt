use Rattle.std.proofs.Common.{◌≡◌, true, length, take}
use Rattle.std.specs.Str.{bytes_eq}
use Rattle.smap_locations.specs.ListLine.{is_folder}
use Rattle.smap_locations.specs.Private.Best.{Comes, IsOfFirst}
use Rattle.smap_locations.proofs.patterns.Patterns.better_at_front.Given as goal

-- those with one of the lengths so far were tried
abbrev pub invariant-loop-length : goal.invariant-loop-length
invariant-loop-length l =
    Comes l.self l.url l.short l.fn.best l.best (λ place pattern.
    (is_folder pattern.1 ≡ true) × (bytes_eq (take (length pattern.0) l.text) pattern.0 ≡ true) × IsOfFirst l.all l.length-index pattern)
