use Rattle.std.proofs.Common.{◌≡◌, true, false}
use Rattle.smap_locations.specs.ListLine.{is_folder}
use Rattle.smap_locations.specs.Patterns.{has_ending}
use Rattle.smap_locations.specs.Private.Best.{Comes, IsOfFirst}
use Rattle.smap_locations.proofs.patterns.Patterns.better_at_end.Given as goal

-- those with one of the lengths so far were tried
abbrev pub invariant-loop-length : goal.invariant-loop-length
invariant-loop-length l =
    Comes l.self l.url l.short l.fn.best l.best (λ place pattern.
    (is_folder pattern.1 ≡ false) × (has_ending pattern.0 l.text ≡ true) × IsOfFirst l.all l.length-index pattern)
