use Rattle.std.proofs.Common.{◌≡◌, ◌≤◌, ◌<◌, ℕ, false, take}
use Rattle.smap_pairs.specs.Behind.{is_in_folder}
use Rattle.smap_pairs.specs.Named.{begins_in_folder}
use Rattle.smap_pairs.proofs.named.Sought.or_in_folder.Given as goal

-- none begins before
abbrev pub invariant-loop-at : goal.invariant-loop-at
invariant-loop-at g l = (at : ℕ) → l.self.piece ≤ at → at < l.at →
    begins_in_folder (g.K.KnownUrls.known l.self.known.now) l.self.text.now l.self.seen.now (is_in_folder (take l.self.end l.self.seen.now) l.self.piece) l.self.end at ≡ false
