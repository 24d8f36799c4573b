use Rattle.std.proofs.Common.{◌≡◌, ◌≤◌, ◌⊎◌, ◌+◌, ◌-◌, ℕ, true}
use Rattle.std.specs.List.{slice_range}
use Rattle.smap_pairs.specs.Laws.Greatest.{NoneGreater}
use Rattle.smap_pairs.proofs.named.Sought.prefix_bytes.Given as goal

-- it is the greatest so far that passes
abbrev pub invariant-loop-bytes : goal.invariant-loop-bytes
invariant-loop-bytes g l =
    let test = λ (n : ℕ). (g.K.KnownUrls.known l.self.known.now).is_prefix (slice_range l.self.text.now l.at (l.at + n)) in
    record {
      some : (l.best ≡ 0) ⊎ (test l.best ≡ true);
      within : l.best ≤ l.self.end - l.at;
      none : NoneGreater test l.bytes-items (l.self.end - l.at) l.bytes-index l.best;
    }
