use Rattle.std.proofs.Common.{◌≡◌, ◌≤◌, ◌⊎◌, ◌-◌, true}
use Rattle.smap_pairs.specs.Named.{is_named_before}
use Rattle.smap_pairs.specs.Laws.Greatest.{NoneGreater}
use Rattle.smap_pairs.proofs.named.Sought.named_bytes.Given as goal

-- it is the greatest so far that passes
abbrev pub invariant-loop-bytes : goal.invariant-loop-bytes
invariant-loop-bytes g l =
    let test = is_named_before (g.K.KnownUrls.known l.self.known.now) l.self.text.now l.self.seen.now l.self.piece l.by l.end in
    record {
      some : (l.best ≡ 0) ⊎ (test l.best ≡ true);
      within : l.best ≤ l.end - l.self.piece;
      none : NoneGreater test l.bytes-items (l.end - l.self.piece) l.bytes-index l.best;
    }
