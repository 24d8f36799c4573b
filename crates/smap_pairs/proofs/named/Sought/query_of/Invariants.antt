use Rattle.std.proofs.Common.{◌≡◌, ◌==◌, ◌≤◌, ◌⊎◌, ℕ, take, true}
use Rattle.smap_pairs.specs.Behind.{is_query_at}
use Rattle.smap_pairs.specs.Named.{cut_bytes}
use Rattle.smap_pairs.specs.Laws.Greatest.{NoneGreater}
use Rattle.smap_pairs.proofs.named.Sought.query_of.Given as goal

-- it is the last so far of those before the pair
abbrev pub invariant-loop-query : goal.invariant-loop-query
invariant-loop-query g l =
    let cut = cut_bytes (g.K.KnownUrls.known l.self.known.now) l.self.text.now l.self.seen.now l.self.piece (is_query_at (take l.self.end l.self.seen.now) l.self.piece) l.self.end l.by in
    let test = λ (query : ℕ). cut query == l.bytes in
    record {
      some : (l.last ≡ 0) ⊎ (test l.last ≡ true);
      within : l.last ≤ l.self.end;
      none : NoneGreater test l.query-items l.self.end l.query-index l.last;
    }
