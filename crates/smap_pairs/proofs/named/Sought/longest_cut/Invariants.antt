use Rattle.std.proofs.Common.{◌≤◌, ◌-◌, take}
use Rattle.smap_pairs.specs.Behind.{is_query_at}
use Rattle.smap_pairs.specs.Greatest.{most_below}
use Rattle.smap_pairs.specs.Named.{cut_bytes}
use Rattle.smap_pairs.proofs.MostLaws.{NoneMore}
use Rattle.smap_pairs.proofs.named.Sought.longest_cut.Given as goal

-- it is the greatest of those that were asked for
abbrev pub invariant-loop-query : goal.invariant-loop-query
invariant-loop-query g l =
    let known = g.K.KnownUrls.known l.self.known.now in
    let cut = cut_bytes known l.self.text.now l.self.seen.now l.self.piece (is_query_at (take l.self.end l.self.seen.now) l.self.piece) l.self.end l.by in
    record {
      most : l.best ≤ most_below cut l.self.end;
      within : l.best ≤ l.self.end - l.self.piece;
      each : NoneMore cut l.query-items l.self.end l.query-index l.best;
    }
