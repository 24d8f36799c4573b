use Rattle.std.proofs.Common.{◌≡◌, ◌+◌, drop, map}
use Rattle.smap_anywhere.specs.Counted.{mentions_in, pair_of}
use Rattle.smap_trace.specs.UrlNotes.{as_counted}
use Rattle.smap_anywhere.proofs.counting.mentions_of_all.Given as goal

-- with the others it comes to as many, and to no more than can be counted
abbrev pub invariant-loop-url : goal.invariant-loop-url
invariant-loop-url l = record {
  few : as_counted l.count ≡ l.count;
  whole : as_counted (l.count + mentions_in (map pair_of (drop l.url-index l.arguments)) l.line)
      ≡ as_counted (l.before + mentions_in (map pair_of l.arguments) l.line);
}
