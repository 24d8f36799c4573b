use Rattle.std.proofs.Common.{◌≡◌, ◌≤◌, ◌+◌, ℕ, filter, length, option_map}
use Rattle.smap_anywhere.specs.Counted.{is_other}
use Rattle.smap_pairs.specs.Spans.{AreSpansInOrder}
use Rattle.smap_anywhere.proofs.counting.count_others.Given as goal

-- those of some places are counted, and the others stand behind a byte
abbrev pub invariant-loop-span : goal.invariant-loop-span
invariant-loop-span l = record {
  order : (from : ℕ) × AreSpansInOrder from (length l.text) l.rest;
  counted : length (filter (is_other (option_map (λ url. url.now) l.own) l.text) l.spans)
      ≡ l.count + length (filter (is_other (option_map (λ url. url.now) l.own) l.text) l.rest);
  few : l.count + length l.rest ≤ length l.spans;
  room : length l.room ≡ length l.initial.room;
}

abbrev pub decreases-loop-span : goal.decreases-loop-span
decreases-loop-span l = length l.rest
