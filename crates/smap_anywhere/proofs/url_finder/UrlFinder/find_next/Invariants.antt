use Rattle.std.proofs.Common.{◌≡◌, ◌-◌, ◌≤◌, length}
use Rattle.smap_anywhere.specs.FoundUrls.{urls_left, urls_waiting}
use Rattle.smap_anywhere.proofs.url_finder.UrlFinder.find_next.Given as goal

-- those that are left stay, and the text was read so far
abbrev pub invariant-loop-self : goal.invariant-loop-self
invariant-loop-self l = record {
  left : urls_waiting l.text l.self ≡ urls_left l.text l.from l.fn.self;
  within : l.self.end ≤ length l.text;
}

abbrev pub decreases-loop-self : goal.decreases-loop-self
decreases-loop-self l = length l.text - l.self.end
