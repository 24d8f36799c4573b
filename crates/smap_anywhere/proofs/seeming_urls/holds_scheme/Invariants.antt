use Rattle.std.proofs.Common.{◌≡◌, length}
use Rattle.smap_anywhere.specs.SeemingUrls.{holds_scheme}
use Rattle.smap_anywhere.proofs.seeming_urls.holds_scheme.Given as goal

-- it stands at no byte before
abbrev pub invariant-loop-behind : goal.invariant-loop-behind
invariant-loop-behind l = holds_scheme l.fn.url ≡ holds_scheme l.rest

abbrev pub decreases-loop-behind : goal.decreases-loop-behind
decreases-loop-behind l = length l.rest
