use Rattle.std.proofs.Common.{◌≡◌, length}
use Rattle.smap_c.specs.Steps.{is_led_by}
use Rattle.smap_c.proofs.steps.is_led_by.Given as goal

-- none of the sources so far that lead to the source has the name
abbrev pub invariant-loop-left : goal.invariant-loop-left
invariant-loop-left l = is_led_by l.whole l.leads l.left l.at l.name ≡ is_led_by l.whole l.leads (length l.leads) l.fn.source l.name

abbrev pub decreases-loop-left : goal.decreases-loop-left
decreases-loop-left l = l.left
