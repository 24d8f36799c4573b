use Rattle.std.proofs.Common.{◌≡◌, ◌++◌, drop}
use Rattle.smap_c.specs.Inners.{maps_held}
use Rattle.smap_c.specs.Steps.{leads_within}
use Rattle.smap_c.proofs.steps.push_leads.Given as goal

-- what is left is pushed behind
abbrev pub invariant-loop-source : goal.invariant-loop-source
invariant-loop-source l =
    l.leads.items ++ leads_within l.source (maps_held (drop l.source l.places)) ≡ l.initial.leads.items ++ leads_within 0 (maps_held l.places)
