use Rattle.std.proofs.Common.{◌≡◌, ◌++◌, replicate}
use Rattle.smap_c.proofs.steps.push_times.Given as goal

-- so many were pushed
abbrev pub invariant-loop : goal.invariant-loop
invariant-loop l = l.leads.items ≡ l.initial.leads.items ++ replicate l.counter l.lead
