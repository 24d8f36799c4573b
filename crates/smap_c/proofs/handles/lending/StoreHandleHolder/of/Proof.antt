-- `of` keeps the pointer and what it owns.
use Rattle.smap_c.specs.contracts.handles.lending.StoreHandleHolder.of.Key.{name as #self}
use Rattle.smap_c.proofs.handles.lending.StoreHandleHolder.of.Statement.{statement}
use Rattle.smap_c.proofs.handles.lending.StoreHandleHolder.of.Code as code
use Rattle.smap_c.proofs.Holders.{store}
use Rattle.smap_c.proofs.Walks.{of_walk}

pub of_spec : {M : Type 1} → statement M
of_spec 𝓤 𝓛 𝓜 𝓡 wired = of_walk store 𝓤 𝓛 𝓜 𝓡 #self (code.unfolded 𝓤 𝓛.H 𝓜 𝓡 wired)
