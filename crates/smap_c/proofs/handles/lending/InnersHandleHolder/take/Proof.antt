-- `take` hands on the pointer with what it owns, and leaves the handle empty.
use Rattle.smap_c.specs.contracts.handles.lending.InnersHandleHolder.take.Key.{name as #self}
use Rattle.smap_c.proofs.handles.lending.InnersHandleHolder.take.Statement.{statement}
use Rattle.smap_c.proofs.handles.lending.InnersHandleHolder.take.Code as code
use Rattle.smap_c.proofs.Holders.{inners}
use Rattle.smap_c.proofs.Walks.{take_walk}

pub take_spec : {M : Type 1} → statement M
take_spec 𝓤 𝓛 𝓜 𝓡 wired = take_walk inners 𝓤 𝓛 𝓜 𝓡 #self (code.unfolded 𝓤 𝓛.H 𝓜 𝓡 wired)
