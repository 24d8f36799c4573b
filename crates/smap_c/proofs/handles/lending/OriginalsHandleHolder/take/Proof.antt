-- `take` hands on the pointer with what it owns, and leaves the handle empty.
use Rattle.smap_c.specs.contracts.handles.lending.OriginalsHandleHolder.take.Key.{name as #self}
use Rattle.smap_c.proofs.handles.lending.OriginalsHandleHolder.take.Statement.{statement}
use Rattle.smap_c.proofs.handles.lending.OriginalsHandleHolder.take.Code as code
use Rattle.smap_c.proofs.Holders.{originals}
use Rattle.smap_c.proofs.Walks.{take_walk}

pub take_spec : {M : Type 1} → statement M
take_spec 𝓤 𝓛 𝓜 𝓡 wired = take_walk originals 𝓤 𝓛 𝓜 𝓡 #self (code.unfolded 𝓤 𝓛.H 𝓜 𝓡 wired)
