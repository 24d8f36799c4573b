-- `lend` lends the value, and the handle follows it.
use Rattle.smap_c.specs.contracts.handles.lending.BytesHandleHolder.lend.Key.{name as #self}
use Rattle.smap_c.proofs.handles.lending.BytesHandleHolder.lend.Statement.{statement}
use Rattle.smap_c.proofs.handles.lending.BytesHandleHolder.lend.Code as code
use Rattle.smap_c.proofs.Holders.{bytes}
use Rattle.smap_c.proofs.Walks.{lend_walk}

pub lend_spec : {M : Type 1} → statement M
lend_spec 𝓤 𝓛 𝓜 𝓡 wired = lend_walk bytes 𝓤 𝓛 𝓜 𝓡 #self (code.unfolded 𝓤 𝓛.H 𝓜 𝓡 wired)
