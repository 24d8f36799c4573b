use Rattle.smap_fit.proofs.owners.Owners.owner_of.Goals as goal

pub returns-clause-named : goal.returns-clause-named
returns-clause-named c = λ sources names all. c.owner.ensures.within sources names (c.pass.ensures.within sources names all)
