use Rattle.std.proofs.Common.{◌≡◌, ◌<◌, subst}
use Rattle.std.specs.Prelude.{◌⊎◌, IfErr}
use Rattle.smap_record.specs.MapFile.{Map}
use Rattle.smap_record.specs.NamedSources.{bytes_beside}
use Rattle.smap_record.specs.declared.refusal.MapRefusal.TheVariants.{LongNames, Memory}
use Rattle.smap_record.proofs.ready_map.ReadyMap.name_sources_beside.Goals as goal

pub returns-clause-refused : goal.returns-clause-refused
returns-clause-refused c =
    subst (λ (held : Map). IfErr c.name_sources_beside.result (λ refusal. (refusal ≡ Memory)
    ⊎ ((refusal ≡ LongNames) × (c.args.most_names < bytes_beside c.args.path.now held.stated))))
    c.self.view_is c.name_sources_beside.ensures.refused
