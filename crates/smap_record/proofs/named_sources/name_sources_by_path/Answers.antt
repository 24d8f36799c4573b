use Rattle.std.proofs.Common.{refl}
use Rattle.smap_resolve.specs.ByPath.{name_by_path, name_from_path}
use Rattle.smap_record.proofs.RenamedLaws.{map_named}
use Rattle.smap_record.proofs.named_sources.name_sources_by_path.Goals as goal

pub returns-clause-named : goal.returns-clause-named
returns-clause-named c =
    map_named (name_by_path c.args.url.now) (name_from_path c.args.url.now) (λ url. refl) (λ text. refl) c.args.map_file.now c.rename.new.map_file _ c.in_ok-names.ensures.names c.rename.ensures.named c.rename.ensures.parts
    c.rename.ensures.names c.rename.ensures.file c.rename.ensures.interval
