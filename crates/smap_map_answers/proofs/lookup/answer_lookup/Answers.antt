use Rattle.std.proofs.Common.{option_copied}
use Rattle.std.proofs.lemmas.Result.{err_from_is_err_and}
use Rattle.smap_map_answers.specs.Lookup.{lookup_print}
use Rattle.smap_replies.specs.Map.{IsLine}
use Rattle.smap_replies.proofs.WhyLaws.{refused_why}
use Rattle.smap_map_answers.proofs.lookup.answer_lookup.Goals as goal

pub returns-in_err-map : goal.returns-in_err-map
returns-in_err-map g c =
    let maps = c.args.maps.now in
    let p = err_from_is_err_and c.from_residual.result c.from_residual.ensures.1 in
    rw (p.1, p.2) (refused_why (g.F.FileReader.gives maps.files.now) c.args.options.explain 0 c.args.path.now (option_copied maps.base)
    maps.interval (IsLine (lookup_print c.args.direction c.args.options c.args.position.0 c.args.position.1))
    _ c.in_err-map.ensures.refused)
