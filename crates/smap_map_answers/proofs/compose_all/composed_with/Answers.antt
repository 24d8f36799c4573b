use Rattle.std.proofs.Common.{refl}
use Rattle.std.proofs.lemmas.Result.{err_from_is_err_and}
use Rattle.std.specs.Prelude.{map, option_copied, option_map, string_bytes}
use Rattle.smap_replies.specs.Arguments.{argument_of}
use Rattle.smap_map_answers.proofs.ComposeLaws.{reported_or}
use Rattle.smap_map_answers.proofs.InnersLaws.{inners_composed, inners_failed}
use Rattle.smap_map_answers.proofs.compose_all.composed_with.Goals as goal

pub returns-in_err-inners : goal.returns-in_err-inners
returns-in_err-inners g c =
    let p = err_from_is_err_and c.from_residual.result c.from_residual.ensures.1 in
    rw (p.1, p.2) (inners_failed (g.F.FileReader.gives c.args.reader.now) c.args.asked.now.options (map argument_of c.args.asked.now.inners.items)
    (option_map string_bytes c.args.asked.now.list) (option_copied c.args.id) c.args.outer.stated _ _ _ refl c.in_err-inners.ensures.gathered)

pub returns : goal.returns
returns g c =
    inners_composed (g.F.FileReader.gives c.args.reader.now) c.args.asked.now.options (map argument_of c.args.asked.now.inners.items)
    (option_map string_bytes c.args.asked.now.list) (option_copied c.args.id) c.args.outer.stated _ _ _ _ c.in_ok-inners.ensures.gathered
    (rw c.deref.ensures.value at c.in_ok-warn_all.ensures.warned)
    (reported_or c.all_line.result _ _ c.reported.ensures c.all_line.ensures)
