use Rattle.std.proofs.Common.{option_copied}
use Rattle.std.proofs.lemmas.Result.{err_from_is_err_and}
use Rattle.smap_command.specs.Limits.{usual_interval}
use Rattle.smap_map_answers.specs.Show.{shown_result}
use Rattle.smap_replies.specs.Map.{IsResult}
use Rattle.smap_map_answers.proofs.WithIdLaws.{refused_with_id}
use Rattle.smap_map_answers.proofs.show.answer_show.Goals as goal

pub returns-in_err-map : goal.returns-in_err-map
returns-in_err-map g c =
    let made = c.usual-maps.ensures in
    let p = err_from_is_err_and c.from_residual.result c.from_residual.ensures.1 in
    rw (p.1, p.2) (refused_with_id (g.F.FileReader.gives c.args.reader.now) 0 c.args.path.now (option_copied c.args.base) usual_interval
    c.args.options.keep_debug_id (λ id. IsResult (shown_result c.args.options id)) _
    (rw (made.files, made.base, made.interval) at c.in_err-map.ensures.refused))
