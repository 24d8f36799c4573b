use Rattle.std.proofs.Common.{None, false, string_bytes}
use Rattle.std.proofs.lemmas.Result.{err_from_is_err_and}
use Rattle.smap_command.specs.Limits.{usual_interval}
use Rattle.smap_map_answers.specs.Sources.{content_result}
use Rattle.smap_replies.specs.Map.{IsResult}
use Rattle.smap_replies.proofs.WhyLaws.{refused_why}
use Rattle.smap_map_answers.proofs.sources.answer_content.Goals as goal

pub returns-in_err-map : goal.returns-in_err-map
returns-in_err-map g c =
    let asked = c.args.asked.now in
    let p = err_from_is_err_and c.from_residual.result c.from_residual.ensures.1 in
    let made = c.usual.ensures in
    rw (p.1, p.2) (refused_why (g.F.FileReader.gives c.args.reader.now) false 0 (string_bytes asked.path) None usual_interval
    (IsResult (content_result asked.source)) _ (rw (made.files, made.base, made.interval, c.deref.ensures) at c.in_err-map.ensures.refused))
