use Rattle.std.proofs.Common.{false, option_map, string_bytes}
use Rattle.std.proofs.lemmas.Result.{err_from_is_err_and}
use Rattle.smap_map_answers.specs.Sources.{ReportsSources}
use Rattle.smap_replies.proofs.WhyLaws.{refused_why}
use Rattle.smap_map_answers.proofs.sources.answer_sources.Goals as goal

pub returns-in_err-map : goal.returns-in_err-map
returns-in_err-map g c =
    let asked = c.args.asked.now in
    let Reads = g.F.FileReader.gives c.args.reader.now in
    let p = err_from_is_err_and c.from_residual.result c.from_residual.ensures.1 in
    rw (p.1, p.2) (refused_why Reads false 0 (string_bytes asked.map.path) asked.map.base asked.map.interval
    (ReportsSources Reads asked.options (option_map string_bytes asked.generated)) _ c.in_err-map.ensures.refused)
