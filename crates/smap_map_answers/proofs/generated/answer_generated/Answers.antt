use Rattle.std.proofs.Common.{string_bytes}
use Rattle.std.proofs.lemmas.Result.{err_from_is_err_and}
use Rattle.smap_map_answers.specs.Generated.{generated_result}
use Rattle.smap_replies.specs.Map.{IsResult}
use Rattle.smap_replies.proofs.WhyLaws.{refused_why}
use Rattle.smap_map_answers.proofs.generated.answer_generated.Goals as goal

pub returns-in_err-map : goal.returns-in_err-map
returns-in_err-map g c =
    let p = err_from_is_err_and c.from_residual.result c.from_residual.ensures.1 in
    let asked = c.args.asked.now in
    rw (p.1, p.2) (refused_why (g.F.FileReader.gives c.args.reader.now) asked.options.explain 0 (string_bytes asked.map.path) asked.map.base
    asked.map.interval (IsResult (generated_result asked)) _ c.in_err-map.ensures.refused)
