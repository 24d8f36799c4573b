use Rattle.std.proofs.Common.{Some, subst}
use Rattle.std.specs.Prelude.{string_bytes}
use Rattle.std.proofs.lemmas.Result.{err_from_is_err_and}
use Rattle.smap_replies.specs.Outcome.{OrMemory, report_of}
use Rattle.smap_replies.proofs.TextLaws.{no_text, of_text}
use Rattle.smap_map_answers.specs.Sources.{IsSourcesReported}
use Rattle.smap_map_answers.proofs.sources.sources_of.Goals as goal

pub returns-in_err-text-in-Some : goal.returns-in_err-text-in-Some
returns-in_err-text-in-Some g c =
    let p = err_from_is_err_and c.from_residual.result c.from_residual.ensures.1 in
    rw (c.in-Some.is, p.1, p.2) (no_text (g.F.FileReader.gives c.args.reader.now) 1 c.in-Some.path.now
    (λ text. IsSourcesReported c.args.options (Some text) c.args.map.now.stated) _ c.in_err-text-in-Some.ensures.refused)

pub returns-in_ok-text-in-Some : goal.returns-in_ok-text-in-Some
returns-in_ok-text-in-Some g c = rw c.in-Some.is
    (of_text (g.F.FileReader.gives c.args.reader.now) 1 c.in-Some.path.now (string_bytes c.in_ok-text-in-Some.text)
    (λ text. IsSourcesReported c.args.options (Some text) c.args.map.now.stated) _ c.in_ok-text-in-Some.ensures.read
    (subst (λ text. OrMemory (IsSourcesReported c.args.options (Some text) c.args.map.now.stated)
    (report_of c.reported_sources-in-Some.result)) c.deref.ensures c.reported_sources-in-Some.ensures))
