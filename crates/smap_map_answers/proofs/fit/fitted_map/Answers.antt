use Rattle.std.proofs.Common.{◌+◌, ◌*◌, inr, subst}
use Rattle.std.specs.Prelude.{string_bytes}
use Rattle.std.proofs.lemmas.Result.{err_from_is_err_and}
use Rattle.smap_replies.specs.Outcome.{reply_report}
use Rattle.smap_replies.proofs.TextLaws.{no_text, of_text}
use Rattle.smap_map_answers.specs.Fit.{IsFitReported}
use Rattle.smap_map_answers.proofs.fit.fitted_map.Goals as goal

pub returns-in_err-text : goal.returns-in_err-text
returns-in_err-text g c =
    let p = err_from_is_err_and c.from_residual.result c.from_residual.ensures.1 in
    rw (p.1, p.2) (no_text (g.F.FileReader.gives c.args.reader.now) (2 * c.args.pair.number + 1) c.args.pair.generated.now
    (λ text. IsFitReported c.args.options c.args.pair.map.now c.args.pair.generated.now text c.args.map.now.stated)
    _ c.in_err-text.ensures.refused)

pub returns : goal.returns
returns g c =
    of_text (g.F.FileReader.gives c.args.reader.now) (2 * c.args.pair.number + 1) c.args.pair.generated.now (string_bytes c.in_ok-text.text)
    (λ text. IsFitReported c.args.options c.args.pair.map.now c.args.pair.generated.now text c.args.map.now.stated)
    _ c.in_ok-text.ensures.read
    (inr (subst (λ text. IsFitReported c.args.options c.args.pair.map.now c.args.pair.generated.now text c.args.map.now.stated (reply_report c.in_ok-reply.reply))
    c.deref.ensures c.in_ok-reply.ensures))
