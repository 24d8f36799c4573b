use Rattle.std.proofs.Common.{sym, ap, ◌∙◌, option_map, string_bytes}
use Rattle.smap_command.specs.Options.{is_json}
use Rattle.smap_map_answers.specs.Fit.{fit_line}
use Rattle.smap_map_answers.proofs.ReplyLaws.{misfit_reported}
use Rattle.smap_map_answers.proofs.fit.fit_reply.Goals as goal

pub returns : goal.returns
returns c =
    misfit_reported c.args.options c.args.pair.map.now c.args.pair.generated.now c.args.text.now c.args.map.now.stated c.in_ok-fit.fit
    (option_map string_bytes c.in_ok-why.why) (string_bytes c.in_ok-line.line) c.in_ok-fit.ensures.counts c.in_ok-why.ensures
    (c.in_ok-line.ensures ∙ ap (fit_line (is_json c.args.options.form) c.args.pair.map.now c.args.pair.generated.now c.in_ok-fit.fit) c.as_deref.ensures.value)
    (sym c.fits.ensures ∙ c.if-fits.false)
