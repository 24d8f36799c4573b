use Rattle.std.proofs.Common.{◌∙◌, Err, ap, subst, sym}
use Rattle.smap_arguments.specs.Arguments.{texts}
use Rattle.smap_arguments.specs.Refusals.{IsRead}
use Rattle.smap_arguments.proofs.SpreadLaws.{read_at_once, read_other, read_spread}
use Rattle.smap_arguments.proofs.parsing.read_arguments.Goals as goal

pub returns-in-Ok : goal.returns-in-Ok
returns-in-Ok c = read_at_once (texts c.args.arguments.now) c.in-Ok.read c.in-Ok.ensures

pub returns-then-not-is_lookup : goal.returns-then-not-is_lookup
returns-then-not-is_lookup c =
    let other = sym c.is_lookup.ensures ∙ c.if-not-is_lookup.true in
    subst (λ w. IsRead w (Err c.in-Err.error)) (read_other (texts c.args.arguments.now) other) c.in-Err.ensures

pub returns-in-Ok-spread : goal.returns-in-Ok-spread
returns-in-Ok-spread c =
    let lookup = sym c.is_lookup.ensures ∙ c.if-not-is_lookup.false in
    let words = ap texts c.deref.ensures.value ∙ (c.in-Ok-spread.ensures ∙ read_spread (texts c.args.arguments.now) c.in-Err.error c.in-Err.ensures lookup) in
    subst (λ w. IsRead w c.read_words-in-Ok-spread.result) words c.read_words-in-Ok-spread.ensures
