use Rattle.std.proofs.Common.{sym, ap, ◌∙◌}
use Rattle.std.specs.Prelude.{option_copied}
use Rattle.smap_compose.specs.Private.Length.{line_of}
use Rattle.smap_compose.proofs.LengthLaws.{last_is}
use Rattle.smap_compose.proofs.length.last_line.Goals as goal

pub returns-in-Some : goal.returns-in-Some
returns-in-Some c =
    c.from.ensures ∙ ap (λ o. line_of (option_copied o)) (sym c.in-Some.is) ∙ ap line_of (c.last.ensures.value ∙ sym (last_is c.args.mappings.now))

pub returns-in-None : goal.returns-in-None
returns-in-None c = ap (λ o. line_of (option_copied o)) (sym c.in-None.is) ∙ ap line_of (c.last.ensures.value ∙ sym (last_is c.args.mappings.now))
