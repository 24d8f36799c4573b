use Rattle.std.proofs.Common.{◌∙◌, ap, sym}
use Rattle.smap_index.specs.Parts.{joined}
use Rattle.smap_printing.specs.Mappings.{is_bare}
use Rattle.smap_printing.specs.Private.Bare.{is_nothing}
use Rattle.smap_printing.proofs.BareLaws.{nothing_on_line}
use Rattle.smap_printing.proofs.mappings.is_bare.Goals as goal

pub returns : goal.returns
returns c =
    c.is_nothing.ensures ∙ ap is_nothing c.look_up_from.ensures.answer ∙ nothing_on_line c.in-Some.line (joined c.args.map.now.stated.parts)
    ∙ sym (ap (λ line. is_bare line (joined c.args.map.now.stated.parts)) c.in-Some.is)
