use Rattle.std.proofs.Common.{ap, option_map, sym, ◌∙◌}
use Rattle.smap_trace.specs.Hiding.{has_text}
use Rattle.smap_trace.proofs.HidingLaws.{contains_is}
use Rattle.smap_trace.proofs.hiding.has_text.Goals as goal

pub returns-in-Some : goal.returns-in-Some
returns-in-Some c =
    contains_is c.contains.result c.in-Some.name.now c.args.text.now c.contains.ensures.cases
    ∙ ap (λ name. has_text (option_map (λ n. n.now) name) c.args.text.now) (sym c.in-Some.is)
