use Rattle.std.proofs.Common.{Some, None, ap, sym, cond, ◌∙◌}
use Rattle.smap_declarations.specs.Frames.{name_by}
use Rattle.smap_declarations.specs.Private.Found.{named}
use Rattle.smap_declarations.proofs.DecidingLaws.{names_alike}
use Rattle.smap_declarations.proofs.declarations.Declarations.name_of.Goals as goal

pub returns-then-is_at_or_before-clause-name : goal.returns-then-is_at_or_before-clause-name
returns-then-is_at_or_before-clause-name c = λ all same.
    names_alike all c.args.self.now same c.args.function.now c.args.place c.args.map.now.stated.names
    (Some (named c.in_ok-named.named)) _ c.in_ok-named.ensures.decides
    (c.name_given.ensures
    ∙ ap (λ b. name_by c.args.map.now.stated.names c.args.function.now (cond b (Some (named c.in_ok-named.named)) None))
    (sym c.if-is_at_or_before.true ∙ c.is_at_or_before.ensures))

pub returns-else-is_at_or_before-clause-name : goal.returns-else-is_at_or_before-clause-name
returns-else-is_at_or_before-clause-name c = λ all same.
    names_alike all c.args.self.now same c.args.function.now c.args.place c.args.map.now.stated.names
    (Some (named c.in_ok-named.named)) _ c.in_ok-named.ensures.decides
    (ap (λ b. name_by c.args.map.now.stated.names c.args.function.now (cond b (Some (named c.in_ok-named.named)) None))
    (sym c.if-is_at_or_before.false ∙ c.is_at_or_before.ensures))
