use Rattle.std.proofs.Common.{ap, option_map, sym, ◌∙◌}
use Rattle.std.specs.Prelude.{not}
use Rattle.smap_anywhere.specs.FunctionSeen.{function_seen}
use Rattle.smap_trace.specs.FunctionNames.{written_name}
use Rattle.smap_piecewise.specs.NamedMapSeen.{names_in}
use Rattle.smap_piecewise.specs.Private.PutPlace.{function_put}
use Rattle.smap_piecewise.proofs.PlacePartsLaws.{function_stays}
use Rattle.smap_piecewise.proofs.PutLaws.{head_alone, stays_for, undeclared}
use Rattle.smap_piecewise.proofs.put_place.function_put.Goals as goal

pub returns-in_default : goal.returns-in_default
returns-in_default c =
    let text = c.args.text.now in
    let span = c.args.span.now in
    head_alone _ ∙ function_stays text c.args.from span c.requires.here c.requires.within
    ∙ ap (λ found. function_put (names_in found) text c.args.from span) (sym c.in_default.is)

pub returns-then-is_none : goal.returns-then-is_none
returns-then-is_none c =
    let text = c.args.text.now in
    let span = c.args.span.now in
    let none = undeclared c.in-Some.found (c.is_none.ensures ∙ ap not c.if-is_none.true) in
    head_alone _ ∙ function_stays text c.args.from span c.requires.here c.requires.within
    ∙ ap (λ names. function_put names text c.args.from span) (sym none)
    ∙ ap (λ found. function_put (names_in found) text c.args.from span) (sym c.in-Some.is)

pub returns-in-None : goal.returns-in-None
returns-in-None c =
    let text = c.args.text.now in
    let span = c.args.span.now in
    let function = sym c.function_before.ensures ∙ ap (option_map function_seen) c.in-Some-function_before.is in
    let written = sym c.name_declared_beside.ensures ∙ ap (option_map (λ name. name.now)) c.in-None.is in
    head_alone _ ∙ function_stays text c.args.from span c.requires.here c.requires.within
    ∙ stays_for (names_in c.args.found) text c.args.from span _ function
    (ap (λ found. written_name (names_in found) c.in-Some-function_before.cut.name.now span.line span.column) c.in-Some.is ∙ written)
