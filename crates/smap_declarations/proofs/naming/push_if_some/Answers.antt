use Rattle.std.proofs.Common.{arith, ap, sym, ◌∙◌, ◌++◌}
use Rattle.std.specs.Prelude.{option_map, option_to_list}
use Rattle.smap_declarations.specs.Private.Found.{all_named, named_until}
use Rattle.smap_declarations.specs.Private.Waiting.{with_ends}
use Rattle.smap_declarations.proofs.WaitingLaws.{pushed, pushed_waits}
use Rattle.smap_declarations.proofs.naming.push_if_some.Goals as goal

pub returns-in_ok-push-2-clause-found : goal.returns-in_ok-push-2-clause-found
returns-in_ok-push-2-clause-found c = λ ends.
    pushed ends c.args.level c.len.result c.args.bodies.now _ c.args.found.now.items _ c.in-Some.name
    c.requires (omega (arith, c.len.ensures, c.args.found.now.ok)) c.in_ok-push.ensures c.in_ok-push-2.ensures.items
    ∙ ap (λ o. with_ends ends c.args.bodies.now (all_named c.args.found.now.items) ++ option_to_list (option_map (named_until (ends c.args.level)) o))
    (sym c.in-Some.is)

pub returns-in_ok-push-2-clause-order : goal.returns-in_ok-push-2-clause-order
returns-in_ok-push-2-clause-order c =
    pushed_waits c.args.level c.len.result c.args.bodies.now _ c.args.found.now.items _ c.in-Some.name
    c.requires (omega (arith, c.len.ensures, c.args.found.now.ok)) c.in_ok-push.ensures c.in_ok-push-2.ensures.items
