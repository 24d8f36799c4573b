use Rattle.std.proofs.Common.{arith, length, ◌+◌}
use Rattle.std.proofs.lemmas.Bool.Decides.{nat_tests}
use Rattle.smap_declarations.specs.Private.Found.{all_named}
use Rattle.smap_declarations.proofs.WaitingLaws.{all_opened_by, others_pass_by, waits_further}
use Rattle.smap_declarations.proofs.bodies.Bodies.pass.Goals as goal

pub returns-in-123-clause-ended : goal.returns-in-123-clause-ended
returns-in-123-clause-ended c = λ text.
    all_opened_by c.args.level (length c.args.found.now.items) c.args.place c.args.byte text c.args.self.now (all_named c.args.found.now.items)
    c.requires.order c.in-123.is

pub returns-in-123-clause-order : goal.returns-in-123-clause-order
returns-in-123-clause-order c =
    waits_further c.args.level (c.args.level + 1) (length c.args.found.now.items) c.args.self.now (omega arith) c.requires.order

pub returns-in_default-clause-ended : goal.returns-in_default-clause-ended
returns-in_default-clause-ended c = λ text.
    others_pass_by c.args.level (length c.args.found.now.items) c.args.place c.args.byte text c.args.self.now (all_named c.args.found.now.items)
    c.requires.order (grind (arith, nat_tests, c.in_default)) (grind (arith, nat_tests, c.in_default))
