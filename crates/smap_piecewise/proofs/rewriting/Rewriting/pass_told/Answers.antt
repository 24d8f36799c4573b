use Rattle.std.proofs.Common.{Some, subst}
use Rattle.smap_piecewise.specs.Private.Rewriting.{rewriting_seen}
use Rattle.smap_piecewise.specs.Rewriting.{HasRun, RewritingNow}
use Rattle.smap_piecewise.proofs.RewritingLaws.{told_in_order, told_runs}
use Rattle.smap_piecewise.proofs.rewriting.Rewriting.pass_told.Goals as goal

pub invariant_of-self : goal.invariant_of-self
invariant_of-self c =
    told_in_order c.self.inside c.self.invariant c.in-Some.stripping c.take_from.new.stripping c.in-Some.is c.take_from.new.self c.take_from.ensures.takes
    c.take_from.ensures.sound

pub returns-in-Some-clause-goes : goal.returns-in-Some-clause-goes
returns-in-Some-clause-goes c =
    λ urls known. subst (λ (old : RewritingNow). HasRun urls known old
    (rewriting_seen (record c.self.inside { work = c.take_from.new.self; stripping = Some c.take_from.new.stripping }))) c.self.view_is
    (told_runs c.self.inside c.self.invariant c.in-Some.stripping c.take_from.new.stripping c.in-Some.is c.take_from.new.self c.take_from.ensures.takes
    c.take_from.ensures.sound urls known)
