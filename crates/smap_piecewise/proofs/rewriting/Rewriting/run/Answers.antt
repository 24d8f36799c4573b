use Rattle.std.proofs.Common.{subst}
use Rattle.smap_piecewise.specs.Known.{with_declared}
use Rattle.smap_piecewise.specs.Private.Rewriting.{rewriting_seen}
use Rattle.smap_piecewise.specs.Rewriting.{HasRun, RewritingNow}
use Rattle.smap_piecewise.proofs.RewritingLaws.{ran_in_order, ran_runs, runs_twice}
use Rattle.smap_piecewise.proofs.rewriting.Rewriting.run.Goals as goal

pub returns-in_err-pass_told-clause-goes : goal.returns-in_err-pass_told-clause-goes
returns-in_err-pass_told-clause-goes g c =
    c.in_err-pass_told.ensures.goes (g.U.KnownUrls.known c.args.urls.now) (with_declared (g.K.KnownMaps.known c.args.maps.now) (g.K.KnownMaps.declared c.args.maps.now))

pub invariant_of-self : goal.invariant_of-self
invariant_of-self g c =
    ran_in_order c.self.inside c.self.invariant (g.U.KnownUrls.known c.args.urls.now) (with_declared (g.K.KnownMaps.known c.args.maps.now) (g.K.KnownMaps.declared c.args.maps.now)) c.run.new.self c.run.ensures.goes
    c.run.ensures.few

pub returns-clause-goes : goal.returns-clause-goes
returns-clause-goes g c =
    let urls = g.U.KnownUrls.known c.args.urls.now in
    let known = with_declared (g.K.KnownMaps.known c.args.maps.now) (g.K.KnownMaps.declared c.args.maps.now) in
    runs_twice urls known c.args.self.now c.close.new.self _
    (runs_twice urls known c.args.self.now c.pass_told.new.self c.close.new.self (c.pass_told.ensures.goes urls known) (c.close.ensures.goes urls known))
    (subst (λ (old : RewritingNow). HasRun urls known old (rewriting_seen (record c.self.inside { work = c.run.new.self }))) c.self.view_is
    (ran_runs c.self.inside c.self.invariant urls known c.run.new.self c.run.ensures.goes))
