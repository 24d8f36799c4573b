use Rattle.std.proofs.Common.{sym, ◌∙◌}
use Rattle.smap_fit.proofs.OwnerLaws.{no_owner, owner_is}
use Rattle.smap_fit.proofs.owners.Owners.owner.Goals as goal

pub returns-then-from-line-clause-value : goal.returns-then-from-line-clause-value
returns-then-from-line-clause-value c =
    c.source_of.ensures ∙ sym (owner_is c.args.line c.args.column _ _ _ c.requires.ordered c.requires.done c.requires.next c.requires.last (sym c.from.ensures ∙ c.if-from-line.true))

pub returns-else-from-line-clause-value : goal.returns-else-from-line-clause-value
returns-else-from-line-clause-value c =
    sym (no_owner c.args.line c.args.column _ _ _ c.requires.ordered c.requires.done c.requires.next (λ e. c.if-from-line.false (c.from.ensures ∙ e)))
