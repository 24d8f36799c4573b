use Rattle.std.proofs.Common.{◌≡◌, List, ℕ, subst, sym}
use Rattle.std.specs.Prelude.{IfOk}
use Rattle.std.proofs.lemmas.Result.{IfOk-weaker}
use Rattle.smap_index.specs.LineStarts.{line_starts}
use Rattle.smap_index.proofs.LineStartLaws.{marked_are, usable}
use Rattle.smap_index.proofs.IndexLaws.{index_in_order}
use Rattle.smap_index.proofs.index.Index.line_starts.Goals as goal

pub of-requires : goal.of-requires
of-requires c = index_in_order _ c.self.invariant

pub returns-clause-starts : goal.returns-clause-starts
returns-clause-starts c =
    subst (λ (lines : List ℕ). IfOk c.of.result (λ made. made ≡ line_starts lines)) (sym (marked_are _ c.self.invariant _ c.self.view_is)) c.of.ensures

pub returns-clause-usable : goal.returns-clause-usable
returns-clause-usable c =
    IfOk-weaker c.of.result _ _ (λ starts is. usable _ starts is)
    (subst (λ (lines : List ℕ). IfOk c.of.result (λ made. made ≡ line_starts lines)) (sym (marked_are _ c.self.invariant _ c.self.view_is)) c.of.ensures)
