use Rattle.std.proofs.Common.{◌≡◌, ◌++◌, ◌∙◌, ℕ, List, [], ap, arith, cond, get_or, length, take}
use Rattle.std.specs.Borrow.{Bor}
use Rattle.smap_piecewise.proofs.AppendLaws.{appended, taken_back}
use Rattle.smap_piecewise.proofs.appended.append_all.Goals as goal

pub returns-then-is_err-clause-memory : goal.returns-then-is_err-clause-memory
returns-then-is_err-clause-memory c =
    let old = c.loop-piece.output.items in
    let next = (get_or c.args.pieces.now c.loop-piece.piece-index (record { ref_ptr = (0, 0); now = [] })).now in
    let kept : c.extend_from_slice.new.self.items ≡ old =
    c.extend_from_slice.ensures.items ∙ ap (λ b. cond b (old ++ next) old) c.if-is_err.ensures.negation in
    let len : c.len-len.result ≡ length c.args.output.now.items = omega (arith, c.len-len.ensures, c.args.output.now.ok.0) in
    c.truncate.ensures.items ∙ ap (λ l. take c.len-len.result l) kept ∙ ap (λ n. take n old) len
    ∙ taken_back c.args.output.now.items old _ c.loop-piece.invariant

pub loop-piece-preserved : goal.loop-piece-preserved
loop-piece-preserved c =
    let old = c.loop-piece.output.items in
    let none : Bor (List ℕ) = record { ref_ptr = (0, 0); now = [] } in
    let next = (get_or c.args.pieces.now c.loop-piece.piece-index none).now in
    appended c.args.output.now.items old c.extend_from_slice.new.self.items c.args.pieces.now c.loop-piece.piece-index none
    c.loop-piece-test.true c.loop-piece.invariant
    (c.extend_from_slice.ensures.items ∙ ap (λ b. cond b (old ++ next) old) c.if-is_err.ensures.negation)
