use Rattle.std.proofs.Common.{◌≡◌, ◌++◌, ◌∷◌, [], sym, ap, ◌∙◌}
use Rattle.smap_trace.specs.Cuts.{without_last}
use Rattle.smap_trace.proofs.CutLaws.{last_is, last_is_other}
use Rattle.smap_trace.proofs.cuts.without_last.Goals as goal

pub returns-then-last-byte : goal.returns-then-last-byte
returns-then-last-byte c =
    let front = c.in_ok-last.front.now in
    let whole : c.args.text.now ≡ front ++ c.args.byte ∷ [] = c.in_ok-last.ensures.cases.0 ∙ ap (λ b. front ++ b ∷ []) c.if-last-byte.true in
    sym (ap (without_last c.args.byte) whole ∙ last_is c.args.byte front)

pub returns-else-last-byte : goal.returns-else-last-byte
returns-else-last-byte c =
    sym (ap (without_last c.args.byte) c.in_ok-last.ensures.cases.0
    ∙ last_is_other c.args.byte c.in_ok-last.last.now c.in_ok-last.front.now c.if-last-byte.false)
