use Rattle.std.proofs.Common.{◌≡◌, ◌-◌, suc, length, sym, ◌∙◌, arith}
use Rattle.std.proofs.lemmas.Bool.{eqb-false}
use Rattle.smap_mappings.proofs.CleanNumbers.{unended_last}
use Rattle.smap_mappings.proofs.spelling.is_unended.Goals as goal

pub returns : goal.returns
returns c =
    let some = eqb-false (length c.args.segment.now) 0 (sym c.if-is_empty.ensures) in
    let last : length c.args.segment.now ≡ suc (length c.args.segment.now - 1) = omega (arith, some) in
    c.is_continuing.ensures ∙ sym (unended_last c.args.segment.now (length c.args.segment.now - 1) last)
