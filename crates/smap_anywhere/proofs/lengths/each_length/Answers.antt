use Rattle.std.proofs.Common.{◌≡◌, ap, arith, take, true, ◌∙◌}
use Rattle.std.proofs.lemmas.List.{take_all}
use Rattle.smap_pairs.specs.Known.{is_among}
use Rattle.smap_anywhere.proofs.lengths.each_length.Goals as goal

pub returns : goal.returns
returns c = λ bytes among.
    let all = c.args.all.now in
    let here : is_among (take c.loop-bytes.bytes-index all) bytes ≡ true =
    ap (λ l. is_among l bytes) (take_all c.loop-bytes.bytes-index all (omega (arith, c.loop-bytes-test.false))) ∙ among in
    c.loop-bytes.invariant bytes here
