use Rattle.std.proofs.Common.{not, ◌&&◌, ◌||◌, ◌+◌, refl, sym, ap, ◌∙◌, get_or, drop}
use Rattle.std.proofs.lemmas.List.{drop_all}
use Rattle.smap_mappings.specs.Needless.{has_none_needless, is_almost_canonical}
use Rattle.smap_mappings.proofs.CutEndLaws.{none_further}
use Rattle.smap_mappings.proofs.copied.is_almost_canonical.Goals as goal

pub loop-byte-init : goal.loop-byte-init
unfolding is_almost_canonical
loop-byte-init c = refl

pub loop-byte-preserved : goal.loop-byte-preserved
loop-byte-preserved c =
    let text = c.args.bytes.now in
    let i = c.loop-byte.byte-index in
    let found = c.loop-byte.has_needless in
    none_further (is_almost_canonical text) found text i c.loop-byte.before c.loop-byte-test.true c.loop-byte.invariant
    ∙ ap (λ needless. not (found || needless) && has_none_needless (get_or text i 0) (drop (i + 1) text)) (sym c.is_needless-has_needless.ensures)

pub returns : goal.returns
returns c =
    sym (c.loop-byte.invariant ∙ ap (λ rest. not c.loop-byte.has_needless && has_none_needless c.loop-byte.before rest)
    (drop_all c.loop-byte.byte-index c.args.bytes.now c.loop-byte-test.false))
