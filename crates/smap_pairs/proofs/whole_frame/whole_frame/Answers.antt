use Rattle.std.proofs.Common.{◌≡◌, ◌∙◌, ◌∷◌, [], ap, length, subst, sym}
use Rattle.smap_pairs.specs.LinePlaces.{in_frame}
use Rattle.smap_pairs.specs.Pairs.{AreInOrder}
use Rattle.smap_pairs.proofs.NamedFrameLaws.{frame_alone}
use Rattle.smap_pairs.proofs.PairAtLaws.{at}
use Rattle.smap_pairs.proofs.whole_frame.whole_frame.Goals as goal

pub returns-then-has_map : goal.returns-then-has_map
returns-then-has_map g c =
    let known = g.K.KnownUrls.known c.args.known.now in
    let text = c.args.text.now in
    let start = c.in-Some.start in
    let end = c.in-Some.end in
    frame_alone known text start end c.in-Some-pair_at.pair (c.requires.url ∙ c.in-Some.is)
    (ap (at end) (sym c.requires.pairs) ∙ sym c.pair_at.ensures.pair ∙ c.in-Some-pair_at.is) (c.has_map.ensures c.if-has_map.true)
    (subst (AreInOrder 0 (length text)) c.requires.pairs c.requires.order)
    ∙ ap (λ span. in_frame 0 span ∷ []) (sym c.span_of.ensures) ∙ ap (λ span. span ∷ []) (sym c.in_frame.ensures)
