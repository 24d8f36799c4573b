use Rattle.std.proofs.Common.{◌∙◌, sym}
use Rattle.smap_pairs.proofs.BareLaws.{bare_has}
use Rattle.smap_pairs.proofs.whole_frame.has_map.Goals as goal

pub returns-then-is_bare_before : goal.returns-then-is_bare_before
returns-then-is_bare_before g c = λ has.
    bare_has (g.K.KnownUrls.known c.args.known.now) c.args.text.now c.args.start c.args.pair.now c.requires.start
    (sym c.is_bare_before.ensures ∙ c.if-is_bare_before.true) (sym c.has_any.ensures ∙ has)
