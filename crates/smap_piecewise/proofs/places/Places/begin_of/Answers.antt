use Rattle.std.proofs.Common.{ap, sym, take, true, ◌∙◌}
use Rattle.smap_anywhere.specs.NamedParts.{begin_at}
use Rattle.smap_piecewise.proofs.PlacePartsLaws.{begin_again}
use Rattle.smap_piecewise.proofs.places.Places.begin_of.Goals as goal

pub returns-clause-again : goal.returns-clause-again
returns-clause-again c =
    let text = take c.args.self.now.chunk c.args.self.now.given in
    let begin = c.begin_of_part.ensures
    ∙ ap (λ t. begin_at true (take c.args.self.now.chunk t) c.args.self.now.from c.args.span.now) c.bytes.ensures in
    begin ∙ sym (begin_again text c.args.self.now.from c.args.span.now c.requires.next) ∙ ap (λ n. begin_at true text n c.args.span.now) (sym begin)
