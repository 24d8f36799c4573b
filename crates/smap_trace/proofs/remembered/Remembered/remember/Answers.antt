use Rattle.std.proofs.Common.{ap, slice_get, ◌∙◌}
use Rattle.smap_trace.proofs.RememberedLaws.{answer_is}
use Rattle.smap_trace.proofs.remembered.Remembered.remember.Goals as goal

pub returns : goal.returns
returns c maps stated is origin right =
    let it = c.in-Some.ensures.number in
    c.put.ensures maps
    (answer_is maps c.grow.new.self.urls.items (record { url = c.in-Some.number; line = c.args.line; column = c.args.column; origin = c.args.origin }) it.known
    c.args.url.now stated (ap (λ l. slice_get l c.in-Some.number) c.grow.ensures.urls ∙ it.at) it.text is origin)
    (c.grow.ensures.right maps (c.number_of.ensures.right maps right))
