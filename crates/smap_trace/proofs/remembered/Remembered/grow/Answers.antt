use Rattle.std.proofs.Common.{◌≡◌, ◌-◌, None, refl, subst, sym, true}
use Rattle.std.specs.List.{list_all}
use Rattle.std.specs.Result.{is_ok}
use Rattle.std.specs.Vec.{vec_len}
use Rattle.smap_trace.specs.Private.Remembered.{is_answer}
use Rattle.smap_trace.proofs.RememberedLaws.{right_grown}
use Rattle.smap_trace.proofs.remembered.Remembered.grow.Goals as goal

pub returns-clause-right : goal.returns-clause-right
returns-clause-right c maps right =
    let places = c.args.self.now.places in
    subst (λ l. list_all (is_answer maps c.args.self.now.urls.items) l ≡ true) (sym c.resize.ensures.items)
    (right_grown maps c.args.self.now.urls.items places.items (is_ok c.resize.result) c.max-more.result (c.max-more.result - vec_len places)
    (record { url = 0; line = 0; column = 0; origin = None }) refl right)
