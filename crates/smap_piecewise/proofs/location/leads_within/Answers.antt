use Rattle.std.proofs.Common.{rules, tests}
use Rattle.std.proofs.lemmas.Iterator.Search.{all_from_yields_List}
use Rattle.std.proofs.lemmas.Iterator.Splits.{YieldsList-from_slice_split}
use Rattle.smap_locations.specs.Patterns.{is_separator}
use Rattle.smap_piecewise.specs.Location.{is_inside}
use Rattle.smap_piecewise.proofs.location.leads_within.Goals as goal

pub returns : goal.returns
returns c =
    all_from_yields_List is_inside _ _ c.all.result c.all.ensures.ran
    (YieldsList-from_slice_split _ is_separator c.args.path.now c.split.ensures.rest c.split.ensures.done c.split.ensures.closure (λ x b q k. search (rules, tests)))
    (λ x b q k. search (rules, tests))
