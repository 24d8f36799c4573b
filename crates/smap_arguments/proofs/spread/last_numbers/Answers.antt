use Rattle.std.proofs.Common.{◌≡◌, ◌∙◌, None, Some, ap, option_map, rules, sym}
use Rattle.smap_arguments.specs.Spread.{numbers_of}
use Rattle.smap_arguments.proofs.SpreadLaws.{numbers_next, numbers_on}
use Rattle.smap_arguments.proofs.spread.last_numbers.Goals as goal

pub loop-left-preserved : goal.loop-left-preserved
loop-left-preserved c =
    let none : numbers_of c.in-Some.rest.now ≡ None = search rules in
    let is : option_map (λ rest. rest.now) c.loop-left.left ≡ Some c.in-Some.rest.now = search rules in
    ap numbers_next c.behind_colon-left.ensures ∙ (sym (numbers_on c.in-Some.rest.now none) ∙ (ap numbers_next (sym is) ∙ c.loop-left.invariant))
