use Rattle.std.proofs.Common.{◌≡◌, ap, arith, sym, ◌∙◌}
use Rattle.std.proofs.lemmas.List.{nil_from_length}
use Rattle.smap_pairs.specs.Colours.{colour_from}
use Rattle.smap_pairs.proofs.ColoursLaws.{none_left, text_ends}
use Rattle.smap_pairs.proofs.colours.colour_behind.Goals as goal

pub returns-in_err-byte-2-clause-colour : goal.returns-in_err-byte-2-clause-colour
returns-in_err-byte-2-clause-colour c =
    c.from_residual-in_err-byte-2.ensures ∙ sym (text_ends c.loop-many.size c.loop-many.many)
    ∙ ap (colour_from c.loop-many.size c.loop-many.many) (sym (nil_from_length c.loop-many.rest.now c.in_err-byte-2.ensures.cases)) ∙ c.loop-many.invariant.rest

pub returns-clause-colour : goal.returns-clause-colour
returns-clause-colour c =
    let many : 0 ≡ c.loop-many.many = omega (arith, c.loop-many-test.false) in
    sym (none_left c.loop-many.size c.loop-many.rest.now) ∙ ap (λ n. colour_from c.loop-many.size n c.loop-many.rest.now) many ∙ c.loop-many.invariant.rest
