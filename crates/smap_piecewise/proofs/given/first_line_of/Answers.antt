use Rattle.std.proofs.Common.{arith, refl}
use Rattle.std.proofs.lemmas.List.{take_rest}
use Rattle.smap_piecewise.proofs.GivenLaws.{all_open, ends_behind, ends_nowhere}
use Rattle.smap_piecewise.proofs.given.first_line_of.Goals as goal

pub returns-in-Some : goal.returns-in-Some
returns-in-Some c =
    let rest = take_rest c.args.text.now c.args.searched in
    let found = rw rest at c.in-Some.ensures in
    ends_behind c.args.text.now c.args.searched c.requires.within c.requires.none c.in-Some.place (omega (arith, found.0.high)) found.1
    (λ i below here. found.0.before i (omega arith) below here)

pub returns-in-None : goal.returns-in-None
returns-in-None c =
    let rest = take_rest c.args.text.now c.args.searched in
    let never = rw rest at c.in-None.ensures in
    all_open c.args.text.now _ refl
    (ends_nowhere c.args.text.now c.args.searched c.requires.within c.requires.none (λ i within here. never i (omega arith) within here))
