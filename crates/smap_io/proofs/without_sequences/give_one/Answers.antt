use Rattle.std.proofs.Common.{◌≡◌, ◌∙◌, ◌∷◌, sym}
use Rattle.smap_io.proofs.KeptLaws.{given_first}
use Rattle.smap_io.proofs.without_sequences.give_one.Goals as goal

pub returns-clause-gives : goal.returns-clause-gives
returns-clause-gives c =
    let held = c.args.held.now in
    let parts : held ≡ c.in-Some.first.now ∷ c.in-Some.behind.now = sym c.bytes.ensures ∙ c.in-Some.ensures.cases.0 in
    given_first held c.args.most c.args.room.now c.in-Some.first.now c.in-Some.behind.now c.leave.new.self parts c.requires.undecided.1
    c.requires.some c.leave.ensures
