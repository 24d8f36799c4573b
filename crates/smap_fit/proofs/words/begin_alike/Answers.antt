use Rattle.std.specs.Str.{chars}
use Rattle.smap_fit.proofs.WordLaws.{begin_otherwise}
use Rattle.smap_fit.proofs.words.begin_alike.Goals as goal

pub returns-then-a-b : goal.returns-then-a-b
returns-then-a-b c =
    begin_otherwise (chars c.args.first.now) (chars c.args.second.now) c.in-Some.a c.in-Some-split_character.b (chars c.in-Some.behind_a.now) (chars c.in-Some-split_character.behind_b.now)
    c.in-Some.ensures.chars c.in-Some-split_character.ensures.chars c.if-a-b.true
