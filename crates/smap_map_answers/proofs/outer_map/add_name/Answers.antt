use Rattle.std.proofs.Common.{sym}
use Rattle.std.proofs.Math.Bool.{or-false}
use Rattle.smap_map_answers.specs.Private.OuterMap.{is_among}
use Rattle.smap_map_answers.proofs.NamesLaws.{name_added}
use Rattle.smap_map_answers.proofs.outer_map.add_name.Goals as goal

pub returns-in-None : goal.returns-in-None
returns-in-None c = λ text. rw c.in-None.is (sym (or-false (is_among c.args.names.now text)))

pub returns-in_ok-insert-in-Some : goal.returns-in_ok-insert-in-Some
returns-in_ok-insert-in-Some c = λ text.
    rw c.in-Some.is (name_added c.args.names.now c.insert.new.self c.in-Some.name c.in_ok-insert-in-Some.ensures.updates text)
