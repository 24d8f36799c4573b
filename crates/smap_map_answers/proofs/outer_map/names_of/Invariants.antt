use Rattle.smap_map_answers.proofs.NamesLaws.{AreSome}
use Rattle.smap_map_answers.proofs.outer_map.names_of.Given as goal

-- the names of the sources so far are there
abbrev pub invariant-loop-i : goal.invariant-loop-i
invariant-loop-i l = AreSome l.map.stated.sources l.names l.i
