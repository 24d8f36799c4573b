use Rattle.std.proofs.Common.{◌≡◌, take}
use Rattle.smap_declarations.specs.Private.Found.{all_named}
use Rattle.smap_declarations.proofs.declarations.listed.Given as goal

abbrev pub invariant-loop-name : goal.invariant-loop-name
invariant-loop-name l = l.list ≡ all_named (take l.name-index l.found)
