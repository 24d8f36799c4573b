use Rattle.std.proofs.Common.{◌≡◌, map, take}
use Rattle.smap_arguments.specs.Arguments.{texts}
use Rattle.smap_arguments.proofs.values.copied_texts.Given as goal

-- the texts so far are copied
abbrev pub invariant-loop-text : goal.invariant-loop-text
invariant-loop-text l = texts l.copies.items ≡ map (λ text. text.now) (take l.text-index l.given)
