use Rattle.std.proofs.Common.{◌≡◌, length, take}
use Rattle.std.specs.Str.Lines.{lines}
use Rattle.smap_store.specs.MapList.{AreTaken}
use Rattle.smap_store.proofs.list.add_list.Given as goal

-- the lines so far are taken
abbrev pub invariant-loop-line : goal.invariant-loop-line
invariant-loop-line l = record {
  number : l.number ≡ length l.yielded;
  taken : AreTaken l.exact (take (length l.yielded) (lines l.text)) l.initial.locations l.locations;
}
