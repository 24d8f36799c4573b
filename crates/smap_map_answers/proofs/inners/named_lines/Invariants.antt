use Rattle.std.proofs.Common.{◌≡◌, ◌+◌, drop, length}
use Rattle.std.specs.Prelude.{Result}
use Rattle.std.specs.Str.Lines.{lines}
use Rattle.smap_locations.specs.Named.{Named}
use Rattle.smap_map_answers.specs.ComposeAll.{NamesLines}
use Rattle.smap_replies.specs.Outcome.{Report}
use Rattle.smap_map_answers.proofs.inners.named_lines.Given as goal

-- what the lines that are left come to after those so far, all of them come to
abbrev pub invariant-loop-line : goal.invariant-loop-line
invariant-loop-line l = record {
  number : l.number ≡ length l.yielded;
  names : (result : Result Named Report)
      → NamesLines l.outer.map.now.stated.sources l.list (l.number + 1) (drop (length l.yielded) (lines l.text)) l.named result
      → NamesLines l.outer.map.now.stated.sources l.list 1 (lines l.text) l.fn.named result;
}
