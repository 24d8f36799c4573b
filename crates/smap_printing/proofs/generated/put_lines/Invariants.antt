use Rattle.std.specs.Prelude.{take}
use Rattle.std.specs.List.{flat_map}
use Rattle.smap_printing.specs.Generated.{generated_line}
use Rattle.smap_printing.proofs.generated.put_lines.Given as goal

-- the lines for the mappings so far were put
abbrev pub invariant-loop-mapping : goal.invariant-loop-mapping
invariant-loop-mapping g l = g.O.Output.Puts l.initial.output l.output (flat_map (generated_line l.form l.map.stated) (take l.mapping-index l.mappings))
