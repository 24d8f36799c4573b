use Rattle.std.specs.Prelude.{take}
use Rattle.std.specs.List.{flat_map}
use Rattle.smap_printing.specs.Sources.{printed_row}
use Rattle.smap_printing.proofs.sources.put_rows.Given as goal

-- the lines for the rows so far were put
abbrev pub invariant-loop-row : goal.invariant-loop-row
invariant-loop-row g l = g.O.Output.Puts l.initial.output l.output (flat_map (printed_row l.form l.map.stated) (take l.row-index l.rows))
