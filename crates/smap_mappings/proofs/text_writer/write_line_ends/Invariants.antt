use Rattle.std.proofs.Common.{◌≡◌, ◌++◌, replicate}
use Rattle.smap_mappings.proofs.text_writer.write_line_ends.Given as goal

-- as many as were counted are written
abbrev pub invariant-loop : goal.invariant-loop
invariant-loop l = l.out.items ≡ l.fn.out.items ++ replicate l.counter 59
