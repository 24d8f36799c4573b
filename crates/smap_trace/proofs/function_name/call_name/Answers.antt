use Rattle.std.proofs.Common.{◌+◌, ◌-◌, arith, length, sym}
use Rattle.std.specs.List.{prefix_len}
use Rattle.smap_lines.specs.Bytes.{is_blank}
use Rattle.smap_trace.proofs.NameLaws.{range_none}
use Rattle.smap_trace.proofs.function_name.call_name.Goals as goal

-- no name stands behind the end
pub returns-then-start-end : goal.returns-then-start-end
returns-then-start-end c =
    sym (range_none (prefix_len is_blank c.args.head.now + 3) (length c.args.head.now - 2) c.args.head.now (omega arith))
