use Rattle.std.proofs.Common.{◌++◌, take, arith}
use Rattle.std.proofs.lemmas.Grind.{common_steps}
use Rattle.smap_io.proofs.transfer.read_all.Goals as goal

-- what came before, and the piece for which no memory was left
pub returns-then-is_err-clause-front : goal.returns-then-is_err-clause-front
returns-then-is_err-clause-front g c = (
  c.loop-room.bytes.items ++ take c.in-Ok.count c.read.new.room,
  grind (arith, common_steps),
  grind (arith, common_steps),
)
