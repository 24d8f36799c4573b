use Rattle.std.proofs.Common.{arith, sym}
use Rattle.smap_declarations.proofs.KeyLaws.{higher_key, lower_key, same_key}
use Rattle.smap_declarations.proofs.order.keyed_order.Goals as goal

pub returns-then-key-other : goal.returns-then-key-other
returns-then-key-other c =
    sym (lower_key c.args.first.now c.args.second.now c.args.key c.args.other c.requires.first c.requires.second c.if-key-other.true)

pub returns-then-other-key : goal.returns-then-other-key
returns-then-other-key c =
    sym (higher_key c.args.first.now c.args.second.now c.args.key c.args.other c.requires.first c.requires.second c.if-other-key.true)

pub returns-then-first-le-KEY_BYTES : goal.returns-then-first-le-KEY_BYTES
returns-then-first-le-KEY_BYTES c =
    sym (same_key c.args.first.now c.args.second.now c.args.key c.args.other c.requires.first c.requires.second (omega arith)
    c.if-first-second.true c.if-first-le-KEY_BYTES.true)
