use Rattle.std.proofs.Common.{arith, ap, length, length-drop}
use Rattle.smap_piecewise.proofs.GivenLaws.{none_left}
use Rattle.smap_piecewise.proofs.given.Given.cut.Goals as goal

pub invariant_of-self : goal.invariant_of-self
invariant_of-self c =
    let rest = c.saturating_sub-self-inside.result in
    let size = length-drop c.self.inside.done c.self.inside.room.items in
    let all = ap length c.self.view_is in (
      omega (arith, c.saturating_sub-self-inside.ensures, size, all, c.requires, c.self.invariant.0),
      none_left c.args.count c.self.inside.searched rest c.self.inside.done c.self.inside.room.items (omega (arith, c.saturating_sub-self-inside.ensures))
          c.self.invariant.1,
    )
