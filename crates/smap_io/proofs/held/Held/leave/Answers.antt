use Rattle.std.proofs.Common.{◌≡◌, ◌≤◌, arith, length, slice_range, subst, sym}
use Rattle.smap_io.proofs.KeptLaws.{range_end}
use Rattle.smap_io.proofs.held.Held.leave.Goals as goal

pub returns : goal.returns
returns c =
    let inside = c.self.inside in
    let held : c.args.self.now ≡ slice_range inside.room inside.start inside.end = sym c.self.view_is in
    let few : c.args.left ≤ length (slice_range inside.room inside.start inside.end) = subst (λ l. c.args.left ≤ length l) held c.requires in
    rw held (sym (range_end inside.room inside.start inside.end c.args.left c.self.invariant.0 (omega arith) few))
