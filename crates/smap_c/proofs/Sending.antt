-- A handle may go to another thread, where what it holds may: what it owns says the same to each.
use Rattle.std.proofs.Common.{Option, None, Some}
use mir.Raw.{raw}
use base.Fraction.{full_share}
use base.Shift.{Keyless}
use denote.RattleType.{RattleType}
use denote.Memory.{lone}
use denote.Param.Send.{IsSend, owning_send, part_keyless, sendable}
use denote.RawPtr.{Ptr, block_ptr, null_ptr}
use Rattle.std.proofs.Crossing.{frees}
use Rattle.std.specs.Box.Ownership.{box_owns}
use Rattle.std.specs.declared.alloc.Global.{Global}
use Rattle.smap_c.specs.Owned.{chunk, owns_held}
use Rattle.smap_c.proofs.Walks.{Kind, B, the_type}

abbrev heap : Global
heap = record { memory = record { seal = tt } }

-- the value at a pointer, with the right to free it, which any thread may
box_keyless : (R : RattleType) → IsSend R → (p : Ptr) (x : R.Denot) → Keyless (box_owns chunk R p x)
box_keyless R s (block_ptr b o) x = (part_keyless R s full_share x b o, frees.frees heap (raw (lone R.mir)) (block_ptr b o))
box_keyless R s null_ptr x = (tt, frees.frees heap (raw (lone R.mir)) null_ptr)

held_keyless : (R : RattleType) → IsSend R → (p : Ptr) (held : Option R.Denot) → Keyless (owns_held R p held)
held_keyless R s p None = tt
held_keyless R s p (Some x) = box_keyless R s p x

pub handle_send : (N : Kind) → IsSend N.R → IsSend (B N)
handle_send N s = owning_send (the_type N) (search sendable, tt) (λ d. held_keyless N.R s (N.at d) (N.held d)) (λ k d w. tt)
