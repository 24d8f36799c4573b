-- A handle of a rewriting may go to another thread.
use denote.Param.Send.{IsSend}
use Rattle.smap_piecewise.proofs.rewriting.Rewriting.TheSendSync as held
use Rattle.smap_c.specs.contracts.handles.RewritingHandle.{the_row}
use Rattle.smap_c.proofs.Holders.{rewriting}
use Rattle.smap_c.proofs.Sending.{handle_send}

pub send : IsSend the_row
send = handle_send rewriting held.the_send
