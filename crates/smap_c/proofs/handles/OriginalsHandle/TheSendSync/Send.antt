-- A handle of originals may go to another thread.
use denote.Param.Send.{IsSend}
use Rattle.smap_originals.proofs.originals.Originals.TheSendSync as held
use Rattle.smap_c.specs.contracts.handles.OriginalsHandle.{the_row}
use Rattle.smap_c.proofs.Holders.{originals}
use Rattle.smap_c.proofs.Sending.{handle_send}

pub send : IsSend the_row
send = handle_send originals held.the_send
