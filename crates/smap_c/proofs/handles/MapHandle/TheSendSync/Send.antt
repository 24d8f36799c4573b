-- A handle of a map may go to another thread.
use denote.Param.Send.{IsSend}
use Rattle.smap_record.proofs.shared_map.SharedMap.TheSendSync as held
use Rattle.smap_c.specs.contracts.handles.MapHandle.{the_row}
use Rattle.smap_c.proofs.Holders.{map}
use Rattle.smap_c.proofs.Sending.{handle_send}

pub send : IsSend the_row
send = handle_send map held.the_send
