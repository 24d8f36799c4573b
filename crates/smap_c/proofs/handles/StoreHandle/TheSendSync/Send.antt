-- A handle of a store of maps may go to another thread.
use denote.Param.Send.{IsSend}
use Rattle.smap_piecewise.proofs.kept_maps.KeptMaps.TheSendSync as held
use Rattle.smap_c.specs.contracts.handles.StoreHandle.{the_row}
use Rattle.smap_c.proofs.Holders.{store}
use Rattle.smap_c.proofs.Sending.{handle_send}

pub send : IsSend the_row
send = handle_send store held.the_send
