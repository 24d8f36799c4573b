-- A handle of a finder of URLs may go to another thread.
use denote.Param.Send.{IsSend}
use Rattle.smap_anywhere.proofs.url_finder.UrlFinder.TheSendSync as held
use Rattle.smap_c.specs.contracts.handles.UrlFinderHandle.{the_row}
use Rattle.smap_c.proofs.Holders.{finder}
use Rattle.smap_c.proofs.Sending.{handle_send}

pub send : IsSend the_row
send = handle_send finder held.the_send
