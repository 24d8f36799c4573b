-- A handle of a table may go to another thread.
use denote.Param.Send.{IsSend}
use Rattle.smap_store.proofs.url_table.UrlTable.TheSendSync as held
use Rattle.smap_c.specs.contracts.handles.TableHandle.{the_row}
use Rattle.smap_c.proofs.Holders.{table}
use Rattle.smap_c.proofs.Sending.{handle_send}

pub send : IsSend the_row
send = handle_send table held.the_send
