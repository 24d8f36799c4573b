-- A handle of names of functions may go to another thread, as the map and the declarations in it may.
use denote.Param.Send.{IsSend, struct_send, recorded_send}
use denote.Struct.Declared.{shape}
use Rattle.smap_store.proofs.shared_declarations.SharedDeclarations.TheSendSync as declarations
use Rattle.smap_record.proofs.shared_map.SharedMap.TheSendSync as shared_map
use Rattle.smap_c.specs.contracts.handles.NamesHandle.{the_row}
use Rattle.smap_c.specs.contracts.names.NamedFunctions as named_functions
use Rattle.smap_c.proofs.Holders.{names}
use Rattle.smap_c.proofs.Sending.{handle_send}

named_send : IsSend named_functions.the_row
named_send = recorded_send named_functions.the_field.row _ _ named_functions.the_type.to_one
    (struct_send (shape named_functions.the_type) (shared_map.the_send, (declarations.the_send, tt)))

pub send : IsSend the_row
send = handle_send names named_send
