-- The handles, as the walks take them.
use Rattle.std.proofs.Common.{refl}
use Rattle.smap_record.specs.contracts.shared_map.SharedMap as shared_map
use Rattle.smap_anywhere.specs.contracts.url_finder.UrlFinder as url_finder
use Rattle.smap_originals.specs.contracts.originals.Originals as originals_index
use Rattle.smap_piecewise.specs.contracts.rewriting.Rewriting as text_rewriting
use Rattle.smap_piecewise.specs.contracts.kept_maps.KeptMaps as kept_maps
use Rattle.smap_store.specs.contracts.url_table.UrlTable as url_table
use Rattle.smap_c.specs.contracts.bytes.Bytes as handed
use Rattle.smap_c.specs.contracts.inners.Inners as inner_maps
use Rattle.smap_c.specs.contracts.names.NamedFunctions as named_functions
use Rattle.smap_c.specs.declared.handles.MapHandle.{MapHandle}
use Rattle.smap_c.specs.declared.handles.TableHandle.{TableHandle}
use Rattle.smap_c.specs.declared.handles.InnersHandle.{InnersHandle}
use Rattle.smap_c.specs.declared.handles.BytesHandle.{BytesHandle}
use Rattle.smap_c.specs.declared.handles.OriginalsHandle.{OriginalsHandle}
use Rattle.smap_c.specs.declared.handles.NamesHandle.{NamesHandle}
use Rattle.smap_c.specs.declared.handles.UrlFinderHandle.{UrlFinderHandle}
use Rattle.smap_c.specs.declared.handles.StoreHandle.{StoreHandle}
use Rattle.smap_c.specs.declared.handles.RewritingHandle.{RewritingHandle}
use Rattle.smap_c.specs.contracts.handles.MapHandle as map_handle
use Rattle.smap_c.specs.contracts.handles.TableHandle as table_handle
use Rattle.smap_c.specs.contracts.handles.InnersHandle as inners_handle
use Rattle.smap_c.specs.contracts.handles.BytesHandle as bytes_handle
use Rattle.smap_c.specs.contracts.handles.OriginalsHandle as originals_handle
use Rattle.smap_c.specs.contracts.handles.NamesHandle as names_handle
use Rattle.smap_c.specs.contracts.handles.UrlFinderHandle as url_finder_handle
use Rattle.smap_c.specs.contracts.handles.StoreHandle as store_handle
use Rattle.smap_c.specs.contracts.handles.RewritingHandle as rewriting_handle
use Rattle.smap_c.proofs.Walks.{Kind}

abbrev pub map : Kind
map = record {
  R = shared_map.the_row;
  name = map_handle.the_type.name;
  D = MapHandle;
  at = λ h. h.at;
  held = λ h. h.held;
  make = λ p o. record { at = p; held = o };
  eta = λ h. refl;
  at_made = λ p o. refl;
  held_made = λ p o. refl;
  codes = map_handle.the_codes;
}

abbrev pub table : Kind
table = record {
  R = url_table.the_row;
  name = table_handle.the_type.name;
  D = TableHandle;
  at = λ h. h.at;
  held = λ h. h.held;
  make = λ p o. record { at = p; held = o };
  eta = λ h. refl;
  at_made = λ p o. refl;
  held_made = λ p o. refl;
  codes = table_handle.the_codes;
}

abbrev pub inners : Kind
inners = record {
  R = inner_maps.the_row;
  name = inners_handle.the_type.name;
  D = InnersHandle;
  at = λ h. h.at;
  held = λ h. h.held;
  make = λ p o. record { at = p; held = o };
  eta = λ h. refl;
  at_made = λ p o. refl;
  held_made = λ p o. refl;
  codes = inners_handle.the_codes;
}

abbrev pub bytes : Kind
bytes = record {
  R = handed.the_row;
  name = bytes_handle.the_type.name;
  D = BytesHandle;
  at = λ h. h.at;
  held = λ h. h.held;
  make = λ p o. record { at = p; held = o };
  eta = λ h. refl;
  at_made = λ p o. refl;
  held_made = λ p o. refl;
  codes = bytes_handle.the_codes;
}

abbrev pub originals : Kind
originals = record {
  R = originals_index.the_row;
  name = originals_handle.the_type.name;
  D = OriginalsHandle;
  at = λ h. h.at;
  held = λ h. h.held;
  make = λ p o. record { at = p; held = o };
  eta = λ h. refl;
  at_made = λ p o. refl;
  held_made = λ p o. refl;
  codes = originals_handle.the_codes;
}

abbrev pub names : Kind
names = record {
  R = named_functions.the_row;
  name = names_handle.the_type.name;
  D = NamesHandle;
  at = λ h. h.at;
  held = λ h. h.held;
  make = λ p o. record { at = p; held = o };
  eta = λ h. refl;
  at_made = λ p o. refl;
  held_made = λ p o. refl;
  codes = names_handle.the_codes;
}

abbrev pub finder : Kind
finder = record {
  R = url_finder.the_row;
  name = url_finder_handle.the_type.name;
  D = UrlFinderHandle;
  at = λ h. h.at;
  held = λ h. h.held;
  make = λ p o. record { at = p; held = o };
  eta = λ h. refl;
  at_made = λ p o. refl;
  held_made = λ p o. refl;
  codes = url_finder_handle.the_codes;
}

abbrev pub store : Kind
store = record {
  R = kept_maps.the_row;
  name = store_handle.the_type.name;
  D = StoreHandle;
  at = λ h. h.at;
  held = λ h. h.held;
  make = λ p o. record { at = p; held = o };
  eta = λ h. refl;
  at_made = λ p o. refl;
  held_made = λ p o. refl;
  codes = store_handle.the_codes;
}

abbrev pub rewriting : Kind
rewriting = record {
  R = text_rewriting.the_row;
  name = rewriting_handle.the_type.name;
  D = RewritingHandle;
  at = λ h. h.at;
  held = λ h. h.held;
  make = λ p o. record { at = p; held = o };
  eta = λ h. refl;
  at_made = λ p o. refl;
  held_made = λ p o. refl;
  codes = rewriting_handle.the_codes;
}
