use Rattle.std.proofs.Common.{◌≡◌, Bool, Option, None, Some, true, false, refl}
use Rattle.std.specs.Prelude.{if◌then◌else◌, is_some}
use Rattle.smap_locations.specs.ByText.{value_under}
use Rattle.smap_locations.specs.Laws.ByText.{none_under}
use Rattle.smap_record.specs.Record.{MapRecord}
use Rattle.smap_trace.specs.Private.EntrySeen.{entry_seen}
use Rattle.smap_trace.specs.Table.{is_bad_url}
use Rattle.smap_trace.specs.declared.refusal.TableRefusal.TheVariants.{BadUrl, Twice}
use Rattle.smap_trace.proofs.table.Table.add_shared.Goals as goal

-- where neither refusal stands, there is none
free : (bad : Bool) (found : Option MapRecord) → (if bad then Some BadUrl else if is_some found then Some Twice else None) ≡ None → found ≡ None
free true found is = cc
free false None is = refl
free false (Some stated) is = cc

pub add-requires : goal.add-requires
add-requires c =
    let url = c.args.url.items in
    none_under entry_seen c.self.inside.maps c.args.self.now c.self.view_is url (free (is_bad_url url) (value_under url c.args.self.now) c.requires)
