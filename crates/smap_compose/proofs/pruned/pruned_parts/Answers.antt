use Rattle.std.proofs.Common.{◌≡◌, ◌++◌, List, length, map, take, drop, refl, sym, ap, ◌∙◌}
use Rattle.std.specs.Prelude.{bytes_eq}
use Rattle.std.proofs.lemmas.List.{length-map}
use Rattle.smap_mappings.specs.declared.mapping.Mapping.{Mapping}
use Rattle.smap_compose.specs.Pruned.{is_name_used, is_same_source, is_source_used}
use Rattle.smap_compose.specs.Private.Keys.{mapping_moved_to}
use Rattle.smap_compose.specs.Private.Left.{AreLeft, those_marked}
use Rattle.smap_compose.specs.declared.listing.Listing.{Listing}
use Rattle.smap_compose.specs.declared.left.Places.{Places}
use Rattle.smap_compose.specs.Private.Listing.{lent_source, lent_text}
use Rattle.smap_compose.proofs.MovedLaws.{written_over}
use Rattle.smap_compose.proofs.PartsLaws.{ArePartsLeft, left_at, moved_at, parts_left}
use Rattle.smap_compose.proofs.pruned.pruned_parts.Goals as goal

pub returns : goal.returns
returns c =
    let list : List Mapping = c.args.whole.mappings.items in
    let listing : Listing = c.args.whole.listing in
    let sources : Places = c.in_ok-left.left.sources in
    let names : Places = c.in_ok-left.left.names in
    let list_is : c.deref.result.now ≡ list = c.deref.ensures.value in
    let listed_sources : c.deref-2.result.now ≡ listing.sources.items = c.deref-2.ensures.value in
    let listed_names : c.deref-3.result.now ≡ listing.names.items = c.deref-3.ensures.value in
    let sources_left : AreLeft is_same_source (is_source_used list) (map lent_source listing.sources.items) sources.places.items sources.stays.items =
    left_at (ap is_source_used list_is) (ap (map lent_source) listed_sources) c.in_ok-left.ensures.sources in
    let names_left : AreLeft bytes_eq (is_name_used list) (map lent_text listing.names.items) names.places.items names.stays.items =
    left_at (ap is_name_used list_is) (ap (map lent_text) listed_names) c.in_ok-left.ensures.names in
    let written : List Mapping = c.move_origins.new.mappings in
    let moved_there : written ≡ map (mapping_moved_to c.deref-4.result.now c.deref-5.result.now) c.deref_mut.result.now = c.move_origins.ensures in
    let moved : written ≡ map (mapping_moved_to sources.places.items names.places.items) list =
    moved_there ∙ moved_at c.deref_mut.result.now list c.deref-4.result.now sources.places.items c.deref-5.result.now names.places.items
    c.deref_mut.ensures.value c.deref-4.ensures.value c.deref-5.ensures.value in
    let as_many : length written ≡ length list = ap length moved ∙ length-map list (mapping_moved_to sources.places.items names.places.items) in
    let left : List Mapping = take c.args.whole.mappings.len (written ++ drop (length written) list) in
    let left_is : left ≡ written = written_over list written c.args.whole.mappings.len as_many (ap length (sym list_is) ∙ c.deref.ensures.len) in
    let others : Listing = record { sources = c.in_ok-kept_entries.field-0; names = c.in_ok-kept_entries-2.field-0; file = listing.file } in
    let source_marks : c.deref-6.result.now ≡ sources.stays.items = c.deref-6.ensures.value in
    let name_marks : c.deref-7.result.now ≡ names.stays.items = c.deref-7.ensures.value in
    let sources_kept : others.sources.items ≡ those_marked sources.stays.items listing.sources.items =
    c.in_ok-kept_entries.ensures ∙ ap (λ marks. those_marked marks listing.sources.items) source_marks in
    let names_kept : others.names.items ≡ those_marked names.stays.items listing.names.items =
    c.in_ok-kept_entries-2.ensures ∙ ap (λ marks. those_marked marks listing.names.items) name_marks in
    let parts : ArePartsLeft list listing left others =
    parts_left list listing sources names sources_left names_left c.requires.within c.requires.few_sources c.requires.few_names
    left others (left_is ∙ moved) sources_kept names_kept refl in
    record {
      pruned = parts.are_pruned;
      fit = record {
        no_fault =
            c.lists_in_order_have_no_fault.ensures.within left (length others.sources.items) (length others.names.items)
            (parts.order ((c.lists_in_order_have_no_fault.ensures.exact list).0 c.requires.no_fault).0) parts.within;
        within = parts.within;
        few_sources = parts.few_sources;
        few_names = parts.few_names;
      };
    }
