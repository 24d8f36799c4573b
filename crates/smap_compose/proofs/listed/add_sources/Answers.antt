use Rattle.std.proofs.Common.{◌<◌, ◌++◌, ◌∷◌, [], length, map, option_map, sym, ap, ◌∙◌, arith, Vec, Global}
use Rattle.std.specs.Prelude.{option_copied}
use Rattle.std.proofs.lemmas.List.{map-append}
use Rattle.smap_mappings.specs.Laws.Lists.{none_past}
use Rattle.smap_resolve.specs.SourceName.{name_of}
use Rattle.smap_record.specs.Sources.{source_of}
use Rattle.smap_compose.specs.declared.listing.LentSource.{LentSource}
use Rattle.smap_compose.specs.Composition.{source_from}
use Rattle.smap_compose.specs.Private.Listing.{lent_source}
use Rattle.smap_compose.proofs.ListLaws.{mapped_next}
use Rattle.smap_compose.proofs.listed.add_sources.Goals as goal
use Rattle.smap_compose.proofs.listed.add_sources.Goals.{in-Some+in_ok-lent_source+in_ok-push, in_default}

pub loop-i-preserved : goal.loop-i-preserved
loop-i-preserved c =
    let sources = c.args.map_file.now.stated.sources in
    let called = source_from (option_map name_of (option_copied c.args.outer)) in
    let so_far = c.loop-i.sources.items in
    let inside : c.loop-i.i < length sources = omega (arith, c.loop-i-test.true, c.sources-i-end.ensures) in
    elim c.match-source.branch [
      | in-Some+in_ok-lent_source+in_ok-push w ↦
          ap (λ (v : Vec LentSource Global). map lent_source v.items) w.sources-is
          ∙ ap (map lent_source) w.in_ok-push.ensures.items
          ∙ map-append lent_source so_far (w.in_ok-lent_source.field-0 ∷ [])
          ∙ ap (λ source. map lent_source so_far ++ source ∷ []) w.in_ok-lent_source.ensures
          ∙ mapped_next called (map lent_source c.args.sources.now.items) sources (map lent_source so_far) c.loop-i.i (source_of w.in-Some.source.now)
          c.loop-i.invariant (sym w.in-Some.ensures)
      | in_default w ↦ absurd (none_past sources c.loop-i.i (sym w.in_default.ensures) inside)
    ]
