use Rattle.std.proofs.Common.{◌≤◌, ◌<◌, ◌+◌, ◌++◌, None, drop, length, map, option_map, sym, ap, ◌∙◌, arith, Vec, Global}
use Rattle.std.proofs.lemmas.List.{append-nil, append_assoc, drop_all, length-map}
use Rattle.smap_mappings.specs.Laws.Lists.{none_past}
use Rattle.smap_record.specs.Sources.{source_of}
use Rattle.smap_compose.specs.declared.listing.LentSource.{LentSource}
use Rattle.smap_compose.specs.Composition.{source_from, sources_below, sources_within}
use Rattle.smap_compose.specs.Inners.{stated_inners}
use Rattle.smap_compose.specs.Private.Listing.{lent_source}
use Rattle.smap_compose.proofs.ListedLaws.{called_alike, entries_counted, none_within, one_within, sources_counted}
use Rattle.smap_compose.proofs.PlacedLaws.{sources_from}
use Rattle.smap_compose.proofs.listed.all_sources.Goals as goal
use Rattle.smap_compose.proofs.listed.all_sources.Goals.{in-Some+in_ok-add_sources_below, in_default}

pub loop-i-init : goal.loop-i-init
loop-i-init c =
    let outer = c.args.outer.now.stated.sources in
    let inners = stated_inners c.args.inners.now in
    record {
      sources = ap (λ l. l ++ sources_within outer inners)
          (c.in_ok-add_sources.ensures ∙ ap (λ l. map lent_source l ++ map (source_from None) outer) c.new-sources.ensures.items ∙ called_alike outer);
      few = omega (arith, c.requires.few);
    }

pub loop-i-preserved : goal.loop-i-preserved
loop-i-preserved c =
    let outer = c.args.outer.now.stated.sources in
    let inners = c.args.inners.now in
    let i = c.loop-i.i in
    let inner = c.index-inners-i.result in
    let so_far = map lent_source c.loop-i.sources.items in
    let rest = sources_within (drop (i + 1) outer) (stated_inners (drop (i + 1) inners)) in
    elim c.match-source.branch [
      | in-Some+in_ok-add_sources_below w ↦
          let source = source_of w.in-Some.source.now in
          let below = sources_below source (option_map (λ inner. inner.now.stated) inner) in
          let split = one_within outer inners i source inner c.loop-i-test.true (sym w.in-Some.ensures) c.index-inners-i.is in
          record {
            sources =
                ap (λ (v : Vec LentSource Global). map lent_source v.items ++ rest) w.sources-is
                ∙ ap (λ l. l ++ rest) w.in_ok-add_sources_below.ensures
                ∙ append_assoc so_far below rest ∙ ap (λ l. so_far ++ l) (sym split) ∙ c.loop-i.invariant.sources;
            few = omega (arith, c.loop-i.invariant.few, sources_from inners i inner c.loop-i-test.true c.index-inners-i.is);
          }
      | in_default w ↦
          let inside : i < length outer = omega (arith, c.requires.inners, c.loop-i-test.true) in
          absurd (none_past outer i (sym w.in_default.ensures) inside)
    ]

pub returns-clause-sources : goal.returns-clause-sources
returns-clause-sources c =
    let outer = c.args.outer.now.stated.sources in
    let inners = c.args.inners.now in
    let made = map lent_source c.loop-i.sources.items in
    sym (append-nil made) ∙ ap (λ l. made ++ l) (sym (none_within (drop c.loop-i.i outer)))
    ∙ ap (λ l. made ++ sources_within (drop c.loop-i.i outer) (stated_inners l)) (sym (drop_all c.loop-i.i inners c.loop-i-test.false))
    ∙ c.loop-i.invariant.sources

pub returns-clause-counted : goal.returns-clause-counted
returns-clause-counted c =
    let outer = c.args.outer.now.stated.sources in
    let inners = stated_inners c.args.inners.now in
    let few : length inners ≤ length outer = omega (arith, length-map c.args.inners.now (option_map (λ inner. inner.now.stated)), c.requires.inners) in
    entries_counted lent_source c.loop-i.sources.items outer (sources_within outer inners) (returns-clause-sources c)
    ∙ ap (λ n. length outer + n) (sources_counted outer inners few)
