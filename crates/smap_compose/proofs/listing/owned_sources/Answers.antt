use Rattle.std.proofs.Common.{◌++◌, ◌∷◌, [], map, sym, ap, ◌∙◌}
use Rattle.std.proofs.lemmas.List.{map-append}
use Rattle.smap_record.specs.Sources.{source_of}
use Rattle.smap_record.proofs.EachLaws.{walk_end, walk_next}
use Rattle.smap_compose.specs.LeftOut.{content_where}
use Rattle.smap_compose.specs.Private.Listing.{lent_source}
use Rattle.smap_compose.proofs.listing.owned_sources.Goals as goal

pub loop-source-preserved : goal.loop-source-preserved
loop-source-preserved c =
    let before = c.loop-source.yielded in
    let source = c.in-Some.source in
    let left = content_where c.args.without_contents in
    record {
      sources = walk_next before source _ _ _ c.in-Some.ensures.steps.0 c.loop-source.invariant.sources;
      owned = ap (map source_of) c.in_ok-push.ensures.items ∙ map-append source_of c.loop-source.owned.items (c.in_ok-owned_source.field-0 ∷ [])
          ∙ ap (λ owned. owned ++ source_of c.in_ok-owned_source.field-0 ∷ []) c.loop-source.invariant.owned
          ∙ ap (λ one. map left (map lent_source before) ++ one ∷ []) c.in_ok-owned_source.ensures
          ∙ sym (ap (map left) (map-append lent_source before (source ∷ [])) ∙ map-append left (map lent_source before) (lent_source source ∷ []));
    }

pub returns : goal.returns
returns c =
    c.loop-source.invariant.owned ∙ ap (λ sources. map (content_where c.args.without_contents) (map lent_source sources))
    (walk_end c.loop-source.yielded c.args.sources.items c.loop-source.source-iterator c.in-None.ensures.steps.0 c.loop-source.invariant.sources)
