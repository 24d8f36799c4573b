use Rattle.std.proofs.Common.{◌++◌, ◌∷◌, [], List, map, subst, sym, ap, ◌∙◌}
use Rattle.smap_record.specs.Sources.{StatedSource, source_of}
use Rattle.smap_record.specs.Written.{content_of_source, text_of_source, value_of_text}
use Rattle.serde_json.specs.declared.value.Value.{Value}
use Rattle.smap_record.proofs.EachLaws.{walk_end, walk_next}
use Rattle.smap_record.proofs.ValueLaws.{AreValuesOf, one_more}
use Rattle.smap_record.proofs.written.source_values.Goals as goal

pub loop-source-preserved : goal.loop-source-preserved
loop-source-preserved c =
    let before = c.loop-source.yielded in
    let so_far = before ++ c.in-Some.source ∷ [] in
    let name_of = λ (source : StatedSource). value_of_text (text_of_source source) in
    let content_of = λ (source : StatedSource). value_of_text (content_of_source source) in
    record {
      sources = walk_next before c.in-Some.source _ _ _ c.in-Some.ensures.steps.0 c.loop-source.invariant.sources;
      names = subst (λ values. AreValuesOf source_of name_of values so_far) (sym {A = List Value} c.in_ok-push.ensures.items)
          (one_more source_of name_of c.loop-source.names.items c.name_or_null.result before c.in-Some.source c.name_or_null.ensures c.loop-source.invariant.names);
      contents = subst (λ values. AreValuesOf source_of content_of values so_far) (sym {A = List Value} c.in_ok-push-2.ensures.items)
          (one_more source_of content_of c.loop-source.contents.items c.text_or_null.result before c.in-Some.source c.text_or_null.ensures c.loop-source.invariant.contents);
    }

pub returns-clause-names : goal.returns-clause-names
returns-clause-names c =
    c.loop-source.invariant.names ∙ ap (λ sources. map (λ (source : StatedSource). value_of_text (text_of_source source)) (map source_of sources))
    (walk_end c.loop-source.yielded c.args.sources.items c.loop-source.source-iterator c.in-None.ensures.steps.0 c.loop-source.invariant.sources)

pub returns-clause-contents : goal.returns-clause-contents
returns-clause-contents c =
    c.loop-source.invariant.contents ∙ ap (λ sources. map (λ (source : StatedSource). value_of_text (content_of_source source)) (map source_of sources))
    (walk_end c.loop-source.yielded c.args.sources.items c.loop-source.source-iterator c.in-None.ensures.steps.0 c.loop-source.invariant.sources)
