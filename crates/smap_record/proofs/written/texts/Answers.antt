use Rattle.std.proofs.Common.{◌++◌, ◌∷◌, [], List, map, string_bytes, subst, sym, ap, ◌∙◌}
use Rattle.serde_json.specs.Data.{string}
use Rattle.serde_json.specs.declared.value.Value.{Value}
use Rattle.smap_record.proofs.EachLaws.{walk_end, walk_next}
use Rattle.smap_record.proofs.ValueLaws.{AreValuesOf, array_of, one_more}
use Rattle.smap_record.proofs.written.texts.Goals as goal

pub loop-text-preserved : goal.loop-text-preserved
loop-text-preserved c =
    let before = c.loop-text.yielded in
    record {
      texts = walk_next before c.in-Some.text _ _ _ c.in-Some.ensures.steps.0 c.loop-text.invariant.texts;
      values = subst (λ values. AreValuesOf string_bytes string values (before ++ c.in-Some.text ∷ [])) (sym {A = List Value} c.in_ok-push.ensures.items)
          (one_more string_bytes string c.loop-text.values.items c.text_value.result before c.in-Some.text c.text_value.ensures c.loop-text.invariant.values);
    }

pub returns : goal.returns
returns c =
    array_of string c.loop-text.values (map string_bytes c.args.texts.items)
    (c.loop-text.invariant.values ∙ ap (λ texts. map string (map string_bytes texts))
    (walk_end c.loop-text.yielded c.args.texts.items c.loop-text.text-iterator c.in-None.ensures.steps.0 c.loop-text.invariant.texts))
