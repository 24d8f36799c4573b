use Rattle.std.proofs.Common.{◌∷◌, [], List, ℕ, Option, String, Global, ap, arith, length, map, option_map, string_bytes, sym, ◌∙◌}
use Rattle.std.proofs.lemmas.List.{length-append, length-map, map-append}
use Rattle.smap_record.proofs.EachLaws.{walk_end, walk_next}
use Rattle.smap_record.specs.Private.Renamed.{with_text_at, with_texts}
use Rattle.smap_record.proofs.RenamedLaws.{source_more}
use Rattle.smap_record.proofs.named_sources.rename.Goals as goal

pub overflow_add-i : goal.overflow_add-i
overflow_add-i c =
    let so_far = c.loop-name.invariant in
    let all = ap length so_far.walked in
    let both = length-append c.loop-name.yielded c.loop-name.name-iterator.rest.items in
    let left = ap length c.in-Some.ensures.steps.0 in
    omega (arith, so_far.counted, all, both, left, c.requires)

pub loop-name-preserved : goal.loop-name-preserved
loop-name-preserved c =
    let before = c.loop-name.yielded in
    let name = c.in-Some.name in
    let so_far = c.loop-name.invariant in
    let old = c.args.map_file.now.stated.sources in
    let seen : Option (String Global) → Option (List ℕ) = option_map string_bytes in
    record {
      walked = walk_next before name _ _ _ c.in-Some.ensures.steps.0 so_far.walked;
      counted = omega (arith, so_far.counted, length-append before (name ∷ []));
      sources = c.rename_one.ensures.named ∙ ap (λ sources. with_text_at sources c.loop-name.i (seen name)) so_far.sources
          ∙ ap (λ n. with_text_at (with_texts (map seen before) old) n (seen name)) (so_far.counted ∙ sym (length-map before seen))
          ∙ sym (source_more (map seen before) (seen name) old)
          ∙ ap (λ texts. with_texts texts old) (sym (map-append seen before (name ∷ [])));
      parts = c.rename_one.ensures.parts ∙ so_far.parts;
      names = c.rename_one.ensures.names ∙ so_far.names;
      file = c.rename_one.ensures.file ∙ so_far.file;
      interval = c.rename_one.ensures.interval ∙ so_far.interval;
    }

pub returns-clause-named : goal.returns-clause-named
returns-clause-named c =
    c.loop-name.invariant.sources
    ∙ ap (λ names. with_texts (map (option_map string_bytes) names) c.args.map_file.now.stated.sources)
    (walk_end c.loop-name.yielded c.args.names.items c.loop-name.name-iterator c.in-None.ensures.steps.0 c.loop-name.invariant.walked)
