use Rattle.std.proofs.Common.{[], ◌∷◌, ◌++◌, ap, ◌∙◌}
use Rattle.smap_mappings.specs.Canonical.{canonical_text}
use Rattle.smap_mappings.specs.Range.{is_mapping_past_limit}
use Rattle.smap_mappings.specs.State.{mapping_at}
use Rattle.smap_mappings.proofs.CountLaws.{decodes_start, decodes_more, decodes_all}
use Rattle.smap_mappings.proofs.AsItStandsLaws.{next_in_range}
use Rattle.smap_mappings.proofs.copied.write_anew.Goals as goal

pub loop-kind-init : goal.loop-kind-init
loop-kind-init c = record { list = []; decodes = decodes_start c.args.bytes.now; written = c.in_ok-writer.ensures }

pub push-requires-clause-in_range : goal.push-requires-clause-in_range
push-requires-clause-in_range c =
    let decodes = c.loop-kind.invariant.decodes in
    let next = c.in-Some.ensures.some decodes.j decodes.after in
    ap is_mapping_past_limit c.mapping.ensures
    ∙ next_in_range c.args.bytes.now decodes.j (mapping_at c.in-Some.kind c.in-Some.after) c.requires next.mapping_is

pub loop-kind-preserved : goal.loop-kind-preserved
loop-kind-preserved c =
    let so_far = c.loop-kind.invariant in
    let decodes = so_far.decodes in
    record {
      list = so_far.list ++ c.mapping.result ∷ [];
      decodes = decodes_more c.args.bytes.now c.loop-kind.at c.in-Some.after so_far.list _ (mapping_at c.in-Some.kind c.in-Some.after) decodes
          (c.in-Some.ensures.some decodes.j decodes.after) (ap (λ m. so_far.list ++ m ∷ []) c.mapping.ensures);
      written = c.in_ok-push.ensures so_far.list so_far.written;
    }

pub returns : goal.returns
returns c =
    let so_far = c.loop-kind.invariant in
    let decodes = so_far.decodes in
    c.into_text.ensures.text so_far.list so_far.written
    ∙ ap canonical_text (decodes_all c.args.bytes.now c.loop-kind.at so_far.list decodes (c.in_default.ensures.none decodes.j decodes.after))
