use Rattle.std.proofs.Common.{[], ◌∷◌, ◌++◌, subst, sym, ap, ◌∙◌}
use Rattle.smap_mappings.specs.State.{mapping_at}
use Rattle.smap_mappings.proofs.Checking.{DecodesUpTo}
use Rattle.smap_mappings.proofs.CountLaws.{decodes_start, decodes_more, decodes_all}
use Rattle.smap_mappings.proofs.packed_text.decode_segments.Goals as goal

pub loop-kind-init : goal.loop-kind-init
loop-kind-init c = subst (DecodesUpTo c.args.bytes.now _) (sym c.in_ok-list.ensures.items) (decodes_start c.args.bytes.now)

pub loop-kind-preserved : goal.loop-kind-preserved
loop-kind-preserved c =
    let decodes = c.loop-kind.invariant in
    let items = c.loop-kind.list.items in
    decodes_more c.args.bytes.now c.loop-kind.at c.in-Some.after items _ (mapping_at c.in-Some.kind c.in-Some.after) decodes
    (c.in-Some.ensures.some decodes.j decodes.after)
    (c.in_ok-push.ensures.items ∙ ap (λ m. items ++ m ∷ []) c.mapping.ensures)

pub returns : goal.returns
returns c =
    let decodes = c.loop-kind.invariant in
    decodes_all c.args.bytes.now c.loop-kind.at c.loop-kind.list.items decodes (c.in_default.ensures.none decodes.j decodes.after)
