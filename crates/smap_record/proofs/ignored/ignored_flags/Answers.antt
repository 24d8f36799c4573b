use Rattle.std.proofs.Common.{[], ◌∷◌, ◌++◌, ◌+◌, Some, drop, length, option_map, set, true, sym, ap, ◌∙◌, arith}
use Rattle.std.proofs.lemmas.List.{drop_all}
use Rattle.smap_mappings.specs.Laws.Lists.{drop_at}
use Rattle.smap_record.specs.Ignored.{ignored_flags}
use Rattle.smap_record.specs.Json.{number_below}
use Rattle.smap_record.proofs.EachLaws.{after, one_more, not_one, no_more, none_yet}
use Rattle.smap_record.proofs.IgnoredLaws.{one_flag, below_limit, length-ignored_flags}
use Rattle.smap_record.proofs.ignored.ignored_flags.Goals as goal

pub loop-item-init : goal.loop-item-init
loop-item-init c = (
  [],
  ap (after (number_below c.args.sources) []) c.deref-item-items.ensures.value
      ∙ none_yet (number_below c.args.sources) c.args.value.now c.in-Array.items c.in-Array.is,
  c.in_ok-flags.ensures,
)

pub returns-in_default-index_below : goal.returns-in_default-index_below
returns-in_default-index_below c =
    let read = number_below c.args.sources in
    let indices = c.loop-item.invariant.0 in
    let values = drop (c.loop-item.item-index + 1) c.deref-item-items.result.now in
    ap (option_map (ignored_flags c.args.sources))
    (sym (sym c.loop-item.invariant.1
    ∙ ap (after read indices) (drop_at c.deref-item-items.result.now c.loop-item.item-index c.item-item.result
    (omega (arith, c.loop-item-test.true)) c.item-item.is)
    ∙ not_one read indices c.item-item.result values (sym c.in_default-index_below.ensures)))

pub loop-item-preserved : goal.loop-item-preserved
loop-item-preserved c =
    let read = number_below c.args.sources in
    let indices = c.loop-item.invariant.0 in
    let values = drop (c.loop-item.item-index + 1) c.deref-item-items.result.now in (
      indices ++ c.in-Some.index ∷ [],
      one_more read indices c.item-item.result values c.in-Some.index (sym c.in-Some.ensures)
          ∙ ap (after read indices) (sym (drop_at c.deref-item-items.result.now c.loop-item.item-index c.item-item.result
          (omega (arith, c.loop-item-test.true)) c.item-item.is))
          ∙ c.loop-item.invariant.1,
      ap (λ flags. set flags c.in-Some.index true) c.loop-item.invariant.2
          ∙ one_flag c.args.sources indices c.in-Some.index (below_limit c.args.sources _ c.in-Some.index (sym c.in-Some.ensures)),
    )

pub returns : goal.returns
returns c =
    let read = number_below c.args.sources in
    let indices = c.loop-item.invariant.0 in
    ap Some c.loop-item.invariant.2
    ∙ ap (option_map (ignored_flags c.args.sources))
    (sym (sym c.loop-item.invariant.1
    ∙ ap (after read indices) (drop_all c.loop-item.item-index c.deref-item-items.result.now (omega (arith, c.loop-item-test.false)))
    ∙ no_more read indices))

pub index_mut-requires : goal.index_mut-requires
index_mut-requires c =
    omega (
      arith,
      below_limit c.args.sources _ c.in-Some.index (sym c.in-Some.ensures),
      ap length c.loop-item.invariant.2,
      length-ignored_flags c.args.sources c.loop-item.invariant.0,
    )
