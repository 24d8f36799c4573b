use Rattle.std.proofs.Common.{◌≡◌, ◌++◌, drop}
use Rattle.smap_compose.specs.Inners.{stated_inners}
use Rattle.smap_map_answers.specs.Private.Inners.{inners_stated}
use Rattle.smap_map_answers.proofs.compose_all.lent_inners.Given as goal

-- with those that are left they are all
abbrev pub invariant-loop-inner : goal.invariant-loop-inner
invariant-loop-inner l =
    stated_inners l.lent.items ++ inners_stated (drop l.inner-index l.inners) ≡ inners_stated l.inners
