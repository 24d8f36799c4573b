use Rattle.std.proofs.Common.{subst, ap, ◌∙◌, ◌+◌, arith, length}
use Rattle.smap_index.specs.Index.{IndexContents}
use Rattle.smap_index.specs.Private.Search.{HoldsLines, up_to}
use Rattle.smap_index.specs.declared.stretch.Stretch.{Stretch}
use Rattle.smap_index.proofs.IndexLaws.{as_many}
use Rattle.smap_index.proofs.SearchLaws.{front_within}
use Rattle.smap_index.proofs.index.Index.all_checkpoints.Goals as goal

pub returns-clause-whole : goal.returns-clause-whole
returns-clause-whole c = c.len.ensures ∙ ap (λ (i : IndexContents). length i.checkpoints) c.self.view_is

pub returns-clause-marks : goal.returns-clause-marks
returns-clause-marks c = c.len.ensures ∙ as_many _ c.self.invariant _ c.self.view_is

pub returns-clause-lines : goal.returns-clause-lines
returns-clause-lines c from to =
    let all : Stretch = record { low = 0; high = c.len.result } in
    subst (λ (i : IndexContents). HoldsLines i.checkpoints from to all) c.self.view_is record {
      before = omega arith;
      behind = omega (arith, front_within (up_to (to + 1) 0) c.self.inside.table, c.len.ensures);
      within = omega (arith, c.len.ensures);
    }
