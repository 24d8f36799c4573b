use Rattle.std.proofs.Common.{◌≡◌, suc, is_some, ap, sym, arith, ◌∙◌, ◌-◌}
use Rattle.smap_locations.specs.ByText.{value_under}
use Rattle.smap_locations.specs.Deciding.{prefix_within}
use Rattle.smap_locations.proofs.PathLaws.{prefix_here, prefix_shorter}
use Rattle.smap_locations.proofs.locations.Locations.longest_prefix.Goals as goal

pub returns-then-has_folder-clause-prefix : goal.returns-then-has_folder-clause-prefix
returns-then-has_folder-clause-prefix c =
    let folders = c.args.self.now.folders in
    let end = c.loop-end.end in
    let one : end ≡ suc (end - 1) = omega (arith, c.loop-end-test.true) in
    sym (c.loop-end.invariant.later ∙ prefix_here folders c.args.url.now (end - 1) end one
    (ap (λ text. is_some (value_under text folders)) (sym c.split_at.ensures.front) ∙ sym c.has_folder.ensures ∙ c.if-has_folder.true))

pub loop-end-preserved : goal.loop-end-preserved
loop-end-preserved c =
    let folders = c.args.self.now.folders in
    let end = c.loop-end.end in
    let one : end ≡ suc (end - 1) = omega (arith, c.loop-end-test.true) in
    record {
      within = omega (arith, c.loop-end.invariant.within);
      later = c.loop-end.invariant.later ∙ prefix_shorter folders c.args.url.now (end - 1) end one
          (ap (λ text. is_some (value_under text folders)) (sym c.split_at.ensures.front) ∙ sym c.has_folder.ensures ∙ c.if-has_folder.false);
    }

pub returns-clause-prefix : goal.returns-clause-prefix
returns-clause-prefix c =
    let none : c.loop-end.end ≡ 0 = omega (arith, c.loop-end-test.false) in
    sym (c.loop-end.invariant.later ∙ ap (prefix_within c.args.self.now.folders c.args.url.now) none)
