use Rattle.std.proofs.Common.{◌++◌, ◌∷◌, [], sym, ap, ◌∙◌}
use Rattle.smap_map_answers.specs.Generated.{is_asked}
use Rattle.smap_map_answers.proofs.GeneratedLaws.{none_asked, one_asked}
use Rattle.smap_map_answers.proofs.generated.asked_sources.Goals as goal
use Rattle.smap_map_answers.proofs.generated.asked_sources.Goals.{then-branch+in_ok-push, else-branch}

pub loop-index-preserved : goal.loop-index-preserved
loop-index-preserved c =
    let test = is_asked c.args.map.now.stated.sources c.args.text.now in
    elim c.if-branch.branch [
      | then-branch+in_ok-push w ↦ rw w.sources-is (w.in_ok-push.ensures.items ∙ ap (λ l. l ++ c.loop-index.index ∷ []) c.loop-index.invariant
          ∙ sym (one_asked test c.loop-index.index (sym c.in_ok-is_asked.ensures ∙ w.if-branch.true)))
      | else-branch w ↦ rw w.sources-is (c.loop-index.invariant ∙ sym (none_asked test c.loop-index.index (sym c.in_ok-is_asked.ensures ∙ w.if-branch.false)))
    ]
