use Rattle.std.proofs.Common.{◌≡◌, ◌∷◌, [], None, refl, subst, sym, ◌∙◌}
use Rattle.smap_mappings.specs.Faults.{first_fault}
use Rattle.smap_mappings.specs.Mappings.{mappings_of}
use Rattle.smap_mappings.specs.Order.{IsInOrder}
use Rattle.smap_index.specs.Marks.{AreCheckpointsOf}
use Rattle.smap_index.specs.Parts.{whole_text}
use Rattle.smap_index.proofs.PartLaws.{marks_of_one}
use Rattle.smap_index.proofs.marked.MarkedText.check.Goals as goal
use Rattle.smap_index.proofs.marked.MarkedText.check.Goals.{then-has_room, else-has_room}

pub invariant_of-result : goal.invariant_of-result
invariant_of-result c =
    let text = c.in-Ok.check.text in
    let marks = c.mark_text-has_room.ensures in
    let table = c.mark_text-has_room.new.table in
    let there : c.in-Ok-finish.text ≡ text = c.in-Ok-finish.ensures.inside ∙ marks.text in
    let none : first_fault text c.in-Ok.check.sources c.in-Ok.check.names ≡ None =
    sym (λ i. first_fault (marks.text i) (marks.listed.0 i) (marks.listed.1 i)) ∙ c.in-Ok-finish.ensures.clean in
    let ordered = subst (λ text. IsInOrder (mappings_of text)) there c.start-start.ensures.ordered in
    record {
      text = c.in-Ok-finish.text;
      only = refl;
      checkpoints = elim c.if-has_room.branch [
        | then-has_room w ↦ rw w.result-is (subst (λ text. AreCheckpointsOf (whole_text text ∷ []) c.args.k table) (sym there)
            (marks_of_one (whole_text text) c.args.k table (marks.marked w.if-has_room.true none ordered)))
        | else-has_room w ↦ rw w.result-is tt
      ];
    }
