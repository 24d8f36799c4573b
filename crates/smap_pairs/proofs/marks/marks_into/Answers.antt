use Rattle.std.proofs.Common.{rules, false, sym, ◌∙◌}
use Rattle.smap_pairs.specs.declared.seen.SeenByte.{SeenByte}
use Rattle.smap_pairs.specs.Marks.{marks_of}
use Rattle.smap_pairs.proofs.MarksLaws.{mark_taken, no_mark}
use Rattle.smap_pairs.proofs.marks.marks_into.Goals as goal
use Rattle.smap_pairs.proofs.marks.marks_into.Goals.{then-ends_mark+in_ok-push, else-ends_mark}

abbrev no_byte : SeenByte
no_byte = record { size = 0; byte = 0; counts = 0; is_edge = false }

pub loop-at-init : goal.loop-at-init
unfolding marks_of
loop-at-init c = search rules

pub loop-at-preserved : goal.loop-at-preserved
loop-at-preserved c =
    let line = c.args.line.now in
    let at = c.loop-at.at in
    elim c.if-ends_mark.branch [
      | then-ends_mark+in_ok-push w ↦ record {
        so_far = mark_taken line at no_byte c.loop-at.marks.items (marks_of line) c.loop-at-test.true c.loop-at.invariant.so_far
            (sym c.ends_mark.ensures ∙ w.if-ends_mark.true) c.if-ends_mark.marks.items (search rules);
        room = search rules;
      }
      | else-ends_mark w ↦ record {
        so_far = no_mark line at no_byte c.loop-at.marks.items (marks_of line) c.loop-at-test.true c.loop-at.invariant.so_far
            (sym c.ends_mark.ensures ∙ w.if-ends_mark.false) c.if-ends_mark.marks.items (search rules);
        room = search rules;
      }
    ]
