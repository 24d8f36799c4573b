use Rattle.std.proofs.Common.{◌≡◌, ℕ, List, ◌++◌}
use Rattle.std.specs.Prelude.{IfSome}
use Rattle.smap_mappings.specs.Order.{IsInOrder}
use Rattle.smap_index.specs.Parts.{joined}
use Rattle.smap_printing.specs.Mappings.{printed_mappings}
use Rattle.smap_printing.specs.Private.GatheredLine.{Gathers}
use Rattle.smap_printing.specs.Private.Plain.{IsKept}
use Rattle.smap_printing.proofs.mappings.gather_mappings.Given as goal

-- the lines for the mappings before those that are left were put, and these are in order; and so is what is
-- known of a source that is kept
abbrev pub invariant-loop-mapping : goal.invariant-loop-mapping
invariant-loop-mapping g l =
    let lines = printed_mappings l.options.form l.options.line l.map.stated in
    record {
      can : (goal.iterator-loop-mapping g).can_next l.mapping-iterator;
      finite : (goal.iterator-loop-mapping g).is_finite l.mapping-iterator;
      ordered : IsInOrder l.mapping-iterator;
      kept : IfSome l.kept (IsKept l.map.stated);
      put : (front : List ℕ) × Gathers g.W.ByteSink.seen l.initial.lines l.lines front
          × (lines (joined l.fn.map.stated.parts) ≡ front ++ lines l.mapping-iterator);
    }
