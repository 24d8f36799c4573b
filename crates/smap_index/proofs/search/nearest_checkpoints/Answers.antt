use Rattle.std.proofs.Common.{sym, ap, refl, ◌∙◌, arith, None}
use Rattle.smap_index.specs.Checkpoint.{mapping_of}
use Rattle.smap_index.specs.Private.Search.{mappings_at, is_up_to}
use Rattle.smap_index.proofs.Halving.{one_more}
use Rattle.smap_index.proofs.SearchLaws.{in_front, ends_front, read_mapping}
use Rattle.smap_index.proofs.StretchLaws.{last_found, last_missing, next_found, next_missing}
use Rattle.smap_index.proofs.search.nearest_checkpoints.Goals as goal
use Rattle.smap_mappings.specs.Laws.Lists.{last_taken}

pub loop-low-init : goal.loop-low-init
loop-low-init c = record {
  low = c.requires.low;
  high = c.requires.high;
  from = omega arith;
  inside = omega arith;
  last = sym (last_missing c.args.stretch.low _ c.args.checkpoints.now (omega arith));
  next = sym (next_missing _ c.args.stretch.high c.args.checkpoints.now (omega arith));
  onward = omega arith;
  few = λ b below. (b, omega arith, below);
  none_decoded = refl;
}

pub at-checkpoint-requires-clause-room : goal.at-checkpoint-requires-clause-room
at-checkpoint-requires-clause-room c =
    let most = c.loop-low.invariant.few 64 (omega arith) in
    omega (arith, most.1, c.requires.room.0)

pub loop-low-preserved-then-reaches : goal.loop-low-preserved-then-reaches
loop-low-preserved-then-reaches c =
    let there = read_mapping c.args.checkpoints.now _ c.at-checkpoint.result.now c.at-checkpoint.ensures.read in
    let counted = ap (λ m. m.comparisons) c.at-checkpoint.ensures.counted in
    record {
      low = in_front c.args.bound.now (mappings_at c.args.checkpoints.now) _ (mapping_of c.at-checkpoint.result.now) c.requires.ordered
          there (ap (is_up_to c.args.bound.now) (sym c.mapping.ensures) ∙ sym c.reaches.ensures ∙ c.if-reaches.true);
      high = c.loop-low.invariant.high;
      from = omega (arith, c.loop-low.invariant.from);
      inside = c.loop-low.invariant.inside;
      last = sym (last_found c.args.stretch.low _ c.args.checkpoints.now (omega (arith, c.loop-low.invariant.from))
          ∙ last_taken None c.args.checkpoints.now _ c.at-checkpoint.result.now c.at-checkpoint.ensures.read);
      next = c.loop-low.invariant.next;
      onward = omega (arith, c.loop-low.invariant.onward);
      few = λ b below. one_more _ _ _ b _ _ (omega arith) (omega arith) counted (c.loop-low.invariant.few b below);
      none_decoded = ap (λ m. m.segments) c.at-checkpoint.ensures.counted ∙ c.loop-low.invariant.none_decoded;
    }

pub loop-low-preserved : goal.loop-low-preserved
loop-low-preserved c =
    let there = read_mapping c.args.checkpoints.now _ c.at-checkpoint.result.now c.at-checkpoint.ensures.read in
    let counted = ap (λ m. m.comparisons) c.at-checkpoint.ensures.counted in
    record {
      low = c.loop-low.invariant.low;
      high = ends_front c.args.bound.now (mappings_at c.args.checkpoints.now) _ (mapping_of c.at-checkpoint.result.now) there
          (ap (is_up_to c.args.bound.now) (sym c.mapping.ensures) ∙ sym c.reaches.ensures ∙ c.if-reaches.false);
      from = c.loop-low.invariant.from;
      inside = omega (arith, c.loop-low.invariant.inside);
      last = c.loop-low.invariant.last;
      next = sym (next_found _ c.args.stretch.high c.args.checkpoints.now (omega (arith, c.loop-low.invariant.inside)) ∙ c.at-checkpoint.ensures.read);
      onward = omega (arith, c.loop-low.invariant.onward);
      few = λ b below. one_more _ _ _ b _ _ (omega arith) (omega arith) counted (c.loop-low.invariant.few b below);
      none_decoded = ap (λ m. m.segments) c.at-checkpoint.ensures.counted ∙ c.loop-low.invariant.none_decoded;
    }
