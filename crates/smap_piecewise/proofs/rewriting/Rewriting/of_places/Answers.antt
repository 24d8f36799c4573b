use Rattle.std.proofs.Common.{ap, arith, length, refl, ◌∙◌}
use Rattle.smap_pairs.specs.Spans.{FoundPlaces}
use Rattle.smap_trace.specs.Rewritten.{Counts}
use Rattle.smap_piecewise.specs.Stripping.{held_of}
use Rattle.smap_piecewise.specs.declared.bound.Bound.{Bound}
use Rattle.smap_piecewise.proofs.PlaceStepLaws.{new_sound}
use Rattle.smap_piecewise.proofs.RewritingLaws.{none_held}
use Rattle.smap_piecewise.proofs.rewriting.Rewriting.of_places.Goals as goal

pub invariant_of-result : goal.invariant_of-result
invariant_of-result c =
    let counts = c.nothing_counted.ensures in
    let held = ap held_of c.stripping_at_first.ensures ∙ none_held c.args.options.strip in
    let most = ap (λ (b : Bound). b.most_bytes) c.new-4.ensures in
    record {
      sound = new_sound _ c.new.ensures refl refl (ap (λ (found : FoundPlaces). found.places) c.in_ok-with_room.ensures)
          (ap (λ (found : FoundPlaces). found.most_bytes) c.in_ok-with_room.ensures) (omega (arith, c.in_ok-vec.ensures.len, c.in_ok-vec.field-0.ok.0));
      size = 0;
      within = record {
        lines = omega (arith, ap length c.new.ensures, ap (λ (n : Counts). n.lines) counts);
        frames = omega (arith, ap length c.new.ensures, ap (λ (n : Counts). n.frames) counts);
        mapped = omega (arith, ap length c.new.ensures, ap (λ (n : Counts). n.mapped) counts);
      };
      few = omega (arith, ap length held);
      taken = omega (arith, ap (λ (b : Bound). b.taken) c.new-4.ensures);
      countable = omega (arith, most, c.requires);
      written = omega (arith, ap length c.new-3.ensures.items);
      over = λ ended. absurd (cc);
    }
