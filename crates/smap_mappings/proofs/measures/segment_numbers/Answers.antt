use Rattle.std.proofs.Common.{◌≡◌, ◌++◌, [], ◌∷◌, Some, drop, ap, sym, refl, ◌∙◌, arith}
use Rattle.std.specs.Option.{option_map}
use Rattle.std.proofs.lemmas.List.{append-nil, drop_all}
use Rattle.std.proofs.Common.{FitsSigned, w32, rules}
use Rattle.std.proofs.lemmas.Int.{to_z-of_z}
use Rattle.smap_mappings.specs.Segment.{fields_of}
use Rattle.smap_mappings.proofs.FieldLaws.{no_bytes_no_fields}
use Rattle.smap_mappings.proofs.CutLaws.{field_in_front, no_fields_from, one_more_field, spelled_onward}
use Rattle.smap_mappings.proofs.measures.segment_numbers.Goals as goal

pub returns-in_default : goal.returns-in_default
returns-in_default c =
    let none = no_fields_from c.args.segment.now c.loop-place.place c.loop-place-test.true
    (λ n next within spells. absurd (c.in_default.not-Ok (n, next) ((c.read_vlq.ensures.spelled n next).1 (within, spells)))) in
    sym (c.loop-place.invariant.fields ∙ ap (option_map (λ rest. c.loop-place.numbers.items ++ rest)) none)

pub loop-place-smaller : goal.loop-place-smaller
loop-place-smaller c =
    let spelled = (c.in-Ok.ensures.spelled c.in-Ok.number c.in-Ok.end).0 refl in
    let onward = spelled_onward c.args.segment.now c.loop-place.place c.in-Ok.end c.in-Ok.number spelled.0 spelled.1 in
    omega (arith, spelled.0)

pub loop-place-preserved : goal.loop-place-preserved
loop-place-preserved c =
    let spelled = (c.in-Ok.ensures.spelled c.in-Ok.number c.in-Ok.end).0 refl in
    let onward = spelled_onward c.args.segment.now c.loop-place.place c.in-Ok.end c.in-Ok.number spelled.0 spelled.1 in
    let fits : FitsSigned w32 c.in-Ok.number = search rules in
    let pushed : c.push.new.self.items ≡ c.loop-place.numbers.items ++ c.in-Ok.number ∷ [] =
    c.in_ok-push.ensures.items ∙ ap (λ n. c.loop-place.numbers.items ++ n ∷ []) (to_z-of_z w32 c.in-Ok.number fits) in
    record {
      inside = spelled.0;
      fields = c.loop-place.invariant.fields
          ∙ ap (option_map (λ rest. c.loop-place.numbers.items ++ rest))
          (field_in_front c.args.segment.now c.loop-place.place c.in-Ok.end c.in-Ok.number (omega arith) spelled.1)
          ∙ one_more_field c.loop-place.numbers.items c.in-Ok.number (fields_of (drop c.in-Ok.end c.args.segment.now))
          ∙ ap (λ items. option_map (λ rest. items ++ rest) (fields_of (drop c.in-Ok.end c.args.segment.now))) (sym pushed);
    }

pub returns : goal.returns
returns c = sym (c.loop-place.invariant.fields
    ∙ ap (option_map (λ rest. c.loop-place.numbers.items ++ rest))
    (ap fields_of (drop_all c.loop-place.place c.args.segment.now (omega arith)) ∙ no_bytes_no_fields)
    ∙ ap Some (append-nil c.loop-place.numbers.items))
