use Rattle.std.proofs.Common.{◌≤◌, length, ap, sym, subst, ◌∙◌, arith, refl}
use Rattle.std.specs.Prelude.{string_bytes}
use Rattle.smap_mappings.specs.Limits.{most_text_bytes}
use Rattle.smap_mappings.specs.Accepted.{IsAccepted}
use Rattle.smap_mappings.specs.Faults.{first_fault}
use Rattle.smap_mappings.specs.Counts.{segment_count, used_lines_of}
use Rattle.smap_mappings.proofs.CheckLaws.{widest, no_fault_is_accepted, accepted_has_no_fault}
use Rattle.smap_mappings.proofs.WithinLaws.{mappings_within}
use Rattle.smap_mappings.proofs.packed_text.PackedText.after.Goals as goal
use Rattle.smap_mappings.proofs.packed_text.PackedText.after.Goals.{In-Ok, After-as_bytes}

short : (c : After-as_bytes) → length (string_bytes c.args.text) ≤ most_text_bytes
short c = c.requires.short

accepted : (c : In-Ok) → IsAccepted (string_bytes c.args.text) c.args.sources c.args.names
accepted c = subst (λ text. IsAccepted text c.args.sources c.args.names) c.as_bytes.ensures.value
    (no_fault_is_accepted c.as_bytes.result.now c.args.sources c.args.names c.in-Ok.ensures.fault)

pub invariant_of-result : goal.invariant_of-result
invariant_of-result c = record {
  packed = record {
    short = short (goal.at.invariant_of-result c).After-as_bytes;
    accepted = widest (string_bytes c.args.text) c.args.sources c.args.names (accepted (goal.at.invariant_of-result c).In-Ok);
  };
  segments_are = c.in-Ok.ensures.segments ∙ ap segment_count c.as_bytes.ensures.value;
  used_lines_are = c.in-Ok.ensures.used_lines ∙ ap used_lines_of c.as_bytes.ensures.value;
}

pub returns-in-Err-clause-accepted : goal.returns-in-Err-clause-accepted
returns-in-Err-clause-accepted c = (
  λ e. absurd (cc),
  λ both.
      let none = ap (λ text. first_fault text c.args.sources c.args.names) c.as_bytes.ensures.value
      ∙ accepted_has_no_fault (string_bytes c.args.text) c.args.sources c.args.names both in
      let clash = sym c.in-Err.ensures.fault ∙ none in
      absurd (cc),
)

pub returns-in-Ok-clause-accepted : goal.returns-in-Ok-clause-accepted
returns-in-Ok-clause-accepted c = (
  λ e. accepted (goal.at.returns-in-Ok-clause-accepted c).In-Ok,
  λ both. refl,
)

pub returns-in-Ok-clause-clean : goal.returns-in-Ok-clause-clean
returns-in-Ok-clause-clean c = ap (λ text. first_fault text c.args.sources c.args.names) (sym c.as_bytes.ensures.value) ∙ c.in-Ok.ensures.fault

pub returns-in-Ok-clause-within : goal.returns-in-Ok-clause-within
returns-in-Ok-clause-within c =
    let bytes = (goal.at.returns-in-Ok-clause-within c).After-as_bytes in
    mappings_within (string_bytes c.args.text) c.args.sources c.args.names (omega (arith, short bytes)) (accepted (goal.at.returns-in-Ok-clause-within c).In-Ok)
