use Rattle.std.proofs.Common.{◌≡◌, ◌≤◌, ℕ, length, subst, arith}
use Rattle.std.specs.List.{All}
use Rattle.smap_mappings.specs.Limits.{most_indices}
use Rattle.smap_mappings.specs.Accepted.{IsAccepted}
use Rattle.smap_mappings.specs.Within.{IsWithin}
use Rattle.smap_mappings.specs.Mappings.{mappings_of}
use Rattle.smap_mappings.specs.Canonical.{canonical_text}
use Rattle.smap_mappings.proofs.AsItStandsLaws.{no_fault}
use Rattle.smap_mappings.proofs.CanonicalLaws.{canonical_decodes, canonical_is_accepted}
use Rattle.smap_mappings.proofs.FewBytesLaws.{canonical_is_few}
use Rattle.smap_mappings.proofs.packed_text.PackedText.canonical_text.Goals as goal

pub returns-clause-few : goal.returns-clause-few
returns-clause-few c =
    let packed = c.self.invariant.packed in
    subst (λ text. length (canonical_text (mappings_of text)) ≤ length text) c.self.view_is
    (canonical_is_few _ most_indices most_indices (omega (arith, packed.short)) packed.accepted)

pub returns-clause-decodes : goal.returns-clause-decodes
returns-clause-decodes c =
    let packed = c.self.invariant.packed in
    subst (λ text. mappings_of (canonical_text (mappings_of text)) ≡ mappings_of text) c.self.view_is
    (canonical_decodes _ (no_fault _ most_indices most_indices (omega (arith, packed.short)) packed.accepted))

pub returns-clause-accepted : goal.returns-clause-accepted
returns-clause-accepted c =
    let packed = c.self.invariant.packed in
    subst (λ text. (sources names : ℕ) → All (IsWithin sources names) (mappings_of text)
    → IsAccepted (canonical_text (mappings_of text)) sources names) c.self.view_is
    (canonical_is_accepted _ (no_fault _ most_indices most_indices (omega (arith, packed.short)) packed.accepted))
