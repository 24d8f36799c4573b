use Rattle.std.proofs.Common.{◌≡◌, None, sym, subst}
use Rattle.smap_mappings.specs.Counts.{segment_count}
use Rattle.smap_mappings.specs.Faults.{first_fault, first_faulty}
use Rattle.smap_mappings.specs.TextCheck.{TextCheckContents}
use Rattle.smap_mappings.proofs.CheckLaws.{none_faulty}
use Rattle.smap_mappings.proofs.text_check.TextCheck.next.Goals as goal

pub returns-in-None-clause-end : goal.returns-in-None-clause-end
returns-in-None-clause-end c =
    let inside = c.self.inside in
    let bytes = c.as_bytes.ensures.value in
    subst (λ (seen : TextCheckContents). first_fault seen.text seen.sources seen.names ≡ None → seen.segments ≡ segment_count seen.text) c.self.view_is
    (λ none. subst (λ text. inside.walk.segments ≡ segment_count text) bytes
    (c.in-None.ensures.none (subst (λ text. first_faulty text inside.sources inside.names ≡ None) (sym bytes) (none_faulty _ _ _ none))))
