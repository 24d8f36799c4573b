use Rattle.std.proofs.Common.{◌≡◌, List, length, subst, sym, ap, ◌∙◌, arith}
use Rattle.std.specs.Prelude.{option_copied}
use Rattle.std.specs.List.{All}
use Rattle.std.proofs.lemmas.List.{length-map}
use Rattle.smap_mappings.specs.Within.{IsWithin}
use Rattle.smap_index.specs.Parts.{joined}
use Rattle.smap_index.specs.declared.part.Part.{Part}
use Rattle.smap_record.specs.Private.PartWithin.{IsPartWithin}
use Rattle.smap_record.specs.Sources.{source_of}
use Rattle.smap_record.proofs.EntryLaws.{length-all_sources}
use Rattle.smap_record.proofs.RecordLaws.{unless_is}
use Rattle.smap_record.proofs.WithinLaws.{joined_within}
use Rattle.smap_record.proofs.map_file.MapFile.of_members.Goals as goal

pub invariant_of-result : goal.invariant_of-result
invariant_of-result c =
    let all = c.in_ok-joined.joined.sources.items in
    let names = length c.in_ok-joined.joined.names.items in
    let parts_are : c.in_ok-index.index.parts ≡ c.in_ok-joined.joined.parts.items = unless_is _ _ _ c.in_ok-index.ensures.parts in
    let many = sym (length-all_sources (option_copied c.args.base) all) ∙ sym (ap length c.in_ok-sources.ensures.list)
    ∙ length-map c.in_ok-sources.sources.items source_of in
    record {
      sections = omega (arith, c.len-sections.ensures, ap length parts_are);
      few_sources = omega (arith, many, c.in_ok-joined.ensures.few_sources);
      few_names = c.in_ok-joined.ensures.few_names;
      within = subst (λ (parts : List Part). All (IsWithin (length c.in_ok-sources.sources.items) names) (joined parts)) (sym parts_are)
          (joined_within (length c.in_ok-sources.sources.items) names c.in_ok-joined.joined.parts.items
          (subst (λ n. All (IsPartWithin n names) c.in_ok-joined.joined.parts.items) many c.in_ok-joined.ensures.within)
          c.in_ok-index.ensures.in_range);
    }
