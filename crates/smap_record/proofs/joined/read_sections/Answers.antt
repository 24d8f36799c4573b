use Rattle.std.proofs.Common.{◌≡◌, ◌+◌, ◌∷◌, [], inl, inr, length, map, string_bytes, subst, sym, ap, ◌∙◌, arith}
use Rattle.std.specs.List.{All}
use Rattle.std.proofs.lemmas.List.{length-append, length-map, length_push, map-append}
use Rattle.std.proofs.lemmas.List.Elements.{All-push}
use Rattle.std.proofs.lemmas.List.Sums.{sum_by_push}
use Rattle.std.proofs.lemmas.Result.{err_from_is_err_and}
use Rattle.smap_record.specs.IndexMap.{sections_after}
use Rattle.smap_record.specs.Private.PartWithin.{IsPartWithin}
use Rattle.smap_record.specs.Private.Seen.{entry_seen, entries_seen, sections_seen, sources_seen, section_seen}
use Rattle.smap_record.specs.declared.index_map.Offset.{Offset}
use Rattle.smap_record.specs.declared.section.SectionSources.{SectionSources}
use Rattle.smap_record.proofs.EachLaws.{none_left}
use Rattle.smap_record.proofs.JoinedLaws.{count_of, count_seen, marks_of_only, next_section, no_more, one_more, same_place, same_sections}
use Rattle.smap_record.proofs.RefusalLaws.{handed_on}
use Rattle.smap_record.proofs.WithinLaws.{more_within}
use Rattle.smap_record.proofs.joined.read_sections.Goals as goal
use Rattle.smap_record.proofs.joined.read_sections.Goals.{then-is_only, else-is_only}

pub returns-in_err-section-clause-statement : goal.returns-in_err-section-clause-statement
returns-in_err-section-clause-statement c =
    let p = err_from_is_err_and c.from_residual-in_err-section.result c.from_residual-in_err-section.ensures.1 in
    let so_far = c.loop-entry.invariant in
    let joined = c.loop-entry.joined in
    let names_before : c.len-in-loop-entry.result ≡ length (map string_bytes joined.names.items) =
    omega (arith, c.len-in-loop-entry.ensures, length-map joined.names.items string_bytes) in
    let number : c.len.result ≡ length joined.parts.items = omega (arith, c.len.ensures) in
    let place_is = same_place number (ap (λ (o : Offset). o.line) c.unwrap_or-offset.ensures) (ap (λ (o : Offset). o.column) c.unwrap_or-offset.ensures)
    (sym so_far.source_base ∙ sym (count_seen joined.sources.items)) names_before in
    rw (p.1, p.2)
    (handed_on c.in_err-section.field-0.0 _ _ _
    (sym so_far.chain ∙ ap (λ rest. sections_after (sections_seen joined) (entries_seen rest)) c.in-Some.ensures.steps.0
    ∙ next_section (sections_seen joined) (entry_seen c.in-Some.entry) (entries_seen c.next.new.self.rest.items) _ place_is)
    c.in_err-section.ensures.statement)

pub loop-entry-preserved : goal.loop-entry-preserved
loop-entry-preserved c =
    let so_far = c.loop-entry.invariant in
    let joined = c.loop-entry.joined in
    let read = c.in_ok-section.section in
    let rest = c.next.new.self.rest.items in
    let sources = c.loop-entry.source_base + c.len-in-loop-entry-2.result in
    let names = length c.push.new.self.names.items in
    let names_before : c.len-in-loop-entry.result ≡ length (map string_bytes joined.names.items) =
    omega (arith, c.len-in-loop-entry.ensures, length-map joined.names.items string_bytes) in
    let number : c.len.result ≡ length joined.parts.items = omega (arith, c.len.ensures) in
    let place_is = same_place number (ap (λ (o : Offset). o.line) c.unwrap_or-offset.ensures) (ap (λ (o : Offset). o.column) c.unwrap_or-offset.ensures)
    (sym so_far.source_base ∙ sym (count_seen joined.sources.items)) names_before in
    let pushed = same_sections c.in_ok-push.ensures.parts
    (ap (map sources_seen) c.in_ok-push.ensures.sources ∙ map-append sources_seen joined.sources.items (read.sources ∷ []))
    (ap (map string_bytes) c.in_ok-push.ensures.names ∙ map-append string_bytes joined.names.items read.names.items) in
    let part_total = ap length c.in_ok-push.ensures.parts ∙ length_push joined.parts.items _ in
    let name_total : names ≡ length joined.names.items + length read.names.items =
    ap length c.in_ok-push.ensures.names ∙ length-append joined.names.items read.names.items in
    record {
      chain = ap (λ sections. sections_after sections (entries_seen rest)) pushed
          ∙ sym (one_more (sections_seen joined) (entry_seen c.in-Some.entry) (entries_seen rest) _ place_is (section_seen read)
          c.in_ok-section.ensures.statement)
          ∙ sym (ap (λ entries. sections_after (sections_seen joined) (entries_seen entries)) c.in-Some.ensures.steps.0) ∙ so_far.chain;
      count = omega (arith, so_far.count, part_total, ap length c.in-Some.ensures.steps.0);
      source_base = ap count_of c.in_ok-push.ensures.sources ∙ sum_by_push (λ (s : SectionSources). length s.texts.items) joined.sources.items read.sources
          ∙ omega (arith, so_far.source_base, c.len-in-loop-entry-2.ensures);
      few_sources = omega (arith, c.in_ok-section.ensures.few_sources, c.len-in-loop-entry-2.ensures);
      few_names = omega (arith, c.in_ok-section.ensures.few_names, name_total, c.len-in-loop-entry.ensures);
      within = subst (All (IsPartWithin sources names)) (sym c.in_ok-push.ensures.parts)
          (All-push (IsPartWithin sources names) joined.parts.items _
          (more_within c.loop-entry.source_base (length joined.names.items) sources names joined.parts.items (omega arith)
          (omega (arith, name_total)) so_far.within)
          (record {
            own_sources = length read.sources.texts.items;
            own_names = length read.names.items;
            sources_fit = omega (arith, c.len-in-loop-entry-2.ensures);
            names_fit = omega (arith, name_total, c.len-in-loop-entry.ensures);
            text = c.in_ok-section.ensures.within;
          }));
      marked = rw (c.in_ok-push.ensures.marks, c.in_ok-push.ensures.parts)
          (marks_of_only read.marks c.if-is_only.marks_at c.args.interval joined.parts.items _ read.text c.in_ok-section.ensures.marked
          (elim c.if-is_only.branch [
            | then-is_only w ↦ inr (w.marks_at-is, omega (arith, number, c.is_only.ensures.first w.if-is_only.true), c.is_only.ensures.whole w.if-is_only.true read.text)
            | else-is_only w ↦ inl w.marks_at-is
          ]));
    }

pub returns-clause-statement : goal.returns-clause-statement
returns-clause-statement c =
    sym c.loop-entry.invariant.chain
    ∙ ap (λ rest. sections_after (sections_seen c.loop-entry.joined) (entries_seen rest)) (none_left c.loop-entry.entry-iterator c.in-None.ensures.steps.0)
    ∙ no_more (sections_seen c.loop-entry.joined)
