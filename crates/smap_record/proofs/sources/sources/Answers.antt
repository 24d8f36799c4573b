use Rattle.std.proofs.Common.{[], ◌∷◌, ◌++◌, map, sym, ap, ◌∙◌}
use Rattle.std.specs.Prelude.{flat_map, option_copied}
use Rattle.std.proofs.lemmas.Result.{err_from_is_err_and}
use Rattle.std.proofs.lemmas.Grind.{flat_map-append}
use Rattle.std.proofs.lemmas.List.{append_assoc, append-nil, map-append}
use Rattle.smap_record.specs.Sources.{sources_stated}
use Rattle.smap_record.specs.Private.Seen.{sources_seen}
use Rattle.smap_record.proofs.EachLaws.{none_left}
use Rattle.smap_record.proofs.NamedLaws.{or_then, map_named}
use Rattle.smap_record.proofs.sources.sources.Goals as goal

pub loop-section-preserved : goal.loop-section-preserved
loop-section-preserved c =
    let before = c.loop-section.yielded in
    let section = c.in-Some.section in
    let stated = sources_stated (option_copied c.args.base) in
    record {
      sections = append_assoc before (section ∷ []) c.next.new.self.rest.items ∙ ap (λ rest. before ++ rest) (sym c.in-Some.ensures.steps.0)
          ∙ c.loop-section.invariant.sections;
      list = c.in_ok-add_sources.ensures.list ∙ ap (λ list. list ++ stated (sources_seen section)) c.loop-section.invariant.list
          ∙ ap (λ list. flat_map stated (map sources_seen before) ++ list) (sym (append-nil (stated (sources_seen section))))
          ∙ sym (ap (flat_map stated) (map-append sources_seen before (section ∷ []))
          ∙ flat_map-append stated (map sources_seen before) (sources_seen section ∷ []));
    }

pub returns-clause-list : goal.returns-clause-list
returns-clause-list c =
    let before = c.loop-section.yielded in
    c.loop-section.invariant.list
    ∙ ap (λ sections. flat_map (sources_stated (option_copied c.args.base)) (map sources_seen sections))
    (sym (append-nil before) ∙ ap (λ rest. before ++ rest) (sym (none_left c.loop-section.section-iterator c.in-None.ensures.steps.0))
    ∙ c.loop-section.invariant.sections)

pub returns-in_err-add_sources-clause-refused : goal.returns-in_err-add_sources-clause-refused
returns-in_err-add_sources-clause-refused c =
    let before = c.loop-section.yielded in
    let p = err_from_is_err_and c.from_residual.result c.from_residual.ensures.1 in
    rw (p.1, p.2) (
    or_then (λ url. (
      url.0,
      map_named (option_copied c.args.base) c.args.sections.items before c.in-Some.section c.next.new.self.rest.items
          (ap (λ rest. before ++ rest) (sym c.in-Some.ensures.steps.0) ∙ c.loop-section.invariant.sections) url.1,
    )) c.in_err-add_sources.ensures.refused)
