-- That one source is renamed.
use Rattle.std.proofs.Common.{rules, ◌≡◌}
use Rattle.smap_record.proofs.map_file.MapFile.rename_source.Goals as goal
use Rattle.smap_record.proofs.map_file.MapFile.rename_source.Goals.{in-Some+in-Some+in-Resolved-1, in-Some+in-Some+in-Kept-1, in-Some+in-None-1, in_default+in-Resolved-1, in_default+in-Kept-1}
use Rattle.smap_record.proofs.EntryLaws.{one_named, none_named}
use Rattle.smap_resolve.specs.SourceName.{name_of}
use Rattle.std.proofs.Common.{ap, ◌∙◌, sym, map, arith, false, true}
use Rattle.smap_record.specs.Sources.{source_of, with_name_at}
use Rattle.std.proofs.Math.Nat.{lt_of_not-le}
use Rattle.std.proofs.lemmas.List.{length-map}

-- src/map_file.rt:145:5
pub returns-clause-renamed : goal.returns-clause-renamed
returns-clause-renamed c =
    let seen = ap (λ seen. with_name_at seen.stated.sources c.args.i (name_of c.args.name)) c.self.view_is in
    elim c.match-get_mut.branch [
      | in-Some+in-Some+in-Resolved-1 w ↦ ap (λ inside. map source_of inside.sources.items) w.self-inside-is ∙ one_named c.self.inside.sources.items c.args.i w.in-Some.source.now c.args.name (search rules) ∙ seen
      | in-Some+in-Some+in-Kept-1 w ↦ ap (λ inside. map source_of inside.sources.items) w.self-inside-is ∙ one_named c.self.inside.sources.items c.args.i w.in-Some.source.now c.args.name (search rules) ∙ seen
      | in-Some+in-None-1 w ↦ ap (λ inside. map source_of inside.sources.items) w.self-inside-is ∙ one_named c.self.inside.sources.items c.args.i w.in-Some.source.now c.args.name (search rules) ∙ seen
      | in_default+in-Resolved-1 w ↦ ap (λ inside. map source_of inside.sources.items) w.self-inside-is ∙ sym (none_named (map source_of c.self.inside.sources.items) c.args.i (name_of c.args.name) (omega (arith, length-map c.self.inside.sources.items source_of, c.self.inside.sources.ok.0, lt_of_not-le (λ within. let some : false ≡ true = w.in_default.ensures.variant.1 within in absurd (cc))))) ∙ seen
      | in_default+in-Kept-1 w ↦ ap (λ inside. map source_of inside.sources.items) w.self-inside-is ∙ sym (none_named (map source_of c.self.inside.sources.items) c.args.i (name_of c.args.name) (omega (arith, length-map c.self.inside.sources.items source_of, c.self.inside.sources.ok.0, lt_of_not-le (λ within. let some : false ≡ true = w.in_default.ensures.variant.1 within in absurd (cc))))) ∙ seen
    ]
