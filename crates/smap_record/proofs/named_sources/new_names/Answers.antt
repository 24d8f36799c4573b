use Rattle.std.proofs.Common.{◌≡◌, ◌<◌, ap, arith, length, map, option_map, string_bytes, sym, ◌∙◌, String, Vec, Global}
use Rattle.std.specs.Prelude.{Option}
use Rattle.std.proofs.lemmas.List.{length-map, take_all}
use Rattle.smap_mappings.specs.Laws.Lists.{none_past}
use Rattle.smap_record.specs.Sources.{source_of}
use Rattle.smap_record.specs.Private.Renamed.{name_at, text_of_source}
use Rattle.smap_record.proofs.EachLaws.{map_next}
use Rattle.smap_record.proofs.named_sources.new_names.Goals as goal
use Rattle.smap_record.proofs.named_sources.new_names.Goals.{in-Some+in_ok-new_name+in_ok-push, in_default-source}

pub loop-i-preserved : goal.loop-i-preserved
loop-i-preserved c =
    let sources = c.args.map_file.now.stated.sources in
    let inside : c.loop-i.i < length sources = omega (arith, c.loop-i-test.true, c.in-Ok.ensures, c.sources.ensures) in
    elim c.match-source.branch [
      | in-Some+in_ok-new_name+in_ok-push w ↦
          ap (λ (v : Vec (Option (String Global)) Global). map (option_map string_bytes) v.items) w.names-is
          ∙ ap (map (option_map string_bytes)) w.in_ok-push.ensures.items
          ∙ map_next (option_map string_bytes) (text_of_source (name_at c.args.how c.args.place.now)) sources c.loop-i.names.items c.loop-i.i
          (source_of w.in-Some.source.now) w.in_ok-new_name.field-0 c.loop-i.invariant (sym w.in-Some.ensures) w.in_ok-new_name.ensures
      | in_default-source w ↦ absurd (none_past sources c.loop-i.i (sym w.in_default-source.ensures) inside)
    ]

pub returns-clause-names : goal.returns-clause-names
returns-clause-names c =
    let sources = c.args.map_file.now.stated.sources in
    let all = take_all c.loop-i.i sources (omega (arith, c.loop-i-test.false, c.in-Ok.ensures, c.sources.ensures)) in
    c.loop-i.invariant ∙ ap (map (text_of_source (name_at c.args.how c.args.place.now))) all

pub returns-clause-few : goal.returns-clause-few
returns-clause-few c =
    let sources = c.args.map_file.now.stated.sources in
    let all = take_all c.loop-i.i sources (omega (arith, c.loop-i-test.false, c.in-Ok.ensures, c.sources.ensures)) in
    let many : length c.loop-i.names.items ≡ length sources =
    sym (length-map c.loop-i.names.items (option_map string_bytes)) ∙ ap length (c.loop-i.invariant ∙ ap (map (text_of_source (name_at c.args.how c.args.place.now))) all)
    ∙ length-map sources (text_of_source (name_at c.args.how c.args.place.now)) in
    omega (arith, many, c.in-Ok.ensures, c.sources.ensures)
