use Rattle.std.proofs.Common.{◌≡◌, ◌+◌, ◌∙◌, [], ap, length, map, refl, rules, subst, sym}
use Rattle.smap_lines.specs.Editing.{devices_seen}
use Rattle.smap_lines.specs.Laws.RunEnds.{ends_memory, ends_wider, front_of_none}
use Rattle.smap_lines.specs.Limits.{most_text_bytes}
use Rattle.smap_replies.specs.Arguments.{argument_of}
use Rattle.smap_store.specs.Named.{GivesNamed}
use Rattle.smap_store.specs.Names.{names_at_first}
use Rattle.smap_store.specs.Program.{program_of}
use Rattle.smap_store.specs.Stored.{FindsIn, GivesIn}
use Rattle.smap_text_answers.specs.Locate.{located_programs, names_bytes}
use Rattle.smap_text_answers.specs.NamedLocating.{AnswersNames, BecomesNamedAnswer}
use Rattle.smap_text_answers.specs.Names.{MayNameBy, programs_seen}
use Rattle.smap_text_answers.specs.Private.Naming.{named_over}
use Rattle.smap_text_answers.specs.StoreRun.{store_of}
use Rattle.smap_text_answers.specs.Told.{ToldSeen, nothing_told}
use Rattle.smap_text_answers.proofs.BesideLaws.{when_on}
use Rattle.smap_text_answers.proofs.NamedLocatingLaws.{lines_front, lines_named}
use Rattle.smap_text_answers.proofs.NamingLaws.{NamerNames, stored_looked}
use Rattle.smap_text_answers.proofs.locating_named.locate_named.Goals as goal

pub returns-in_default : goal.returns-in_default
returns-in_default g c =
    let asked = c.args.run.now.asked.now in
    let sources = c.args.run.now.sources.now in
    let gives = g.F.FileReader.gives c.args.run.now.files.now in
    record {
      ends = ends_memory c.requires.input_works c.requires.output_works (when_on asked.names _ _ c.requires.named
          (front_of_none (BecomesNamedAnswer (GivesNamed (GivesIn g.L.MapLoader.MayLoad (store_of sources c.args.cache.now c.args.loader.now))
          (program_of sources.exact sources.locations) (MayNameBy gives (located_programs asked sources)) (names_at_first (names_bytes asked)) nothing_told) asked.options) most_text_bytes _));
      looked = ([], refl);
    }

pub returns : goal.returns
returns g c =
    let asked = c.args.run.now.asked.now in
    let sources = c.args.run.now.sources.now in
    let gives = g.F.FileReader.gives in
    let reader = c.args.run.now.files.now in
    let programs = located_programs asked sources in
    let made = c.answer_named_lines-result in
    let first = c.new-namer.result in
    let reader_is : first.files.now ≡ reader = ap (λ f. f.now) c.new-namer.ensures.files in
    let number_is : c.len.result ≡ length asked.maps.items = search rules in
    let maps_are : c.deref.result.now ≡ asked.maps.items = search rules in
    let programs_are : programs_seen first ≡ programs = λ i. record {
      number = (c.new-namer.ensures.number ∙ ap (λ n. n + 2) number_is) i;
      arguments = (ap (λ a. map argument_of a.now) c.new-namer.ensures.arguments ∙ ap (map argument_of) maps_are) i;
      locations = (c.new-namer.ensures.locations i).now;
    } in
    let names_are : c.in-Ok.names ≡ names_at_first (names_bytes asked) = rw c.names_bytes.ensures at c.in-Ok.ensures in
    let before = devices_seen (g.R.ByteSource.seen c.args.input.now) (g.W.ByteSink.seen c.args.output.now) in
    let after = devices_seen (g.R.ByteSource.seen made.new.input) (g.W.ByteSink.seen made.new.output) in
    let old = store_of sources c.args.cache.now c.args.loader.now in
    let new = named_over sources made.new.cache made.new.loader made.new.names made.new.namer in
    record {
      ends = ends_wider made.result
          (λ counts is. when_on asked.names _ _ c.requires.named (subst (λ (t : ToldSeen).
          AnswersNames (gives reader) programs (names_bytes asked) asked.options (FindsIn g.L.MapLoader.Loads) before after old new.stored counts t)
          (sym c.told_at_end.ensures)
          (lines_named gives first reader programs reader_is programs_are c.new-namer.ensures.told g.L.MapLoader.Loads (names_bytes asked) old c.in-Ok.names
          names_are asked.options before after new counts is)))
          (λ fault is. when_on asked.names _ _ c.requires.named
          (lines_front gives first reader programs reader_is programs_are c.new-namer.ensures.told g.L.MapLoader.Loads (names_bytes asked) old c.in-Ok.names
          names_are asked.options before after g.L.MapLoader.MayLoad fault is))
          made.ensures.ends;
      looked = stored_looked g.L.MapLoader.Loads (NamerNames gives) _ _ made.ensures.looked;
    }
