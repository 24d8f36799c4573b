use Rattle.std.proofs.Common.{◌≡◌, [], refl, rules, subst}
use Rattle.std.specs.Prelude.{true}
use Rattle.smap_anywhere.specs.Laws.AnywhereSeen.{parts_by_none}
use Rattle.smap_anywhere.specs.NamedParts.{by_names, found_by}
use Rattle.smap_lines.specs.Laws.RunEnds.{ends_memory, ends_wider}
use Rattle.smap_lines.specs.Editing.{devices_seen}
use Rattle.smap_store.specs.Named.{FindsNamed, GivesNamed, NamedSeen, names_in}
use Rattle.smap_store.specs.Program.{program_in}
use Rattle.smap_store.specs.Stored.{FindsIn, GivesIn}
use Rattle.smap_trace.specs.Rewriting.{Looked}
use Rattle.smap_trace.specs.NotesSeen.{notes_seen}
use Rattle.smap_text_answers.specs.Naming.{found_beside}
use Rattle.smap_text_answers.specs.Places.{RewritesPlacesOver}
use Rattle.smap_text_answers.specs.Private.Naming.{named_over}
use Rattle.smap_text_answers.specs.Request.{request_seen}
use Rattle.smap_text_answers.specs.RewriteFrom.{asked_of, places_asked, urls_of}
use Rattle.smap_text_answers.proofs.BesideLaws.{named_front_of_none, when_on}
use Rattle.smap_text_answers.proofs.NamingLaws.{maps_looked, maps_placed, named_after}
use Rattle.smap_text_answers.proofs.naming.rewrite_named_places.Goals as goal

pub returns-in_default : goal.returns-in_default
returns-in_default g c =
    let request = request_seen c.args.run.now.request.now in
    let sources = c.args.run.now.sources.now in
    let old = named_over sources c.args.cache.now c.args.loader.now c.args.names.now c.args.namer.now in
    record {
      ends = ends_memory c.requires.input_works c.requires.output_works
          (named_front_of_none request.anywhere (places_asked true request sources) (asked_of request sources) (GivesIn g.L.MapLoader.MayLoad old.stored)
          (GivesNamed (GivesIn g.L.MapLoader.MayLoad old.stored) (program_in old.stored) g.N.NamesLoader.MayName old.names old.namer) _
          (parts_by_none true (urls_of sources)));
      looked = ([], refl);
    }

pub returns : goal.returns
returns g c =
    let sources = c.args.run.now.sources.now in
    let request = request_seen c.args.run.now.request.now in
    let asked = places_asked true request sources in
    let new = c.places_over.new.maps in
    let notes = notes_seen c.places_over.new.notes.named in
    let others = notes_seen c.places_over.new.notes.others in
    let both = maps_looked (FindsIn g.L.MapLoader.Loads) g.N.NamesLoader.Names _ new c.places_over.ensures.looked in
    let cache : c.cache-1.given.0 ≡ new.maps.cache.now = search rules in
    let loader : c.loader-1.given.0 ≡ new.maps.loader.now = search rules in
    let names : c.names-1.given.0 ≡ new.names.now = search rules in
    let namer : c.namer-1.given.0 ≡ new.namer.now = search rules in
    let stands = named_after g.L.MapLoader.Loads _ new _ _ _ _ cache loader names namer both.1 in
    let before = devices_seen (g.R.ByteSource.seen c.args.input.now) (g.W.ByteSink.seen c.args.output.now) in
    let after = devices_seen (g.R.ByteSource.seen c.places_over.new.input) (g.W.ByteSink.seen c.places_over.new.output) in
    let first = named_over sources c.args.cache.now c.args.loader.now c.args.names.now c.args.namer.now in
    record {
      ends = ends_wider c.places_over.result (λ counts is. when_on request.anywhere _ _ c.requires.anywhere
          (subst (λ (s : NamedSeen g.row.L.Denot g.row.N.Denot). RewritesPlacesOver by_names (FindsNamed (FindsIn g.L.MapLoader.Loads) g.N.NamesLoader.Names)
          (found_by true found_beside names_in) asked before after first s counts notes others) stands
          (maps_placed (FindsIn g.L.MapLoader.Loads) g.N.NamesLoader.Names _ new asked before after counts notes others is)))
          (λ fault is. when_on request.anywhere _ _ c.requires.anywhere is)
          (rw c.in-Ok.ensures at c.places_over.ensures.ends);
      looked = subst (λ (s : NamedSeen g.row.L.Denot g.row.N.Denot). Looked (FindsNamed (FindsIn g.L.MapLoader.Loads) g.N.NamesLoader.Names) first s)
          stands both.0;
    }
