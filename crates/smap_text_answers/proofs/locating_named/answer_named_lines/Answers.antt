use Rattle.std.proofs.Common.{◌≡◌, rules, subst}
use Rattle.smap_lines.specs.Editing.{EditsInto, devices_seen}
use Rattle.smap_lines.specs.Laws.RunEnds.{ends_wider}
use Rattle.smap_lines.specs.Limits.{most_text_bytes}
use Rattle.smap_store.specs.Named.{FindsNamed, NamedSeen}
use Rattle.smap_store.specs.Stored.{FindsIn}
use Rattle.smap_text_answers.specs.NamedLocating.{NamedLocateStep}
use Rattle.smap_text_answers.specs.Private.Naming.{named_over}
use Rattle.smap_text_answers.proofs.NamedLocatingLaws.{named_locates_seen}
use Rattle.smap_text_answers.proofs.NamingLaws.{named_after}
use Rattle.smap_trace.specs.Rewriting.{Looked}
use Rattle.smap_text_answers.proofs.locating_named.answer_named_lines.Goals as goal

pub returns : goal.returns
returns g c =
    let new = c.edit_lines.new.editor in
    let cache : c.cache-1.given.0 ≡ new.maps.maps.cache.now = search rules in
    let loader : c.loader-1.given.0 ≡ new.maps.maps.loader.now = search rules in
    let names : c.names-1.given.0 ≡ new.maps.names.now = search rules in
    let namer : c.namer-1.given.0 ≡ new.maps.namer.now = search rules in
    let stands = named_after g.L.MapLoader.Loads _ new.maps _ _ _ _ cache loader names namer c.edit_lines.ensures.reaches.1 in
    let before = devices_seen (g.R.ByteSource.seen c.args.input.now) (g.W.ByteSink.seen c.args.output.now) in
    let after = devices_seen (g.R.ByteSource.seen c.edit_lines.new.input) (g.W.ByteSink.seen c.edit_lines.new.output) in
    let first = named_over c.args.sources.now c.args.cache.now c.args.loader.now c.args.names.now c.args.namer.now in
    record {
      ends = ends_wider c.edit_lines.result (λ counts is.
          subst (λ (s : NamedSeen g.row.L.Denot g.row.N.Denot). EditsInto (NamedLocateStep (FindsNamed (FindsIn g.L.MapLoader.Loads) g.N.NamesLoader.Names)
          c.args.options) most_text_bytes before after first s counts) stands
          (named_locates_seen g.L.MapLoader.Loads g.N.NamesLoader.Names _ before after new counts is))
          (λ fault is. is) c.edit_lines.ensures.ends;
      looked = subst (λ (s : NamedSeen g.row.L.Denot g.row.N.Denot). Looked (FindsNamed (FindsIn g.L.MapLoader.Loads) g.N.NamesLoader.Names) first s)
          stands c.edit_lines.ensures.reaches.0;
    }
