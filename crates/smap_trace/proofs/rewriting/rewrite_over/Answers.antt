use Rattle.std.proofs.Common.{◌≡◌, refl, rules, ◌∙◌}
use Rattle.smap_lines.specs.Laws.RunEnds.{ends_done}
use Rattle.smap_trace.specs.Rewriting.{asked_seen}
use Rattle.smap_trace.proofs.RewritingLaws.{no_text_yet, none_noted, none_yet, rewrites_kept}
use Rattle.smap_trace.proofs.rewriting.rewrite_over.Goals as goal

pub returns-clause-ends : goal.returns-clause-ends
returns-clause-ends g c =
    let asked = asked_seen (g.P.PlaceCounter.count c.args.beside.now.places.now) c.args.options.now in
    let over = rewrites_kept g.M.Maps.Finds g.M.Maps.found g.M.Maps.names g.P.PlaceCounter.count asked _ _ _ c.edit_lines.new.editor _
    (record {
      asks = refl;
      maps = refl;
      frames = refl;
      mapped = refl;
      hiding = refl;
      passed = none_yet asked.most_passed 0;
      noted = none_noted asked.is_noted _ c.requires.unnoted;
      text_is_noted = c.none.ensures ∙ no_text_yet asked.is_noted;
    }) c.in_ok-lines.ensures.ends.whole in
    let maps : c.maps-2-1.given.0 ≡ c.edit_lines.new.editor.maps.now = search rules in
    rw maps (ends_done c.in_ok-lines.ensures.ends over)
