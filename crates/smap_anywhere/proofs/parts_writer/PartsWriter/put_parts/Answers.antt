use Rattle.std.proofs.Common.{◌+◌, ap, refl, ◌∙◌}
use Rattle.std.proofs.lemmas.List.{nil_from_length}
use Rattle.std.proofs.lemmas.Result.{err_from_is_err_and}
use Rattle.smap_anywhere.proofs.PutLaws.{bytes_put, done_looked, done_none, done_place, has_stated, place_begins, place_fails, place_looked}
use Rattle.smap_anywhere.proofs.GivenLaws.{given_by, gives_of, same_by, some_by}
use Rattle.smap_anywhere.proofs.parts_writer.PartsWriter.put_parts.Goals as goal

pub loop-span-init : goal.loop-span-init
loop-span-init g c =
    done_none g.M.Maps.names_any g.M.Maps.Finds g.M.Maps.found g.M.Maps.names g.W.ByteSink.seen c.args.self.now c.args.output.now c.args.text.now c.args.spans.now c.requires.order

pub put_place-requires-clause-after : goal.put_place-requires-clause-after
put_place-requires-clause-after g c =
    let is = rw c.in-Some.ensures.cases.0 at c.loop-span.invariant in
    rw c.function_for-function.ensures.bytes (place_begins _ _ _ _ _ _ _ _ _ _ _ _ _ _ is c.url_of-url.result.now c.find.new.self c.find.ensures.finds
    c.url_of-url.ensures)

pub returns-in_err-is_mapped-clause-looked : goal.returns-in_err-is_mapped-clause-looked
returns-in_err-is_mapped-clause-looked g c =
    let is = rw c.in-Some.ensures.cases.0 at c.loop-span.invariant in
    place_looked _ _ _ _ _ _ _ _ _ _ _ _ _ _ is c.url_of-url.result.now c.find.new.self c.find.ensures.finds c.url_of-url.ensures

pub returns-in_err-is_mapped-clause-puts : goal.returns-in_err-is_mapped-clause-puts
returns-in_err-is_mapped-clause-puts g c =
    let is = rw c.in-Some.ensures.cases.0 at c.loop-span.invariant in
    let p = err_from_is_err_and c.from_residual.result c.from_residual.ensures.1 in
    rw p.1 (place_fails _ _ _ _ _ _ _ _ _ _ _ _ _ _ is c.url_of-url.result.now c.find.new.self c.find.ensures.finds c.url_of-url.ensures
    c.put_place.new.output _ c.map_for-map.ensures _ _ c.function_for-function.ensures.bytes c.function_for-function.ensures.put
    (gives_of g.M.Maps.names_any g.M.Maps.Gives g.M.Maps.GivesNames)
    (same_by g.M.Maps.names_any g.M.Maps.Gives g.M.Maps.GivesNames g.M.Maps.Finds g.met.M.Maps.same g.met.M.Maps.same_names)
    (given_by g.M.Maps.names_any g.M.Maps.Gives g.M.Maps.GivesNames g.M.Maps.Finds g.M.Maps.found g.M.Maps.names g.met.M.Maps.given g.met.M.Maps.given_names)
    (some_by g.M.Maps.names_any g.M.Maps.Gives g.M.Maps.GivesNames g.met.M.Maps.some g.met.M.Maps.some_names c.args.self.now.maps.now)
    c.in_err-is_mapped.ensures.put)

pub loop-span-preserved : goal.loop-span-preserved
loop-span-preserved g c =
    let is = rw c.in-Some.ensures.cases.0 at c.loop-span.invariant in
    done_place _ _ _ _ _ _ _ _ _ _ _ _ _ _ is c.url_of-url.result.now c.find.new.self c.find.ensures.finds c.url_of-url.ensures
    c.put_place.new.output _ c.map_for-map.ensures _ _ c.function_for-function.ensures.bytes c.function_for-function.ensures.put _ c.is_some.result c.in_ok-is_mapped.is_mapped
    (c.is_some.ensures ∙ has_stated (λ file. file.now.stated) c.map_for-map.result) c.in_ok-is_mapped.ensures.mapped c.in_ok-is_mapped.ensures.put
    refl (refl, refl, refl) refl (ap (λ n. c.loop-span.self.mapped + n) c.from.ensures) c.note_place.ensures

pub returns-clause-looked : goal.returns-clause-looked
returns-clause-looked g c = done_looked _ _ _ _ _ _ _ _ _ _ _ _ _ c.loop-span.invariant

pub returns-clause-puts : goal.returns-clause-puts
returns-clause-puts g c =
    let is = rw (nil_from_length c.loop-span.rest.now c.in_default.ensures.cases) at c.loop-span.invariant in
    bytes_put _ _ _ _ _ _ _ _ _ _ _ _ is c.put.new.self (gives_of g.M.Maps.names_any g.M.Maps.Gives g.M.Maps.GivesNames)
    (same_by g.M.Maps.names_any g.M.Maps.Gives g.M.Maps.GivesNames g.M.Maps.Finds g.met.M.Maps.same g.met.M.Maps.same_names)
    (given_by g.M.Maps.names_any g.M.Maps.Gives g.M.Maps.GivesNames g.M.Maps.Finds g.M.Maps.found g.M.Maps.names g.met.M.Maps.given g.met.M.Maps.given_names) c.put.result c.put.ensures
