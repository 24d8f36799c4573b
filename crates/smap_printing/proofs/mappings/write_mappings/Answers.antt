use Rattle.std.proofs.Common.{◌≡◌, ◌++◌, option_copied, rules, subst}
use Rattle.std.proofs.lemmas.Result.{err_from_is_err_and}
use Rattle.smap_io.specs.Device.{TakesFront}
use Rattle.smap_lines.specs.Gathered.{HandsOn}
use Rattle.smap_printing.specs.Mappings.{text_with_id}
use Rattle.smap_printing.proofs.PrintedLaws.{front_on, written_on}
use Rattle.smap_printing.proofs.mappings.write_mappings.Goals as goal

pub returns-in_err-put_mappings-clause-front : goal.returns-in_err-put_mappings-clause-front
returns-in_err-put_mappings-clause-front g c =
    let p = err_from_is_err_and c.from_residual.result c.from_residual.ensures.1 in
    let text = text_with_id c.args.options (option_copied c.args.id) c.args.map.now.stated in
    let sink : c.in_err-put_mappings.output-1-own.given.0 ≡ c.put_mappings.new.output.sink.now = search rules in
    rw (p.1, sink) (subst (λ l. TakesFront (g.W.ByteSink.seen c.args.output.now).taken
    (g.W.ByteSink.seen c.put_mappings.new.output.sink.now).taken (l ++ text)) c.requires.none c.in_err-put_mappings.ensures.front)

pub returns-clause-written : goal.returns-clause-written
returns-clause-written g c =
    let text = text_with_id c.args.options (option_copied c.args.id) c.args.map.now.stated in
    let sink : c.output-2-1.given.0 ≡ c.write.new.self.sink.now = search rules in
    let put = subst (λ l. HandsOn (g.W.ByteSink.seen c.args.output.now).taken
    (g.W.ByteSink.seen c.put_mappings.new.output.sink.now).taken (l ++ text) c.put_mappings.new.output.gathered.now)
    c.requires.none c.in_ok-put_mappings.ensures.put in
    rw sink (written_on _ _ _ text _ c.write.result put c.write.ensures.written)

pub returns-clause-front : goal.returns-clause-front
returns-clause-front g c =
    let text = text_with_id c.args.options (option_copied c.args.id) c.args.map.now.stated in
    let sink : c.output-2-1.given.0 ≡ c.write.new.self.sink.now = search rules in
    let put = subst (λ l. HandsOn (g.W.ByteSink.seen c.args.output.now).taken
    (g.W.ByteSink.seen c.put_mappings.new.output.sink.now).taken (l ++ text) c.put_mappings.new.output.gathered.now)
    c.requires.none c.in_ok-put_mappings.ensures.put in
    rw sink (front_on _ _ _ text _ c.write.result put c.write.ensures.front)
