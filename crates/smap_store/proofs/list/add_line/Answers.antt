use Rattle.std.proofs.Common.{◌≡◌, sym, ◌∙◌}
use Rattle.std.specs.Prelude.{Ok, Some}
use Rattle.smap_locations.specs.ListLine.{line_entry}
use Rattle.smap_store.proofs.ListLaws.{rule_refused}
use Rattle.smap_store.proofs.list.add_line.Goals as goal

pub returns-in-Ok-Some-clause-refused : goal.returns-in-Ok-Some-clause-refused
returns-in-Ok-Some-clause-refused c =
    let entry : line_entry c.args.line.now ≡ Ok (Some (c.in-Ok-Some.url.now, c.in-Ok-Some.path.now)) =
    sym (rw c.in-Ok-Some.field-0-is at c.in-Ok-Some.ensures) in
    rule_refused c.args.exact.now c.args.locations.now c.args.line.now c.in-Ok-Some.url.now c.in-Ok-Some.path.now c.add_rule.result entry
    (sym c.is_rule.ensures ∙ c.if-is_rule.true) c.add_rule.ensures.refused
