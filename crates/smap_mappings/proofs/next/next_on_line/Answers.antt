use Rattle.std.proofs.Common.{◌+◌, refl, arith}
use Rattle.smap_mappings.specs.declared.cursor.Cursor.{Cursor}
use Rattle.smap_mappings.proofs.OrderLaws.{not_above}
use Rattle.smap_mappings.proofs.StepLaws.{skips_line_end}
use Rattle.smap_mappings.proofs.next.next_on_line.Goals as goal

pub returns-then-is_at_line_end-clause-none : goal.returns-then-is_at_line_end-clause-none
returns-then-is_at_line_end-clause-none c j after mapping there =
    let text = c.args.bytes.now in
    let at = c.args.cursor.now in
    let below : Cursor = record at { line = at.line + 1; column = 0; place = at.place + 1 } in
    let passed = skips_line_end text j at below after (c.is_at_line_end.ensures.within c.if-is_at_line_end.true)
    (c.is_at_line_end.ensures.is c.if-is_at_line_end.true) refl in
    omega (arith, not_above text j below mapping passed there)
