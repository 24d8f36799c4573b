use Rattle.std.proofs.Common.{◌-◌, ◌++◌, length, take, drop, arith, ap, ◌∙◌}
use Rattle.std.proofs.lemmas.List.{take_rest}
use Rattle.smap_record.proofs.DebugIdLaws.{put_last}
use Rattle.smap_record.proofs.debug_id.put_debug_id.Goals as goal

pub returns-clause-put : goal.returns-clause-put
returns-clause-put c =
    let whole = c.as_bytes.result.now in
    put_last c.args.id.now c.args.written.now.items whole c.extend_from_slice.new.self.items (c.len-end.result - 1)
    (c.as_bytes.ensures.value ∙ c.in_ok-object.ensures)
    (c.in_ok-extend_from_slice.ensures.items
    ∙ ap (λ items. items ++ take (length whole - 1) (drop 1 whole)) c.in_ok-reserve_exact.ensures.items
    ∙ ap (λ rest. c.args.written.now.items ++ rest) (take_rest whole 1))
    c.requires.some
    (omega (arith, c.len-end.ensures))
