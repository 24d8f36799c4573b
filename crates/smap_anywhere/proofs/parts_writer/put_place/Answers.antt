use Rattle.std.proofs.Common.{◌-◌, arith, option_map, ◌∙◌}
use Rattle.std.proofs.lemmas.Result.{err_from_is_err_and}
use Rattle.smap_anywhere.proofs.PutLaws.{text_replaced, text_stays}
use Rattle.smap_anywhere.proofs.parts_writer.put_place.Goals as goal

pub returns-in_err-put-clause-put : goal.returns-in_err-put-clause-put
returns-in_err-put-clause-put g c =
    let p = err_from_is_err_and c.from_residual.result c.from_residual.ensures.1 in
    let is = text_stays (option_map (λ file. file.now.stated) c.args.map) c.args.text.now c.args.from
    (c.args.span.now.start - c.args.function.now.bytes) c.args.span.now _ (omega (arith, c.requires.after)) (omega (arith, c.requires.some))
    c.in_default.ensures in
    rw p.1 (rw is at c.in_err-put.ensures)

pub returns-in_default-clause-put : goal.returns-in_default-clause-put
returns-in_default-clause-put g c =
    let is = text_stays (option_map (λ file. file.now.stated) c.args.map) c.args.text.now c.args.from
    (c.args.span.now.start - c.args.function.now.bytes) c.args.span.now _ (omega (arith, c.requires.after)) (omega (arith, c.requires.some))
    c.in_default.ensures in
    rw is at c.in_ok-put.ensures

pub returns-in_err-put_all-clause-put : goal.returns-in_err-put_all-clause-put
returns-in_err-put_all-clause-put g c =
    let p = err_from_is_err_and c.from_residual-in_err-put_all.result c.from_residual-in_err-put_all.ensures.1 in
    let pieces = rw (c.as_bytes.ensures.value, c.print_place.ensures c.in-Some.replacement.name.now) at c.pieces_of-pieces.ensures in
    rw p.1 (rw (pieces ∙ text_replaced (option_map (λ file. file.now.stated) c.args.map) c.args.text.now _ c.args.from
    (c.args.span.now.start - c.args.function.now.bytes) c.args.span.now _ c.in-Some.ensures)
    at c.in_err-put_all.ensures)

pub returns-clause-put : goal.returns-clause-put
returns-clause-put g c =
    let pieces = rw (c.as_bytes.ensures.value, c.print_place.ensures c.in-Some.replacement.name.now) at c.pieces_of-pieces.ensures in
    rw (pieces ∙ text_replaced (option_map (λ file. file.now.stated) c.args.map) c.args.text.now _ c.args.from
    (c.args.span.now.start - c.args.function.now.bytes) c.args.span.now _ c.in-Some.ensures)
    at c.in_ok-put_all.ensures
