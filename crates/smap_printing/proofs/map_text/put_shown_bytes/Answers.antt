use Rattle.std.proofs.Common.{flat_map, ap, ◌∙◌, subst}
use Rattle.std.proofs.lemmas.List.{take_all}
use Rattle.smap_printing.specs.Private.Escapes.{shown_piece}
use Rattle.smap_printing.proofs.EscapeLaws.{plain_text, shown_is}
use Rattle.smap_printing.proofs.map_text.put_shown_bytes.Goals as goal

pub returns-then-is_plain_text : goal.returns-then-is_plain_text
returns-then-is_plain_text g c =
    subst (λ l. g.O.Output.Puts c.args.output.now c.put.new.self l)
    (plain_text c.args.bytes.now (c.is_plain_text.ensures c.if-is_plain_text.true)) c.put.ensures

pub returns : goal.returns
returns g c =
    let whole = ap (flat_map shown_piece) (take_all c.loop-byte.byte-index c.args.bytes.now c.loop-byte-test.false) in
    subst (λ l. g.O.Output.Puts c.args.output.now c.loop-byte.output l) (whole ∙ shown_is c.args.bytes.now) c.loop-byte.invariant.puts
