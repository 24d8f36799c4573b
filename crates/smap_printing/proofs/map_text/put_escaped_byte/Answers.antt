use Rattle.std.proofs.Common.{◌∷◌, [], ◌∙◌, subst}
use Rattle.std.proofs.lemmas.Bool.{le-ltb, lt-ltb}
use Rattle.smap_printing.proofs.EscapeLaws.{escaped_number, escaped_plain, escaped_short}
use Rattle.smap_printing.proofs.map_text.put_escaped_byte.Goals as goal

pub returns-in-Some : goal.returns-in-Some
returns-in-Some g c = subst (λ l. g.O.Output.Puts c.args.output.now c.put.new.self l)
    (escaped_short c.args.byte c.in-Some.letter c.in-Some.ensures) c.put.ensures

pub returns-in-None : goal.returns-in-None
returns-in-None g c =
    let number = escaped_number c.args.byte c.in-None.ensures (lt-ltb _ _ c.if-byte-lt32.true) in
    let digits = (λ i. 92 ∷ 117 ∷ 48 ∷ 48 ∷ c.hex_digit.ensures i ∷ c.hex_digit-in-None.ensures i ∷ []) ∙ number in
    subst (λ l. g.O.Output.Puts c.args.output.now c.put-in-None.new.self l) digits c.put-in-None.ensures

pub returns-in-None-2 : goal.returns-in-None-2
returns-in-None-2 g c =
    let plain = escaped_plain c.args.byte c.in-None.ensures (le-ltb _ _ c.if-byte-lt32.false) in
    subst (λ l. g.O.Output.Puts c.args.output.now c.put-in-None-2.new.self l) plain c.put-in-None-2.ensures
