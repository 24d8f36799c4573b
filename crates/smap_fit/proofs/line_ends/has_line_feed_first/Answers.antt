use Rattle.std.proofs.Common.{◌≡◌, ◌≤◌, eqb, length, get_or, sym, ap, ◌∙◌, arith}
use Rattle.smap_fit.proofs.TextLaws.{line_feed_first, none_first}
use Rattle.smap_fit.proofs.line_ends.has_line_feed_first.Goals as goal

pub returns-in-Some : goal.returns-in-Some
returns-in-Some c =
    let byte : c.in-Some.byte.now ≡ get_or c.args.text.now 0 0 = c.in-Some.ensures.item.3.1 0 ∙ ap (λ l. get_or l 0 0) c.as_bytes.ensures.value in
    ap (λ n. eqb n 10) byte ∙ sym (line_feed_first c.args.text.now c.utf8.text)

pub returns-in-None : goal.returns-in-None
returns-in-None c =
    let none : length c.args.text.now ≤ 0 = omega (arith, c.in-None.ensures.item.3, ap length c.as_bytes.ensures.value) in
    sym (line_feed_first c.args.text.now c.utf8.text ∙ none_first c.args.text.now none)
