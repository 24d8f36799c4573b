use Rattle.std.proofs.Common.{◌≡◌, ◌∙◌, ◌<◌, ℕ, ap, arith, inl, inr, length, sym, take}
use Rattle.smap_codes.specs.declared.code.Code.TheVariants.{X5}
use Rattle.smap_c.specs.Trace.{IsRefusedFor, line_ends, rewrite_refused, text_read}
use Rattle.smap_c.proofs.RewriteLaws.{front_of, if_held, is_long, too_much_read}
use Rattle.smap_c.proofs.trace.smap_rewrite_within.Goals as goal

pub returns-then-len-most-clause-refused : goal.returns-then-len-most-clause-refused
returns-then-len-most-clause-refused c =
    let options = c.args.options.now in
    let table = c.lend-maps.result.now in
    let read = text_read options c.args.text.now in
    let written = c.rewrite_text-outcome.new.output.bytes.items in
    let front = front_of options table read written c.rewrite_text-outcome.result c.rewrite_text-outcome.ensures in
    let over : c.args.most < length written = omega (arith, c.if-len-most.true, c.len.ensures) in
    let lines = c.line_ends.ensures ∙ ap (λ w. line_ends (take c.args.most w)) c.deref.ensures.value in
    if_held _ table c.lend-maps.ensures.value (λ maps. ◌≡◌ {A = ℕ} 1 1 → IsRefusedFor options maps c.args.text.now c.args.most c.refused-then-len-most.result)
    (λ _. inr (inr (
      sym c.is_for_all.ensures ∙ c.if-is_for_all.false,
      is_long options table read written front c.args.most _ over
          (c.refused-then-len-most.ensures ∙ ap (rewrite_refused X5) lines),
    )))

pub returns-clause-refused : goal.returns-clause-refused
returns-clause-refused c =
    let options = c.args.options.now in
    let table = c.lend-maps.result.now in
    if_held _ table c.lend-maps.ensures.value (λ maps. c.reported.result ≡ 1 → IsRefusedFor options maps c.args.text.now c.args.most c.reported.new.refusal)
    (λ is.
    let too = too_much_read options table (text_read options c.args.text.now) _ c.reported.result c.reported.new.refusal is c.rewrite_text-outcome.result
    c.reported.ensures.refused c.reported.ensures.failed c.rewrite_text-outcome.ensures in
    inr (inl (sym c.is_for_all.ensures ∙ c.if-is_for_all.false, too.0, too.1)))
