use Rattle.std.proofs.Common.{[], ◌∷◌, ap, arith, get_or, rules, ◌∙◌}
use Rattle.smap_trace.specs.TextNote.{opening_seen, opening_with}
use Rattle.smap_trace.proofs.TextNoteLaws.{opening_full, opening_next, opening_none}
use Rattle.smap_trace.proofs.text_note.Opening.put.Goals as goal

pub loop-byte-init : goal.loop-byte-init
loop-byte-init c = opening_none c.args.self.now.bytes c.args.self.now.len (omega (arith, c.if-self-lt-MOST_OPENING_BYTES.true))

pub loop-byte-preserved : goal.loop-byte-preserved
loop-byte-preserved c =
    let bytes = c.args.more.now in
    let i = c.loop-byte.byte-index in
    opening_next (opening_seen c.args.self.now) _ bytes i 0 (omega (arith, c.loop-byte-test.true))
    (c.push.ensures ∙ ap (λ o. opening_with o (get_or bytes i 0 ∷ [])) c.loop-byte.invariant)

pub returns-else-self-lt-MOST_OPENING_BYTES : goal.returns-else-self-lt-MOST_OPENING_BYTES
returns-else-self-lt-MOST_OPENING_BYTES c =
    opening_full c.args.self.now.bytes c.args.self.now.len c.args.more.now (search rules) (omega (arith, c.if-self-lt-MOST_OPENING_BYTES.false))
