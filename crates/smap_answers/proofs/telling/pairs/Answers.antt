use Rattle.std.proofs.Common.{◌++◌, ◌*◌, ap, arith, map, string_bytes, sym, ◌∙◌}
use Rattle.std.proofs.lemmas.List.{append-nil}
use Rattle.smap_replies.specs.Telling.{file_seen}
use Rattle.smap_answers.proofs.TellingLaws.{adds, no_pair_at, pair_at}
use Rattle.smap_answers.proofs.telling.pairs.Goals as goal

pub loop-number-preserved : goal.loop-number-preserved
loop-number-preserved c =
    let is = pair_at string_bytes c.args.paths.now c.loop-number.number c.index-paths-at.result c.index-paths-behind.result
    (omega (arith, c.loop-number-test.true)) c.index-paths-at.is c.index-paths-behind.is in
    rw (c.in_ok-push-2.ensures.items, c.in_ok-push.ensures.items)
    (adds file_seen _ _ _ (rw c.deref-in-loop-number-2.ensures at c.text_at.ensures) _ _
    (adds file_seen c.loop-number.files.items _ _ (rw (c.deref.ensures, c.deref-in-loop-number.ensures) at c.map_beside.ensures) _ _
    (ap (λ l. map file_seen c.loop-number.files.items ++ l) (sym is) ∙ c.loop-number.invariant)))

pub returns : goal.returns
returns c =
    let none = no_pair_at string_bytes c.args.paths.now c.loop-number.number (2 * c.loop-number.number) (omega (arith, c.loop-number-test.false)) in
    sym (append-nil (map file_seen c.loop-number.files.items)) ∙ ap (λ l. map file_seen c.loop-number.files.items ++ l) (sym none)
    ∙ c.loop-number.invariant
