use Rattle.std.proofs.Common.{ℕ, subst, ◌≡◌, ◌+◌, ◌-◌, ◌∙◌, ap, Some, sym, arith, take, drop, ◌++◌, ◌∷◌, get_or}
use Rattle.std.proofs.lemmas.List.{drop_more, take-append-drop, take_rest}
use Rattle.smap_trace.specs.Cuts.{cut_at_last_byte}
use Rattle.smap_trace.proofs.CutLaws.{no_cut, last_cut, is_without}
use Rattle.smap_trace.proofs.cuts.cut_at_last_byte.Goals as goal

pub returns-then-text-end : goal.returns-then-text-end
returns-then-text-end c =
    let text = c.args.text.now in
    let end = c.loop-end.end in
    let on : end - 1 + 1 ≡ end = omega arith in
    let rest : drop (end - 1) text ≡ c.args.byte ∷ drop end text =
    drop_more text (end - 1) 0 (omega arith) ∙ ap (λ n. get_or text (end - 1) 0 ∷ drop n text) on ∙ ap (λ b. b ∷ drop end text) c.if-text-end.true in
    let whole : take (end - 1) text ++ c.args.byte ∷ drop end text ≡ text = ap (λ l. take (end - 1) text ++ l) (sym rest) ∙ take-append-drop (end - 1) text in
    ap (λ l. Some (take (end - 1) text, l)) (take_rest text end)
    ∙ sym (last_cut c.args.byte (take (end - 1) text) (drop end text) c.loop-end.invariant.without) ∙ ap (cut_at_last_byte c.args.byte) whole

pub returns : goal.returns
returns c =
    let none : c.loop-end.end ≡ 0 = omega arith in
    sym (no_cut c.args.byte c.args.text.now (let P : ℕ
    → Type 0 = λ n. is_without c.args.byte (drop n c.args.text.now) in subst P none c.loop-end.invariant.without))
