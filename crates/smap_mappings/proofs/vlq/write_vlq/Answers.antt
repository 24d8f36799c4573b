use Rattle.std.proofs.Common.{◌≡◌, ◌++◌, ℕ, [], ◌∷◌, ap, sym, ◌∙◌, arith, subst, rules}
use Rattle.std.specs.Prelude.{OnOk}
use Rattle.smap_mappings.specs.Canonical.{shortest_spelling, digits_of, unsigned_number}
use Rattle.smap_mappings.proofs.DigitLaws.{last_digit}
use Rattle.smap_mappings.proofs.ShortestLaws.{shortest_is_shortest}
use Rattle.smap_mappings.proofs.vlq.write_vlq.Goals as goal

pub returns-in_err-push-clause-shortest : goal.returns-in_err-push-clause-shortest
returns-in_err-push-clause-shortest c = shortest_is_shortest c.args.n (search rules)

pub returns-in_ok-push-clause-appended : goal.returns-in_ok-push-clause-appended
unfolding shortest_spelling
returns-in_ok-push-clause-appended c =
    let is : c.unsigned_number-unsigned.result ≡ unsigned_number c.args.n = search rules in
    c.in_ok-push.ensures.items ∙ ap (λ byte. c.args.out.now.items ++ byte ∷ []) c.letter.ensures
    ∙ ap (λ digits. c.args.out.now.items ++ digits)
    (sym (last_digit 7 c.unsigned_number-unsigned.result (omega arith) c.if-unsigned-lt32.true) ∙ ap (digits_of 7) is)

pub returns-in_ok-push-clause-shortest : goal.returns-in_ok-push-clause-shortest
returns-in_ok-push-clause-shortest c = shortest_is_shortest c.args.n (search rules)

pub returns-else-unsigned-lt32-clause-appended : goal.returns-else-unsigned-lt32-clause-appended
unfolding shortest_spelling
returns-else-unsigned-lt32-clause-appended c =
    let is : c.unsigned_number-unsigned.result ≡ unsigned_number c.args.n = search rules in
    let P : ℕ → Type 0 = λ u. OnOk c.write_long.result (c.write_long.new.out.items ≡ c.args.out.now.items ++ digits_of 7 u) in
    subst P is c.write_long.ensures.appended

pub returns-else-unsigned-lt32-clause-shortest : goal.returns-else-unsigned-lt32-clause-shortest
returns-else-unsigned-lt32-clause-shortest c = shortest_is_shortest c.args.n (search rules)
