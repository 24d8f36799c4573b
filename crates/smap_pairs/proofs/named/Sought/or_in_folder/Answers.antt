use Rattle.std.proofs.Common.{◌≡◌, ◌≤◌, ◌<◌, ◌-◌, ℕ, ap, arith, false, inl, inr, sym, take, true, ◌∙◌}
use Rattle.std.proofs.lemmas.Bool.{cases_lt}
use Rattle.smap_pairs.specs.Behind.{is_in_folder}
use Rattle.smap_pairs.specs.Greatest.{greatest}
use Rattle.smap_pairs.specs.Named.{begins_in_folder, is_in_folder as is_in_folder_before}
use Rattle.smap_pairs.specs.Laws.Greatest.{greatest_is, greatest_passes, greatest_within}
use Rattle.smap_pairs.proofs.named.Sought.or_in_folder.Goals as goal

pub returns-then-begins_in_folder-clause-longest : goal.returns-then-begins_in_folder-clause-longest
returns-then-begins_in_folder-clause-longest g c =
    let self = c.args.self.now in
    let begins = begins_in_folder (g.K.KnownUrls.known self.known.now) self.text.now self.seen.now (is_in_folder (take self.end self.seen.now) self.piece) self.end in
    let test = is_in_folder_before (g.K.KnownUrls.known self.known.now) self.text.now self.seen.now (is_in_folder (take self.end self.seen.now) self.piece) self.end in
    let at : ℕ = c.loop-at.at in
    let inside : at < self.end = omega (arith, c.loop-at-test.true, c.saturating_sub-at-end.ensures) in
    let back : self.end - (self.end - at) ≡ at = omega (arith, inside) in
    let on : test (self.end - at) ≡ true = ap begins back ∙ (sym c.begins_in_folder.ensures ∙ c.if-begins_in_folder.true) in
    let is : greatest test (self.end - self.piece) ≡ self.end - at = greatest_is test (self.end - self.piece) (self.end - at)
    (λ n more small. c.loop-at.invariant (self.end - n) (omega (arith, more, small)) (omega (arith, more, small)))
    (inr on) (omega (arith, c.loop-at.auto.at, c.first_in_folder-at.ensures.low)) in
    omega (arith, is, c.loop-at-test.true, c.saturating_sub-at-end.ensures)

pub loop-at-preserved : goal.loop-at-preserved
loop-at-preserved g c = λ at least below. elim (cases_lt at c.loop-at.at) [
  | inl less ↦ c.loop-at.invariant at least less
  | inr more ↦ (let self = c.args.self.now in
      let same : at ≡ c.loop-at.at = omega (arith, below, more) in
      let off : c.begins_in_folder.result ≡ false = c.if-begins_in_folder.false in
      ap (begins_in_folder (g.K.KnownUrls.known self.known.now) self.text.now self.seen.now (is_in_folder (take self.end self.seen.now) self.piece) self.end) same
      ∙ (sym c.begins_in_folder.ensures ∙ off))
]

pub returns-clause-longest : goal.returns-clause-longest
returns-clause-longest g c =
    let self = c.args.self.now in
    let test = is_in_folder_before (g.K.KnownUrls.known self.known.now) self.text.now self.seen.now (is_in_folder (take self.end self.seen.now) self.piece) self.end in
    let most : ℕ = self.end - self.piece in
    let within : greatest test most ≤ most = greatest_within test most in
    let least : greatest test most ≤ c.args.named = elim (greatest_passes test most) [
      | inl nothing ↦ omega (arith, nothing)
      | inr on ↦ elim (cases_lt c.args.named (greatest test most)) [
        | inl more ↦ absurd (differ (sym on ∙ c.loop-at.invariant (self.end - greatest test most) (omega (arith, within, more))
            (omega (arith, more, within, c.loop-at-test.false, c.saturating_sub-at-end.ensures))))
        | inr less ↦ omega (arith, less)
      ]
    ] in
    omega (arith, least)
  where
    differ : true ≡ false → ⊥
    differ is = cc
