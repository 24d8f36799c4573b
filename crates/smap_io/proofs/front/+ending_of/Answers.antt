use Rattle.std.proofs.Common.{◌≡◌, ◌<◌, ◌-◌, ◌∙◌, arith, rules, sym, subst, true, false, length}
use Rattle.smap_io.specs.Sequences.{goes_on}
use Rattle.smap_io.specs.Private.Front.{IsEnding}
use Rattle.smap_io.specs.declared.front.Ending.TheVariants as ending
use Rattle.smap_io.proofs.FrontLaws.{behind_on, ends_here, ends_nowhere, never_on, none_left, open_here, open_on}
use Rattle.smap_io.proofs.front.+ending_of.Goals as goal

pub returns-then-most-eq0 : goal.returns-then-most-eq0
returns-then-most-eq0 t c = none_left c.args.bytes.now c.args.most c.args.is_behind_intermediate c.if-most-eq0.true

pub returns-in_default : goal.returns-in_default
returns-in_default t c =
    let empty : length c.args.bytes.now ≡ 0 = search rules in
    open_here c.args.bytes.now c.args.most c.args.is_behind_intermediate empty (omega (arith, c.if-most-eq0.false))

pub returns-then-is_final : goal.returns-then-is_final
returns-then-is_final t c =
    let some : 0 < c.args.most = omega (arith, c.if-most-eq0.false) in
    ends_here c.in-Some.byte.now c.args.is_behind_intermediate c.args.bytes.now c.in-Some.behind.now c.args.most c.in-Some.ensures.cases.0 some
    (sym c.is_final.ensures ∙ c.if-is_final.true)

pub returns-then-not-goes_on : goal.returns-then-not-goes_on
returns-then-not-goes_on t c =
    let some : 0 < c.args.most = omega (arith, c.if-most-eq0.false) in
    let stops : goes_on c.args.is_behind_intermediate c.in-Some.byte.now ≡ false = search rules in
    ends_nowhere c.in-Some.byte.now c.args.is_behind_intermediate c.args.bytes.now c.in-Some.behind.now c.args.most c.in-Some.ensures.cases.0 some
    (sym c.is_final.ensures ∙ c.if-is_final.false) stops

pub returns-in-Open : goal.returns-in-Open
returns-in-Open t c =
    let some : 0 < c.args.most = omega (arith, c.if-most-eq0.false) in
    let on : goes_on c.args.is_behind_intermediate c.in-Some.byte.now ≡ true = search rules in
    open_on c.in-Some.byte.now c.args.is_behind_intermediate c.args.bytes.now c.in-Some.behind.now c.args.most c.in-Some.ensures.cases.0 some
    (sym c.is_final.ensures ∙ c.if-is_final.false) on
    (subst (λ b. IsEnding c.in-Some.behind.now (c.args.most - 1) b ending.Open) c.is_intermediate.ensures c.in-Open.ensures)

pub returns-in-Never : goal.returns-in-Never
returns-in-Never t c =
    let some : 0 < c.args.most = omega (arith, c.if-most-eq0.false) in
    let on : goes_on c.args.is_behind_intermediate c.in-Some.byte.now ≡ true = search rules in
    never_on c.in-Some.byte.now c.args.is_behind_intermediate c.args.bytes.now c.in-Some.behind.now c.args.most c.in-Some.ensures.cases.0 some
    (sym c.is_final.ensures ∙ c.if-is_final.false) on
    (subst (λ b. IsEnding c.in-Some.behind.now (c.args.most - 1) b ending.Never) c.is_intermediate.ensures c.in-Never.ensures)

pub returns-in-Behind : goal.returns-in-Behind
returns-in-Behind t c =
    let some : 0 < c.args.most = omega (arith, c.if-most-eq0.false) in
    let on : goes_on c.args.is_behind_intermediate c.in-Some.byte.now ≡ true = search rules in
    behind_on c.in-Some.byte.now c.args.is_behind_intermediate c.args.bytes.now c.in-Some.behind.now c.args.most c.in-Some.ensures.cases.0 some
    (sym c.is_final.ensures ∙ c.if-is_final.false) on c.in-Behind.count
    (subst (λ b. IsEnding c.in-Some.behind.now (c.args.most - 1) b (ending.Behind c.in-Behind.count)) c.is_intermediate.ensures c.in-Behind.ensures)
