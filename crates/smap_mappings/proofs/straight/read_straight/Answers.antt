use Rattle.std.proofs.Common.{refl, rules, FitsSigned, w32}
use Rattle.std.proofs.lemmas.Bool.{false≢true}
use Rattle.std.proofs.lemmas.Int.{to_z-of_z}
use Rattle.smap_mappings.proofs.FieldLaws.{not_two, not_five, not_six}
use Rattle.smap_mappings.proofs.StraightLaws.{reads_one, reads_four, reads_five}
use Rattle.smap_mappings.proofs.straight.read_straight.Goals as goal

pub returns-then-not-is_at_inner_end-clause-none : goal.returns-then-not-is_at_inner_end-clause-none
returns-then-not-is_at_inner_end-clause-none c =
    not_two c.args.bytes.now c.args.cursor.now.place _ _ c.in_ok-first.ensures.some (λ e. false≢true (c.if-not-is_at_inner_end.ensures.1 e))
    c.in_default.ensures.none

pub returns-in_default-clause-some : goal.returns-in_default-clause-some
returns-in_default-clause-some c =
    let a : FitsSigned w32 c.in_ok-first.first = search rules in
    let column = rw (to_z-of_z w32 c.in_ok-first.first a) at c.moved-column.ensures in
    rw (to_z-of_z w32 c.in_ok-first.first a) (reads_one c.args.bytes.now c.args.cursor.now _ _ _ c.in_ok-first.ensures.some column
    (c.if-not-is_at_inner_end.ensures.0 refl))

pub returns-then-is_at_inner_end-clause-some : goal.returns-then-is_at_inner_end-clause-some
returns-then-is_at_inner_end-clause-some c =
    let a : FitsSigned w32 c.in_ok-first.first = search rules in
    let column = rw (to_z-of_z w32 c.in_ok-first.first a) at c.moved-column.ensures in
    rw (to_z-of_z w32 c.in_ok-first.first a)
    (reads_four c.args.bytes.now c.args.cursor.now _ _ _ c.in_ok-first.ensures.some column _ _ _ _ _ _ c.in-Some.ensures.some
    c.in_ok-original_line.ensures.some c.in_ok-original_column.ensures.some (c.if-is_at_inner_end.ensures.0 refl))

pub returns-in_err-name-clause-none : goal.returns-in_err-name-clause-none
returns-in_err-name-clause-none c =
    rw c.from_residual-in_err-name.ensures
    (not_five c.args.bytes.now c.args.cursor.now.place _ _ _ _ _ _ _ _ c.in_ok-first.ensures.some c.in-Some.ensures.some.field
    c.in_ok-original_line.ensures.some.field c.in_ok-original_column.ensures.some.field
    (λ e. false≢true (c.if-is_at_inner_end.ensures.1 e)) c.in_err-name.ensures.none)

pub returns-then-not-is_at_inner_end-2-clause-none : goal.returns-then-not-is_at_inner_end-2-clause-none
returns-then-not-is_at_inner_end-2-clause-none c =
    not_six c.args.bytes.now c.args.cursor.now.place _ _ _ _ _ _ _ _ _ _ c.in_ok-first.ensures.some c.in-Some.ensures.some.field
    c.in_ok-original_line.ensures.some.field c.in_ok-original_column.ensures.some.field c.in_ok-name.ensures.some.field
    (λ e. false≢true (c.if-not-is_at_inner_end-2.ensures.1 e))

pub returns-clause-some : goal.returns-clause-some
returns-clause-some c =
    let a : FitsSigned w32 c.in_ok-first.first = search rules in
    let column = rw (to_z-of_z w32 c.in_ok-first.first a) at c.moved-column.ensures in
    rw (to_z-of_z w32 c.in_ok-first.first a)
    (reads_five c.args.bytes.now c.args.cursor.now _ _ _ c.in_ok-first.ensures.some column _ _ _ _ _ _ c.in-Some.ensures.some
    c.in_ok-original_line.ensures.some c.in_ok-original_column.ensures.some _ _ c.in_ok-name.ensures.some (c.if-not-is_at_inner_end-2.ensures.0 refl))
