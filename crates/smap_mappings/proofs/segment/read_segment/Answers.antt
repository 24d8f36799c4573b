use Rattle.std.proofs.Common.{refl, rules, FitsSigned, w32}
use Rattle.std.proofs.lemmas.Bool.{false≢true}
use Rattle.std.proofs.lemmas.Int.{to_z-of_z}
use Rattle.smap_mappings.proofs.FieldLaws.{one_field, four_fields, five_fields, not_two, not_five, not_six}
use Rattle.smap_mappings.proofs.segment.read_segment.Goals as goal

pub returns-then-is_at_end-clause-some : goal.returns-then-is_at_end-clause-some
returns-then-is_at_end-clause-some c =
    let a : FitsSigned w32 c.in_ok-column.column = search rules in
    rw (to_z-of_z w32 c.in_ok-column.column a) (one_field c.args.bytes.now c.args.place _ _ c.in_ok-column.ensures.some (c.if-is_at_end.ensures.0 refl))

pub returns-in_err-source-clause-none : goal.returns-in_err-source-clause-none
returns-in_err-source-clause-none c =
    rw c.from_residual-in_err-source.ensures (not_two c.args.bytes.now c.args.place _ _ c.in_ok-column.ensures.some
    (λ e. false≢true (c.if-is_at_end.ensures.1 e)) c.in_err-source.ensures.none)

pub returns-then-is_at_end-2-clause-some : goal.returns-then-is_at_end-2-clause-some
returns-then-is_at_end-2-clause-some c =
    let a : FitsSigned w32 c.in_ok-column.column = search rules in
    let b : FitsSigned w32 c.in_ok-source.source = search rules in
    let l : FitsSigned w32 c.in_ok-line.line = search rules in
    let d : FitsSigned w32 c.in_ok-original_column.original_column = search rules in
    rw (
      to_z-of_z w32 c.in_ok-column.column a,
      to_z-of_z w32 c.in_ok-source.source b,
      to_z-of_z w32 c.in_ok-line.line l,
      to_z-of_z w32 c.in_ok-original_column.original_column d,
    )
    (four_fields c.args.bytes.now c.args.place _ _ _ _ _ _ _ _ c.in_ok-column.ensures.some c.in_ok-source.ensures.some
    c.in_ok-line.ensures.some c.in_ok-original_column.ensures.some (c.if-is_at_end-2.ensures.0 refl))

pub returns-in_err-name-clause-none : goal.returns-in_err-name-clause-none
returns-in_err-name-clause-none c =
    rw c.from_residual-in_err-name.ensures
    (not_five c.args.bytes.now c.args.place _ _ _ _ _ _ _ _ c.in_ok-column.ensures.some c.in_ok-source.ensures.some
    c.in_ok-line.ensures.some c.in_ok-original_column.ensures.some (λ e. false≢true (c.if-is_at_end-2.ensures.1 e)) c.in_err-name.ensures.none)

pub returns-then-not-is_at_end-clause-none : goal.returns-then-not-is_at_end-clause-none
returns-then-not-is_at_end-clause-none c =
    not_six c.args.bytes.now c.args.place _ _ _ _ _ _ _ _ _ _ c.in_ok-column.ensures.some c.in_ok-source.ensures.some
    c.in_ok-line.ensures.some c.in_ok-original_column.ensures.some c.in_ok-name.ensures.some (λ e. false≢true (c.if-not-is_at_end.ensures.1 e))

pub returns-clause-some : goal.returns-clause-some
returns-clause-some c =
    let a : FitsSigned w32 c.in_ok-column.column = search rules in
    let b : FitsSigned w32 c.in_ok-source.source = search rules in
    let l : FitsSigned w32 c.in_ok-line.line = search rules in
    let d : FitsSigned w32 c.in_ok-original_column.original_column = search rules in
    let n : FitsSigned w32 c.in_ok-name.name = search rules in
    rw (
      to_z-of_z w32 c.in_ok-column.column a,
      to_z-of_z w32 c.in_ok-source.source b,
      to_z-of_z w32 c.in_ok-line.line l,
      to_z-of_z w32 c.in_ok-original_column.original_column d,
      to_z-of_z w32 c.in_ok-name.name n,
    )
    (five_fields c.args.bytes.now c.args.place _ _ _ _ _ _ _ _ _ _ c.in_ok-column.ensures.some c.in_ok-source.ensures.some
    c.in_ok-line.ensures.some c.in_ok-original_column.ensures.some c.in_ok-name.ensures.some (c.if-not-is_at_end.ensures.0 refl))
