use Rattle.std.proofs.Common.{◌≡◌, ◌∙◌, ◌+◌, ◌-◌, Some, arith, refl, subst, sym}
use Rattle.std.specs.Option.{IsSome}
use Rattle.clap.specs.Words.{found_of, rows_of}
use Rattle.smap_command.specs.Limits.{limit}
use Rattle.smap_arguments.specs.Arguments.{GivesNumber}
use Rattle.smap_arguments.proofs.Numbers.{number_read}
use Rattle.smap_arguments.proofs.values.position_number_in.Goals as goal

pub unwrap-requires : goal.unwrap-requires
unwrap-requires c =
    let read = number_read 1 (limit + 1) (omega arith) (found_of c.args.matches.now) c.args.name.now c.get_one.result c.requires c.get_one.ensures.value in
    subst IsSome (sym read.1) refl

pub overflow_sub-result : goal.overflow_sub-result
overflow_sub-result c =
    let read = number_read 1 (limit + 1) (omega arith) (found_of c.args.matches.now) c.args.name.now c.get_one.result c.requires c.get_one.ensures.value in
    let some : Some c.unwrap.result ≡ Some read.0 = sym c.unwrap.ensures ∙ read.1 in
    let same : c.unwrap.result ≡ read.0 = cc in
    omega arith

pub returns : goal.returns
returns c =
    let read = number_read 1 (limit + 1) (omega arith) (found_of c.args.matches.now) c.args.name.now c.get_one.result c.requires c.get_one.ensures.value in
    let some : Some c.unwrap.result ≡ Some read.0 = sym c.unwrap.ensures ∙ read.1 in
    let same : c.unwrap.result ≡ read.0 = cc in
    let back : read.0 ≡ c.unwrap.result - 1 + 1 = omega arith in
    (subst (GivesNumber (rows_of (found_of c.args.matches.now)) c.args.name.now) back read.4, omega arith)
