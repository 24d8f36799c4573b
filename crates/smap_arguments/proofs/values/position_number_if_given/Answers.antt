use Rattle.std.proofs.Common.{◌≡◌, ◌+◌, ◌-◌, arith, subst}
use Rattle.clap.specs.Words.{found_of, rows_of}
use Rattle.smap_command.specs.Limits.{limit}
use Rattle.smap_arguments.specs.Arguments.{GivesNumber}
use Rattle.smap_arguments.proofs.Numbers.{IsReadWithin, position_read}
use Rattle.smap_arguments.proofs.values.position_number_if_given.Goals as goal

pub overflow_sub-result : goal.overflow_sub-result
overflow_sub-result c =
    let read = subst (IsReadWithin 1 (limit + 1) (rows_of (found_of c.args.matches.now)) c.args.name.now) c.in-Some.is
    (position_read (found_of c.args.matches.now) c.args.name.now c.get_one.result c.requires c.get_one.ensures.none c.get_one.ensures.value) in
    omega (arith, read.0)

pub returns-in-Some : goal.returns-in-Some
returns-in-Some c =
    let read = subst (IsReadWithin 1 (limit + 1) (rows_of (found_of c.args.matches.now)) c.args.name.now) c.in-Some.is
    (position_read (found_of c.args.matches.now) c.args.name.now c.get_one.result c.requires c.get_one.ensures.none c.get_one.ensures.value) in
    let back : c.in-Some.number ≡ c.in-Some.number - 1 + 1 = omega (arith, read.0) in
    (subst (GivesNumber (rows_of (found_of c.args.matches.now)) c.args.name.now) back read.2, omega (arith, read.0, read.1))

pub returns-in-None : goal.returns-in-None
returns-in-None c =
    subst (IsReadWithin 1 (limit + 1) (rows_of (found_of c.args.matches.now)) c.args.name.now) c.in-None.is
    (position_read (found_of c.args.matches.now) c.args.name.now c.get_one.result c.requires c.get_one.ensures.none c.get_one.ensures.value)
