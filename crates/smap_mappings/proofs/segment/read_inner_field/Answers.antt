use Rattle.std.proofs.Common.{arith, rules, sym, FitsSigned, w32}
use Rattle.std.proofs.lemmas.Int.{to_z-of_z}
use Rattle.smap_mappings.proofs.SpelledNumbers.{spelled_from}
use Rattle.smap_mappings.proofs.FieldLaws.{reads_field, reads_short_field}
use Rattle.smap_mappings.proofs.segment.read_inner_field.Goals as goal

pub returns-in-Some-clause-some : goal.returns-in-Some-clause-some
returns-in-Some-clause-some c =
    let fits : FitsSigned w32 c.in-Some.number = search rules in
    rw (to_z-of_z w32 c.in-Some.number fits) (reads_short_field c.args.bytes.now c.args.place c.in-Some.number (omega arith) (sym c.in-Some.ensures))

pub returns-in-Some-read_two_digits-clause-some : goal.returns-in-Some-read_two_digits-clause-some
returns-in-Some-read_two_digits-clause-some c =
    let read = c.in-Some-read_two_digits.read in
    let spelled = spelled_from c.args.bytes.now c.args.place read.0 read.1 (omega arith) c.in-Some-read_two_digits.ensures.exact in
    reads_field c.args.bytes.now c.args.place read.1 read.0 spelled.0 spelled.1
