use Rattle.std.proofs.Common.{rules, sym, FitsSigned, w32}
use Rattle.std.proofs.lemmas.Int.{to_z-of_z}
use Rattle.smap_mappings.proofs.FieldLaws.{reads_short_field}
use Rattle.smap_mappings.proofs.segment.read_field.Goals as goal

pub returns-clause-some : goal.returns-clause-some
returns-clause-some c =
    let fits : FitsSigned w32 c.in-Some.number = search rules in
    rw (to_z-of_z w32 c.in-Some.number fits) (reads_short_field c.args.bytes.now c.args.place c.in-Some.number c.if-place-bytes.true (sym c.in-Some.ensures))
