use Rattle.std.specs.Prelude.{string_bytes}
use Rattle.smap_text_answers.proofs.NamerLaws.{listed_so}
use Rattle.smap_text_answers.proofs.namer.list_file.Goals as goal

pub returns-in-Ok-Some : goal.returns-in-Ok-Some
returns-in-Ok-Some g c =
    let given = rw c.in-Ok-Some.field-0-is at c.in-Ok-Some.ensures in
    listed_so (g.F.FileReader.gives c.args.files.now) c.args.number c.args.path.now c.args.file.now c.args.map.now.stated (string_bytes c.in-Ok-Some.text)
    given.0 given.1 c.list_text.result (rw c.deref.ensures at c.list_text.ensures)
