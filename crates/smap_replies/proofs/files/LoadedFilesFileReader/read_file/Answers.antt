use Rattle.std.proofs.Common.{◌≡◌, true, false, Some, slice_get, string_bytes, ap, sym, ◌∙◌, rules}
use Rattle.std.specs.Str.{bytes_eq}
use Rattle.std.proofs.lemmas.Option.{slice_get-get_or}
use Rattle.std.proofs.lemmas.Slice.Eq.{bytes_eq-Decides}
use Rattle.smap_replies.proofs.files.LoadedFilesFileReader.read_file.Goals as goal

pub returns-in-Ok-clause-read : goal.returns-in-Ok-clause-read
returns-in-Ok-clause-read c =
    let at : slice_get c.args.self.now.0.now c.args.number ≡ Some c.in-Some.file.now =
    slice_get-get_or c.args.self.now.0.now c.args.number c.in-Some.file.now c.in-Some.ensures.lookup.3.0 ∙ ap Some (sym c.in-Some.ensures.lookup.1) in
    let same : bytes_eq (string_bytes c.in-Some.file.now.path) c.args.path.now ≡ true = search rules in
    rw at ((bytes_eq-Decides _ _).0 same, search rules)

pub returns-clause-failure : goal.returns-clause-failure
returns-clause-failure c =
    let at : slice_get c.args.self.now.0.now c.args.number ≡ Some c.in-Some.file.now =
    slice_get-get_or c.args.self.now.0.now c.args.number c.in-Some.file.now c.in-Some.ensures.lookup.3.0 ∙ ap Some (sym c.in-Some.ensures.lookup.1) in
    let other : bytes_eq (string_bytes c.in-Some.file.now.path) c.args.path.now ≡ false = search rules in
    rw at (λ is. let same = (bytes_eq-Decides _ _).1 is in absurd (cc))
