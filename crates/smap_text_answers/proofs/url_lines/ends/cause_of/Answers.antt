use Rattle.std.proofs.Common.{rules}
use Rattle.std.specs.Prelude.{option_copied}
use Rattle.std.proofs.lemmas.Result.{IfOk-weaker}
use Rattle.smap_text_answers.proofs.CauseLaws.{late_cause, said_cause}
use Rattle.smap_text_answers.proofs.url_lines.ends.cause_of.Goals.{in-Ok+in_ok-late_text-in-Ok, in-Err}
use Rattle.smap_text_answers.proofs.url_lines.ends.cause_of.Goals as goal

pub returns : goal.returns
returns g c =
    let loader = c.args.loader.now in
    elim c.match-load_at.branch [
      | in-Ok+in_ok-late_text-in-Ok w ↦ rw w.result-is (late_cause (g.F.FileReader.gives loader.maps.now.files.now) loader.paths (option_copied loader.maps.now.base)
          loader.maps.now.interval loader.number loader.fit c.args.url.now c.args.path.now _ w.in-Ok.field-0.loaded.map.stated w.in-Ok.field-0.loaded.file_bytes _
          w.in-Ok.ensures.read (search rules))
      | in-Err w ↦ rw w.result-is (IfOk-weaker w.unloaded_text.result _ _ (λ text says.
          said_cause (g.F.FileReader.gives loader.maps.now.files.now) loader.paths (option_copied loader.maps.now.base) loader.maps.now.interval loader.number loader.fit
          c.args.url.now c.args.path.now text.items w.in-Err.why w.in-Err.ensures.failed says) w.unloaded_text.ensures)
    ]
