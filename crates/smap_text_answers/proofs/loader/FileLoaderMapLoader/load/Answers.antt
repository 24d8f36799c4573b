use Rattle.std.specs.Prelude.{option_copied}
use Rattle.smap_text_answers.proofs.CauseLaws.{fails_told}
use Rattle.smap_text_answers.proofs.loader.FileLoaderMapLoader.load.Goals as goal

pub returns-in-Err : goal.returns-in-Err
returns-in-Err g c =
    let self = c.args.self.now in (
      (
        _,
        (
          fails_told (g.F.FileReader.gives self.maps.now.files.now) self.paths (option_copied self.maps.now.base) self.maps.now.interval self.number self.fit
              c.args.url.now c.args.path.now c.in-Err.why _ c.in-Err.ensures.failed c.unloaded_for-told.ensures.why,
          c.unloaded_for-told.ensures.reported,
        ),
        c.note.ensures.noted,
      ),
      record { maps = c.note.ensures.maps; paths = c.note.ensures.paths; number = c.note.ensures.number; fit = c.note.ensures.fit; errors = c.note.ensures.errors; told = c.note.ensures.told },
    )
