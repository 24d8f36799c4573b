-- What comes of comparing maps with the generated files beside them.
use Rattle.std.specs.Prelude.{◌≡◌, ℕ, false, List, Result, Ok}
use Rattle.std.specs.Result.{result_map_both}
use Rattle.smap_record.specs.Record.{MapRecord}
use Rattle.smap_replies.specs.Files.{MayRead}
use Rattle.smap_replies.specs.Outcome.{Report, failure_report}
use Rattle.smap_replies.specs.declared.outcome.Failure.{Failure}
use Rattle.smap_text_answers.specs.Fitting.{FitsBeside, FitsFile, IsMisfit}
use Rattle.smap_text_answers.specs.Generated.{is_generated}
use Rattle.smap_text_answers.specs.Told.{ToldSeen, said_by, told_seen}
use Rattle.smap_text_answers.specs.declared.fitting.Fitting.{Fitting}
use Rattle.smap_text_answers.specs.declared.fitting.Fitting.TheVariants.{Usable, Misfit}
use Rattle.smap_text_answers.specs.declared.told.ToldLines.{ToldLines}

module _ (Reads : MayRead) (number : ℕ) where
  -- of the map at a path
  abbrev pub IsFitting : (path : List ℕ) → MapRecord → Fitting → Type 0
  IsFitting path stated (Usable text) = FitsBeside Reads number path stated (said_by text)
  IsFitting path stated Misfit = IsMisfit Reads number path stated

  -- of one whose generated file has a path
  abbrev pub IsFittingFile : (file : List ℕ) → MapRecord → Fitting → Type 0
  IsFittingFile file stated (Usable text) = FitsFile Reads number file stated (said_by text)
  IsFittingFile file stated Misfit = (bytes : List ℕ) × Reads number file (Ok bytes) × (is_generated stated bytes ≡ false)

-- what comparing the maps of words comes to
abbrev pub compared : Result ToldLines Failure → Result ToldSeen Report
compared result = result_map_both told_seen failure_report result
