-- Whether a map fits the generated file beside it (this project's own), where that is asked: it is used where it does, and where
-- there is no such file, which is told once, at the end; and else it is refused.
use Rattle.std.specs.Prelude.{◌≡◌, ◌⊎◌, ◌++◌, ℕ, true, false, List, [], ◌∷◌, Option, Some, None, MatchBool, MatchOption, Result, Ok, Err, codes}
use Rattle.smap_codes.specs.declared.code.Code.TheVariants.{A4}
use Rattle.smap_io.specs.declared.transfer.ReadFailure.TheVariants.{Device}
use Rattle.smap_locations.specs.ByText.{value_under}
use Rattle.smap_locations.specs.ListLine.{is_rule}
use Rattle.smap_record.specs.Record.{MapRecord}
use Rattle.smap_replies.specs.Files.{MayRead}
use Rattle.smap_replies.specs.Outcome.{OrMemory, Report, refusal}
use Rattle.smap_text.specs.Shown.{shown}
use Rattle.smap_text_answers.specs.Generated.{generated_path, is_generated}
use Rattle.smap_text_answers.specs.Lines.{misfit_line}
use Rattle.smap_text_answers.specs.Told.{Said, Tells, ToldSeen, line, nothing, nothing_told}
use Rattle.smap_text_answers.specs.Trace.{Maps}

-- what is told of a map that has no generated file beside it, and of one that could have it at a path
abbrev pub no_file_beside_text : (path : List ℕ) → List ℕ
no_file_beside_text path = codes "fit: no file beside " ++ shown path

abbrev pub no_file_text : (file : List ℕ) → List ℕ
no_file_text file = codes "fit: no " ++ shown file

-- the map of the file at a path is refused since it does not fit
abbrev pub misfit_report : (path : List ℕ) → Report
misfit_report path = refusal (Some A4) (misfit_line path)

module _ (Reads : MayRead) where
  -- ---- a map, and the generated file that is read under a number

  -- a map that states this fits its generated file, or there is none, and this is said
  abbrev pub FitsFile : (number : ℕ) → (file : List ℕ) → MapRecord → Said → Type 0
  FitsFile number file stated said =
      ((bytes : List ℕ) × Reads number file (Ok bytes) × (is_generated stated bytes ≡ true) × (said ≡ nothing))
      ⊎ (Reads number file (Err Device) × (said ≡ line (no_file_text file)))

  -- the same of the map at a path
  abbrev pub FitsBeside : (number : ℕ) → (path : List ℕ) → MapRecord → Said → Type 0
  FitsBeside number path stated said =
      MatchOption (generated_path path) (said ≡ line (no_file_beside_text path)) (λ file. FitsFile number file stated said)

  -- it does not fit it
  abbrev pub IsMisfit : (number : ℕ) → (path : List ℕ) → MapRecord → Type 0
  IsMisfit number path stated =
      MatchOption (generated_path path) ⊥ (λ file. (bytes : List ℕ) × Reads number file (Ok bytes) × (is_generated stated bytes ≡ false))

  -- ---- where that is asked, with a number

  abbrev pub Fits : (fit : Option ℕ) → (path : List ℕ) → MapRecord → Said → Type 0
  Fits None path stated said = said ≡ nothing
  Fits (Some number) path stated said = FitsBeside number path stated said

  abbrev pub FitsNot : (fit : Option ℕ) → (path : List ℕ) → MapRecord → Type 0
  FitsNot None path stated = ⊥
  FitsNot (Some number) path stated = IsMisfit number path stated

  -- ---- the maps of words, which are read before the text

  module _ (number : ℕ) where
    -- one that there is may be used, and this was told before and after that
    abbrev pub FitsWord : (path : List ℕ) → Option MapRecord → (old new : ToldSeen) → Type 0
    FitsWord path None old new = new ≡ old
    FitsWord path (Some stated) old new = (said : Said) × FitsBeside number path stated said × Tells old said new

    -- or is refused
    abbrev pub IsMisfitWord : (path : List ℕ) → Option MapRecord → Report → Type 0
    IsMisfitWord path None report = ⊥
    IsMisfitWord path (Some stated) report = IsMisfit number path stated × (report ≡ misfit_report path)

    -- the maps of the files that these arguments name are compared, argument by argument, up to the first that is refused, unless
    -- memory runs out; rules are passed over
    abbrev pub ComparesWords : Maps → List (List ℕ × List ℕ) → (old : ToldSeen) → Result ToldSeen Report → Type 0
    ComparesWords exact [] old result = result ≡ Ok old
    ComparesWords exact ((url, path) ∷ arguments) old result =
        MatchBool (is_rule url path)
        (ComparesWords exact arguments old result)
        (((report : Report) × OrMemory (IsMisfitWord path (value_under url exact)) report × (result ≡ Err report))
        ⊎ ((next : ToldSeen) × FitsWord path (value_under url exact) old next × ComparesWords exact arguments next result))

  -- where that is asked
  abbrev pub Compares : (fit : Option ℕ) → Maps → List (List ℕ × List ℕ) → Result ToldSeen Report → Type 0
  Compares None exact arguments result = result ≡ Ok nothing_told
  Compares (Some number) exact arguments result = ComparesWords number exact arguments nothing_told result
