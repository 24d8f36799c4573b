-- The names of functions that are put into frames (this project's own): the declarations of a program are listed from the generated
-- file beside its map, and where they are not, that is told once, at the end.
use Rattle.std.specs.Prelude.{◌≡◌, ◌⊎◌, ℕ, ◌++◌, ◌&&◌, ◌||◌, true, false, List, [], ◌∷◌, Option, Some, None, MatchOption, Ok, Err}
use Rattle.std.specs.Prelude.{codes, if◌then◌else◌, length, map, nat_lt, not}
use Rattle.std.specs.List.Sorted.{IsPermutation}
use Rattle.std.specs.Str.{bytes_eq}
use Rattle.smap_declarations.specs.Declarations.{Named, declarations_of}
use Rattle.smap_io.specs.declared.transfer.ReadFailure.TheVariants.{Device}
use Rattle.smap_locations.specs.ListLine.{is_rule}
use Rattle.smap_locations.specs.Locations.{LocationsSeen, path_for}
use Rattle.smap_record.specs.Record.{MapRecord}
use Rattle.smap_replies.specs.Arguments.{argument_of}
use Rattle.smap_replies.specs.Files.{MayRead}
use Rattle.smap_store.specs.Names.{NamesCame, declared_in}
use Rattle.smap_store.specs.Program.{ProgramSeen}
use Rattle.smap_store.specs.declared.names_cache.NamesCache.{NamesCache}
use Rattle.smap_store.specs.declared.program.MapKind.{MapKind}
use Rattle.smap_store.specs.declared.program.MapKind.TheVariants.{Table, File}
use Rattle.smap_text.specs.Shown.{shown}
use Rattle.smap_text_answers.specs.Generated.{generated_path, is_generated}
use Rattle.smap_text_answers.specs.Told.{Said, Tells, ToldSeen, line, nothing, shortage}
use Rattle.smap_text_answers.specs.declared.namer.FileNamer.{FileNamer}

-- ---- what is told

abbrev pub no_file_beside_text : (path : List ℕ) → List ℕ
no_file_beside_text path = codes "names: no file beside " ++ shown path

abbrev pub no_file_text : (file : List ℕ) → List ℕ
no_file_text file = codes "names: no " ++ shown file

abbrev pub misfit_text : (path file : List ℕ) → List ℕ
misfit_text path file = ((codes "names: " ++ shown path) ++ codes " does not fit ") ++ shown file

-- ---- where the programs are

-- the number under which generated files are read, the arguments, each a URL and the path of a map, and the files of other URLs
pub record Programs : Type 0 where
  pub number : ℕ
  pub arguments : List (List ℕ × List ℕ)
  pub locations : LocationsSeen

-- the path of the file that the arguments name for a URL
abbrev pub argument_path : List (List ℕ × List ℕ) → (url : List ℕ) → Option (List ℕ)
argument_path [] url = None
argument_path ((named, path) ∷ arguments) url =
    if bytes_eq named url && not (is_rule named path) then Some path else argument_path arguments url

-- the path of the map of a program: an argument's, where the table has that, and else its file's
abbrev pub path_under : MapKind → Programs → (key : List ℕ) → Option (List ℕ)
path_under Table programs key = argument_path programs.arguments key
path_under File programs key = path_for programs.locations key

abbrev pub path_named : Programs → ProgramSeen → Option (List ℕ)
path_named programs program = path_under program.kind programs program.key

-- ---- what comes of a program

module _ (Reads : MayRead) where
  -- the file beside a map at a path that states this has these declarations; or none are listed, and this is said
  abbrev pub ListsFile : (number : ℕ) → (path file : List ℕ) → MapRecord → NamesCame → Said → Type 0
  ListsFile number path file stated (Some (listed, file_bytes)) said =
      (text : List ℕ) × Reads number file (Ok text) × (is_generated stated text ≡ true) × IsPermutation (declarations_of stated text) listed
      × (file_bytes ≡ length text) × (said ≡ nothing)
  ListsFile number path file stated None said =
      (Reads number file (Err Device) × (said ≡ line (no_file_text file)))
      ⊎ ((bytes : List ℕ) × Reads number file (Ok bytes) × (is_generated stated bytes ≡ false) × (said ≡ line (misfit_text path file)))

  -- the same of the map at a path
  abbrev pub ListsBeside : (number : ℕ) → (path : List ℕ) → MapRecord → NamesCame → Said → Type 0
  ListsBeside number path stated came said =
      MatchOption (generated_path path) ((came ≡ None) × (said ≡ line (no_file_beside_text path)))
      (λ file. ListsFile number path file stated came said)

  -- of one that has a path, or none
  abbrev pub ListsAt : (number : ℕ) → (path : Option (List ℕ)) → MapRecord → NamesCame → Said → Type 0
  ListsAt number None stated came said = (came ≡ None) × (said ≡ nothing)
  ListsAt number (Some path) stated came said = ListsBeside number path stated came said

  module _ (programs : Programs) where
    -- of a program, unless memory ran out
    abbrev pub Lists : ProgramSeen → MapRecord → NamesCame → Said → Type 0
    Lists program stated came said =
        ((came ≡ None) × (said ≡ shortage)) ⊎ ListsAt programs.number (path_named programs program) stated came said

    -- what it comes to, and what was told before and after that
    abbrev pub NamesBy : ToldSeen → ProgramSeen → MapRecord → NamesCame → ToldSeen → Type 0
    NamesBy told program stated came after = (said : Said) × Lists program stated came said × Tells told said after

    -- which declarations a program may have
    abbrev pub MayNameBy : ToldSeen → ProgramSeen → MapRecord → Option (List Named) → Type 0
    MayNameBy told program stated kept = (came : NamesCame) × (said : Said) × Lists program stated came said × (kept ≡ declared_in came)

-- ---- what lists them

abbrev pub programs_seen : {F : Type 0} → FileNamer F → Programs
programs_seen namer = record {
  number = namer.number;
  arguments = map argument_of namer.arguments.now;
  locations = namer.locations.now;
}

-- it reads the same files
pub record IsSameNamer {F : Type 0} (old new : FileNamer F) : Type 0 where
  pub files : new.files ≡ old.files
  pub number : new.number ≡ old.number
  pub arguments : new.arguments ≡ old.arguments
  pub locations : new.locations ≡ old.locations

-- ---- at the end

-- what is told, where memory may have run out for what is remembered
abbrev pub told_at_end : NamesCache → ToldSeen → ToldSeen
told_at_end names told = record told { short = told.short || nat_lt 0 names.shortages }
