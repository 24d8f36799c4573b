-- What is remembered of the declarations of generated programs (this project's own): those of each that was asked for, or that it
-- has none, while the bytes that these count for are within half of a bound, or where there is no other: so of the maps of a table,
-- and so of those of files.
use Rattle.std.specs.Prelude.{◌≡◌, ◌⊎◌, ◌/◌, ℕ, Bool, List, [], ◌∷◌, Option, Some, None, is_some, option_map}
use Rattle.smap_declarations.specs.Declarations.{Named}
use Rattle.smap_kept.specs.Bounded.{BoundedSeen, kept_within, known_under}
use Rattle.smap_kept.specs.InOrder.{used, without}
use Rattle.smap_locations.specs.ByText.{value_under}
use Rattle.smap_store.specs.Cache.{one_more}
use Rattle.smap_store.specs.Program.{ProgramSeen}
use Rattle.smap_store.specs.declared.names_cache.NamesCache.{NamesCache}
use Rattle.smap_store.specs.declared.names_loader.LoadedNames.{LoadedNames}
use Rattle.smap_store.specs.declared.program.MapKind.{MapKind}
use Rattle.smap_store.specs.declared.program.MapKind.TheVariants.{Table, File}

-- ---- what came for a program

-- its declarations, with the number of its file's bytes, or none
abbrev pub NamesCame : Type 0
NamesCame = Option (List Named × ℕ)

abbrev pub loaded_names : LoadedNames → List Named × ℕ
loaded_names loaded = (loaded.declarations, loaded.file_bytes)

abbrev pub names_came : Option LoadedNames → NamesCame
names_came came = option_map loaded_names came

abbrev pub declared_in : NamesCame → Option (List Named)
declared_in None = None
declared_in (Some one) = Some one.0

abbrev pub bytes_in : NamesCame → ℕ
bytes_in None = 0
bytes_in (Some one) = one.1

-- ---- what is remembered

abbrev pub names_at_first : (most : ℕ) → NamesCache
names_at_first most = record {
  of_table = record { entries = []; most = most / 2 };
  of_files = record { entries = []; most = most / 2 };
  shortages = 0;
}

-- what is remembered of the programs whose maps are there, each under its key
abbrev pub NamesPart : Type 0
NamesPart = BoundedSeen (Option (List Named))

abbrev pub part_of : MapKind → NamesCache → NamesPart
part_of Table names = names.of_table
part_of File names = names.of_files

-- with another in its stead
abbrev pub with_part : MapKind → NamesPart → NamesCache → NamesCache
with_part Table part names = record names { of_table = part }
with_part File part names = record names { of_files = part }

-- what is remembered of a program: its declarations, or that it has none
abbrev pub known_names : ProgramSeen → NamesCache → Option (Option (List Named))
known_names program names = known_under program.key (part_of program.kind names).entries

abbrev pub has_names : ProgramSeen → NamesCache → Bool
has_names program names = is_some (value_under program.key (part_of program.kind names).entries)

abbrev pub kept_of : Option (Option (List Named)) → Option (List Named)
kept_of None = None
kept_of (Some kept) = kept

-- its declarations
abbrev pub kept_names : ProgramSeen → NamesCache → Option (List Named)
kept_names program names = kept_of (known_names program names)

-- what is remembered of it is used
abbrev pub part_used : (key : List ℕ) → NamesPart → NamesPart
part_used key part = record part { entries = used key part.entries }

abbrev pub names_used : ProgramSeen → NamesCache → NamesCache
names_used program names = with_part program.kind (part_used program.key (part_of program.kind names)) names

-- what came is put before all others, and those that there is no room for then are dropped
abbrev pub part_with : (key : List ℕ) → NamesCame → NamesPart → NamesPart
part_with key came part = record part {
  entries = kept_within part.most ((key, record { value = declared_in came; bytes = bytes_in came }) ∷ without key part.entries);
}

abbrev pub with_names : ProgramSeen → NamesCame → NamesCache → NamesCache
with_names program came names = with_part program.kind (part_with program.key came (part_of program.kind names)) names

-- what is remembered of it is taken out
abbrev pub part_without : (key : List ℕ) → NamesPart → NamesPart
part_without key part = record part { entries = without key part.entries }

abbrev pub names_without : ProgramSeen → NamesCache → NamesCache
names_without program names = with_part program.kind (part_without program.key (part_of program.kind names)) names

-- there was not enough memory, and nothing is remembered of a program
pub record ForgetsNames (old : NamesCache) (program : ProgramSeen) (new : NamesCache) : Type 0 where
  pub rest : new ≡ record (names_without program old) { shortages = one_more old.shortages }
  pub gone : known_names program new ≡ None

-- what came is remembered, or nothing is
abbrev pub RemembersNames : (old : NamesCache) → ProgramSeen → NamesCame → (new : NamesCache) → Type 0
RemembersNames old program came new = (new ≡ with_names program came old) ⊎ ForgetsNames old program new
