-- What comes of the generated file of a URL.
use Rattle.std.specs.Prelude.{◌≡◌, ℕ, List, Some, None, length, string_bytes}
use Rattle.std.specs.List.Sorted.{IsPermutation}
use Rattle.smap_declarations.specs.Declarations.{declarations_of}
use Rattle.smap_record.specs.Record.{MapRecord}
use Rattle.smap_store.specs.Names.{NamesCame, loaded_names}
use Rattle.smap_text_answers.specs.Told.{Said, line, nothing}
use Rattle.smap_text_answers.specs.declared.namer.Listing.{Listing}
use Rattle.smap_text_answers.specs.declared.namer.Listing.TheVariants.{Listed, Unlisted}

-- what came
abbrev pub came_of : Listing → NamesCame
came_of (Listed loaded) = Some (loaded_names loaded)
came_of (Unlisted text) = None

-- and what there is to tell
abbrev pub said_of : Listing → Said
said_of (Listed loaded) = nothing
said_of (Unlisted None) = nothing
said_of (Unlisted (Some text)) = line (string_bytes text)

-- the declarations of a text over a map that states this
abbrev pub IsListed : MapRecord → (text : List ℕ) → Listing → Type 0
IsListed stated text (Unlisted said) = ⊥
IsListed stated text (Listed loaded) = IsPermutation (declarations_of stated text) loaded.declarations × (loaded.file_bytes ≡ length text)
