-- The generated file beside a map (this project's own): it stands at the map's path without its last `.map`, and is read where it is
-- a regular file; where it is a text of at most 64 MiB that the map fits it is the map's.
use Rattle.std.specs.Prelude.{◌≡◌, ℕ, ◌-◌, ◌&&◌, Bool, true, false, List, Option, Some, None, Result, Ok, Err, ⊤, codes, if◌then◌else◌, is_none, length, take}
use Rattle.std.specs.Bool.{nat_eq}
use Rattle.std.specs.List.{ends_with}
use Rattle.smap_fit.specs.Fit.{fit_in, fits}
use Rattle.smap_index.specs.Parts.{joined}
use Rattle.smap_io.specs.declared.transfer.ReadFailure.{ReadFailure}
use Rattle.smap_io.specs.declared.transfer.ReadFailure.TheVariants.{Device, Memory}
use Rattle.smap_record.specs.Record.{MapRecord}
use Rattle.smap_replies.specs.Files.{MayRead}
use Rattle.smap_replies.specs.Map.{text_refusal}

-- the path of the generated file, where that of the map ends in `.map`
abbrev pub generated_path : (path : List ℕ) → Option (List ℕ)
generated_path path = if ends_with nat_eq path (codes ".map") then Some (take (length path - 4) path) else None

-- a map that states this fits a text
abbrev pub fits_text : MapRecord → (text : List ℕ) → Bool
fits_text stated text = fits (fit_in text stated.sources (joined stated.parts))

-- these bytes can be the generated text of a map that states this
abbrev pub is_generated : MapRecord → (bytes : List ℕ) → Bool
is_generated stated bytes = is_none (text_refusal bytes) && fits_text stated bytes

-- what reading the generated file gives: its text, or none where the map is not its map, or why it can't be read
abbrev pub ReadsGenerated : MayRead → (number : ℕ) → (file : List ℕ) → MapRecord → Result (Option (List ℕ)) ReadFailure → Type 0
ReadsGenerated Reads number file stated (Ok (Some text)) = Reads number file (Ok text) × (is_generated stated text ≡ true)
ReadsGenerated Reads number file stated (Ok None) = (bytes : List ℕ) × Reads number file (Ok bytes) × (is_generated stated bytes ≡ false)
ReadsGenerated Reads number file stated (Err Device) = Reads number file (Err Device)
ReadsGenerated Reads number file stated (Err Memory) = ⊤
