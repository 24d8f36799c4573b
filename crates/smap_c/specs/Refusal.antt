-- A refusal of a map as numbers: that of its code, that of its fault or of why no index is built, and its parts.
use Rattle.std.specs.Prelude.{ℕ, ◌==◌, [], ◌∷◌, Option, find, option_map, if◌then◌else◌}
use Rattle.smap_codes.specs.declared.code.Code.{Code}
use Rattle.smap_codes.specs.declared.code.Code.TheVariants.{M14, M15}
use Rattle.smap_mappings.specs.Codes.{kind_code}
use Rattle.smap_mappings.specs.declared.fault.FaultKind.{FaultKind}
use Rattle.smap_mappings.specs.declared.fault.FaultKind.TheVariants as faults
use Rattle.smap_index.specs.Codes.{build_code}
use Rattle.smap_index.specs.declared.refusal.BuildRefusal.{BuildRefusal}
use Rattle.smap_index.specs.declared.refusal.BuildRefusal.TheVariants as builds
use Rattle.smap_record.specs.Codes.{map_code}
use Rattle.smap_record.specs.declared.refusal.MapRefusal.{MapRefusal}
use Rattle.smap_record.specs.declared.refusal.MapRefusal.TheVariants.{TooLarge, NotJson, NotObject, Version, Sections, SectionOffset, Nested, Sources}
use Rattle.smap_record.specs.declared.refusal.MapRefusal.TheVariants.{Names, SourcesContent, IgnoreList, FileOrRoot, Mappings, Text, Build, Url, LongNames}
use Rattle.smap_c.specs.Codes.{code_number}
use Rattle.smap_c.specs.declared.refusal.Refusal.{Refusal}

-- the refusal of this code, which has no part
abbrev pub coded : Code → Refusal
coded code = record { code = code_number code; cause = 0; line = 0; has_section = 0; section = 0; byte = 0 }

-- the same of a section
abbrev pub coded_in : Code → (section : ℕ) → Refusal
coded_in code section = record (coded code) { has_section = 1; section = section }

-- the same of the section in which an index is not built, where there is one
abbrev pub build_numbers : Code → BuildRefusal → Refusal
build_numbers code (builds.SectionOrder section) = coded_in code section
build_numbers code (builds.SectionOverlap section) = coded_in code section
build_numbers code (builds.PositionRange section) = coded_in code section
build_numbers code other = coded code

-- the numbers of a refusal: those of its code and its parts
abbrev pub numbers_of : MapRefusal → Refusal
numbers_of (SectionOffset section) = coded_in (map_code (SectionOffset section)) section
numbers_of (Nested section) = coded_in (map_code (Nested section)) section
numbers_of (Text section fault) = record (coded_in (map_code (Text section fault)) section) {
  cause = code_number (kind_code fault.kind);
  line = fault.line;
  byte = fault.byte;
}
numbers_of (Build refusal) = record (build_numbers (map_code (Build refusal)) refusal) { cause = code_number (build_code refusal) }
numbers_of other = coded (map_code other)

-- ---- and back

-- the kind of fault that has this number
abbrev pub kind_in : ℕ → Option FaultKind
kind_in number = find (λ kind. code_number (kind_code kind) == number) (
    faults.BadDigit ∷ faults.Unended ∷ faults.TooLong ∷ faults.TooLarge ∷ faults.NegativeZero ∷ faults.FieldCount
    ∷ faults.Negative ∷ faults.PastLimit ∷ faults.ColumnFalls ∷ faults.SourceIndex ∷ faults.NameIndex ∷ [])

-- why an index is not built, by its number and the section; out of memory is none
abbrev pub build_in : (number section : ℕ) → Option BuildRefusal
build_in number section = find (λ refusal. code_number (build_code refusal) == number) (
    builds.Interval ∷ builds.SectionOrder section ∷ builds.SectionOverlap section ∷ builds.PositionRange section ∷ [])

-- the refusal of this number that has no part but a section; out of memory is none
abbrev pub refusal_with : (number section : ℕ) → Option MapRefusal
refusal_with number section = find (λ refusal. code_number (map_code refusal) == number) (
    TooLarge ∷ NotJson ∷ NotObject ∷ Version ∷ Sections ∷ SectionOffset section ∷ Nested section ∷ Sources ∷ Names
    ∷ SourcesContent ∷ IgnoreList ∷ FileOrRoot ∷ Mappings ∷ Url ∷ LongNames ∷ [])

-- the refusal that has these numbers, if there is one
unfoldable pub refusal_in : Refusal → Option MapRefusal
refusal_in refusal =
    if refusal.code == code_number M14
    then option_map (λ kind. Text refusal.section (record { byte = refusal.byte; line = refusal.line; kind = kind })) (kind_in refusal.cause)
    else if refusal.code == code_number M15 then option_map Build (build_in refusal.cause refusal.section)
    else refusal_with refusal.code refusal.section
