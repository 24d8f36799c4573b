-- A map file is written as what it states.
use Rattle.std.proofs.Common.{◌≡◌, ℕ, ◌≤◌, List, length, map, string_bytes, String, Global, Option, Some, None, Ok, Bool, true, false, cond, refl}
use Rattle.std.proofs.Common.{sym, ap, subst, ◌∙◌, arith}
use Rattle.std.specs.List.{All}
use Rattle.std.proofs.lemmas.Bool.{ltb-false}
use Rattle.smap_mappings.specs.Accepted.{IsAccepted}
use Rattle.smap_mappings.specs.Canonical.{canonical_text}
use Rattle.smap_mappings.specs.Exact.{IsExactOr}
use Rattle.smap_mappings.specs.Limits.{most_text_bytes}
use Rattle.smap_mappings.specs.Mappings.{mappings_of}
use Rattle.smap_mappings.specs.Within.{IsWithin}
use Rattle.smap_mappings.specs.declared.mapping.Mapping.{Mapping}
use Rattle.smap_index.specs.Faults.{encode_all_fault}
use Rattle.smap_index.specs.Parts.{joined}
use Rattle.smap_index.specs.declared.refusal.EncodeAllRefusal.TheVariants.{Memory, TooLong}
use Rattle.smap_record.specs.Limits.{most_file_bytes}
use Rattle.smap_record.specs.MapFile.{IsCounted, Map, map_seen}
use Rattle.smap_record.specs.ReadBack.{IsRegularMap, ReadsBackAs}
use Rattle.smap_record.specs.Sources.{StatedSource, source_of}
use Rattle.smap_record.specs.Written.{written}
use Rattle.smap_record.specs.declared.entry.SourceEntry.{SourceEntry}
use Rattle.smap_record.specs.declared.map_file.MapFile.TheInside.{Inside}

-- an exact call that gave a value refuses nothing
exact_value : {T E : Type 0} (memory : E) (value : T) (refusal : Option E) (Holds : T → Type 0) → IsExactOr memory (Ok value) refusal Holds
    → Holds value × (refusal ≡ None)
exact_value memory value None Holds is = (is, refl)
exact_value memory value (Some stated) Holds is = absurd (cc)

not_long : (long : Bool) → cond long (Some TooLong) None ≡ None → long ≡ false
not_long true is = absurd (cc)
not_long false is = refl

-- so its text is the canonical one, and not too long
pub encoded : (list : List Mapping) (text : String Global)
    → IsExactOr Memory (Ok text) (encode_all_fault list) (λ text. string_bytes text ≡ canonical_text list)
    → (string_bytes text ≡ canonical_text list) × (length (canonical_text list) ≤ most_text_bytes)
encoded list text is =
    let both = exact_value Memory text (encode_all_fault list) (λ text. string_bytes text ≡ canonical_text list) is in
    (both.0, omega (arith, ltb-false _ _ (not_long _ both.1)))

same_text : {sources sources' : List StatedSource} {names names' : List (List ℕ)} {file file' : Option (List ℕ)} {text text' : List ℕ}
    → sources ≡ sources' → names ≡ names' → file ≡ file' → text ≡ text' → written sources names file text ≡ written sources' names' file' text'
same_text sources_are names_are file_is text_is = rw (sources_are, names_are, file_is, text_is) refl

same_back : (bytes : List ℕ) {mappings mappings' : List Mapping} {sources sources' : List StatedSource} {names names' : List (List ℕ)}
    {file file' : Option (List ℕ)} → mappings ≡ mappings' → sources ≡ sources' → names ≡ names' → file ≡ file'
    → ReadsBackAs bytes mappings sources names file → ReadsBackAs bytes mappings' sources' names' file'
same_back bytes {mappings} {mappings'} {sources} {sources'} {names} {names'} {file} {file'} mappings_are sources_are names_are file_is back =
    subst (λ f. ReadsBackAs bytes mappings' sources' names' f) file_is
    (subst (λ n. ReadsBackAs bytes mappings' sources' n file) names_are
    (subst (λ s. ReadsBackAs bytes mappings' s names file) sources_are
    (subst (λ m. ReadsBackAs bytes m sources names file) mappings_are back)))

module _ (inside : Inside) (seen : Map) (seen_is : map_seen inside ≡ seen) (sources : List SourceEntry) (names : List (String Global))
    (file : Option (List ℕ)) (text bytes : List ℕ)
    (sources_are : sources ≡ inside.sources.items) (names_are : names ≡ inside.names.items) (file_is : file ≡ seen.stated.file)
    (text_is : text ≡ canonical_text (joined inside.index.parts)) where
  stated_sources : map source_of sources ≡ seen.stated.sources
  stated_sources = ap (map source_of) sources_are ∙ ap (λ (m : Map). m.stated.sources) seen_is

  stated_names : map string_bytes names ≡ seen.stated.names
  stated_names = ap (map string_bytes) names_are ∙ ap (λ (m : Map). m.stated.names) seen_is

  pub map_written : bytes ≡ written (map source_of sources) (map string_bytes names) file text
      → bytes ≡ written seen.stated.sources seen.stated.names seen.stated.file (canonical_text (joined seen.stated.parts))
  map_written is = is ∙ same_text stated_sources stated_names file_is (text_is ∙ ap (λ (m : Map). canonical_text (joined m.stated.parts)) seen_is)

  module _ (counted : IsCounted inside)
      (decodes : mappings_of (canonical_text (joined inside.index.parts)) ≡ joined inside.index.parts)
      (accepted : (s n : ℕ) → All (IsWithin s n) (joined inside.index.parts) → IsAccepted (canonical_text (joined inside.index.parts)) s n)
      (fits : length (canonical_text (joined inside.index.parts)) ≤ most_text_bytes) where
    regular_text : IsRegularMap (length inside.sources.items) (length inside.names.items) (canonical_text (joined inside.index.parts))
    regular_text = record {
      few_sources = counted.few_sources;
      few_names = counted.few_names;
      short = fits;
      accepted = accepted (length inside.sources.items) (length inside.names.items) counted.within;
    }

    regular : IsRegularMap (length sources) (length names) text
    regular =
        subst (λ t. IsRegularMap (length sources) (length names) t) (sym text_is)
        (subst (λ (s : List SourceEntry). IsRegularMap (length s) (length names) (canonical_text (joined inside.index.parts))) (sym sources_are)
        (subst (λ (n : List (String Global)). IsRegularMap (length inside.sources.items) (length n)
        (canonical_text (joined inside.index.parts))) (sym names_are) regular_text))

    pub map_reads_back : (length bytes ≤ most_file_bytes → IsRegularMap (length sources) (length names) text
        → ReadsBackAs bytes (mappings_of text) (map source_of sources) (map string_bytes names) file)
        → length bytes ≤ most_file_bytes → ReadsBackAs bytes (joined seen.stated.parts) seen.stated.sources seen.stated.names seen.stated.file
    map_reads_back back short =
        same_back bytes (ap mappings_of text_is ∙ decodes ∙ ap (λ (m : Map). joined m.stated.parts) seen_is) stated_sources stated_names
        file_is (back short regular)
