-- The sections of a map, one after another.
use Rattle.std.proofs.Common.{◌≡◌, ℕ, List, [], ◌∷◌, ◌++◌, ◌⊎◌, inl, inr, Option, Some, None, Ok, length, map, option_map, string_bytes, refl, sym, ap, ◌+◌, ◌∙◌, arith}
use Rattle.std.specs.Prelude.{IfSome}
use Rattle.std.specs.List.{sum_by}
use Rattle.std.proofs.lemmas.List.{length-map}
use Rattle.std.proofs.lemmas.List.Sums.{sum_by-cons}
use Rattle.smap_index.specs.Marked.{MarksContents}
use Rattle.smap_index.specs.Parts.{whole_text}
use Rattle.smap_index.specs.declared.part.Part.{Part}
use Rattle.smap_record.specs.IndexMap.{SectionEntry, StatedSections, place_after, sections_after, source_count, with_section}
use Rattle.smap_record.specs.Refusals.{◌>>=◌}
use Rattle.smap_record.specs.Section.{StatedSection, section_in}
use Rattle.smap_record.specs.Private.Marked.{AreMarksAt}
use Rattle.smap_record.specs.Private.Seen.{sources_seen}
use Rattle.smap_record.specs.Sources.{StatedSources}
use Rattle.smap_record.specs.declared.section.SectionPlace.{SectionPlace}
use Rattle.smap_record.specs.declared.section.SectionSources.{SectionSources}

pub same_place : {number number' line line' column column' source_base source_base' name_base name_base' : ℕ}
    → number ≡ number' → line ≡ line' → column ≡ column' → source_base ≡ source_base' → name_base ≡ name_base'
    → ◌≡◌ {A = SectionPlace} (record { number = number; line = line; column = column; source_base = source_base; name_base = name_base })
    (record { number = number'; line = line'; column = column'; source_base = source_base'; name_base = name_base' })
same_place number_is line_is column_is source_base_is name_base_is = rw (number_is, line_is, column_is, source_base_is, name_base_is) refl

pub same_sections : {parts parts' : List Part} {sources sources' : List StatedSources} {names names' : List (List ℕ)} → parts ≡ parts'
    → sources ≡ sources' → names ≡ names'
    → ◌≡◌ {A = StatedSections} (record { parts = parts; sources = sources; names = names }) (record { parts = parts'; sources = sources'; names = names' })
same_sections parts_are sources_are names_are = rw (parts_are, sources_are, names_are) refl

-- how many sources the code's sections have
abbrev pub count_of : List SectionSources → ℕ
count_of sections = sum_by (λ (s : SectionSources). length s.texts.items) sections

pub count_seen : (sections : List SectionSources) → source_count (map sources_seen sections) ≡ count_of sections
count_seen [] = refl
count_seen (section ∷ sections) =
    sum_by-cons (λ (s : StatedSources). length s.texts) (sources_seen section) (map sources_seen sections)
    ∙ ap (λ n. n + source_count (map sources_seen sections)) (length-map section.texts.items (option_map string_bytes))
    ∙ ap (λ n. length section.texts.items + n) (count_seen sections)
    ∙ sym (sum_by-cons (λ (s : SectionSources). length s.texts.items) section sections)

-- the next section is read at its place
module _ (before : StatedSections) (entry : SectionEntry) (entries : List SectionEntry) (place : SectionPlace)
    (place_is : place ≡ place_after before entry) where
  pub next_section : sections_after before (entry ∷ entries)
      ≡ (section_in place entry.fields >>= λ section. sections_after (with_section before place section) entries)
  unfolding sections_after
  next_section = ap (λ (p : SectionPlace). section_in p entry.fields >>= λ section. sections_after (with_section before p section) entries) (sym place_is)

  pub one_more : (section : StatedSection) → section_in place entry.fields ≡ Ok section
      → sections_after before (entry ∷ entries) ≡ sections_after (with_section before place section) entries
  one_more section read = next_section ∙ rw read refl

pub no_more : (before : StatedSections) → sections_after before [] ≡ Ok before
unfolding sections_after
no_more before = refl

-- the checkpoints of the last section are those of all parts, as they are made of the only section alone
pub marks_of_only : (marks : Option MarksContents) (given interval : Option ℕ) (before : List Part) (part : Part) (text : List ℕ)
    → IfSome marks (AreMarksAt given (whole_text text ∷ []))
    → (given ≡ None) ⊎ ((given ≡ interval) × (length before ≡ 0) × (part ≡ whole_text text))
    → IfSome marks (AreMarksAt interval (before ++ part ∷ []))
marks_of_only None given interval before part text are only = tt
marks_of_only (Some marks) given interval before part text are (inl none) = let given_is = are.0 in absurd (cc)
marks_of_only (Some marks) given interval [] part text are (inr only) = rw (only.2) (sym only.0 ∙ are.0, are.1)
marks_of_only (Some marks) given interval (first ∷ before) part text are (inr only) = let some = only.1 in absurd (omega (arith, some))
