-- Whether a map is that of a generated text: each fresh mapping stands where its text may have one. And beside it, how many
-- original places show what the generated places show.
use Rattle.std.specs.Prelude.{ℕ, ◌+◌, ◌==◌, ◌&&◌, Bool, List, Option, All, count_by, length}
use Rattle.smap_mappings.specs.declared.mapping.Mapping.{Mapping}
use Rattle.smap_record.specs.Sources.{StatedSource}
use Rattle.smap_fit.specs.Agreement.{agreement_of, contents_of, is_agreeing, is_compared, is_outside}
use Rattle.smap_fit.specs.First.{first_with}
use Rattle.smap_fit.specs.Fresh.{fresh}
use Rattle.smap_fit.specs.Lines.{lines_in}
use Rattle.smap_fit.specs.Standing.{IsAtStart, is_inside, is_past, standing_in}
use Rattle.smap_fit.specs.declared.fit.Fit.{Fit}

-- the mapping stands past a text of these lines
abbrev pub stands_past : List (List ℕ) → Mapping → Bool
stands_past lines mapping = is_past (standing_in lines mapping.line mapping.column)

-- it stands inside a word of it
abbrev pub stands_inside : List (List ℕ) → Mapping → Bool
stands_inside lines mapping = is_inside (standing_in lines mapping.line mapping.column)

-- how a map of these mappings, whose sources have these contents, fits a text of these lines: how many mappings it has; how
-- many fresh ones stand past the text, and how many inside a word, and the first of both; how many have an origin in a
-- content, how many of these have it past the content, and how many show the same there
abbrev pub fit_over : (lines : List (List ℕ)) → (contents : List (Option (List (List ℕ)))) → List Mapping → Fit
fit_over lines contents mappings = record {
  mappings = length mappings;
  past = count_by (stands_past lines) (fresh mappings);
  inside = count_by (stands_inside lines) (fresh mappings);
  first_past = first_with (stands_past lines) (fresh mappings);
  first_inside = first_with (stands_inside lines) (fresh mappings);
  compared = count_by (λ mapping. is_compared (agreement_of lines contents mapping)) mappings;
  outside = count_by (λ mapping. is_outside (agreement_of lines contents mapping)) mappings;
  same = count_by (λ mapping. is_agreeing (agreement_of lines contents mapping)) mappings;
}

-- the same of sources and a text
abbrev pub fit_in : (text : List ℕ) → List StatedSource → List Mapping → Fit
fit_in text sources mappings = fit_over (lines_in text) (contents_of sources) mappings

-- none stands so
abbrev pub fits : Fit → Bool
fits fit = fit.past == 0 && fit.inside == 0

-- how many do
abbrev pub misfits : Fit → ℕ
misfits fit = fit.past + fit.inside

-- each mapping stands where the text has the first character of a word, or one of no word
abbrev pub AllAtStarts : (text : List ℕ) → List Mapping → Type 0
AllAtStarts text mappings = All (λ mapping. IsAtStart (lines_in text) mapping.line mapping.column) mappings
