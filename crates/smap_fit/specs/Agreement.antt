-- Whether the original place of a mapping shows what its generated place shows: the same word, or the same character.
use Rattle.std.specs.Prelude.{ℕ, Bool, true, false, List, Option, None, Some, if◌then◌else◌, map, option_map, slice_get}
use Rattle.std.specs.Option.{option_flatten, option_map_or}
use Rattle.smap_mappings.specs.declared.mapping.Mapping.{Mapping}
use Rattle.smap_mappings.specs.declared.mapping.Origin.{Origin}
use Rattle.smap_record.specs.Sources.{StatedSource}
use Rattle.smap_fit.specs.Lines.{lines_in}
use Rattle.smap_fit.specs.Standing.{is_past, left_in, standing_in}
use Rattle.smap_fit.specs.Words.{begin_alike}
use Rattle.smap_fit.specs.declared.agreement.Agreement.{Agreement}
use Rattle.smap_fit.specs.declared.agreement.Agreement.TheVariants.{Unknown, Outside, Same, Other}
use Rattle.smap_fit.specs.declared.standing.Standing.{Standing}

-- the contents of sources as lines, where they have one
abbrev pub contents_of : List StatedSource → List (Option (List (List ℕ)))
contents_of sources = map (λ source. option_map lines_in source.content) sources

-- the lines of the content from which an origin comes
abbrev pub original_lines : (contents : List (Option (List (List ℕ)))) → (source : ℕ) → Option (List (List ℕ))
original_lines contents source = option_flatten (slice_get contents source)

-- at both places there is something, and the same
abbrev pub is_same : (text original : Option (List ℕ)) → Bool
is_same None original = false
is_same (Some text) None = false
is_same (Some text) (Some original) = begin_alike text original

-- how an origin agrees that stands so in its content, whose line has this from there on, with what the generated line has
abbrev pub agreement_at : (text : Option (List ℕ)) → Standing → (original : Option (List ℕ)) → Agreement
agreement_at text standing original = if is_past standing then Outside else (if is_same text original then Same else Other)

-- how one in a content of these lines agrees
abbrev pub agreement_in : (text : Option (List ℕ)) → (lines : List (List ℕ)) → (line column : ℕ) → Agreement
agreement_in text lines line column = agreement_at text (standing_in lines line column) (left_in lines line column)

-- it is unknown where the source has no content
abbrev pub agreement_with : (text : Option (List ℕ)) → (contents : List (Option (List (List ℕ)))) → Origin → Agreement
agreement_with text contents origin =
    option_map_or (λ lines. agreement_in text lines origin.line origin.column) (original_lines contents origin.source) Unknown

-- and where the mapping has no origin
abbrev pub agreement_by : (text : Option (List ℕ)) → (contents : List (Option (List (List ℕ)))) → Option Origin → Agreement
agreement_by text contents None = Unknown
agreement_by text contents (Some origin) = agreement_with text contents origin

-- how a mapping's origin agrees with a generated text of these lines
abbrev pub agreement_of : (generated : List (List ℕ)) → (contents : List (Option (List (List ℕ)))) → Mapping → Agreement
agreement_of generated contents mapping = agreement_by (left_in generated mapping.line mapping.column) contents mapping.origin

-- ---- counted

-- the source of the mapping's origin has content
abbrev pub is_compared : Agreement → Bool
is_compared Unknown = false
is_compared Outside = true
is_compared Same = true
is_compared Other = true

abbrev pub is_outside : Agreement → Bool
is_outside Unknown = false
is_outside Outside = true
is_outside Same = false
is_outside Other = false

abbrev pub is_agreeing : Agreement → Bool
is_agreeing Unknown = false
is_agreeing Outside = false
is_agreeing Same = true
is_agreeing Other = false
