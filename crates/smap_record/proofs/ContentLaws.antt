-- The contents of the sources.
use Rattle.std.proofs.Common.{◌≡◌, List, [], ◌∷◌, map, Bool, true, false, if◌then◌else◌, Option, Some, None, Vec, Global, refl, sym, ap, ◌∙◌}
use Rattle.std.specs.Prelude.{is_some, option_map, string_bytes}
use Rattle.std.specs.List.{list_any}
use Rattle.serde_json.specs.Data.{Data}
use Rattle.serde_json.specs.View.{view}
use Rattle.serde_json.specs.declared.value.Value.{Value, Array}
use Rattle.smap_record.specs.Sources.{StatedSource, source_of}
use Rattle.smap_record.specs.Written.{content_of_source, contents_value, has_content, list_value, value_of_text}
use Rattle.smap_record.specs.declared.entry.SourceEntry.{SourceEntry}
use Rattle.smap_record.proofs.ValueLaws.{array_of}

pub is_some-map : {A B : Type 0} (f : A → B) (o : Option A) → is_some (option_map f o) ≡ is_some o
is_some-map f None = refl
is_some-map f (Some x) = refl

-- whether a source has its content
abbrev pub has_text : SourceEntry → Bool
has_text source = is_some source.content

-- some source has its content, as it is stated
pub any_content : (sources : List SourceEntry) → list_any has_text sources ≡ list_any has_content (map source_of sources)
any_content [] = refl
any_content (source ∷ sources) = rw (sym (is_some-map string_bytes source.content), any_content sources) refl

-- what is written, by whether some source has its content
abbrev written_where : List StatedSource → Bool → Option Data
written_where sources some = if some then Some (list_value (λ source. value_of_text (content_of_source source)) sources) else None

abbrev values_where : Vec Value Global → Bool → Option Data
values_where contents some = option_map view (if some then Some (Array contents) else None)

are_written : (sources : List StatedSource) (contents : Vec Value Global) (some : Bool)
    → map view contents.items ≡ map (λ source. value_of_text (content_of_source source)) sources
    → values_where contents some ≡ written_where sources some
are_written sources contents true are = ap Some (array_of (λ (source : StatedSource). value_of_text (content_of_source source)) contents sources are)
are_written sources contents false are = refl

-- the values of the contents are what is written of them
pub contents_where : (sources : List StatedSource) (contents : Vec Value Global) (some : Bool) → some ≡ list_any has_content sources
    → map view contents.items ≡ map (λ source. value_of_text (content_of_source source)) sources
    → option_map view (if some then Some (Array contents) else None) ≡ contents_value sources
contents_where sources contents some is are = are_written sources contents some are ∙ ap (written_where sources) is
