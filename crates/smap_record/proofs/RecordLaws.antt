-- The record of a file of which all was read.
use Rattle.std.proofs.Common.{◌≡◌, ℕ, List, Option, Some, None, Ok, refl}
use Rattle.std.specs.Prelude.{flat_map}
use Rattle.serde_json.specs.Data.{Members, object}
use Rattle.url.specs.Parts.{Parts}
use Rattle.smap_index.specs.declared.part.Part.{Part}
use Rattle.smap_record.specs.IndexMap.{StatedSections, no_sections, sections_after}
use Rattle.smap_record.specs.Outer.{StatedOuter, outer_in}
use Rattle.smap_record.specs.Record.{indexed, members_in, record_of, record_of_within, record_within}
use Rattle.smap_record.specs.Refusals.{unless}
use Rattle.smap_record.specs.Sources.{sources_stated}
use Rattle.smap_record.specs.declared.refusal.MapRefusal.{MapRefusal}

pub unless_is : {A : Type 0} (refusal : Option MapRefusal) (value given : A) → unless refusal value ≡ Ok given → given ≡ value
unless_is None value given is = cc
unless_is (Some refusal) value given is = absurd (cc)

pub stated : (bytes : List ℕ) (base : Option Parts) (k : ℕ) (ms : Members) (outer : StatedOuter) (sections : StatedSections) (parts : List Part)
    → members_in bytes ≡ Ok ms → outer_in (object ms) ≡ Ok outer → sections_after no_sections outer.entries ≡ Ok sections → indexed sections.parts k ≡ Ok parts
    → record_of bytes base k ≡ Ok (record {
      parts = parts;
      sources = flat_map (sources_stated base) sections.sources;
      names = sections.names;
      file = outer.file;
    })
unfolding record_of_within record_within
stated bytes base k ms outer sections parts members_read outer_read sections_read built =
    rw (members_read, outer_read, sections_read, built) refl
