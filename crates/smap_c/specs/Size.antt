-- For how many bytes of memory a map counts.
use Rattle.std.specs.Prelude.{ℕ, ◌+◌, ◌*◌, ◌-◌, ◌^◌, List, length, min, take}
use Rattle.std.specs.List.{sum_by}
use Rattle.smap_index.specs.Marks.{marks}
use Rattle.smap_index.specs.Parts.{joined}
use Rattle.smap_record.specs.Limits.{most_listed}
use Rattle.smap_record.specs.MapFile.{Map}
use Rattle.smap_record.specs.Sources.{StatedSource}
use Rattle.smap_c.specs.Texts.{name_or_none, text_or_none}

-- a number, as far as 64 bits count
abbrev pub counted : ℕ → ℕ
counted number = min number (2 ^ 64 - 1)

-- the bytes of a source's name and of its content
abbrev pub source_bytes : StatedSource → ℕ
source_bytes source = length (name_or_none source.name) + length (text_or_none source.content)

-- those of all sources, and of all names; a map lists no more than so many
abbrev pub sources_bytes : List StatedSource → ℕ
sources_bytes sources = sum_by source_bytes (take most_listed sources)

abbrev pub name_bytes : List (List ℕ) → ℕ
name_bytes names = sum_by length (take most_listed names)

-- those of the texts that a map holds, and for what lists them and finds mappings in their text so many for each
abbrev pub map_size : Map → ℕ
map_size map =
    length (text_or_none map.stated.file) + sources_bytes map.stated.sources + name_bytes map.stated.names
    + (length map.stated.parts + length map.stated.sources) * 160 + length map.stated.names * 40
    + length (marks map.stated.parts map.k) * 32 + length (joined map.stated.parts) * 8
