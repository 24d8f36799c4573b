-- Texts that are kept as lines.
use Rattle.std.specs.Borrow.{Bor}
use Rattle.std.specs.Prelude.{ℕ, List, Option, map, option_map}
use Rattle.std.specs.Str.{chars}
use Rattle.smap_fit.specs.declared.contents.Contents.{Contents}
use Rattle.smap_fit.specs.declared.text_lines.TextLines.{TextLines}

-- the characters of a line that is lent
abbrev pub line_text : Bor (List ℕ) → List ℕ
line_text line = chars line.now

-- the lines of a text
abbrev pub line_texts : TextLines → List (List ℕ)
line_texts text = map line_text text.lines.items

-- those of a source's content, where it has one
abbrev pub kept_lines : Option TextLines → Option (List (List ℕ))
kept_lines source = option_map line_texts source

-- those of each source
abbrev pub kept_contents : Contents → List (Option (List (List ℕ)))
kept_contents contents = map kept_lines contents.sources.items
