-- Worked examples of marks and virtual lines: each holds by computing both sides.
use Rattle.std.proofs.Common.{◌≡◌, ℕ, List, [], ◌∷◌, map, refl, codes}
use Rattle.std.specs.Prelude.{slice_range}
use Rattle.smap_pairs.specs.declared.seen.SeenByte.{SeenByte}
use Rattle.smap_pairs.specs.declared.virtual_lines.VirtualLine.{VirtualLine}
use Rattle.smap_pairs.specs.Marks.{marks_of}
use Rattle.smap_pairs.specs.Colours.{colour_behind, colour_from}
use Rattle.smap_pairs.specs.Escapes.{ending_of, escape_from, escape_of}
use Rattle.smap_pairs.specs.Seen.{counted_from, seen_of, settled, settled_from, token_of}
use Rattle.smap_pairs.specs.VirtualLines.{line_of_byte, lines_of_strings, virtual_lines}

-- how many backslashes mean one in each line, and what it is
abbrev texts : (lines : List SeenByte → List VirtualLine) → (line : List ℕ) → List (ℕ × List ℕ)
texts lines line = map (λ (one : VirtualLine). (one.unit, slice_range line one.start one.end)) (lines (seen_of line))

-- a string of JSON, in which a line's end is escaped
json : texts virtual_lines (codes "{\"stack\":\"f\\nhttps://h/a.js:1:1\"}")
    ≡ (0, codes "{") ∷ (2, codes "stack") ∷ (2, codes ":") ∷ (2, codes "f") ∷ (2, codes "https://h/a.js:1:1") ∷ (2, codes "}") ∷ []
unfolding virtual_lines marks_of seen_of settled_from settled counted_from token_of escape_of escape_from ending_of colour_behind colour_from
json = refl

-- a string in a string, whose backslashes are four
in_string : texts virtual_lines (codes "\"{\\\"s\\\":\\\"f\\\\n/a.js:1:1\\\"}\"")
    ≡ (0, []) ∷ (2, codes "{") ∷ (4, codes "s") ∷ (4, codes ":") ∷ (4, codes "f") ∷ (4, codes "/a.js:1:1") ∷ (4, codes "}") ∷ (2, []) ∷ []
unfolding virtual_lines marks_of seen_of settled_from settled counted_from token_of escape_of escape_from ending_of colour_behind colour_from
in_string = refl

-- nginx over JSON, syslog, and a colour
colour : texts virtual_lines (codes "x\\x5Cny#012z\\u001b[1m\\u0022w")
    ≡ (0, codes "x") ∷ (2, codes "y") ∷ (2, codes "z\\u001b[1m") ∷ (4, codes "w") ∷ []
unfolding virtual_lines marks_of seen_of settled_from settled counted_from token_of escape_of escape_from ending_of colour_behind colour_from
colour = refl

-- an apostrophe ends nothing, and `'` before a letter alone does
apostrophe : texts virtual_lines (codes "it's b'c' at")
    ≡ (0, codes "it's b") ∷ (2, codes "c") ∷ (2, codes " at") ∷ []
unfolding virtual_lines marks_of seen_of settled_from settled counted_from token_of escape_of escape_from ending_of colour_behind colour_from
apostrophe = refl

-- where two backslashes are one, `\\r` and `\\n` end no line of a string
path : texts lines_of_strings (codes "\"x\\n at C:\\\\routes\\\\new.js:1:2\\n\"")
    ≡ (0, []) ∷ (2, codes "x") ∷ (2, codes " at C:\\\\routes\\\\new.js:1:2") ∷ (2, []) ∷ (2, []) ∷ []
unfolding lines_of_strings marks_of seen_of settled_from settled counted_from token_of escape_of escape_from ending_of colour_behind colour_from
path = refl

-- of the virtual lines they do
path_split : texts virtual_lines (codes "\"x\\n at C:\\\\routes\\\\new.js:1:2\\n\"")
    ≡ (0, []) ∷ (2, codes "x") ∷ (2, codes " at C:") ∷ (4, codes "outes") ∷ (4, codes "ew.js:1:2") ∷ (2, []) ∷ (2, []) ∷ []
unfolding virtual_lines marks_of seen_of settled_from settled counted_from token_of escape_of escape_from ending_of colour_behind colour_from
path_split = refl

-- the pair of the fifth line in the first example begins at its byte 26
which : line_of_byte (virtual_lines (seen_of (codes "{\"stack\":\"f\\nhttps://h/a.js:1:1\"}"))) 26 ≡ 4
unfolding virtual_lines marks_of seen_of settled_from settled counted_from token_of escape_of escape_from ending_of colour_behind colour_from
which = refl
