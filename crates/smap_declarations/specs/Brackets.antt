-- What stands behind a round bracket's end. Brackets are counted as bytes, wherever they stand.
use Rattle.std.specs.Prelude.{ℕ, zero, suc, List, [], ◌∷◌, Bool, false, ◌==◌, if◌then◌else◌}
use Rattle.smap_declarations.specs.Bytes.{behind_blanks}
use Rattle.smap_declarations.specs.declared.brackets.Behind.{Behind}
use Rattle.smap_declarations.specs.declared.brackets.Behind.TheVariants.{Arrow, Body, Other}

-- what a text begins with
abbrev pub has_first : (c : ℕ) → List ℕ → Bool
has_first c [] = false
has_first c (d ∷ text) = d == c

-- `=>`, `{`, or anything else
abbrev pub first_of : List ℕ → Behind
first_of [] = Other
first_of (c ∷ text) = if c == 0x7B then Body else (if c == 0x3D then (if has_first 0x3E text then Arrow else Other) else Other)

-- what stands behind a bracket that ends here, and blanks
unfoldable pub behind_end : List ℕ → Behind
behind_end text = first_of (behind_blanks text)

-- what stands behind the end of the bracket around this text, in which so many more are open
unfoldable pub behind_bracket : (depth : ℕ) → List ℕ → Behind
behind_bracket depth [] = Other
behind_bracket zero (c ∷ text) = if c == 0x29 then behind_end text else (if c == 0x28 then behind_bracket 1 text else behind_bracket 0 text)
behind_bracket (suc depth) (c ∷ text) = if c == 0x29 then behind_bracket depth text else (if c == 0x28 then behind_bracket (suc (suc depth)) text else behind_bracket (suc depth) text)
