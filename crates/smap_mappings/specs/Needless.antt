-- Which texts are canonical as they stand, save for the `;` behind their last segment.
use Rattle.std.specs.Prelude.{ℕ, List, [], ◌∷◌, Bool, ◌&&◌, ◌||◌, not, ◌==◌, if◌then◌else◌}
use Rattle.smap_mappings.specs.Vlq.{is_continuing}
use Rattle.smap_mappings.specs.Segments.{is_semicolon, is_comma}

-- A canonical text has this byte not behind that one: an `A`, whose value is 0, where the number has digits already; a
-- `,` where no segment ends; a `;` where a segment is to begin.
abbrev pub is_needless : ℕ → ℕ → Bool
is_needless before byte =
    (byte == 65 && is_continuing before)
    || (is_comma byte && (is_semicolon before || is_comma before))
    || (is_semicolon byte && is_comma before)

-- none of these bytes is needless, the first of which stands behind this one, nor does a `,` stand at the end
abbrev pub has_none_needless : ℕ → List ℕ → Bool
has_none_needless before [] = not (is_comma before)
has_none_needless before (byte ∷ bytes) = not (is_needless before byte) && has_none_needless byte bytes

-- the text is canonical, save for the `;` at its end; it begins like a line
unfoldable pub is_almost_canonical : List ℕ → Bool
is_almost_canonical text = has_none_needless 59 text

-- the byte and those behind it, or nothing where it is a `;` and the last
abbrev pub cut_before : ℕ → List ℕ → List ℕ
cut_before byte [] = if is_semicolon byte then [] else byte ∷ []
cut_before byte (next ∷ bytes) = byte ∷ next ∷ bytes

-- the text without the `;` at its end
abbrev pub without_line_ends : List ℕ → List ℕ
without_line_ends [] = []
without_line_ends (byte ∷ bytes) = cut_before byte (without_line_ends bytes)
