-- Where the body ends of what a name declares: at the `}` of the first `{` behind the name, or of the braces around the name. Braces
-- are counted as bytes, wherever they stand.
use Rattle.std.specs.Prelude.{ℕ, ◌+◌, ◌-◌, List, [], ◌∷◌, Bool, ◌==◌, ◌&&◌, nat_le, if◌then◌else◌}
use Rattle.smap_declarations.specs.Walk.{place_after}
use Rattle.smap_declarations.specs.declared.walk.DeclarationPlace.{DeclarationPlace}

-- a body ends with this byte, where so many braces are open since its name
abbrev pub ends_body : (depth : ℕ) → (c : ℕ) → Bool
ends_body depth c = c == 0x7D && nat_le depth 1

-- how many braces are open behind it
abbrev pub depth_after : (depth : ℕ) → (c : ℕ) → ℕ
depth_after depth c = if c == 0x7B then depth + 1 else (if c == 0x7D then depth - 1 else depth)

-- the place of the byte that ends it, or of the text's end
unfoldable pub end_from : (depth : ℕ) → DeclarationPlace → List ℕ → DeclarationPlace
end_from depth place [] = place
end_from depth place (c ∷ text) = if ends_body depth c then place else end_from (depth_after depth c) (place_after place c text) text

-- that of the name that begins this text
abbrev pub body_end : DeclarationPlace → (text : List ℕ) → DeclarationPlace
body_end place text = end_from 0 place text
