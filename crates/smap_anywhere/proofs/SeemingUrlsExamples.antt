-- Worked examples of what looks like a URL: each holds by computing both sides.
use Rattle.std.proofs.Common.{◌≡◌, true, false, [], ◌∷◌, codes, map, refl}
use Rattle.smap_anywhere.specs.SeemingUrls.{holds_scheme, urls_seeming}

-- by a scheme, by its end, by its beginning
seeming : map urls_seeming.has_pattern (codes "webpack://a" ∷ codes "app.js" ∷ codes "a.mjs" ∷ codes "a.cjs" ∷ codes "a.bundle" ∷ codes "/srv/app" ∷ codes "\\\\srv\\app" ∷ codes "C:/app" ∷ codes "c:\\app" ∷ [])
    ≡ true ∷ true ∷ true ∷ true ∷ true ∷ true ∷ true ∷ true ∷ true ∷ []
unfolding holds_scheme
seeming = refl

others : map urls_seeming.has_pattern (codes "12:30" ∷ codes "app.ts" ∷ codes "js" ∷ codes "a:/" ∷ codes "1:/a" ∷ codes "C:a" ∷ codes "src/app" ∷ codes "ab:/x" ∷ [] ∷ [])
    ≡ false ∷ false ∷ false ∷ true ∷ false ∷ false ∷ false ∷ false ∷ false ∷ []
unfolding holds_scheme
others = refl

named : map urls_seeming.has_own (codes "app.js" ∷ []) ∷ map urls_seeming.is_name (codes "app.js" ∷ []) ∷ map urls_seeming.is_prefix (codes "/" ∷ []) ∷ []
    ≡ (false ∷ []) ∷ (false ∷ []) ∷ (false ∷ []) ∷ []
named = refl
