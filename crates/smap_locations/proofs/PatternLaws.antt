-- What is seen of patterns, and the text that stands for a URL.
use Rattle.std.proofs.Common.{◌≡◌, ◌≤◌, ◌||◌, ℕ, Bool, false, List, [], ◌∷◌, length, map, take, refl, sym, ap, arith, ◌∙◌}
use Rattle.std.specs.Prelude.{is_some, if◌then◌else◌}
use Rattle.std.proofs.lemmas.Bool.{or_from}
use Rattle.std.proofs.lemmas.List.{length-take}
use Rattle.std.specs.List.{list_any, prefix_len}
use Rattle.std.proofs.Math.Seq.{take-length}
use Rattle.std.proofs.lemmas.List.Folds.{length-prefix_len}
use Rattle.smap_locations.specs.ByText.{value_under}
use Rattle.smap_locations.specs.Locations.{LocationsSeen, key_for}
use Rattle.smap_locations.specs.Paths.{is_before_query, without_query}
use Rattle.smap_locations.specs.Patterns.{needs_query}

pub any_seen : {T U : Type 0} (see : T → U) (p : U → Bool) (all : List T) → list_any p (map see all) ≡ list_any (λ one. p (see one)) all
any_seen see p [] = refl
any_seen see p (one ∷ all) = ap (λ b. p (see one) || b) (any_seen see p all)

-- a URL that is no longer than it is without its query and its fragment has none
pub without_none : (url short : List ℕ) → short ≡ without_query url → length url ≤ length short → short ≡ url
without_none url short is long =
    let n = prefix_len is_before_query url in
    let whole : n ≡ length url = omega (arith, length-take n url, length-prefix_len is_before_query url, ap length is, long) in
    is ∙ ap (λ n. take n url) whole ∙ take-length url

-- the text that stands for a URL that has no file, and no pattern that needs its query
pub key_is_short : (locations : LocationsSeen) (url short : List ℕ) → short ≡ without_query url → is_some (value_under url locations.files) ≡ false
    → list_any (needs_query url short) locations.patterns ≡ false → short ≡ key_for locations url
key_is_short locations url short is none needs =
    let more : list_any (needs_query url (without_query url)) locations.patterns ≡ false =
    ap (λ text. list_any (needs_query url text) locations.patterns) (sym is) ∙ needs in
    is ∙ sym (ap (λ b. if b then url else without_query url) (or_from _ _ none more))
