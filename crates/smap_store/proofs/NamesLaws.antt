-- A table without declarations has none beside any map.
use Rattle.std.proofs.Common.{◌≡◌, ◌∙◌, ℕ, Bool, true, false, List, [], ◌∷◌, Option, Some, None, length, refl, ap, arith}
use Rattle.std.specs.Prelude.{if◌then◌else◌, is_some}
use Rattle.smap_declarations.specs.Declarations.{Named}
use Rattle.smap_locations.specs.ByText.{value_under}
use Rattle.smap_locations.specs.Paths.{without_query}
use Rattle.smap_store.specs.UrlTable.{UrlTableSeen, declared_under, deciding_text, map_of_cut, names_of_text}

pub none_counted : {A : Type 0} (list : List A) → length list ≡ 0 → list ≡ []
none_counted [] is = refl
none_counted (one ∷ list) is = absurd (omega (arith, is))

of_none : (a b : Bool) (text : Option (List ℕ))
    → ◌≡◌ {A = Option (List Named)} (if a then None else if b then None else names_of_text [] text) None
of_none true b text = refl
of_none false true text = refl
of_none false false None = refl
of_none false false (Some text) = refl

pub undeclared : (cut : Bool) (table : UrlTableSeen) (url : List ℕ) → table.names ≡ [] → table.pattern_names ≡ [] → declared_under cut table url ≡ None
undeclared cut table url names others =
    let own : Bool = is_some (value_under url table.exact) in
    let short : Bool = is_some (map_of_cut cut table url) in
    let text : Option (List ℕ) = deciding_text table url in
    (λ i. if own then value_under url (names i) else if short then value_under (without_query url) (names i) else names_of_text (others i) text)
    ∙ of_none own short text
