-- Where the path of a name ends.
use Rattle.std.proofs.Common.{◌≡◌, ℕ, ◌<◌, false, List, length, get_or, subst, sym, arith, ⊎_elim}
use Rattle.std.specs.Prelude.{◌==◌}
use Rattle.std.specs.List.{prefix_len}
use Rattle.std.specs.Str.{IsCharBoundary}
use Rattle.std.proofs.lemmas.Bool.{cases_lt, eqb-true, not-false, or_cases}
use Rattle.std.proofs.lemmas.List.Folds.{length-prefix_len}
use Rattle.std.proofs.lemmas.List.Sums.{prefix_len-le-length, prefix_len_stops}
use Rattle.std.proofs.lemmas.Str.{IsCharBoundary-before_ascii, IsCharBoundary-end}
use Rattle.smap_locations.specs.Paths.{is_before_query, without_query}

-- a `?` or a `#` is ASCII
begins_query : (byte : ℕ) → is_before_query byte ≡ false → byte < 128
begins_query byte is = ⊎_elim
    (λ mark. omega (arith, eqb-true byte 63 mark))
    (λ sign. omega (arith, eqb-true byte 35 sign))
    (or_cases (byte == 63) (byte == 35) (not-false _ is))

-- a text may be cut there
pub ends_at_boundary : (name : List ℕ) → IsCharBoundary name (length (without_query name))
ends_at_boundary name =
    let end = prefix_len is_before_query name in
    subst (IsCharBoundary name) (sym (length-prefix_len is_before_query name))
    (⊎_elim
    (λ inside. IsCharBoundary-before_ascii name end inside (begins_query (get_or name end 0) (prefix_len_stops is_before_query name 0 inside)))
    (λ past. let whole : end ≡ length name = omega (arith, past, prefix_len-le-length is_before_query name) in
    subst (IsCharBoundary name) (sym whole) (IsCharBoundary-end name))
    (cases_lt end (length name)))
