-- What stands first among entries in the order of their use.
use Rattle.std.proofs.Common.{◌≡◌, ℕ, cond, List, [], ◌∷◌, Some, None, ap}
use Rattle.std.specs.List.{slice_get}
use Rattle.std.specs.Str.{bytes_eq}
use Rattle.smap_kept.specs.InOrder.{first_under}
use Rattle.smap_kept.specs.Private.Numbered.{in_order}
use Rattle.smap_kept.specs.declared.in_order.Named.{Named}

-- it is under its text
pub first_of : {V : Type 0} (text : List ℕ) (entries : List (ℕ × Named V)) (number : ℕ) (named : Named V) → slice_get entries 0 ≡ Some (number, named)
    → first_under text (in_order entries) ≡ cond (bytes_eq text named.text.items) (Some named.value) None
first_of text [] number named is = cc
first_of text (e ∷ entries) number named is =
    let same : e ≡ (number, named) = cc in
    ap (λ e. cond (bytes_eq text e.1.text.items) (Some e.1.value) None) same
