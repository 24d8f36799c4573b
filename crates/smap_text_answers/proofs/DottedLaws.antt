-- Whether what is tested of an argument holds of one, by its text.
use Rattle.std.specs.Prelude.{◌≡◌, ◌||◌, ℕ, Bool, List, [], ◌∷◌, String, map, string_bytes}
use Rattle.std.specs.List.{list_any}
use Rattle.std.proofs.Common.{ap, refl}
use Rattle.smap_replies.specs.Arguments.{argument_of}

pub any_argument : {A : Type 0} (test : List ℕ → Bool) (all : List (String A × String A))
    → list_any (λ a. test (string_bytes a.0)) all ≡ list_any (λ a. test a.0) (map argument_of all)
any_argument test [] = refl
any_argument test (a ∷ all) = ap (λ b. test (string_bytes a.0) || b) (any_argument test all)
