-- Which declaration decides, whatever the order in which they are listed.
use Rattle.std.proofs.Common.{◌≡◌, ℕ, List, Option, Some, None}
use Rattle.std.specs.List.Sorted.{IsPermutation}
use Rattle.std.proofs.lemmas.List.Sorted.{Contains-permutation, IsPermutation-sym}
use Rattle.smap_declarations.specs.Declarations.{Named}
use Rattle.smap_declarations.specs.Frames.{Decides, IsLast, IsNameOf, IsNone, lasting, name_by}
use Rattle.smap_declarations.specs.declared.walk.DeclarationPlace.{DeclarationPlace}

module _ (all kept : List Named) (same : IsPermutation all kept) (name : List ℕ) (place : DeclarationPlace) where
  none_in_all : IsNone kept name place → IsNone all name place
  none_in_all none named among of = none named (Contains-permutation all kept named same among) of

  last_in_all : (last : Named) → IsLast kept name place last → IsLast all name place last
  last_in_all last is = record {
    among = Contains-permutation kept all last (IsPermutation-sym all kept same) is.among;
    of = is.of;
    latest = λ named among of. is.latest named (Contains-permutation all kept named same among) of;
  }

  decides_in_all : (decides : Option Named) → Decides kept name place decides → Decides all name place decides
  decides_in_all None none = none_in_all none
  decides_in_all (Some last) is = last_in_all last is

  pub names_alike : (names : List (List ℕ)) (decides : Option Named) (given : Option (List ℕ)) → Decides kept name place decides
      → given ≡ name_by names name (lasting place decides) → IsNameOf all names name place given
  names_alike names decides given is name_is = record { latest = decides; last = decides_in_all decides is; name_is = name_is }
