-- What the trait of maps promises, of maps with names or without.
use Rattle.std.proofs.Common.{ℕ, Bool, true, false, List, Option}
use Rattle.smap_record.specs.Record.{MapRecord}
use Rattle.smap_trace.specs.FunctionNames.{FunctionNames}
use Rattle.smap_anywhere.specs.NamedParts.{FoundIn, found_by, gives_by}
use Rattle.smap_anywhere.proofs.PartStepLaws.{IsGiven, IsSame}

module _ {M : Type 0} where
  abbrev pub gives_of : (is_named : Bool) → (Gives : M → (url : List ℕ) → Option MapRecord → Type 0)
      → (GivesNames : M → (url : List ℕ) → Option MapRecord → Option FunctionNames → Type 0) → M → (url : List ℕ) → FoundIn is_named → Type 0
  gives_of is_named Gives GivesNames maps = gives_by is_named (Gives maps) (GivesNames maps)

  module _ (is_named : Bool) (Gives : M → (url : List ℕ) → Option MapRecord → Type 0)
      (GivesNames : M → (url : List ℕ) → Option MapRecord → Option FunctionNames → Type 0) where
    pub some_by : ((maps : M) (url : List ℕ) → (stated : Option MapRecord) × Gives maps url stated)
        → ((maps : M) (url : List ℕ) → (stated : Option MapRecord) × (written : Option FunctionNames) × GivesNames maps url stated written)
        → (maps : M) (url : List ℕ) → (one : FoundIn is_named) × gives_of is_named Gives GivesNames maps url one
    some_by some some_names maps url = go is_named
      where
        go : (is_named : Bool) → (one : FoundIn is_named) × gives_of is_named Gives GivesNames maps url one
        go false = some maps url
        go true = let one = some_names maps url in ((one.0, one.1), one.2)

    module _ (Finds : M → (url : List ℕ) → M → Type 0) where
      pub same_by : IsSame Gives Finds
          → ((maps after : M) (url other : List ℕ) (stated : Option MapRecord) (written : Option FunctionNames) → Finds maps url after
          → GivesNames after other stated written → GivesNames maps other stated written)
          → IsSame (gives_of is_named Gives GivesNames) Finds
      same_by same same_names = go is_named
        where
          go : (is_named : Bool) → IsSame (gives_of is_named Gives GivesNames) Finds
          go false = same
          go true = λ maps after url other one finds gives. same_names maps after url other one.0 one.1 finds gives

      pub given_by : (found : M → (url : List ℕ) → Option MapRecord) (names : M → (url : List ℕ) → Option FunctionNames)
          → IsGiven Gives Finds found
          → ((maps after : M) (url : List ℕ) → Finds maps url after → GivesNames maps url (found after url) (names after url))
          → IsGiven (gives_of is_named Gives GivesNames) Finds (found_by is_named found names)
      given_by found names given given_names = go is_named
        where
          go : (is_named : Bool) → IsGiven (gives_of is_named Gives GivesNames) Finds (found_by is_named found names)
          go false = given
          go true = given_names
