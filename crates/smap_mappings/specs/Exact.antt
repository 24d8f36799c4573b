-- What a call gives that may run out of memory.
use Rattle.std.specs.Prelude.{◌≡◌, ◌⊎◌, Option, Result, Ok, Err}
use Rattle.std.specs.Option.{MatchOption}
use Rattle.std.specs.Result.{MatchResult}

-- exact: this refusal, where there is one, and otherwise a value of which this holds; or out of memory in place of the value
abbrev pub IsExactOr : {T E : Type 0} → (memory : E) → Result T E → Option E → (T → Type 0) → Type 0
IsExactOr memory result refusal Holds =
    MatchOption refusal (MatchResult result Holds (λ given. given ≡ memory)) (λ stated. result ≡ Err stated)

-- what is stated, its value as the call's is seen, or its refusal; or out of memory in place of either
abbrev pub GivesOr : {X Y E : Type 0} → (memory : E) → (seen : X → Y) → Result X E → Result Y E → Type 0
GivesOr memory seen (Ok value) stated = stated ≡ Ok (seen value)
GivesOr memory seen (Err refusal) stated = (refusal ≡ memory) ⊎ (stated ≡ Err refusal)
