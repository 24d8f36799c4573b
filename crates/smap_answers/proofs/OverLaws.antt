-- A run over an input with or without its control sequences.
use Rattle.std.proofs.Common.{◌≡◌, Bool, MatchBool, subst, sym, true, false}

-- what holds in one of two cases
pub in_case : (b : Bool) (P Q : Type 0) → b ≡ true → P → MatchBool b P Q
in_case b P Q is holds = subst (λ c. MatchBool c P Q) (sym is) holds

pub in_other : (b : Bool) (P Q : Type 0) → b ≡ false → Q → MatchBool b P Q
in_other b P Q is holds = subst (λ c. MatchBool c P Q) (sym is) holds
