-- How many bytes of a text are taken.
use Rattle.std.proofs.Common.{◌≤◌, ◌<◌, ◌^◌, ℕ, Option, None, Some, arith}
use Rattle.std.specs.Prelude.{IfSome, unwrap_or}
use Rattle.smap_command.specs.Limits.{most_bytes, usual_limit_bytes}

pub within_limit : (bytes : Option ℕ) → IfSome bytes (λ bytes. (1 ≤ bytes) × (bytes ≤ most_bytes)) → unwrap_or bytes usual_limit_bytes < 2 ^ 63
within_limit None is = omega arith
within_limit (Some bytes) is = omega (arith, is.1)
