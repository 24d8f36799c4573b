-- One comparison more leaves at most half, which is below a power of two that is one lower.
use Rattle.std.proofs.Common.{◌≡◌, ℕ, ◌+◌, ◌/◌, ◌^◌, ◌<◌, ◌≤◌, suc, zero, arith}
use Rattle.std.proofs.Math.Nat.{pow-suc}

halved : (n m d : ℕ) → 0 < n → n < 2 ^ d → m ≤ n / 2 → (e : ℕ) × (suc e ≡ d) × (m < 2 ^ e)
halved n m zero some below half = absurd (omega arith)
halved n m (suc d) some below half = let twice = pow-suc 2 d in (d, omega arith, omega arith)

pub one_more : (count next start b n m : ℕ) → 0 < n → m ≤ n / 2 → next ≡ count + 1 → (d : ℕ) × (count + d ≡ start + b) × (n < 2 ^ d)
    → (d : ℕ) × (next + d ≡ start + b) × (m < 2 ^ d)
one_more count next start b n m some half counted (d, counted_so_far, left) =
    let less = halved n m d some left half in
    (less.0, omega (arith, less.1), less.2)
