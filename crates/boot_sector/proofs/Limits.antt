-- Sectors per cluster are at most 4,096, and so are a sector's bytes: their product fits a word.
use Rattle.std.proofs.Common.{ℕ, ◌*◌, ◌%◌, ◌^◌, ◌<◌, ◌≤◌, ◌≡◌, true, arith}
use Rattle.std.proofs.Math.Nat.{mul-le-mul}
use lib.Pow.{pow-lt, pow_mono}
use native.Mathlib.Nat.{one-mul, mod-eq_of_lt}
use Rattle.format.proofs.Powers.{power_between_bounds}
use Rattle.format.specs.Number.{power_between}

pub small_power : (k : ℕ) → k ≤ 12 → 1 * 2 ^ k % 2 ^ 64 ≤ 4096
small_power k h =
    let fits : 2 ^ k < 2 ^ 64 = pow-lt {j = 64} (omega arith) in
    let small : 2 ^ k ≤ 2 ^ 12 = pow_mono {j = 12} h in
    rw (one-mul (2 ^ k), mod-eq_of_lt fits) small

pub small_product : (a b : ℕ) → a ≤ 4096 → power_between 512 4096 b ≡ true → a * b ≤ 4096 * 4096
small_product a b h e = mul-le-mul h (power_between_bounds 512 4096 b e).1
