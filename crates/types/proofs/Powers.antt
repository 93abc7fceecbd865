-- The search over the powers of two, power by power; and the sound cluster sizes, which are the powers 9 to 21: among
-- them is between the first and the last.
use Rattle.std.proofs.Common.{ℕ, ◌+◌, ◌-◌, ◌*◌, ◌%◌, ◌^◌, ◌<◌, ◌≡◌, true, false, refl, sym, ◌∙◌, arith}
use lib.Pow.{pow-lt}
use native.Mathlib.Nat.{one-mul, mod-eq_of_lt}
use types.Run.{OneOf}
use Rattle.format.specs.Number.{is_power, cluster_sound}
use Rattle.format.proofs.Powers.{powers, power_is, power_isnt, among_is_between, power_next, power_now, power_over}

pub sound_size : (n : ℕ) → OneOf (powers 9 13) n → true ≡ cluster_sound n
unfolding cluster_sound
sound_size n h = sym (power_is 9 13 n h) ∙ among_is_between 8 12 41 n refl

pub other_size : (n : ℕ) → (OneOf (powers 9 13) n → ⊥) → false ≡ cluster_sound n
unfolding cluster_sound
other_size n h = sym (power_isnt 9 13 n h) ∙ among_is_between 8 12 41 n refl

-- how the machine shifts
shifted : (k : ℕ) → k < 64 → 1 * 2 ^ k % 2 ^ 64 ≡ 2 ^ k
shifted k h = let p : 2 ^ k < 2 ^ 64 = pow-lt {j = 64} h in rw (one-mul (2 ^ k), mod-eq_of_lt p)

pub power_here : (k n : ℕ) → n ≡ 1 * 2 ^ k % 2 ^ 64 → k < 64 → is_power k (64 - k) n ≡ true
power_here k n h b = power_now k (64 - k) (64 - (k + 1)) n (omega arith) (h ∙ shifted k b)

pub power_later : (k n : ℕ) → (n ≡ 1 * 2 ^ k % 2 ^ 64 → ⊥) → k < 64 → is_power k (64 - k) n ≡ is_power (k + 1) (64 - (k + 1)) n
power_later k n h b = power_next k (64 - k) (64 - (k + 1)) n (omega arith) (λ e. h (e ∙ sym (shifted k b)))

pub power_nowhere : (k left n : ℕ) → left ≡ 0 → is_power k left n ≡ false
power_nowhere k left n e = power_over k left n e
