-- How large 256 to the n is, for numbers of up to eight bytes and for more.
use Rattle.std.proofs.Common.{ℕ, zero, suc, ◌+◌, ◌*◌, ◌%◌, ◌<◌, ◌≤◌, ◌^◌, ◌≡◌, refl, ap, arith, pos, sym, ◌∙◌}
use Rattle.std.proofs.lemmas.Nat.{pow-add}
use native.Mathlib.Nat.{one-mul, mod-eq_of_lt}
use Rattle.std.proofs.Math.Nat.{pow-le-pow_right}
use Rattle.format.specs.Number.{twos}
use Rattle.format.specs.Pick.{pick_yes}
use borrow.Author.Tests.{lt-ltb}

pub whole_fits : (n : ℕ) → n ≤ 8 → 256 ^ n ≤ 256 ^ 8
whole_fits n h = pow-le-pow_right (omega arith) h

pub plain : (n x : ℕ) → 8 < n → x < 2 ^ 64 → pos x ≡ twos n x
unfolding twos
plain n x h k = let p : 256 ^ 9 ≤ 256 ^ n = pow-le-pow_right (omega arith) h in sym (pick_yes _ _ (lt-ltb (x * 2) (256 ^ n) (omega arith)))

-- how the machine shifts by whole bytes
bytes : (n : ℕ) → 2 ^ (8 * n) ≡ 256 ^ n
bytes zero = refl
bytes (suc n) =
    let e : 8 * suc n ≡ 8 * n + 8 = omega arith in
    let f : n + 1 ≡ suc n = omega arith in
    ap (λ k. 2 ^ k) e ∙ pow-add 2 (8 * n) 8 ∙ ap (λ x. x * 256) (bytes n) ∙ sym (pow-add 256 n 1) ∙ ap (λ k. 256 ^ k) f

pub shifted : (n : ℕ) → n ≤ 8 → 1 * 2 ^ (8 * n) % 2 ^ 128 ≡ 256 ^ n
shifted n h =
    let p : 256 ^ n ≤ 256 ^ 8 = whole_fits n h in
    let q : 256 ^ n < 2 ^ 128 = omega arith in
    rw (one-mul (2 ^ (8 * n)), bytes n, mod-eq_of_lt q)
