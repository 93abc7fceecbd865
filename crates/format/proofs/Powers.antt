-- Laws of powers of two. `is_power k m` is a search over the powers k to k + m - 1, so it splits into two searches, and a
-- search whose powers are all too small or all too large fails.
use Prim.Native.Nat.{ℕ, zero, suc, ◌+◌, ◌^◌, ◌<◌, ◌≤◌}
use mathlib.Core.Path.{◌≡◌, refl, sym, ap, ◌∙◌}
use mathlib.Core.Bool.{Bool, true, false, ◌||◌, or-true, or-false}
use mathlib.Core.Logic.{◌⊎◌, inl, inr, ⊎_elim}
use mathlib.Core.List.{List, [], ◌∷◌}
use native.Mathlib.Omega.{arith}
use native.Mathlib.Nat.{zero-add, add-zero, suc-add}
use borrow.Author.Tests.{eq-eqb, ne_eqb, eqb-true, le-ltb, ltb-false}
use types.Run.{OneOf}
use lib.Pow.{pow_mono, pow-lt}
use lib.Dec.{eqb, ltb}
use Rattle.format.specs.Pick.{pick_true, pick_or, pick_all, no_is}
use Rattle.format.specs.Number.{is_power, power_of_two, between, power_between, cluster_sound, min_cluster, max_cluster}

-- the powers as the keys of a choice
abbrev pub powers : ℕ → ℕ → List ℕ
powers k zero = []
powers k (suc m) = 2 ^ k ∷ powers (k + 1) m

pub power_is : (k m n : ℕ) → OneOf (powers k m) n → is_power k m n ≡ true
unfolding is_power
power_is k zero n h = absurd h
power_is k (suc zero) n h = rw (eq-eqb n (2 ^ k) h)
power_is k (suc (suc m)) n (inl e) = rw (eq-eqb n (2 ^ k) e)
power_is k (suc (suc m)) n (inr h) = rw (power_is (k + 1) (suc m) n h) (or-true (eqb n (2 ^ k)))

pub power_isnt : (k m n : ℕ) → (OneOf (powers k m) n → ⊥) → is_power k m n ≡ false
unfolding is_power
power_isnt k zero n h = refl
power_isnt k (suc zero) n h = rw (ne_eqb n (2 ^ k) h)
power_isnt k (suc (suc m)) n h = rw (ne_eqb n (2 ^ k) (λ e. h (inl e))) (power_isnt (k + 1) (suc m) n (λ e. h (inr e)))

-- what lies between two limits
pub between_bounds : (lo hi n : ℕ) → between lo hi n ≡ true → (lo ≤ n) × (n ≤ hi)
unfolding between
between_bounds lo hi n e =
    let a = pick_true (ltb n lo) _ e in
    let b = pick_true (ltb hi n) _ a.1 in
    (ltb-false n lo a.0, ltb-false hi n b.0)

pub power_between_bounds : (lo hi n : ℕ) → power_between lo hi n ≡ true → (lo ≤ n) × (n ≤ hi)
unfolding power_between
power_between_bounds lo hi n e =
    ⊎_elim (λ w. between_bounds lo hi n w.0) (λ w. let f : ◌≡◌ {A = ℕ} 0 1 = (let g = w.1 in cc) in absurd (omega arith)) (pick_or (between lo hi n) (power_of_two n) false true e)

between_is : (lo hi n : ℕ) → lo ≤ n → n ≤ hi → between lo hi n ≡ true
unfolding between
between_is lo hi n h k = sym (no_is _ (le-ltb n lo h) (no_is _ (le-ltb hi n k) refl))

or_assoc : (a b d : Bool) → ((a || b) || d) ≡ (a || (b || d))
or_assoc true b d = refl
or_assoc false b d = refl

bool_cases : (a : Bool) → (a ≡ true → false ≡ true) → a ≡ false
bool_cases true f = sym (f refl)
bool_cases false f = refl

or_cases : (a b : Bool) → (a || b) ≡ true → (a ≡ true) ⊎ (b ≡ true)
or_cases true b e = inl refl
or_cases false b e = inr e

-- a search over a + b powers is one over a, then one over b
power_split : (k a b n : ℕ) → is_power k (a + b) n ≡ (is_power k a n || is_power (k + a) b n)
unfolding is_power
power_split k zero b n = rw (zero-add b, add-zero k)
power_split k (suc a) b n =
    let e : k + suc a ≡ k + 1 + a = omega arith in
    rw (suc-add a b, e) (ap (λ (t : Bool). eqb n (2 ^ k) || t) (power_split (k + 1) a b n) ∙ sym (or_assoc (eqb n (2 ^ k)) (is_power (k + 1) a n) (is_power (k + 1 + a) b n)))

-- what a search finds lies between its first and its last power
power_limits : (k m n : ℕ) → is_power k (suc m) n ≡ true → (2 ^ k ≤ n) × (n ≤ 2 ^ (k + m))
unfolding is_power
power_limits k zero n e =
    ⊎_elim (λ w. let q : n ≡ 2 ^ k = eqb-true n (2 ^ k) w in rw (add-zero k) (omega arith, omega arith)) (λ w. let f : ◌≡◌ {A = ℕ} 0 1 = cc in absurd (omega arith)) (or_cases (eqb n (2 ^ k)) false e)
power_limits k (suc m) n e =
    let last : k + 1 + m ≡ k + suc m = omega arith in
    let up : 2 ^ k ≤ 2 ^ (k + suc m) = pow_mono {j = k + suc m} (omega arith) in
    let first : 2 ^ k ≤ 2 ^ (k + 1) = pow_mono {j = k + 1} (omega arith) in
    ⊎_elim (λ w. let q : n ≡ 2 ^ k = eqb-true n (2 ^ k) w in (omega arith, omega arith)) (λ w. let h = rw last at (power_limits (k + 1) m n w) in (omega (arith, h.0), h.1)) (or_cases (eqb n (2 ^ k)) (is_power (k + 1) (suc m) n) e)

power_none : (k m n : ℕ) → (n < 2 ^ k) ⊎ (2 ^ (k + m) < n) → is_power k (suc m) n ≡ false
power_none k m n out =
    bool_cases (is_power k (suc m) n) (λ e. let h = power_limits k m n e in absurd (⊎_elim (λ w. omega (arith, h.0)) (λ w. omega (arith, h.1)) out))

-- among the m + 1 powers from k on: a power of two between the first and the last of them
pub among_is_between : (k m rest n : ℕ) → suc k + suc m + suc rest ≡ 64 → is_power (suc k) (suc m) n ≡ power_between (2 ^ suc k) (2 ^ (suc k + m)) n
unfolding power_between power_of_two
among_is_between k m rest n all =
    pick_all (λ (t : Bool). is_power (suc k) (suc m) n ≡ t) (between (2 ^ suc k) (2 ^ (suc k + m)) n) _ _
    (λ e.
    let h = between_bounds (2 ^ suc k) (2 ^ (suc k + m)) n e in
    let low : 2 ^ (0 + k) < 2 ^ suc k = pow-lt {i = 0 + k} {j = suc k} (omega arith) in
    let high : 2 ^ (suc k + m) < 2 ^ (suc k + suc m) = pow-lt {j = suc k + suc m} (omega arith) in
    let whole : suc k + (suc m + suc rest) ≡ 64 = omega arith in
    let first : 0 + suc k ≡ suc k = zero-add (suc k) in
    let below : is_power 0 (suc k) n ≡ false = power_none 0 k n (inr (omega (arith, h.0))) in
    let above : is_power (suc k + suc m) (suc rest) n ≡ false = power_none (suc k + suc m) rest n (inl (omega (arith, h.1))) in
    sym (ap (λ (j : ℕ). is_power 0 j n) (sym whole) ∙ power_split 0 (suc k) (suc m + suc rest) n ∙ rw (below, first) (power_split (suc k) (suc m) (suc rest) n ∙ rw above (or-false (is_power (suc k) (suc m) n)))))
    (λ e. bool_cases (is_power (suc k) (suc m) n) (λ f. let h = power_limits (suc k) m n f in sym e ∙ between_is (2 ^ suc k) (2 ^ (suc k + m)) n h.0 h.1))

-- one power more that n is not
pub power_next : (k j m n : ℕ) → j ≡ suc m → (n ≡ 2 ^ k → ⊥) → is_power k j n ≡ is_power (k + 1) m n
unfolding is_power
power_next k j m n e h = rw (e, ne_eqb n (2 ^ k) h)

pub power_now : (k j m n : ℕ) → j ≡ suc m → n ≡ 2 ^ k → is_power k j n ≡ true
unfolding is_power
power_now k j m n e h = rw (e, eq-eqb n (2 ^ k) h)

pub power_over : (k j n : ℕ) → j ≡ 0 → is_power k j n ≡ false
unfolding is_power
power_over k j n e = rw e

pub sound_bounds : (n : ℕ) → cluster_sound n ≡ true → (512 ≤ n) × (n ≤ 2097152)
unfolding cluster_sound
sound_bounds n e = power_between_bounds min_cluster max_cluster n e
