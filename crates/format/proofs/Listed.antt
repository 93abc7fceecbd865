-- Laws of a list's runs: more fuel changes nothing, so the list follows one rule with no fuel in it; a list of n bytes has at most
-- n / 2 runs and is unrolled within n / 2 + 1 steps. And where an offset lies, by what stands at a cursor, which the code's proofs cite.
use Prim.Native.Nat.{ℕ, zero, suc, ◌+◌, ◌-◌, ◌*◌, ◌/◌, ◌≤◌, ◌<◌}
use mathlib.Core.Path.{◌≡◌, refl, ap, ◌∙◌}
use native.Mathlib.Omega.{arith}
use lib.Dec.{ltb}
use Rattle.format.specs.Pick.{pick}
use Rattle.format.specs.Runs.{Run, Step}
use Rattle.format.specs.Runs.Step.{over, found, faulty}
use Rattle.format.specs.Listed.{RunList, Lawful, Listed, unroll, listed_by, listed, list, runs, Where, byte, lookup}
use Rattle.format.specs.Listed.Listed.{run}
use Rattle.format.specs.Listed.Where.{not_covered, unknown}

-- only what stands behind a run is asked of the rest
unroll_same : (x : Step) (l : ℕ) (f g : ℕ → ℕ → Listed) → ((r : Run) (a l' : ℕ) → x ≡ found r a l' → f a l' ≡ g a l') → unroll x l f ≡ unroll x l g
unfolding unroll
unroll_same over l f g h = refl
unroll_same (found r a l') l f g h = ap (run r a l') (h r a l' refl)
unroll_same (faulty k v) l f g h = refl

-- all that the fuel needs: a run takes two bytes of the list or more
abbrev pub Moves : RunList → Type 0
Moves L = (a l : ℕ) (r : Run) (a' l' : ℕ) → L.step a l ≡ found r a' l' → (a + 1 < a') × (a' ≤ L.fin)

module _ (L : RunList) (moves : Moves L) where
  -- half of the bytes left, and one step more, are enough
  pub fuel_same : (f g a l : ℕ) → L.fin - a < 2 * f → L.fin - a < 2 * g → listed_by L f a l ≡ listed_by L g a l
  unfolding listed_by
  fuel_same zero g a l hf hg = absurd (omega arith)
  fuel_same (suc f) zero a l hf hg = absurd (omega arith)
  fuel_same (suc f) (suc g) a l hf hg =
      unroll_same (L.step a l) l (listed_by L f) (listed_by L g) (λ r a' l' e. let h = moves a l r a' l' e in fuel_same f g a' l' (omega (arith, h.0, h.1)) (omega (arith, h.0, h.1)))

  pub listed_again : (a l : ℕ) → listed L a l ≡ unroll (L.step a l) l (listed L)
  unfolding listed listed_by
  listed_again a l =
      unroll_same (L.step a l) l (listed_by L (L.fin - a)) (listed L) (λ r a' l' e. let h = moves a l r a' l' e in fuel_same (L.fin - a) (suc (L.fin - a')) a' l' (omega (arith, h.0, h.1)) (omega (arith, h.0, h.1)))

-- where an offset lies, by what stands at the cursor
abbrev pub looks : RunList → ℕ → Step → Where
looks L o over = not_covered
looks L o (found r a l) = pick (ltb o r.size) (byte r.place o) (lookup (listed L a l) (o - r.size))
looks L o (faulty k v) = unknown k v

module _ (L : RunList) (moves : Moves L) where
  looks_unrolled : (x : Step) (l o : ℕ) → lookup (unroll x l (listed L)) o ≡ looks L o x
  unfolding unroll lookup
  looks_unrolled over l o = refl
  looks_unrolled (found r a l') l o = refl
  looks_unrolled (faulty k v) l o = refl

  pub lookup_rule : (a l o : ℕ) → lookup (listed L a l) o ≡ looks L o (L.step a l)
  lookup_rule a l o = ap (λ d. lookup d o) (listed_again L moves a l) ∙ looks_unrolled (L.step a l) l o

module _ (L : RunList) (good : Lawful L) where
  pub listed_rule : (a l : ℕ) → listed L a l ≡ unroll (L.step a l) l (listed L)
  listed_rule a l = listed_again L good.moves a l

  -- n / 2 + 1 steps
  pub steps_enough : listed_by L (L.fin / 2 + 1) 0 0 ≡ list L
  unfolding listed
  steps_enough = fuel_same L good.moves (L.fin / 2 + 1) (suc (L.fin - 0)) 0 0 (omega arith) (omega arith)

  runs_by : (f a l : ℕ) → a ≤ L.fin → runs (listed_by L f a l) * 2 ≤ L.fin - a
  unfolding listed_by unroll runs
  runs_by zero a l h = omega arith
  runs_by (suc f) a l h = go (L.step a l) refl (runs_by f)
    where
      go : (x : Step) → L.step a l ≡ x → ((a' l' : ℕ) → a' ≤ L.fin → runs (listed_by L f a' l') * 2 ≤ L.fin - a') → runs (unroll x l (listed_by L f)) * 2 ≤ L.fin - a
      go over e more = omega arith
      go (found r a' l') e more = let m = good.moves a l r a' l' e in let i = more a' l' m.1 in omega (arith, m.0, m.1)
      go (faulty k v) e more = omega arith

  -- at most n / 2 runs
  pub runs_few : runs (list L) ≤ L.fin / 2
  unfolding listed
  runs_few = omega (arith, runs_by (suc (L.fin - 0)) 0 0 (omega arith))
