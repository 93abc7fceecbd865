-- DEMAND 3: after any history a reader is where the history says, names what the lookup rule names, and seeks as a newly opened one.
-- The statement; its proof is proofs/Demand3.antt.
use Rattle.std.specs.Prelude.{ℕ, ◌/◌, ◌≤◌, ◌<◌, ◌≡◌, true, List, length, ℤ, pos}
use Rattle.format.specs.Number.{cluster_sound}
use Rattle.format.specs.Listed.{Gives, RunList, run_list, list, runs, ToItsEnd}
use Rattle.format.specs.Listed.Answer.{given}
use Rattle.format.specs.Reader.{From, base, target, Reading}
use Rattle.format.specs.Reader.From.{from_start}
use Rattle.format.specs.Calls.{Held, opening, seeking, reading}
use Rattle.format.specs.History.{Call, history, expand, bytes_at, amount, total, NoneEmpty}

-- A read of w bytes with this room, at place p of a stream of z bytes.
pub record Named (L : RunList) (p z w room : ℕ) (g : Reading) : Type 0 where
  pub bytes : expand g.spans ≡ bytes_at L p g.bytes
  pub full : NoneEmpty g.spans
  pub sum : g.bytes ≡ total g.spans
  pub fits : length g.spans ≤ room
  pub enough : runs (list L) ≤ room → g.bytes ≡ amount L p z w
  pub unused : length g.spans < room → g.bytes ≡ amount L p z w

-- A reader h of a stream of z bytes, and the place p that its history gives; `new` is the newly opened one.
pub record Demand3 (cluster : ℕ) (s : List ℕ) (z : ℕ) (new h : Held) (p : ℕ) : Type 0 where
  pub parts : (h.cluster ≡ cluster) × (h.reader.size ≡ z)
  pub place : h.reader.place ≡ p
  pub reads : (w : ℕ) (store : List ℕ) → Gives (Named (run_list cluster s) p z w (length store / 3)) (reading s h w store)
  pub seeks : (f : From) (a : ℤ) (t : ℕ) → target (base p z f) a ≡ given t → (t ≡ p → ⊥) → seeking s h f a ≡ seeking s new from_start (pos t)
  pub goes : (f : From) (a : ℤ) (t : ℕ) → target (base p z f) a ≡ given t → Gives (λ h'. h'.reader.place ≡ t) (seeking s h f a)

-- A list that decodes to its end opens, and then, whatever the calls.
abbrev pub Demand : ℕ → List ℕ → Type 0
Demand cluster s = cluster_sound cluster ≡ true → ToItsEnd (list (run_list cluster s)) → (z : ℕ)
    → Gives (λ new. (calls : List Call) → let h = history s z (new, 0) calls in Demand3 cluster s z new h.0 h.1) (opening cluster s z)
