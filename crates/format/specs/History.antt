-- What demand 3 speaks of: a history of calls on one reader and one list, and the bytes that a read names.
use Rattle.std.specs.Prelude.{ℕ, zero, suc, ◌+◌, ◌-◌, ◌<◌, min, List, [], ◌∷◌, ◌++◌, ℤ}
use Rattle.format.specs.Listed.{either, RunList, list, covered, Where, byte, lookup}
use Rattle.format.specs.Reader.{From, base, target, Span}
use Rattle.format.specs.Calls.{Held, seeking, reading}

-- A HISTORY: the reader, and the place that the calls so far say, of a stream of z bytes. An accepted seek puts it at its target, a read
-- adds its byte count, a refusal adds nothing and leaves the reader.
pub data Call : Type 0 where
  seeks : From → ℤ → Call
  reads : ℕ → List ℕ → Call

unfoldable pub after : List ℕ → ℕ → Held × ℕ → Call → Held × ℕ
after s z h (seeks f a) = either (seeking s h.0 f a) (λ k. (k, either (target (base h.1 z f) a) (λ t. t) h.1)) h
after s z h (reads w store) = either (reading s h.0 w store) (λ g. (record { cluster = h.0.cluster; reader = g.reader }, h.1 + g.bytes)) h

unfoldable pub history : List ℕ → ℕ → Held × ℕ → List Call → Held × ℕ
history s z h [] = h
history s z h (c ∷ cs) = history s z (after s z h c) cs

-- THE BYTES that spans name, one by one, and those that the lookup rule names from p on.
unfoldable pub upto : {A : Type 0} → (ℕ → A) → ℕ → List A
upto f zero = []
upto f (suc n) = f 0 ∷ upto (λ i. f (suc i)) n

unfoldable pub expand : List Span → List Where
expand [] = []
expand (x ∷ xs) = upto (byte x.place) x.length ++ expand xs

abbrev pub bytes_at : RunList → ℕ → ℕ → List Where
bytes_at L p n = upto (λ i. lookup (list L) (p + i)) n

-- How much of w bytes a read at place p of z bytes can name: the least of w, the data left and the covered bytes left.
unfoldable pub amount : RunList → ℕ → ℕ → ℕ → ℕ
amount L p z w = min w (min (z - p) (covered (list L) - p))

-- The sum of the spans; none is empty.
unfoldable pub total : List Span → ℕ
total [] = 0
total (x ∷ xs) = x.length + total xs

abbrev pub NoneEmpty : List Span → Type 0
NoneEmpty [] = Unit
NoneEmpty (x ∷ xs) = (0 < x.length) × NoneEmpty xs
