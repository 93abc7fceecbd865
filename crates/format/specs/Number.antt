-- Numbers as bytes hold them, numbers that a 64-bit word can hold, and powers of two.
use Rattle.std.specs.Prelude.{ℕ, zero, suc, ◌+◌, ◌*◌, ◌^◌, Bool, true, false, ◌||◌, List, [], ◌∷◌, take, drop, ltb, eqb, ℤ, pos, negsuc, ◌-ℤ◌, None, Option, Some}
use Rattle.format.specs.Pick.{pick}

-- little-endian
unfoldable pub little : List ℕ → ℕ
little [] = 0
little (b ∷ bs) = b + 256 * little bs

-- two's complement of a number of n bytes: the number, or the number less 256 to the n where its top bit is set (a number that
-- n bytes can't hold also gets 256 to the n taken off)
unfoldable pub twos : ℕ → ℕ → ℤ
twos n x = pick (ltb (x * 2) (256 ^ n)) (pos x) (pos x -ℤ pos (256 ^ n))

-- the n bytes from a place on, as an unsigned and as a signed number; no bytes mean 0
unfoldable pub unsigned : List ℕ → ℕ → ℕ → ℕ
unsigned s from n = little (take n (drop from s))

unfoldable pub signed : List ℕ → ℕ → ℕ → ℤ
signed s from n = twos n (unsigned s from n)

-- a number that a 64-bit word can hold: from 0 to 2^64 - 1
unfoldable pub within : ℕ → Option ℕ
within n = pick (ltb n (2 ^ 64)) (Some n) None

abbrev pub within_ℤ : ℤ → Option ℕ
within_ℤ (pos n) = within n
within_ℤ (negsuc n) = None

-- n is 2 to one of the m powers from k on
unfoldable pub is_power : ℕ → ℕ → ℕ → Bool
is_power k zero n = false
is_power k (suc m) n = eqb n (2 ^ k) || is_power (k + 1) m n

-- a power of two that a word can hold
unfoldable pub power_of_two : ℕ → Bool
power_of_two n = is_power 0 64 n

-- from lo to hi, both included
unfoldable pub between : ℕ → ℕ → ℕ → Bool
between lo hi n = pick (ltb n lo) false (pick (ltb hi n) false true)

-- a power of two from lo to hi
unfoldable pub power_between : ℕ → ℕ → ℕ → Bool
power_between lo hi n = pick (between lo hi n) (power_of_two n) false

-- The limits of a cluster's size in bytes, and a size that is sound: a power of two within them.
abbrev pub min_cluster : ℕ
min_cluster = 512

abbrev pub max_cluster : ℕ
max_cluster = 2097152

unfoldable pub cluster_sound : ℕ → Bool
cluster_sound n = power_between min_cluster max_cluster n
