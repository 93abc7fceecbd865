-- A reader that was put into words is read back whole, so that a history may travel in words.
use Rattle.std.specs.Prelude.{Some, None}
use Prim.Native.Nat.{ℕ, ◌≤◌}
use mathlib.Core.Path.{◌≡◌, refl, ap, ◌∙◌}
use mathlib.Core.List.{List, ◌++◌}
use lib.ListN.{length, drop}
use lib.Seq.{sets, sets-eq}
use Rattle.format.specs.Pick.{pick}
use Rattle.format.specs.Runs.{Place}
use Rattle.format.specs.Runs.Place.{disk, hole}
use Rattle.format.specs.Reader.{Current}
use Rattle.format.specs.Calls.{Held, position}
use Rattle.capi.specs.Words.{run_kind, current_kind, current_size, current_place, packed, current_of, held_of}

run_restored : (n : ℕ) (p : Place) → current_of (run_kind p) n (position p) ≡ Some (record { size = n; place = p })
unfolding pick
run_restored n (disk p) = refl
run_restored n hole = refl

current_restored : (c : Current) → current_of (current_kind c) (current_size c) (current_place c) ≡ c
unfolding pick
current_restored None = refl
current_restored (Some r) = run_restored r.size r.place

-- the words stand first
front : (h : Held) (rest : List ℕ) → held_of (packed h ++ rest) ≡ h
unfolding held_of
front h rest = rw (current_restored h.reader.stand.current)

pub packed_back : (h : Held) (ws : List ℕ) → 16 ≤ length ws → held_of (sets ws 0 (packed h)) ≡ h
packed_back h ws e = ap held_of (sets-eq (packed h) ws 0 e) ∙ front h (drop 16 ws)
