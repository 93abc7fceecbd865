-- The scope's cases C1 to C13 in one table under one proved statement. A case is a single step of the decoder, a whole list, an
-- offset looked up, or what a new reader does.
use Rattle.std.specs.Prelude.{ℕ, ◌≡◌, refl, List, [], ◌∷◌, replicate, ℤ, pos, negsuc, None, Some}
use Rattle.format.specs.Pick.{pick}
use Rattle.format.specs.Number.{little, twos, unsigned, signed, within, is_power, power_of_two, between, power_between, cluster_sound}
use Rattle.format.specs.Runs.{Run, Step, is_hole, ends, delta_part, count_part, step, next}
use Rattle.format.specs.Runs.Place.{disk, hole}
use Rattle.format.specs.Runs.Step.{over, found, faulty}
use Rattle.format.specs.Listed.{Listed, list, run_list, unroll, listed_by, listed, Where, byte, lookup, list_fits, looked_up, Listed as L, Where as W, Answer, then, either, Answer as A}
use Rattle.format.specs.Reader.{Current, From, left_of, settle, forward, opened, seek_to, base, target, seek, further, here, give, fetch, turn, follow, read, Position}
use Rattle.format.specs.Reader.From.{from_start, from_place, from_end}
use Rattle.format.specs.Reader.Position.{at_byte, nowhere}
use Rattle.format.specs.Calls.{Held, place_sound, current_sound, sound, sound_in, opening, seeking, reading, Count, counted, words, stored, standing}
use Rattle.format.specs.History.{Call, after, history}
use Rattle.format.specs.History.Call.{seeks, reads}

pub data Case : Type 0 where
  steps : ℕ → List ℕ → ℕ → ℕ → Step → Case
  lists : ℕ → List ℕ → Listed → Case
  looks_up : ℕ → List ℕ → ℕ → Where → Case
  -- a new reader of 4,000 bytes after some calls: its data position; what a seek answers; what a read answers and leaves of the store
  stands_after : ℕ → List ℕ → List Call → Answer Position → Case
  seeks_after : ℕ → List ℕ → List Call → From → ℤ → Answer Held → Case
  reads_after : ℕ → List ℕ → List Call → ℕ → List ℕ → Answer Count → List ℕ → Case
  -- the same of a reader that is made by hand
  stands_by : Held → Answer Position → Case
  seeks_by : List ℕ → Held → From → ℤ → Answer Held → Case
  reads_by : List ℕ → Held → ℕ → List ℕ → Answer Count → List ℕ → Case
  -- an opening, at a data size of 4,000
  opens_at : ℕ → List ℕ → Answer Held → Case

abbrev held_after : ℕ → List ℕ → List Call → Answer Held
held_after cluster s calls = then (opening cluster s 4000) (λ h. A.given (history s 4000 (h, 0) calls).0)

abbrev pub Holds : Case → Type 0
Holds (steps cluster s at lcn answer) = next cluster s at lcn ≡ answer
Holds (lists cluster s answer) = list (run_list cluster s) ≡ answer
Holds (looks_up cluster s o answer) = looked_up cluster s o ≡ answer
Holds (stands_after cluster s calls answer) = then (held_after cluster s calls) standing ≡ answer
Holds (seeks_after cluster s calls f a answer) = then (held_after cluster s calls) (λ h. seeking s h f a) ≡ answer
Holds (reads_after cluster s calls w store answer left) =
    (then (held_after cluster s calls) (λ h. counted cluster (reading s h w store)) ≡ answer) × (either (held_after cluster s calls) (λ h. stored store (reading s h w store)) [] ≡ left)
Holds (stands_by h answer) = standing h ≡ answer
Holds (seeks_by s h f a answer) = seeking s h f a ≡ answer
Holds (reads_by s h w store answer left) = (counted h.cluster (reading s h w store) ≡ answer) × (stored store (reading s h w store) ≡ left)
Holds (opens_at cluster s answer) = opening cluster s 4000 ≡ answer

abbrev pub AllHold : List Case → Type 0
AllHold [] = Unit {0}
AllHold (c ∷ cs) = Holds c × AllHold cs

abbrev at : ℕ → ℕ → Run
at size p = record { size = size; place = disk p }

abbrev empty : ℕ → Run
empty size = record { size = size; place = hole }

abbrev held : ℕ → ℕ → Current → ℕ → ℕ → Held
held cursor lcn current d place =
    record { cluster = 512; reader = record { stand = record { cursor = cursor; lcn = lcn; current = current; displacement = d }; place = place; size = 4000 } }

-- made by hand: cluster size, cursor, current run, displacement; at place 100
abbrev made : ℕ → ℕ → Current → ℕ → Held
made cluster cursor current d =
    record { cluster = cluster; reader = record { stand = record { cursor = cursor; lcn = 0; current = current; displacement = d }; place = 100; size = 4000 } }

abbrev unsound : {A : Type 0} → Answer A
unsound = A.refused 21 []

abbrev count : ℕ → ℕ → Held → Answer Count
count spans bytes h = A.given (record { spans = spans; bytes = bytes; reader = h })

-- a seek from the start; a read with room for three spans
abbrev to : ℕ → Call
to t = seeks from_start (pos t)

abbrev three : ℕ → Call
three w = reads w (replicate 9 7)

abbrev pub B : List ℕ
B = 0x11 ∷ 0x02 ∷ 0x0a ∷ 0x11 ∷ 0x01 ∷ 0xfe ∷ 0x01 ∷ 0x03 ∷ 0x11 ∷ 0x02 ∷ 0x05 ∷ 0x00 ∷ []

abbrev broken : List ℕ
broken = 0x11 ∷ 0x01 ∷ 0x0a ∷ 0x09 ∷ []

abbrev pub table : List Case
table =
    -- C1, C2 (the previous LCN kept, here 7), C3
    steps 4096 (0x21 ∷ 0x18 ∷ 0x34 ∷ 0x56 ∷ 0x00 ∷ []) 0 0 (found (at 98304 90390528) 4 22068)
    ∷ steps 512 (0x11 ∷ 0x01 ∷ 0x00 ∷ []) 0 7 (found (empty 512) 3 7)
    ∷ lists 512 B (L.run (at 1024 5120) 3 10 (L.run (at 512 4096) 6 8 (L.run (empty 1536) 8 8 (L.run (at 1024 6656) 11 13 (L.ends 13)))))
    -- C4, C5, C6
    ∷ reads_after 512 B (to 900 ∷ []) 1000 (replicate 9 7) (count 3 1000 (held 8 8 (Some (empty 1536)) 364 1900)) (6020 ∷ 124 ∷ 1 ∷ 4096 ∷ 512 ∷ 1 ∷ 0 ∷ 364 ∷ 0 ∷ [])
    ∷ reads_after 512 B (to 3900 ∷ []) 500 (replicate 9 7) (count 1 100 (held 11 13 (Some (at 1024 6656)) 928 4000)) (7484 ∷ 100 ∷ 1 ∷ replicate 6 7)
    ∷ stands_after 512 B (three 1024 ∷ []) (A.given (at_byte 6144))
    ∷ stands_after 512 B (to 1024 ∷ []) (A.given (at_byte 4096))
    -- C7 to C13
    ∷ steps 512 (0x11 ∷ 0x01 ∷ 0x80 ∷ []) 0 0 (faulty 17 (pos 0 ∷ pos 0 ∷ []))
    ∷ steps 512 (0x21 ∷ 0x18 ∷ 0x34 ∷ []) 0 0 (faulty 14 (pos 0 ∷ []))
    ∷ steps 512 (0x09 ∷ []) 0 0 (faulty 13 (pos 0 ∷ []))
    ∷ steps 512 (0x90 ∷ []) 0 0 (faulty 15 (pos 0 ∷ []))
    ∷ steps 512 (0x91 ∷ 0x01 ∷ []) 0 0 (faulty 13 (pos 0 ∷ []))
    ∷ steps 512 (0x71 ∷ 0x01 ∷ 0xff ∷ 0xff ∷ 0xff ∷ 0xff ∷ 0xff ∷ 0xff ∷ 0x7f ∷ []) 0 0 (faulty 19 (pos 0 ∷ []))
    ∷ steps 512 (0x81 ∷ 0x01 ∷ 0x00 ∷ 0x00 ∷ 0x00 ∷ 0x00 ∷ 0x00 ∷ 0x00 ∷ 0x80 ∷ 0x00 ∷ []) 0 0 (faulty 18 (pos 0 ∷ []))
    -- beside them: a computed LCN 0 is a hole, a refused run's cursor and previous LCN are its own, an unsound call
    ∷ steps 512 (0x11 ∷ 0x01 ∷ 0xff ∷ []) 0 1 (found (empty 512) 3 0)
    ∷ steps 512 (0x11 ∷ 0x01 ∷ 0x0a ∷ 0x11 ∷ 0x01 ∷ 0x80 ∷ []) 3 10 (faulty 17 (pos 3 ∷ pos 10 ∷ []))
    ∷ steps 511 B 0 0 (faulty 21 [])
    ∷ steps 512 B 13 0 (faulty 21 [])
    ∷ steps 512 B 12 13 over
    ∷ lists 512 broken (L.run (at 512 5120) 3 10 (L.breaks 13 (pos 3 ∷ [])))
    -- C15 and C16: a read that meets a refused run after bytes gives them, the next one and a seek there are refused
    ∷ reads_after 512 broken [] 600 (replicate 9 7) (count 1 512 (held 3 10 (Some (at 512 5120)) 512 512)) (5120 ∷ 512 ∷ 1 ∷ replicate 6 7)
    ∷ reads_after 512 broken (three 600 ∷ []) 600 (replicate 9 7) (A.refused 13 (pos 3 ∷ [])) (replicate 9 7)
    ∷ seeks_after 512 broken [] from_start (pos 512) (A.refused 13 (pos 3 ∷ []))
    ∷ seeks_after 512 B [] from_end (negsuc 9223372036854775807) (A.refused 20 [])
    -- room for two spans of a store of eight words; list over keeps the run; past it there is none; 2^64 is out of range, 2^64 - 1 is not
    ∷ reads_after 512 B (to 900 ∷ []) 1000 (replicate 8 7) (count 2 636 (held 6 8 (Some (at 512 4096)) 512 1536)) (6020 ∷ 124 ∷ 1 ∷ 4096 ∷ 512 ∷ 1 ∷ 7 ∷ 7 ∷ [])
    ∷ reads_after 512 (0x11 ∷ 0x01 ∷ 0x0a ∷ 0x00 ∷ []) [] 600 (replicate 6 7) (count 1 512 (held 4 10 (Some (at 512 5120)) 512 512)) (5120 ∷ 512 ∷ 1 ∷ 7 ∷ 7 ∷ 7 ∷ [])
    ∷ seeks_after 512 (0x11 ∷ 0x01 ∷ 0x0a ∷ 0x00 ∷ []) [] from_start (pos 512) (A.given (held 4 10 None 0 512))
    ∷ seeks_after 512 B (to 900 ∷ []) from_place (negsuc 99) (A.given (held 3 10 (Some (at 1024 5120)) 800 800))
    ∷ seeks_after 512 B [] from_end (pos 18446744073709547615) (A.given (held 12 13 None 0 18446744073709551615))
    ∷ seeks_after 512 B [] from_end (pos 18446744073709547616) (A.refused 20 [])
    ∷ stands_after 512 B (to 1600 ∷ []) (A.given nowhere)
    ∷ stands_after 512 B (to 5000 ∷ []) (A.given nowhere)
    -- neighbouring holes aren't joined; the data's end stops a read before the next run is fetched; a seek to the place changes nothing;
    -- a place past the data
    ∷ reads_after 512 (0x01 ∷ 0x01 ∷ 0x01 ∷ 0x01 ∷ []) [] 1024 (replicate 6 7) (count 2 1024 (held 4 0 (Some (empty 512)) 512 1024)) (0 ∷ 512 ∷ 0 ∷ 0 ∷ 512 ∷ 0 ∷ [])
    ∷ reads_by B (record { cluster = 512; reader = record { stand = record { cursor = 3; lcn = 10; current = Some (at 1024 5120); displacement = 1024 }; place = 4000; size = 4000 } }) 512 (replicate 3 7)
    (count 0 0 (held 3 10 (Some (at 1024 5120)) 1024 4000)) (replicate 3 7)
    ∷ seeks_after 512 B (three 1024 ∷ []) from_place (pos 0) (A.given (held 3 10 (Some (at 1024 5120)) 1024 1024))
    ∷ reads_after 512 B (to 4001 ∷ []) 1 (replicate 3 7) (count 0 0 (held 11 13 (Some (at 1024 6656)) 929 4001)) (replicate 3 7)
    -- what is unsound, part by part, with its neighbour that is not; 21 before 20; the store is left
    ∷ opens_at 511 B unsound
    ∷ opens_at 4194304 B unsound
    ∷ seeks_by B (made 511 0 None 0) from_start (negsuc 0) unsound
    ∷ seeks_by B (made 512 0 None 0) from_start (negsuc 0) (A.refused 20 [])
    ∷ reads_by B (made 511 0 None 0) 10 (replicate 3 7) unsound (replicate 3 7)
    ∷ stands_by (made 511 0 None 0) unsound
    ∷ seeks_by B (made 512 13 None 0) from_place (pos 0) unsound
    ∷ seeks_by B (made 512 12 None 0) from_place (pos 0) (A.given (made 512 12 None 0))
    ∷ reads_by B (made 512 13 None 0) 10 (replicate 3 7) unsound (replicate 3 7)
    ∷ stands_by (made 512 13 None 0) (A.given nowhere)
    ∷ seeks_by B (made 512 0 None 1) from_place (pos 0) unsound
    ∷ reads_by B (made 512 0 None 1) 10 (replicate 3 7) unsound (replicate 3 7)
    ∷ stands_by (made 512 0 None 1) unsound
    ∷ seeks_by B (made 512 3 (Some (at 10 0)) 11) from_place (pos 0) unsound
    ∷ reads_by B (made 512 3 (Some (at 10 0)) 11) 10 (replicate 3 7) unsound (replicate 3 7)
    ∷ stands_by (made 512 3 (Some (at 10 0)) 11) unsound
    ∷ stands_by (made 512 3 (Some (at 10 0)) 10) (A.given (at_byte 10))
    ∷ seeks_by B (made 512 3 (Some (at 10 18446744073709551606)) 4) from_place (pos 0) unsound
    ∷ reads_by B (made 512 3 (Some (at 10 18446744073709551606)) 4) 10 (replicate 3 7) unsound (replicate 3 7)
    ∷ stands_by (made 512 3 (Some (at 10 18446744073709551606)) 4) unsound
    ∷ stands_by (made 512 3 (Some (at 10 18446744073709551605)) 4) (A.given (at_byte 18446744073709551609))
    ∷ stands_by (made 512 3 (Some (empty 18446744073709551615)) 7) (A.given nowhere)
    -- the lookup rule on B, and on a list that breaks
    ∷ looks_up 512 B 0 (W.position 5120)
    ∷ looks_up 512 B 1023 (W.position 6143)
    ∷ looks_up 512 B 1024 (W.position 4096)
    ∷ looks_up 512 B 1536 W.in_hole
    ∷ looks_up 512 B 3071 W.in_hole
    ∷ looks_up 512 B 3072 (W.position 6656)
    ∷ looks_up 512 B 4095 (W.position 7679)
    ∷ looks_up 512 B 4096 W.not_covered
    ∷ looks_up 512 broken 511 (W.position 5631)
    ∷ looks_up 512 broken 512 (W.unknown 13 (pos 3 ∷ []))
    ∷ looks_up 1000 broken 512 (W.unknown 21 [])
    ∷ looks_up 512 (replicate 4096 0) 0 W.not_covered
    ∷ looks_up 512 (replicate 4097 0) 0 (W.unknown 22 [])
    ∷ looks_up 1000 (replicate 4097 0) 0 (W.unknown 21 [])
    ∷ []

pub cases : AllHold table
unfolding pick little twos unsigned signed within is_power power_of_two between power_between cluster_sound is_hole ends delta_part count_part step next unroll listed_by listed byte lookup list_fits looked_up left_of settle forward opened seek_to base target seek further here give fetch turn follow read place_sound current_sound sound sound_in opening seeking reading words standing after history
cases = (refl, (refl, (refl, ((refl, refl), ((refl, refl), (refl, (refl, (refl, (refl, (refl, (refl, (refl, (refl, (refl, (refl, (refl, (refl, (refl, (refl, (refl, ((refl, refl), ((refl, refl), (refl, (refl, ((refl, refl), ((refl, refl), (refl, (refl, (refl, (refl, (refl, (refl, ((refl, refl), ((refl, refl), (refl, ((refl, refl), (refl, (refl, (refl, (refl, ((refl, refl), (refl, (refl, (refl, ((refl, refl), (refl, (refl, ((refl, refl), (refl, (refl, ((refl, refl), (refl, (refl, (refl, ((refl, refl), (refl, (refl, (refl, (refl, (refl, (refl, (refl, (refl, (refl, (refl, (refl, (refl, (refl, (refl, (refl, (refl, (refl, tt))))))))))))))))))))))))))))))))))))))))))))))))))))))))))))))))))))))))
