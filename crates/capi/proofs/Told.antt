-- Three values as words, the rest 0, are what a refusal tells.
use Rattle.std.proofs.Common.{ℤ, ◌≡◌, List, [], ◌∷◌, refl}
use Rattle.std.specs.Prelude.{slice_get}
use Rattle.capi.specs.Shown.{word_of}
use Rattle.capi.specs.Words.{valued}

pub told_values : (vs : List ℤ) → (word_of (slice_get vs 0) ∷ word_of (slice_get vs 1) ∷ word_of (slice_get vs 2) ∷ 0 ∷ 0 ∷ 0 ∷ 0 ∷ 0 ∷ []) ≡ valued vs
told_values [] = refl
told_values (a ∷ []) = refl
told_values (a ∷ b ∷ []) = refl
told_values (a ∷ b ∷ c ∷ vs) = refl
