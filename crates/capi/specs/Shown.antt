-- The answers of this crate's own functions in the terms of Words.
use Rattle.std.specs.Prelude.{ℕ, ℤ, List, Option, Some, None, Result, Ok, Err}
use Rattle.refusal.specs.declared.Refusal.{Refusal}
use Rattle.refusal.specs.Refusals.{number, values}
use Rattle.format.specs.Calls.{Held}
use Rattle.format.specs.Listed.{Answer}
use Rattle.format.specs.Listed.Answer.{given, refused}
use Rattle.capi.specs.Words.{Told, bits, accepted, refusal, packed}

abbrev pub shown : Result (List ℕ) Refusal → Told
shown (Ok words) = accepted words
shown (Err why) = refusal (number why) (values why)

-- the sixteen words that a call leaves of a reader's
abbrev pub words_left : List ℕ → Answer Held → List ℕ
words_left words (given h) = packed h
words_left words (refused k v) = words

-- a value as a word, 0 for none
abbrev pub word_of : Option ℤ → ℕ
word_of None = 0
word_of (Some v) = bits v
