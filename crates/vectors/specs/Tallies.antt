-- What the program counts, and how each message changes it.
use Rattle.std.specs.Prelude.{ℕ, ◌+◌, ◌-◌, ◌^◌, min, Bool, cond}
use Rattle.vectors.specs.declared.report.Tally.{Tally}

-- A count with n more, which stays at the largest number that 64 bits hold.
abbrev pub raised : ℕ → ℕ → ℕ
raised count n = min (count + n) (2 ^ 64 - 1)

-- No message yet.
abbrev pub fresh : Tally
fresh = record { messages = 0; words = 0; differ = 0; compared = 0; worked = 0 }

-- One more message, which was not read.
abbrev pub after_malformed : Tally → Tally
after_malformed t = record { messages = raised t.messages 1; words = t.words; differ = raised t.differ 1; compared = t.compared; worked = t.worked }

-- One more message of n words, which the library refused.
abbrev pub after_refused : ℕ → Tally → Tally
after_refused n t = record { messages = raised t.messages 1; words = raised t.words n; differ = raised t.differ 1; compared = t.compared; worked = t.worked }

-- One more message of n words, sealed and opened, which agrees or differs.
abbrev pub after_compared : ℕ → Bool → Tally → Tally
after_compared n agrees t = record { messages = raised t.messages 1; words = raised t.words n; differ = cond agrees t.differ (raised t.differ 1); compared = raised t.compared 1; worked = raised t.worked n }
