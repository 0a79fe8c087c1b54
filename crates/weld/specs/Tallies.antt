-- What the program counts, and how each thing that is seen changes it.
use Rattle.std.specs.Prelude.{ℕ, ◌+◌, ◌-◌, ◌^◌, min, cond, List, fold, Option, Some, None, ◌==◌}
use Rattle.link.specs.declared.reception.Answer.{Answer}
use Rattle.link.specs.declared.reception.Answer.TheVariants.{Reading, Withheld}
use Rattle.weld.specs.declared.passage.Event.{Event}
use Rattle.weld.specs.declared.passage.Event.TheVariants.{Begun, Word, Altered, Break, Ended, Abandoned}
use Rattle.weld.specs.declared.tally.Tally.{Tally}

-- A count with n more, which stays at the largest number that 64 bits hold.
abbrev pub raised : ℕ → ℕ → ℕ
raised count n = min (count + n) (2 ^ 64 - 1)

-- No word yet.
abbrev pub fresh : Tally
fresh = record { sealed = 0; received = 0; handed_out = 0; withheld = 0; false_readings = 0 }

-- One more word that the sealer took.
abbrev pub after_sent : Tally → Tally
after_sent t = record { sealed = raised t.sealed 1; received = t.received; handed_out = t.handed_out; withheld = t.withheld; false_readings = t.false_readings }

-- One more answer of the receiver, to a word that was given to the sealer as this plaintext: a reading that is another one is false.
abbrev pub after_answer : ℕ → Answer → Tally → Tally
after_answer plain (Reading q) t = record { sealed = t.sealed; received = raised t.received 1; handed_out = raised t.handed_out 1; withheld = t.withheld; false_readings = cond (q == plain) t.false_readings (raised t.false_readings 1) }
after_answer plain (Withheld row) t = record { sealed = t.sealed; received = raised t.received 1; handed_out = t.handed_out; withheld = raised t.withheld 1; false_readings = t.false_readings }

-- A word that was sent counts as sent, and where it was received its answer counts; nothing else counts.
abbrev pub after_word : Tally → ℕ → Option Answer → Tally
after_word t plain None = after_sent t
after_word t plain (Some answer) = after_answer plain answer (after_sent t)

-- What one thing that is seen adds.
abbrev pub after_event : Tally → Event → Tally
after_event t (Begun message nonce) = t
after_event t (Word sent answer) = after_word t sent.plain answer
after_event t (Altered sent came) = t
after_event t Break = t
after_event t (Ended tag verdict) = t
after_event t Abandoned = t

-- The counts of all that is seen.
unfoldable pub counted : List Event → Tally
counted events = fold after_event fresh events
