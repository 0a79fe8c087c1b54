-- What the program counts, and how each line changes it.
use Rattle.std.specs.Prelude.{ℕ, ◌+◌, ◌-◌, ◌^◌, min, Ok, Err}
use Rattle.requests.specs.declared.reply.Reply.{Reply}
use Rattle.requests.specs.declared.reply.Reply.TheVariants.{NoKey, Sealing, Opening}
use Rattle.requests.specs.declared.tally.Tally.{Tally}

-- A count with one more, which stays at the largest number that 64 bits hold.
abbrev pub raised : ℕ → ℕ
raised count = min (count + 1) (2 ^ 64 - 1)

-- No line yet.
abbrev pub fresh : Tally
fresh = record { requests = 0; sealed = 0; opened = 0; refused = 0; unread = 0 }

-- One more line that could not be read.
abbrev pub after_unread : Tally → Tally
after_unread t = record { requests = raised t.requests; sealed = t.sealed; opened = t.opened; refused = t.refused; unread = raised t.unread }

-- One more request: a message was sealed, or opened, or one was refused.
abbrev pub after_sealed : Tally → Tally
after_sealed t = record { requests = raised t.requests; sealed = raised t.sealed; opened = t.opened; refused = t.refused; unread = t.unread }

abbrev pub after_opened : Tally → Tally
after_opened t = record { requests = raised t.requests; sealed = t.sealed; opened = raised t.opened; refused = t.refused; unread = t.unread }

abbrev pub after_refused : Tally → Tally
after_refused t = record { requests = raised t.requests; sealed = t.sealed; opened = t.opened; refused = raised t.refused; unread = t.unread }

-- The same by what came of the request.
abbrev pub after_reply : Reply → Tally → Tally
after_reply (NoKey fault) t = after_refused t
after_reply (Sealing (Ok u) output tag) t = after_sealed t
after_reply (Sealing (Err fault) output tag) t = after_refused t
after_reply (Opening (Ok u) output) t = after_opened t
after_reply (Opening (Err fault) output) t = after_refused t
