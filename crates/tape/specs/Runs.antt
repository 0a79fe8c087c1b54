-- What the runs of a link say of a tape.
use Rattle.std.specs.Prelude.{◌≡◌, ℕ, List, [], ◌∷◌, ◌++◌, length, map, zip, filter_map, vec_items, Vec}
use Rattle.std.specs.List.{AllZip}
use Rattle.std.specs.declared.alloc.Global.{Global}
use Rattle.sss.specs.Cipher.{open_mask, sealed_mask}
use Rattle.link.specs.Ends.{history}
use Rattle.link.specs.OneEnd.{receiver_call, receiver_entry}
use Rattle.link.specs.declared.call.Call.{Call}
use Rattle.link.specs.declared.call.ReceiverCall.{ReceiverCall}
use Rattle.link.specs.declared.call.ReceiverCall.TheVariants as call
use Rattle.link.specs.declared.call.ReceiverEntry.{ReceiverEntry}
use Rattle.link.specs.declared.call.ReceiverEntry.TheVariants as receiver
use Rattle.tape.specs.Format.{Ending, Reads, places_from, tape_of}
use Rattle.tape.specs.Replaying.{last_line}
use Rattle.tape.specs.declared.command.Command.{Command}
use Rattle.tape.specs.declared.command.Command.TheVariants.{Nonce, Sealed, Open, Part, Break, Tag}
use Rattle.tape.specs.declared.line.Line.{Line}
use Rattle.tape.specs.declared.line.Line.TheVariants as line

-- The call that takes a command.
abbrev pub IsCall : Command → ReceiverCall → Type 0
IsCall (Nonce nonce) x = (v : Vec ℕ Global) × (vec_items v ≡ nonce) × (x ≡ call.Begin v)
IsCall (Sealed wire) x = x ≡ call.Word sealed_mask wire
IsCall (Open wire) x = x ≡ call.Word open_mask wire
IsCall (Part mask wire) x = x ≡ call.Word mask wire
IsCall Break x = x ≡ call.Break
IsCall (Tag words) x = x ≡ call.Finish words

-- What an entry of the receiver says, as the line of a command at a place. Six nonce bytes are never refused.
abbrev pub entry_line : ℕ → ReceiverEntry → Line
entry_line place (receiver.Begun nonce) = line.Nonce place
entry_line place (receiver.Refused nonce fault) = line.Refused fault
entry_line place (receiver.Received mask wire answer) = line.Word place answer
entry_line place receiver.BrokenOff = line.Break place
entry_line place (receiver.Finished tag verdict) = line.Tag place verdict

-- What entries of the receiver say, each at its place.
abbrev pub entry_lines : List ℕ → List ReceiverEntry → List Line
entry_lines places entries = map (λ x. entry_line x.0 x.1) (zip places entries)

-- THE LISTING AND THE LINK. The lines of a tape but the last are what the receiver's entries say in the log of every run whose calls on the
-- receiver are the commands of the tape, whatever calls are made on the sealer in between, and whatever g and B that works with.
abbrev pub ToldByRuns : (f A : ℕ → ℕ) (tape : List ℕ) (lines : List Line) → Type 0
ToldByRuns f A tape lines =
    (commands : List Command) (ending : Ending) → Reads tape commands ending →
    (g B : ℕ → ℕ) (calls : List Call) → AllZip IsCall commands (filter_map receiver_call calls) →
    lines ≡ entry_lines (places_from 0 commands) (filter_map receiver_entry (history g B f A calls).1) ++ last_line (length (tape_of commands)) ending ∷ []
