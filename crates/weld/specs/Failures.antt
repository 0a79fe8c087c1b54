-- Why there is no report.
use Rattle.std.specs.Prelude.{◌≡◌, ◌⊎◌, ℕ, cond, nat_le, List, [], ◌∷◌, Option, Some, None, ⊤}
use Rattle.std.specs.Option.{option_or}
use Rattle.link.specs.declared.call.Call.{Call}
use Rattle.link.specs.declared.call.Entry.{Entry}
use Rattle.link.specs.declared.call.Entry.TheVariants.{OfSealer, OfReceiver}
use Rattle.link.specs.declared.call.ReceiverEntry.{ReceiverEntry}
use Rattle.link.specs.declared.call.ReceiverEntry.TheVariants as receiver
use Rattle.link.specs.declared.call.SealerEntry.{SealerEntry}
use Rattle.link.specs.declared.call.SealerEntry.TheVariants as sealer
use Rattle.sss.specs.declared.Fault.TheVariants.{Exhausted}
use Rattle.weld.specs.Passages.{ReadSoFar, noted}
use Rattle.weld.specs.declared.failure.Failure.{Failure}
use Rattle.weld.specs.declared.failure.Failure.TheVariants.{Figures, NoMemory, Refused, NotMade, NotSent}
use Rattle.weld.specs.declared.passage.Sent.{Sent}

-- There was no memory.
abbrev pub OfMemory : Failure → Type 0
OfMemory (NoMemory e) = ⊤
OfMemory Figures = ⊥
OfMemory (Refused fault) = ⊥
OfMemory NotMade = ⊥
OfMemory NotSent = ⊥

-- The failure is the one that is shown, if one is, or there was no memory.
abbrev pub Fails : Option Failure → Failure → Type 0
Fails shown e = OfMemory e ⊎ (shown ≡ Some e)

-- What comes of issuing this many message numbers in all: there are 65,536.
abbrev pub numbers_failure : ℕ → Option Failure
numbers_failure n = cond (nat_le n 65536) None (Some (Refused Exhausted))

-- What an entry of the sealer shows: a refusal its fault, and a call out of turn that it was not made.
abbrev pub sealer_failure : SealerEntry → Option Failure
sealer_failure (sealer.Begun nonce) = None
sealer_failure (sealer.Sealed mask plain wire) = None
sealer_failure (sealer.Refused mask plain fault) = Some (Refused fault)
sealer_failure (sealer.Finished tag) = None
sealer_failure sealer.Abandoned = None
sealer_failure (sealer.OutOfTurn call) = Some NotMade

-- A word that is received while none is under way was not sent.
abbrev pub unsent_failure : Option Sent → Option Failure
unsent_failure None = Some NotSent
unsent_failure (Some w) = None

-- What an entry of the receiver shows, by the word under way.
abbrev pub receiver_failure : Option Sent → ReceiverEntry → Option Failure
receiver_failure pending (receiver.Begun nonce) = None
receiver_failure pending (receiver.Refused nonce fault) = Some (Refused fault)
receiver_failure pending (receiver.Received mask wire answer) = unsent_failure pending
receiver_failure pending receiver.BrokenOff = None
receiver_failure pending (receiver.Finished tag verdict) = None

-- What an entry of either end shows, by the word under way.
abbrev pub entry_failure : Option Sent → Entry → Option Failure
entry_failure pending (OfSealer e) = sealer_failure e
entry_failure pending (OfReceiver e) = receiver_failure pending e

-- The first failure that the entries of a log show, behind what is read.
abbrev pub log_failure : ReadSoFar → List Entry → Option Failure
log_failure s [] = None
log_failure s (entry ∷ log) = option_or (entry_failure s.pending entry) (log_failure (noted s entry) log)

-- What an entry shows at the joint, where the receiver's own are passed over.
abbrev pub joint_failure : Entry → Option Failure
joint_failure (OfSealer e) = sealer_failure e
joint_failure (OfReceiver e) = None

-- The first failure that calls with their entries show at the joint.
abbrev pub joint_log_failure : List (Call × Entry) → Option Failure
joint_log_failure [] = None
joint_log_failure (made ∷ others) = option_or (joint_failure made.1) (joint_log_failure others)
