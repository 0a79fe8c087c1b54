-- The calls on one end in a list, and what one end's entries are in a log.
use Rattle.std.specs.Prelude.{Option, Some, None}
use Rattle.link.specs.declared.issuer.Nonce.{Nonce}
use Rattle.link.specs.declared.call.Call.{Call}
use Rattle.link.specs.declared.call.Call.TheVariants.{OnSealer, OnReceiver}
use Rattle.link.specs.declared.call.Entry.{Entry}
use Rattle.link.specs.declared.call.Entry.TheVariants.{OfSealer, OfReceiver}
use Rattle.link.specs.declared.call.SealerCall.{SealerCall}
use Rattle.link.specs.declared.call.SealerEntry.{SealerEntry}
use Rattle.link.specs.declared.call.ReceiverCall.{ReceiverCall}
use Rattle.link.specs.declared.call.ReceiverEntry.{ReceiverEntry}

-- The call, where it is one on the sealer, and where it is one on the receiver.
abbrev pub sealer_call : Call → Option (SealerCall Nonce)
sealer_call (OnSealer x) = Some x
sealer_call (OnReceiver x) = None

abbrev pub receiver_call : Call → Option ReceiverCall
receiver_call (OnSealer x) = None
receiver_call (OnReceiver x) = Some x

-- The entry, where it is one of the sealer, and where it is one of the receiver.
abbrev pub sealer_entry : Entry → Option SealerEntry
sealer_entry (OfSealer e) = Some e
sealer_entry (OfReceiver e) = None

abbrev pub receiver_entry : Entry → Option ReceiverEntry
receiver_entry (OfSealer e) = None
receiver_entry (OfReceiver e) = Some e
