-- A history of calls on both ends, and what is promised of it. F and L say what the sealer's keyed function and coefficient mean, G and M
-- what the receiver's mean.
use Rattle.std.specs.Prelude.{◌≡◌, ℕ, ◌+◌, ◌≤◌, List, [], ◌∷◌, ◌++◌, vec_items, vec_len, vec_capacity, Vec}
use Rattle.std.specs.List.{AllByRecursion as Every}
use Rattle.std.specs.declared.alloc.Global.{Global}
use Rattle.sss.specs.Asked.{Keeps, function_of}
use Rattle.sss.specs.Cipher.{Word}
use Rattle.sss.specs.declared.keyed.KeyedFunction.{Ghosts as Keyed}
use Rattle.sss.specs.declared.coefficient.Coefficient.{Ghosts as Coefficient}
use Rattle.link.specs.Ends.{Ends, Leads, history, one_call, receiving, registers_of, sealer_engine, sealing, open_count}
use Rattle.link.specs.Noting.{NotesAll, NotesReceiver, NotesSealer, open_noted, open_words}
use Rattle.link.specs.Log.{stretches}
use Rattle.link.specs.Law.{BrokenExactly, Law, OfLatest, StandsAfter, Withholds}
use Rattle.link.specs.declared.call.Call.{Call}
use Rattle.link.specs.declared.call.Call.TheVariants.{OnSealer, OnReceiver}
use Rattle.link.specs.declared.call.Entry.{Entry}
use Rattle.link.specs.declared.call.Entry.TheVariants.{OfSealer, OfReceiver}
use Rattle.link.specs.declared.history.History.{History}

-- Two maps are one on words.
abbrev pub SameOnWords : (ℕ → ℕ) → (ℕ → ℕ) → Type 0
SameOnWords A B = (a : ℕ) → Word a → A a ≡ B a

module _ {SK SC RK RC : Type 0} where
  -- Where both ends of a history stand, and its log.
  abbrev pub after : History SK SC RK RC → Ends × List Entry
  after h = (record { sealer = sealing h.sealer; receiver = receiving h.receiver }, vec_items h.log)

  -- What the sealer of a history works with, and what its receiver works with.
  abbrev pub sealer_with : History SK SC RK RC → SK × SC
  sealer_with h = ((sealer_engine h.sealer).function, (sealer_engine h.sealer).coefficient)

  abbrev pub receiver_with : History SK SC RK RC → RK × RC
  receiver_with h = (h.receiver.engine.function, h.receiver.engine.coefficient)

  -- The log has one entry more, and no less room than it had.
  pub record OneLonger (log : Vec Entry Global) (h : History SK SC RK RC) : Type 0 where
    pub length : vec_len h.log ≡ vec_len log + 1
    pub room : vec_capacity log ≤ vec_capacity h.log

  -- The entry of a call on either end, and what it says of where both then stand, whatever the keyed functions answer.
  abbrev pub EntryOf : History SK SC RK RC → Call → Entry → History SK SC RK RC → Type 0
  EntryOf h (OnSealer x) (OfSealer e) h' =
      NotesSealer (open_count h.sealer) x e × (open_count h'.sealer ≡ open_noted (open_count h.sealer) e) ×
      (h'.receiver.footing.reception ≡ h.receiver.footing.reception)
  EntryOf h (OnSealer x) (OfReceiver e) h' = ⊥
  EntryOf h (OnReceiver x) (OfSealer e) h' = ⊥
  EntryOf h (OnReceiver x) (OfReceiver e) h' =
      NotesReceiver x e × Leads h.receiver.footing.reception e h'.receiver.footing.reception × (open_count h'.sealer ≡ open_count h.sealer)

  -- One entry more.
  abbrev pub OneEntry : History SK SC RK RC → Call → History SK SC RK RC → Type 0
  OneEntry h x h' = (e : Entry) × (vec_items h'.log ≡ vec_items h.log ++ e ∷ []) × EntryOf h x e h'

  -- THE LOG, with no assumption: one entry for each call, in order, which says what became of it.
  abbrev pub NotesCalls : List Call → History SK SC RK RC → Type 0
  NotesCalls calls h = NotesAll [] calls (vec_items h.log)

  -- THE WITHHELD WORDS, with no assumption: whatever the keyed functions are, and whatever was sent and received, exactly those words of each
  -- stretch are withheld that must be, each with its row.
  abbrev pub WithheldExactly : History SK SC RK RC → Type 0
  WithheldExactly h = Every Withholds (stretches (vec_items h.log))

  -- THE BROKEN MESSAGES, with no assumption: exactly those verdicts are "broken" that must be.
  abbrev pub BrokenVerdicts : History SK SC RK RC → Type 0
  BrokenVerdicts h = BrokenExactly (vec_items h.log)

  -- WHERE BOTH ENDS STAND, with no assumption: whether a message is open at the sealer, and with how many words, and the receiver's state and
  -- row, by the log.
  pub record StandsAsNoted (h : History SK SC RK RC) : Type 0 where
    pub sealer : open_count h.sealer ≡ open_words (vec_items h.log)
    pub receiver : OfLatest (vec_items h.log) (λ s. StandsAfter s h.receiver.footing.reception)

  module _ (F : Keyed SK) (L : Coefficient SC) (G : Keyed RK) (M : Coefficient RC) where
    -- Each end's function means what the one given means, and is sound if that was; each end's coefficient is the one given.
    pub record SameMeaning (s : SK × SC) (r : RK × RC) (h : History SK SC RK RC) : Type 0 where
      pub sealer : Keeps F s.0 (sealer_engine h.sealer).function
      pub sealer_same : (sealer_engine h.sealer).coefficient ≡ s.1
      pub receiver : Keeps G r.0 h.receiver.engine.function
      pub receiver_same : h.receiver.engine.coefficient ≡ r.1

    -- One call more, where both functions are sound.
    abbrev pub OneMore : History SK SC RK RC → Call → History SK SC RK RC → Type 0
    OneMore h call h' =
        let s = (sealer_engine h.sealer).function in
        let r = h.receiver.engine.function in
        F.sound s → G.sound r →
        after h' ≡ one_call (function_of F s) (L.image (sealer_engine h.sealer).coefficient) (function_of G r) (M.image h.receiver.engine.coefficient) (after h) call

    -- The history of a list of calls on two new ends, where both functions are sound.
    abbrev pub IsHistory : SK × SC → RK × RC → List Call → History SK SC RK RC → Type 0
    IsHistory sealer receiver calls h =
        F.sound sealer.0 → G.sound receiver.0 →
        after h ≡ history (function_of F sealer.0) (L.image sealer.1) (function_of G receiver.0) (M.image receiver.1) calls

    -- THE LAW OF A LOSS holds of it where both keyed functions are sound and have one table, and both coefficients are one map on words.
    abbrev pub ObeysLaw : SK × SC → RK × RC → History SK SC RK RC → Type 0
    ObeysLaw sealer receiver h =
        F.sound sealer.0 → G.sound receiver.0 → F.table sealer.0 ≡ G.table receiver.0 → SameOnWords (L.image sealer.1) (M.image receiver.1) →
        Law (function_of F sealer.0) (L.image sealer.1) (vec_items h.log) (registers_of (sealing h.sealer)) (receiving h.receiver).registers
