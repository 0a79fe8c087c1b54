-- What the joint of the pipe carries to the receiver.
use Rattle.std.specs.Prelude.{◌≡◌, ◌≢◌, ℕ, List, [], ◌∷◌, ◌++◌, Some, None, Option, drop, map, slice_index_or, vec_items}
use Rattle.std.specs.List.{AllZip, flat_map, range_with_len}
use Rattle.link.specs.declared.call.Call.{Call}
use Rattle.link.specs.declared.call.Call.TheVariants.{OnReceiver}
use Rattle.link.specs.declared.call.Entry.{Entry}
use Rattle.link.specs.declared.call.Entry.TheVariants.{OfSealer, OfReceiver}
use Rattle.link.specs.declared.call.ReceiverCall.{ReceiverCall}
use Rattle.link.specs.declared.call.ReceiverCall.TheVariants.{Begin, Word, Break, Finish}
use Rattle.link.specs.declared.call.SealerEntry.{SealerEntry}
use Rattle.link.specs.declared.call.SealerEntry.TheVariants.{Begun, Sealed, Refused, Finished, Abandoned, OutOfTurn}
use Rattle.weld.specs.Scenario.{IsFateAt}
use Rattle.weld.specs.declared.scenario.Fate.{Fate}
use Rattle.weld.specs.declared.scenario.Fate.TheVariants.{Comes, Altered, Lost, LostLast}
use Rattle.weld.specs.declared.scenario.Plan.{Plan}

-- What comes of a wire word under its mask: that word, another one, nothing, or a break where the last word of a loss would come.
abbrev pub ComesOfWord : Fate → (mask wire : ℕ) → Option ReceiverCall → Type 0
ComesOfWord Comes mask wire call = call ≡ Some (Word mask wire)
ComesOfWord Altered mask wire call = (came : ℕ) × (came ≢ wire) × (call ≡ Some (Word mask came))
ComesOfWord Lost mask wire call = call ≡ None
ComesOfWord LostLast mask wire call = call ≡ Some Break

-- A message begins at the receiver with these nonce bytes.
abbrev pub Begins : List ℕ → Option ReceiverCall → Type 0
Begins nonce (Some (Begin bytes)) = vec_items bytes ≡ nonce
Begins nonce (Some (Word mask wire)) = ⊥
Begins nonce (Some Break) = ⊥
Begins nonce (Some (Finish tag)) = ⊥
Begins nonce None = ⊥

-- What comes of a call that was made on the sealer, where the next word has this fate: the nonce, the word, the tag, and nothing of a message
-- that was given up. Of a call that was refused or not made this cannot hold: then there is no report.
abbrev pub ComesOfCall : SealerEntry → Fate → Option ReceiverCall → Type 0
ComesOfCall (Begun nonce) fate call = Begins nonce call
ComesOfCall (Sealed mask plain wire) fate call = ComesOfWord fate mask wire call
ComesOfCall (Finished tag) fate call = call ≡ Some (Finish tag)
ComesOfCall Abandoned fate call = call ≡ None
ComesOfCall (Refused mask plain fault) fate call = ⊥
ComesOfCall (OutOfTurn call') fate call = ⊥

-- The first words of a message, each by its plan and its place.
abbrev pub first_words : Plan → ℕ → List (Plan × ℕ)
first_words plan n = map (λ place. (plan, place)) (range_with_len 0 n)

-- The words of all messages.
abbrev pub words_of : List Plan → List (Plan × ℕ)
words_of plans = flat_map (λ plan. first_words plan plan.words) plans

-- The fates are those of the words, in order.
abbrev pub AreFates : List (Plan × ℕ) → List Fate → Type 0
AreFates words fates = AllZip (λ word fate. IsFateAt word.0 word.1 fate) words fates

-- Where the fates before are those of some words, the fates after are those of the same words and then of the words of this message.
abbrev pub AddsFates : Plan → (before after : List Fate) → Type 0
AddsFates plan before after = (words : List (Plan × ℕ)) → AreFates words before → AreFates (words ++ first_words plan plan.words) after

-- The fate of the next word. Where no fate is left, words come as they were sent.
abbrev pub next_fate : List Fate → Fate
next_fate fates = slice_index_or fates 0 Comes

-- The fates that are left behind an entry of the sealer: a word that was sealed takes one.
abbrev pub fates_left : SealerEntry → List Fate → List Fate
fates_left (Begun nonce) fates = fates
fates_left (Sealed mask plain wire) fates = drop 1 fates
fates_left (Finished tag) fates = fates
fates_left Abandoned fates = fates
fates_left (Refused mask plain fault) fates = fates
fates_left (OutOfTurn call) fates = fates

-- The same of an entry of either end: nothing comes of the receiver's own.
abbrev pub ComesOf : Entry → Fate → Option ReceiverCall → Type 0
ComesOf (OfSealer entry) fate call = ComesOfCall entry fate call
ComesOf (OfReceiver entry) fate call = call ≡ None

-- The fates that are left behind an entry of either end: one of the receiver takes none.
abbrev pub fates_after : Entry → List Fate → List Fate
fates_after (OfSealer entry) fates = fates_left entry fates
fates_after (OfReceiver entry) fates = fates

-- A call that comes to the receiver, if one does.
abbrev pub at_receiver : Option ReceiverCall → List Call
at_receiver None = []
at_receiver (Some call) = OnReceiver call ∷ []

-- The calls of the whole link, for calls on the sealer with their entries and for the fates of the words to come: each call on the sealer, and
-- behind it what comes of it at the receiver.
abbrev pub Joined : List Fate → List (Call × Entry) → List Call → Type 0
Joined fates [] calls = calls ≡ []
Joined fates (made ∷ others) calls =
    (came : Option ReceiverCall) × (rest : List Call) × ComesOf made.1 (next_fate fates) came ×
    (calls ≡ made.0 ∷ at_receiver came ++ rest) × Joined (fates_after made.1 fates) others rest

-- The calls of the whole link, for the fates of all words of these plans.
abbrev pub CarriesAcross : List Plan → List (Call × Entry) → List Call → Type 0
CarriesAcross plans made calls = (fates : List Fate) × AreFates (words_of plans) fates × Joined fates made calls
