-- The key and the run of the scenario, and what a plan says of the words of its message.
use Rattle.std.specs.Prelude.{◌≡◌, ◌≢◌, ℕ, ◌+◌, ◌-◌, ◌*◌, ◌%◌, ◌^◌, ◌≤◌, min, Some, All, Any, Bool, false, cond, List, [], ◌∷◌, ◌++◌, map, ◌==◌}
use Rattle.std.specs.List.{list_any, range_with_len}
use Rattle.std.specs.Option.{option_map_or}
use Rattle.sss.specs.Cipher.{open_mask, sealed_mask}
use Rattle.link.specs.declared.call.Call.{Call}
use Rattle.link.specs.declared.call.Call.TheVariants.{OnSealer}
use Rattle.link.specs.declared.call.SealerCall.{SealerCall}
use Rattle.link.specs.declared.call.SealerCall.TheVariants.{Begin, Word, Finish, Abandon}
use Rattle.link.specs.declared.issuer.Nonce.{Nonce}
use Rattle.weld.specs.declared.scenario.Ending.{Ending}
use Rattle.weld.specs.declared.scenario.Ending.TheVariants.{Finished, Abandoned}
use Rattle.weld.specs.declared.scenario.Fate.{Fate}
use Rattle.weld.specs.declared.scenario.Fate.TheVariants.{Comes, Altered, Lost, LostLast}
use Rattle.weld.specs.declared.scenario.Plan.{Plan}
use Rattle.weld.specs.declared.span.Span.{Span}

-- The key of both ends.
abbrev pub the_key : List ℕ
the_key = 0x46 ∷ 0x75 ∷ 0x74 ∷ 0x73 ∷ 0x61 ∷ 0x6d ∷ 0x62 ∷ 0x6f ∷ []

-- The number of the run.
abbrev pub the_run : ℕ
the_run = 1207

-- The wall thickness at a place, in hundredths of a millimetre.
abbrev pub thickness_at : ℕ → ℕ
thickness_at place = 940 + place * 37 % 61

-- The mileage at a place, in metres: 2000 at a message's first word, and it stays at the largest number that 16 bits hold.
abbrev pub mileage_at : ℕ → ℕ
mileage_at place = min (2000 + place) (2 ^ 16 - 1)

-- The place is that of a milestone.
abbrev pub is_milestone : Plan → ℕ → Bool
is_milestone plan place = list_any (λ milestone. milestone == place) plan.milestones.now

-- The place is that of the part word.
abbrev pub is_part : Plan → ℕ → Bool
is_part plan place = option_map_or (λ part. part == place) plan.part false

-- A milestone is open, the low twelve bits of the part word are sealed, and all other words are sealed.
abbrev pub mask_at : Plan → ℕ → ℕ
mask_at plan place = cond (is_milestone plan place) open_mask (cond (is_part plan place) 0x0FFF sealed_mask)

-- A milestone holds the mileage, and any other word the wall thickness.
abbrev pub plain_at : Plan → ℕ → ℕ
plain_at plan place = cond (is_milestone plan place) (mileage_at place) (thickness_at place)

-- The place is one of a loss.
abbrev pub IsLostIn : ℕ → Span ℕ → Type 0
IsLostIn place loss = (loss.first ≤ place) × (place ≤ loss.last)

-- The fate is that of the word at a place: one word is altered, and of the others those of a loss are lost and all else come.
abbrev pub IsFateAt : Plan → ℕ → Fate → Type 0
IsFateAt plan place Altered = plan.altered ≡ Some place
IsFateAt plan place Comes = (plan.altered ≢ Some place) × All (λ loss. IsLostIn place loss → ⊥) plan.losses.now
IsFateAt plan place Lost = (plan.altered ≢ Some place) × Any (λ loss. IsLostIn place loss × (place ≢ loss.last)) plan.losses.now
IsFateAt plan place LostLast = (plan.altered ≢ Some place) × Any (λ loss. IsLostIn place loss × (place ≡ loss.last)) plan.losses.now

-- The call that ends a message.
abbrev pub end_of : Ending → SealerCall Nonce
end_of Finished = Finish
end_of Abandoned = Abandon

-- The calls that seal a message: it is begun with a nonce, all its words are sealed in order, and it ends.
unfoldable pub message_calls : Plan → Nonce → List Call
message_calls plan nonce =
    OnSealer (Begin nonce) ∷ map (λ place. OnSealer (Word (mask_at plan place) (plain_at plan place))) (range_with_len 0 plan.words) ++
    OnSealer (end_of plan.ending) ∷ []

-- The calls that seal messages, each with a message number of its own: that of the first, and those behind it in order.
abbrev pub messages_from : (run first : ℕ) → List Plan → List Call
messages_from run first [] = []
messages_from run first (plan ∷ plans) = message_calls plan (record { run = run; message = first }) ++ messages_from run (first + 1) plans
