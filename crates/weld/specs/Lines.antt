-- What the lines of the report tell.
use Rattle.std.specs.Prelude.{◌≡◌, ℕ, ◌+◌, ◌-◌, ◌≤◌, Bool, cond, MatchBool, List, [], ◌∷◌, ◌++◌, length, map, Option, Some, None, All, ⊤, ◌==◌}
use Rattle.std.specs.List.{flat_map, range_with_len}
use Rattle.link.specs.declared.reception.Answer.{Answer}
use Rattle.link.specs.declared.reception.Answer.TheVariants as answer
use Rattle.link.specs.declared.reception.Verdict.{Verdict}
use Rattle.weld.specs.declared.passage.Event.{Event}
use Rattle.weld.specs.declared.passage.Event.TheVariants as event
use Rattle.weld.specs.declared.passage.Sent.{Sent}
use Rattle.weld.specs.declared.line.Line.{Line}
use Rattle.weld.specs.declared.line.Line.TheVariants.{Heading, Readings, False, Withheld, Lost, Altered, Break, Ended, Abandoned}

-- One thing that is told: a message with its nonce, a reading that is right or that is not the plaintext, a word that is withheld with a row or
-- lost, each word by its place and its mask, a wire word that came as another one, a break, a tag with its verdict, a message given up.
pub data Telling : Type 0 where
  begun : ℕ → List ℕ → Telling
  right : (place mask reading : ℕ) → Telling
  wrong : (place mask reading plain : ℕ) → Telling
  withheld : (place mask row : ℕ) → Telling
  lost : (place mask : ℕ) → Telling
  altered : (place mask wire came : ℕ) → Telling
  broken_off : Telling
  finished : List ℕ → Verdict → Telling
  abandoned : Telling

-- What is told of a word that was sent.
abbrev pub told_of_word : Sent → Option Answer → Telling
told_of_word w None = lost w.place w.mask
told_of_word w (Some (answer.Reading reading)) =
    cond (reading == w.plain) (right w.place w.mask reading) (wrong w.place w.mask reading w.plain)
told_of_word w (Some (answer.Withheld row)) = withheld w.place w.mask row

-- What is told of one thing that is seen.
abbrev pub told : Event → Telling
told (event.Begun message nonce) = begun message nonce
told (event.Word sent answer) = told_of_word sent answer
told (event.Altered sent came) = altered sent.place sent.mask sent.wire came
told event.Break = broken_off
told (event.Ended tag verdict) = finished tag verdict
told event.Abandoned = abandoned

-- Readings of consecutive words, from a place on.
abbrev pub readings_from : (place mask : ℕ) → List ℕ → List Telling
readings_from place mask [] = []
readings_from place mask (reading ∷ readings) = right place mask reading ∷ readings_from (place + 1) mask readings

-- What a line tells, thing by thing.
abbrev pub tells : Line → List Telling
tells (Heading message nonce) = begun message nonce ∷ []
tells (Readings places values) = readings_from places.span.first places.mask values.items
tells (False places reading plain) = wrong places.span.first places.mask reading plain ∷ []
tells (Withheld places rows) =
    map (λ place. withheld place places.mask (rows.first + (place - places.span.first)))
    (range_with_len places.span.first (places.span.last + 1 - places.span.first))
tells (Lost places) =
    map (λ place. lost place places.mask) (range_with_len places.span.first (places.span.last + 1 - places.span.first))
tells (Altered places wire came) = altered places.span.first places.mask wire came ∷ []
tells Break = broken_off ∷ []
tells (Ended tag verdict) = finished tag verdict ∷ []
tells Abandoned = abandoned ∷ []

-- How many places a line has: readings as many as there are of them, a false reading and an altered word one, lost words at least one, and
-- withheld words at least one and as many as rows. The other lines have none.
abbrev pub PlacesFit : Line → Type 0
PlacesFit (Heading message nonce) = ⊤
PlacesFit (Readings places values) = places.span.first + length values.items ≡ places.span.last + 1
PlacesFit (False places reading plain) = places.span.first ≡ places.span.last
PlacesFit (Withheld places rows) = (places.span.first ≤ places.span.last) × (rows.first + places.span.last ≡ rows.last + places.span.first)
PlacesFit (Lost places) = places.span.first ≤ places.span.last
PlacesFit (Altered places wire came) = places.span.first ≡ places.span.last
PlacesFit Break = ⊤
PlacesFit (Ended tag verdict) = ⊤
PlacesFit Abandoned = ⊤

-- A line tells one thing.
pub record TellsOne (thing : Telling) (line : Line) : Type 0 where
  pub telling : tells line ≡ thing ∷ []
  pub fit : PlacesFit line

-- A line that is offered one thing more: it tells that thing behind what it told, or it is left as it was.
pub record CarriesOn (taken : Bool) (before : Line) (thing : Telling) (after : Line) : Type 0 where
  pub telling : MatchBool taken (tells after ≡ tells before ++ thing ∷ []) (after ≡ before)
  pub fit : PlacesFit after

-- The lines tell all that is seen, each thing once and in order.
pub record TellAll (events : List Event) (lines : List Line) : Type 0 where
  pub telling : flat_map tells lines ≡ map told events
  pub fit : All PlacesFit lines
