-- Proofs that implementations keep a trait's law. Nothing here is a definition: the prover has read it.
use Rattle.std.specs.Prelude.{ℕ, refl}
use Rattle.sss.specs.Cipher.{all_taken, plain_words, wire_words}
use Rattle.sss.specs.Directions.{Passes, after_opening, after_sealing, opened_text, sealed_text}

-- Both directions pass a message word by word.
pub sealing_passes : (f A : ℕ → ℕ) → Passes (sealed_text f) (after_sealing f A) (wire_words f A) (all_taken f A)
unfolding wire_words all_taken
sealing_passes f A =
    record { no_words = λ g. refl; first_word = λ g w ws. refl; last_none = λ g. refl; last_first = λ g w ws. refl }

pub opening_passes : (f A : ℕ → ℕ) → Passes (opened_text f) (after_opening f A) (plain_words f A) (λ g ms. all_taken f A g (plain_words f A g ms))
unfolding plain_words all_taken
opening_passes f A =
    record { no_words = λ g. refl; first_word = λ g w ws. refl; last_none = λ g. refl; last_first = λ g w ws. refl }
