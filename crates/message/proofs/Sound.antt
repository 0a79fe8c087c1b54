-- What follows of a sound keyed function, which is one-to-one on words.
use Rattle.std.proofs.Common.{ℕ}
use Rattle.sss.specs.Asked.{Asked}
use Rattle.sss.specs.Cipher.{Lawful, OneToOne, keyed}
use Rattle.sss.specs.declared.keyed.KeyedFunction.{Ghosts as Keyed}
use Rattle.sss.proofs.OneToOne.{keyed_one_to_one}

pub sound_also : {K : Type 0} (F : Keyed K) → ((k : K) → F.sound k → Lawful (F.table k)) → {k k' : K} {P Q : (ℕ → ℕ) → Type 0} → Asked F k k' P →
    ((f : ℕ → ℕ) → OneToOne f → P f → Q f) → Asked F k k' Q
sound_also F lawful {k} p so =
    record { promise = λ s. so (keyed (F.table k)) (keyed_one_to_one (F.table k) (lawful k s)) (p.promise s); kept = p.kept }
