-- A reader goes on behind what it has read.
use Rattle.std.proofs.Common.{◌≡◌, ℕ, ◌+◌, ◌-◌, List, ◌++◌, length, take, drop, sym, ap, ◌∙◌, arith}
use Rattle.std.proofs.Math.Seq.{drop-append_seam}
use Rattle.std.proofs.lemmas.List.{drop-drop, length-drop, take_all}
use Rattle.tape.specs.Items.{IsNext, part_of}
use Rattle.tape.specs.declared.item.Item.{Item}

-- What stands behind an item is what is left from its place and its length on.
pub behind_item : (place : ℕ) (tape : List ℕ) (i : Item) → (rest : List ℕ) × IsNext place (drop place tape) i rest →
    IsNext place (drop place tape) i (drop (place + length (part_of i)) tape)
behind_item place tape i (rest, next) =
    let after : rest ≡ drop (place + length (part_of i)) tape =
    sym (drop-append_seam (part_of i) rest) ∙ sym (ap (drop (length (part_of i))) next.part) ∙ drop-drop (length (part_of i)) place tape in
    record { place = next.place; part = next.part ∙ ap (λ (xs : List ℕ). part_of i ++ xs) after; bytes = next.bytes; fits = next.fits }

-- All that is left of a tape, as a reader cuts it.
pub all_left : (place : ℕ) (tape : List ℕ) → take (length tape - place) (drop place tape) ≡ drop place tape
all_left place tape = take_all (length tape - place) (drop place tape) (omega (arith, length-drop place tape))
