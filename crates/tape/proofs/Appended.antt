-- The bytes of a command put into a buffer behind what is written, and how the tape then reads.
use Rattle.std.proofs.Common.{◌≡◌, ℕ, ◌+◌, ◌-◌, ◌≤◌, List, ◌++◌, length, take, drop, sym, ap, ◌∙◌, arith, length-drop}
use Rattle.std.proofs.lemmas.List.{drop-drop}
use Rattle.std.proofs.lemmas.Slice.{drop-put_mid, take-put_mid}
use borrow.Rule.Slice.PartMut.{put_mid}
use Rattle.tape.specs.Format.{Fits, bytes_of}
use Rattle.tape.specs.Writing.{IsWritten, written}
use Rattle.tape.specs.declared.command.Command.{Command}
use Rattle.tape.specs.declared.writer.Writer.{Writer}

-- The bytes of a command follow what was written.
pub follows : (before : Writer) (command : Command) (n : ℕ) (bytes : List ℕ) → bytes ≡ bytes_of command → n ≡ length (bytes_of command) →
    take (before.place + n) (put_mid before.place (before.place + n - before.place) before.tape.now bytes) ≡ written before ++ bytes_of command
follows before command n bytes spelled size =
    let p = before.place in
    let tape = before.tape.now in
    take-put_mid p (p + n - p) tape bytes (p + n) (ap (λ (k : ℕ). p + k) (size ∙ ap length (sym spelled))) before.within ∙ ap (λ (xs : List ℕ). take p tape ++ xs) spelled

-- What a writer is after its buffer took the bytes.
pub appends : (before after : Writer) (command : Command) (n : ℕ) (bytes : List ℕ) → Fits command → bytes ≡ bytes_of command → n ≡ length (bytes_of command) →
    before.place + n ≤ length before.tape.now → after.tape.now ≡ put_mid before.place (before.place + n - before.place) before.tape.now bytes →
    after.place ≡ before.place + n → IsWritten before command after
appends before after command n bytes fits spelled size room put place =
    let p = before.place in
    let tape = before.tape.now in
    let long : length bytes ≡ length (bytes_of command) = ap length spelled in
    let onward : drop (p + n) tape ≡ drop (length (bytes_of command)) (drop p tape) =
    ap (λ (k : ℕ). drop (p + k) tape) size ∙ sym (drop-drop (length (bytes_of command)) p tape) in
    record {
      fits = fits;
      room = omega (arith, length-drop p tape);
      tape = rw (place, put) (follows before command n bytes spelled size);
      rest = rw (place, put) (drop-put_mid p (p + n - p) tape bytes (p + n) (omega arith) (omega arith) (omega arith) ∙ onward);
      place = place ∙ ap (λ (k : ℕ). p + k) size;
    }
