-- What is written reads, and what is read is written again.
use Rattle.std.proofs.Common.{◌≡◌, ℕ, List, [], ◌∷◌, ◌++◌, map, take, drop, refl, sym, ap, ◌∙◌, append-nil, append_assoc}
use Rattle.std.specs.List.{AllByRecursion as Every}
use Rattle.tape.specs.Format.{Fits, Reads, at_end, bytes_of, places_from, tape_of}
use Rattle.tape.specs.Items.{command_of}
use Rattle.tape.specs.Reading.{left}
use Rattle.tape.specs.Writing.{WritesAll, WritesTapes, written}
use Rattle.tape.specs.declared.command.Command.{Command}
use Rattle.tape.specs.declared.writer.Writer.{Writer}
use Rattle.tape.proofs.Asking.{reads}
use Rattle.tape.proofs.OneWay.{same_reading}

-- What commands that are written one after another leave: each is one, and their bytes stand behind what was written.
all_written : (before after : Writer) (cs : List Command) → WritesAll before cs after → Every Fits cs × (written after ≡ written before ++ tape_of cs)
all_written before after [] same = (tt, ap written same ∙ sym (append-nil (written before)))
all_written before after (c ∷ cs) (then, one, later) =
    let h = all_written then after cs later in
    ((one.fits, h.0), h.1 ∙ ap (λ (xs : List ℕ). xs ++ tape_of cs) one.tape ∙ append_assoc (written before) (bytes_of c) (tape_of cs))

pub writes_tapes : (w : Writer) → w.place ≡ 0 → WritesTapes w
writes_tapes w start =
    let none : written w ≡ [] = ap (λ (n : ℕ). take n w.tape.now) start in
    record {
      back = λ cs after all r is here items e asked.
          let h = all_written w after cs all in
          let read = reads r items e asked in
          let tape : left r ≡ tape_of cs = ap (λ (n : ℕ). drop n r.tape.now) here ∙ is ∙ h.1 ∙ ap (λ (xs : List ℕ). xs ++ tape_of cs) none in
          let those : Reads (left r) cs at_end = record { fit = h.0; rest = []; whole = tape ∙ sym (append-nil (tape_of cs)); ends = refl } in
          let same = same_reading (left r) cs (map command_of items) at_end e those read.0 in
          (same.0, read.1 ∙ (λ j. places_from (here j) (same.0 j)), same.1);
      again = λ r here items asked after all.
          let h = all_written w after (map command_of items) all in
          let read = (reads r items at_end asked).0 in
          h.1 ∙ ap (λ (xs : List ℕ). xs ++ tape_of (map command_of items)) none ∙ sym (append-nil (tape_of (map command_of items))) ∙
          ap (λ (xs : List ℕ). tape_of (map command_of items) ++ xs) (sym read.ends) ∙ sym read.whole ∙ ap (λ (n : ℕ). drop n r.tape.now) here;
    }
