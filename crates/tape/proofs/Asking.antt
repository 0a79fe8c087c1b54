-- What a reader answers, however it is asked, is how its tape reads; and it comes to an end.
use Rattle.std.proofs.Common.{◌≡◌, ℕ, zero, suc, ◌+◌, ◌<◌, inl, inr, List, [], ◌∷◌, ◌++◌, length, drop, map, refl, subst, sym, ap, ◌∙◌, append_assoc, length-append, arith}
use Rattle.std.proofs.lemmas.List.{get_or-drop, length-drop}
use Rattle.tape.specs.Format.{Ending, Ends, OneReading, Reads, at_end, bytes_of, cut_off, fault_of, places_from, tape_of, unknown}
use Rattle.tape.specs.Items.{command_of, part_of, place_of}
use Rattle.sss.specs.Bytes.{Octets}
use Rattle.tape.specs.Reading.{Answers, ReadsNext, ReadsTape, left, no_item}
use Rattle.tape.specs.declared.item.Item.{Item}
use Rattle.tape.specs.declared.reader.Reader.{Reader}
use Rattle.tape.proofs.OneWay.{next, same_reading, some}
use Rattle.tape.proofs.Onward.{behind_item}

-- Refusals of one ending are not those of another.
same_fault : (place : ℕ) (e d : Ending) → fault_of place e ≡ fault_of place d → e ≡ d
same_fault place e d same = grind arith

-- The ending that is answered is that of what is left.
ends_so : (r u : Reader) (e : Ending) → ReadsNext r (no_item (fault_of r.place e)) u → Ends (left r) e
ends_so r u at_end next = next.0
ends_so r u unknown ((d, ends, why), same) = subst (Ends (left r)) (same_fault r.place d unknown (sym why)) ends
ends_so r u cut_off ((d, ends, why), same) = subst (Ends (left r)) (same_fault r.place d cut_off (sym why)) ends

-- Whatever a reader answers is how its tape reads.
pub reads : (r : Reader) (items : List Item) (e : Ending) → Answers r items e →
    Reads (left r) (map command_of items) e × (map place_of items ≡ places_from r.place (map command_of items))
reads r [] e (u, next) = (record { fit = tt; rest = left r; whole = refl; ends = ends_so r u e next }, refl)
reads r (i ∷ items) e (u, (next, onward, same), later) =
    let h = reads u items e later in
    let cs = map command_of items in
    let c = command_of i in
    let behind : u.place ≡ r.place + length (bytes_of c) = onward ∙ ap (λ (bs : List ℕ). r.place + length bs) next.bytes in (
      record {
        fit = (next.fits, h.0.fit);
        rest = h.0.rest;
        whole = next.part ∙ (λ j. next.bytes j ++ h.0.whole j) ∙ sym (append_assoc (bytes_of c) (tape_of cs) h.0.rest);
        ends = h.0.ends;
      },
      (λ j. next.place j ∷ (h.1 ∙ ap (λ (p : ℕ). places_from p cs) behind) j),
    )

-- A reader whose tape ends says so.
says_so : (r : Reader) (e : Ending) → Ends (left r) e → ReadsNext r (no_item (fault_of r.place e)) r
says_so r at_end ends = (ends, refl)
says_so r unknown ends = ((unknown, ends, refl), refl)
says_so r cut_off ends = ((cut_off, ends, refl), refl)

-- A reader comes to an end, since each item has a byte at least.
comes_to_an_end : (n : ℕ) (r : Reader) → length (left r) < n → Octets r.tape.now → (items : List Item) × (e : Ending) × Answers r items e
comes_to_an_end zero r less octets = absurd (omega arith)
comes_to_an_end (suc n) r less octets =
    elim (next r.place (left r) (λ i. rw get_or-drop (octets (r.place + i)))) [
      | inr (e, ends) ↦ ([], e, (r, says_so r e ends))
      | inl (i, rest, stands) ↦
          let after = behind_item r.place r.tape.now i (rest, stands) in
          let long = some (command_of i) in
          let cut = ap length after.part ∙ length-append (part_of i) (drop (r.place + length (part_of i)) r.tape.now) in
          let u : Reader = record { tape = r.tape; place = r.place + length (part_of i); within = omega (arith, length-drop r.place r.tape.now, cut, r.within) } in
          let later = comes_to_an_end n u (omega (arith, cut, long, ap length after.bytes)) octets in
          (i ∷ later.0, later.1, (u, (after, refl, refl), later.2))
    ]

pub reads_tape : (r : Reader) → Octets r.tape.now → ReadsTape r
reads_tape r octets =
    let h = comes_to_an_end (suc (length (left r))) r (omega arith) octets in
    record { items = h.0; ending = h.1; answers = h.2; reads = reads r }

-- So every string of bytes is read, and in one way.
pub one_reading : (tape : List ℕ) → Octets tape → OneReading tape
one_reading tape octets =
    let r : Reader = record { tape = record { ref_ptr = (0, 0); now = tape }; place = 0; within = omega arith } in
    let t = reads_tape r octets in
    let h = (reads r t.items t.ending t.answers).0 in
    record { commands = map command_of t.items; ending = t.ending; reads = h; only = λ cs e s. same_reading tape (map command_of t.items) cs t.ending e h s }
