-- How long the text of a listing is at most.
use Rattle.std.proofs.Common.{◌≡◌, ℕ, suc, ◌+◌, ◌*◌, ◌<◌, ◌≤◌, ◌⊎◌, List, [], ◌∷◌, ◌++◌, length, codes, inl, inr, ap, arith, length-append, length-drop}
use Rattle.std.proofs.lemmas.Bool.{cases_lt}
use Rattle.std.proofs.lemmas.Fmt.{length-decimal-le}
use Rattle.std.specs.Fmt.{decimal}
use Rattle.std.specs.List.{AllByRecursion as Every}
use Rattle.sss.specs.Cipher.{key_table, keyed, open_mask, plain_word, product, sealed_mask}
use Rattle.sss.specs.declared.Fault.TheVariants.{CutOff, Key, TooLong, UnknownCommand}
use Rattle.link.specs.Ends.{ReceiverState, new_ends, tag_heard, word_heard}
use Rattle.link.specs.Receiving.{answer_of, answer_text, decided, row_after, row_of, verdict_text, with_row}
use Rattle.link.specs.declared.reception.Event.TheVariants as event
use Rattle.link.specs.declared.reception.Reception.{Reception}
use Rattle.link.specs.declared.reception.Reception.TheVariants.{Lost, Whole, Caught}
use Rattle.link.specs.declared.reception.Verdict.{Verdict}
use Rattle.link.specs.declared.reception.Verdict.TheVariants.{Agrees, Differs, Broken}
use Rattle.link.proofs.Withheld.{row_within}
use Rattle.tape.specs.Format.{Ending, Fits, at_end, bytes_of, cut_off, tape_of, unknown}
use Rattle.tape.specs.Inputs.{KeyLoads, key_count, key_of, longest_input, tape_in}
use Rattle.tape.specs.Lines.{line_text, text_of}
use Rattle.tape.specs.Listing.{InputLines, ListingText}
use Rattle.tape.specs.Replaying.{TapeLines, heard_line, heard_lines, last_line, word_line}
use Rattle.tape.specs.declared.command.Command.{Command}
use Rattle.tape.specs.declared.command.Command.TheVariants.{Nonce, Sealed, Open, Part, Break, Tag}
use Rattle.tape.specs.declared.line.Line.{Line}
use Rattle.tape.specs.declared.line.Line.TheVariants as line
use Rattle.tape.proofs.Finding.{sized}

-- A number that is no greater than the longest input has at most five digits.
five_digits : (n : ℕ) → n ≤ longest_input → length (decimal n) ≤ 5
five_digits n h = length-decimal-le 5 n (omega arith) (omega arith) (omega arith)

-- A receiver's row is at most the row that it came to.
row_at_most : (n : ℕ) → row_of (with_row n) ≤ n
unfolding with_row
row_at_most n = grind arith

-- A place, and what is said there.
place_room : (place k : ℕ) (said : List ℕ) → place ≤ longest_input → length said ≤ k → length (decimal place ++ codes " " ++ said) ≤ 6 + k
place_room place k said h l = omega (arith, length-append (decimal place ++ codes " ") said, length-append (decimal place) (codes " "), five_digits place h)

-- What is said of a word. A row that is less than the longest input has no more digits than a place.
answer_room : (s : Reception) (mask p : ℕ) → row_of s < longest_input →
    (row_of (decided s (event.Word mask)).0 ≤ row_of s + 1) × (length (answer_text (answer_of (decided s (event.Word mask)).1 p)) ≤ 14)
answer_room Whole mask p h = (omega arith, omega arith)
answer_room Caught mask p h = (omega arith, omega arith)
answer_room (Lost n) mask p h =
    let r = row_within n mask in
    (omega (arith, r, row_at_most (row_after n mask)), omega (arith, length-append (codes "withheld ") (decimal (row_after n mask)), five_digits (row_after n mask) (omega (arith, r))))

verdict_room : (v : Verdict) → length (verdict_text v) ≤ 7
verdict_room Agrees = omega arith
verdict_room Differs = omega arith
verdict_room Broken = omega arith

-- A line and its end before other lines.
with_line : (l : Line) (ls : List Line) → length (text_of (l ∷ ls)) ≡ length (line_text l) + 1 + length (text_of ls)
with_line l ls = omega (arith, length-append (line_text l ++ 0x0A ∷ []) (text_of ls), length-append (line_text l) (0x0A ∷ []))

-- The last line takes at most 24 bytes.
alone : (l : Line) → length (line_text l) ≤ 23 → length (text_of (l ∷ [])) ≤ 24
alone l h = omega (arith, with_line l [])

refusal_room : (number : ℕ) (found : List ℕ) → number ≤ longest_input → length found ≤ 9 → length (codes "refused " ++ decimal number ++ found) ≤ 23
refusal_room number found h k = omega (arith, length-append (decimal number) found, five_digits number h)

last_room : (place : ℕ) (e : Ending) → place ≤ longest_input → length (text_of (last_line place e ∷ [])) ≤ 24
last_room place at_end h = alone (line.End place) (omega (arith, five_digits place h))
last_room place unknown h =
    alone (line.Refused (UnknownCommand place)) (refusal_room 11 (codes " at " ++ decimal place) (omega arith) (omega (arith, five_digits place h)))
last_room place cut_off h =
    alone (line.Refused (CutOff place)) (refusal_room 12 (codes " at " ++ decimal place) (omega arith) (omega (arith, five_digits place h)))

module _ (f A : ℕ → ℕ) where
  -- A word's line takes at most 20 bytes and its end, and its command has three at least.
  word_room : (s : ReceiverState) (place mask wire : ℕ) → row_of s.reception < longest_input → place ≤ longest_input →
      let l = word_line f A s place mask wire in
      (row_of l.0.reception ≤ row_of s.reception + 1) × (length (line_text l.1) ≤ 20)
  word_room s place mask wire row at =
      let r = answer_room s.reception mask (plain_word f s.registers mask wire) row in
      (r.0, place_room place 14 (answer_text (word_heard f A s mask wire).1) at r.1)

  -- Where a receiver's row is no greater than the place, the line of a command and its end take at most 12 bytes for each byte of the command; and
  -- the row is no greater than the place behind it.
  line_room : (s : ReceiverState) (place : ℕ) (c : Command) → Fits c → row_of s.reception ≤ place → place + length (bytes_of c) ≤ longest_input →
      let l = heard_line f A s place c in
      (row_of l.0.reception ≤ place + length (bytes_of c)) × (length (line_text l.1) < 12 * length (bytes_of c))
  line_room s place (Nonce nonce) fits row short = (omega arith, omega (arith, length-append (decimal place) (codes " nonce"), five_digits place (omega arith)))
  line_room s place (Sealed wire) fits row short =
      let w = word_room s place sealed_mask wire (omega arith) (omega arith) in (omega (arith, w.0), omega (arith, w.1))
  line_room s place (Open wire) fits row short =
      let w = word_room s place open_mask wire (omega arith) (omega arith) in (omega (arith, w.0), omega (arith, w.1))
  line_room s place (Part mask wire) fits row short =
      let w = word_room s place mask wire (omega arith) (omega arith) in (omega (arith, w.0), omega (arith, w.1))
  line_room s place Break fits row short = (omega arith, omega (arith, length-append (decimal place) (codes " break"), five_digits place (omega arith)))
  line_room s place (Tag words) fits row short =
      let v = (tag_heard f s words).1 in
      let said : length (line_text (line.Tag place v)) ≤ 13 = place_room place 7 (verdict_text v) (omega arith) (verdict_room v) in
      (omega arith, omega (arith, said, sized (Tag words) fits))

  -- So the lines of commands take at most 12 bytes for each byte of the tape.
  lines_room : (s : ReceiverState) (place : ℕ) (cs : List Command) (more : List Line) → Every Fits cs → row_of s.reception ≤ place →
      place + length (tape_of cs) ≤ longest_input →
      length (text_of (heard_lines f A s place cs ++ more)) ≤ 12 * length (tape_of cs) + length (text_of more)
  lines_room s place [] more fit row short = omega arith
  lines_room s place (c ∷ cs) more fit row short =
      let l = heard_line f A s place c in
      let long = length-append (bytes_of c) (tape_of cs) in
      let here = line_room s place c fit.0 row (omega (arith, long)) in
      let later = lines_room l.0 (place + length (bytes_of c)) cs more fit.1 here.0 (omega (arith, long)) in
      omega (arith, long, here.1, later, with_line l.1 (heard_lines f A l.0 (place + length (bytes_of c)) cs ++ more))

  -- And the last line takes at most 24.
  tape_room : (tape : List ℕ) (lines : List Line) → length tape ≤ longest_input → TapeLines f A new_ends.receiver 0 tape lines →
      length (text_of lines) ≤ 12 * length tape + 24
  tape_room tape lines short t =
      let cs = t.commands in
      let long = length-append (tape_of cs) t.reads.rest in
      let whole = ap length t.reads.whole in
      let place = 0 + length (tape_of cs) in
      let end = last_line place t.ending in
      let last = last_room place t.ending (omega (arith, long, whole)) in
      let all = lines_room new_ends.receiver 0 cs (end ∷ []) t.reads.fit (omega arith) (omega (arith, long, whole)) in
      omega (arith, long, whole, last, all, ap (λ (ls : List Line). length (text_of ls)) t.are)

-- A key loads or does not.
loads : (input : List ℕ) → KeyLoads input ⊎ (KeyLoads input → ⊥)
loads input =
    let long = length (key_of input) in
    elim (cases_lt (key_count input) (length input)) [
      | inr cut ↦ inr (λ k. omega (arith, cut, k.whole))
      | inl whole ↦
          elim (cases_lt 0 long) [
            | inr none ↦ inr (λ k. omega (arith, none, k.fits.0))
            | inl some ↦
                elim (cases_lt 16 long) [
                  | inl more ↦ inr (λ k. omega (arith, more, k.fits.1))
                  | inr few ↦ inl (record { whole = whole; fits = (omega (arith, some), omega (arith, few)) })
                ]
          ]
    ]

-- The lines of an input take at most 12 bytes for each byte of it, and 24 more: so does the one line of an input that is not taken.
input_room : (input : List ℕ) (lines : List Line) → InputLines input lines → length (text_of lines) ≤ 12 * length input + 24
input_room input lines h =
    elim (cases_lt longest_input (length input)) [
      | inl long ↦ rw (h.too_long long) (omega (arith, alone (line.Refused TooLong) (refusal_room 14 [] (omega arith) (omega arith))))
      | inr short ↦
          elim (loads input) [
            | inr unfit ↦ rw (h.unfit_key short unfit) (omega (arith, alone (line.Refused Key) (refusal_room 1 [] (omega arith) (omega arith))))
            | inl key ↦
                let tape = tape_in input in
                let less = length-drop (suc (key_count input)) input in
                let t = h.taken (record { short = short; loads = key }) in
                omega (arith, less, tape_room (keyed (key_table (key_of input))) product tape lines (omega (arith, short, less)) t)
          ]
    ]

-- And so does the text of its listing.
pub listing_room : (input text : List ℕ) → ListingText input text → length text ≤ 12 * length input + 24
listing_room input text t = rw t.is (input_room input t.lines t.of_input)
