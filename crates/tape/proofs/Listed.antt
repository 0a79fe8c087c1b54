-- The lines that a replay gives are the listing of its tape.
use Rattle.std.proofs.Common.{zero-add, ◌≡◌, ℕ, ◌+◌, List, [], ◌∷◌, ◌++◌, length, true, false, MatchBool, Some, None, Ok, Err, inl, inr, refl, sym, ap, ◌∙◌, subst, arith, append_assoc, length-append}
use Rattle.std.specs.Iterator.{Yields}
use Rattle.sss.specs.Cipher.{key_table, keyed, product}
use Rattle.sss.specs.declared.keyed.KeyedFunction.{Ghosts as Keyed}
use Rattle.sss.specs.declared.coefficient.Coefficient.{Ghosts as Coefficient}
use Rattle.sss.specs.declared.Fault.{Fault}
use Rattle.sss.specs.declared.Fault.TheVariants.{Key, TooLong}
use Rattle.functions.specs.declared.coefficient.PrintedTable.{PrintedTable}
use Rattle.functions.specs.declared.table.Filled.{Filled}
use Rattle.functions.specs.declared.table.Table.{Table as FilledBy}
use Rattle.link.specs.Ends.{ReceiverState, new_ends, receiving}
use Rattle.sss.specs.Asked.{function_of}
use Rattle.link.specs.declared.receiver.Receiver.{Receiver}
use Rattle.tape.specs.Format.{Ending, Ends, bytes_of, tape_of}
use Rattle.tape.specs.Items.{IsNext, command_of, part_of, place_of}
use Rattle.tape.specs.Inputs.{OpensInput, key_of, tape_in}
use Rattle.tape.specs.Lines.{text_of}
use Rattle.tape.specs.Listing.{ListingText}
use Rattle.tape.specs.Reading.{ReadsNext, left}
use Rattle.tape.specs.Replaying.{GivesLines, TapeLines, HearsItem, TakesLine, last_line, heard_line, heard_lines}
use Rattle.tape.specs.declared.item.Item.{Item}
use Rattle.tape.specs.declared.line.Line.{Line}
use Rattle.tape.specs.declared.line.Line.TheVariants as line
use Rattle.tape.specs.declared.replay.Replay.{Replay}
use Rattle.tape.proofs.LineForEach.{line_by_line}
use Rattle.tape.proofs.OneWay.{same_reading}
use Rattle.tape.proofs.Told.{told}

-- A tape of which nothing more is read.
pub ended : (f A : ℕ → ℕ) (s : ReceiverState) (place : ℕ) (tape : List ℕ) (e : Ending) → Ends tape e → TapeLines f A s place tape (last_line place e ∷ [])
ended f A s place tape e ends = record {
  commands = [];
  ending = e;
  reads = record { fit = tt; rest = tape; whole = refl; ends = ends };
  are = ap (λ (p : ℕ). last_line p e ∷ []) (omega arith);
}

-- One command more at the front.
pub one_more : (f A : ℕ → ℕ) (s t : ReceiverState) (place : ℕ) (i : Item) (tape rest : List ℕ) (line : Line) (lines : List Line) →
    IsNext place tape i rest → (t, line) ≡ heard_line f A s (place_of i) (command_of i) → TapeLines f A t (place + length (part_of i)) rest lines → TapeLines f A s place tape (line ∷ lines)
one_more f A s t place i tape rest line lines next made later =
    let c = command_of i in
    let cs = later.commands in
    let long : place + length (part_of i) ≡ place + length (bytes_of c) = ap (λ (bs : List ℕ). place + length bs) next.bytes in
    let made_here = made ∙ ap (λ (p : ℕ). heard_line f A s p c) next.place in
    let state_is : t ≡ (heard_line f A s place c).0 = ap (λ (h : ReceiverState × Line). h.0) made_here in
    let line_is : line ≡ (heard_line f A s place c).1 = ap (λ (h : ReceiverState × Line). h.1) made_here in
    let far : place + length (part_of i) + length (tape_of cs) ≡ place + length (bytes_of c ++ tape_of cs) =
    omega (arith, long, length-append (bytes_of c) (tape_of cs)) in
    record {
      commands = c ∷ cs;
      ending = later.ending;
      reads = record {
        fit = (next.fits, later.reads.fit);
        rest = later.reads.rest;
        whole = next.part ∙ (λ j. next.bytes j ++ later.reads.whole j) ∙ sym (append_assoc (bytes_of c) (tape_of cs) later.reads.rest);
        ends = later.reads.ends;
      };
      are =
          ap (λ (l : Line). l ∷ lines) line_is ∙
          ap (λ (ls : List Line). (heard_line f A s place c).1 ∷ ls) (later.are ∙ (λ j. heard_lines f A (state_is j) (long j) cs ++ last_line (far j) later.ending ∷ []));
    }

module _ {K C : Type 0} (F : Keyed K) (L : Coefficient C) where
  -- The listing of what is left of a replay's tape, by its receiver.
  abbrev LeftLines : Replay K C → List Line → Type 0
  LeftLines r lines =
      TapeLines (function_of F r.receiver.engine.function) (L.image r.receiver.engine.coefficient) (receiving r.receiver) r.reader.place (left r.reader) lines

  -- The lines that are to come of a replay: none once it is over.
  Comes : Replay K C → List Line → Type 0
  Comes r lines = MatchBool r.over (lines ≡ []) (LeftLines r lines)

  -- What a line asks of the replay before it and after it.
  Leads : Replay K C → Line → Replay K C → Type 0
  Leads s line u = F.sound u.receiver.engine.function × ((lines : List Line) → Comes u lines → Comes s (line ∷ lines))

  -- The line of an item.
  item_leads : (s u : Replay K C) (item : Item) (line : Line) → s.over ≡ false → u.over ≡ false → F.sound s.receiver.engine.function →
      ReadsNext s.reader (Ok (Some item)) u.reader → HearsItem F L s.receiver item line u.receiver → Leads s line u
  unfolding Comes Leads
  item_leads s u item line going still sound (next, onward, same) hears =
      let worked = hears.worked in
      let f = function_of F s.receiver.engine.function in
      let A = L.image s.receiver.engine.coefficient in (
        worked.asked.kept.sound sound,
        λ lines later.
            let here : LeftLines u lines = rw still at later in
            let meant = rw (worked.asked.kept.meaning, worked.coefficient) at here in
            let there = subst (λ (p : ℕ). TapeLines f A (receiving u.receiver) p (left u.reader) lines) onward meant in
            rw going (one_more f A (receiving s.receiver) (receiving u.receiver) s.reader.place item (left s.reader) (left u.reader) line lines next (worked.asked.promise sound) there),
      )

  -- The last line.
  last_leads : (s u : Replay K C) (e : Ending) → s.over ≡ false → u.over ≡ true → F.sound s.receiver.engine.function → Ends (left s.reader) e → u.receiver ≡ s.receiver →
      Leads s (last_line s.reader.place e) u
  unfolding Comes Leads
  last_leads s u e going over sound ends same =
      let f = function_of F s.receiver.engine.function in
      let A = L.image s.receiver.engine.coefficient in (
        subst (λ (r : Receiver K C). F.sound r.engine.function) (sym same) sound,
        λ lines later.
            let none : lines ≡ [] = rw over at later in
            rw (none, going) (ended f A (receiving s.receiver) s.reader.place (left s.reader) e ends),
      )

  line_leads : (s u : Replay K C) (line : Line) → F.sound s.receiver.engine.function → TakesLine F L s (Some line) u → Leads s line u
  line_leads s u line sound (going, inl t) = item_leads s u t.item line going t.over sound t.reads t.hears
  line_leads s u line sound (going, inr t) = subst (λ (x : Line). Leads s x u) (sym t.is) (last_leads s u t.ending going t.over sound t.ends t.receiver)

  -- All lines that a replay gives, until it gives none.
  all_lines : (s t u : Replay K C) (lines : List Line) → Yields (TakesLine F L) s lines t → TakesLine F L t None u → F.sound s.receiver.engine.function → Comes s lines
  unfolding Comes Leads
  all_lines s t u [] same last sound = let over : s.over ≡ true = ap (λ (r : Replay K C). r.over) same ∙ last.0 in rw over refl
  all_lines s t u (line ∷ lines) (v, taken, later) last sound =
      let leads = line_leads s v line sound taken in
      leads.1 lines (all_lines v t u lines later last leads.0)

  -- So a replay that is not over gives the listing of its tape.
  pub gives_lines : (r : Replay K C) → r.over ≡ false → GivesLines F L r
  unfolding Comes
  gives_lines r going sound lines (u, y) = rw going at (all_lines r y.0 u lines y.1 y.2 sound)

-- A tape has one listing.
pub one_listing : (f A : ℕ → ℕ) (s : ReceiverState) (place : ℕ) (tape : List ℕ) (xs ys : List Line) → TapeLines f A s place tape xs → TapeLines f A s place tape ys → ys ≡ xs
one_listing f A s place tape xs ys h k =
    let same = same_reading tape h.commands k.commands h.ending k.ending h.reads k.reads in
    k.are ∙ (λ j. heard_lines f A s place (same.0 j) ++ last_line (place + length (tape_of (same.0 j))) (same.1 j) ∷ []) ∙ sym h.are

-- The listing of an input whose replay began.
pub listed_of : (input text : List ℕ) (r : Replay (FilledBy Filled) PrintedTable) (lines : List Line) → OpensInput input (Ok r) →
    TapeLines (keyed r.receiver.engine.function.entries) product (receiving r.receiver) r.reader.place (left r.reader) lines → text ≡ text_of lines → ListingText input text
listed_of input text r lines (taken, start) given is =
    let f = keyed (key_table (key_of input)) in
    let tape : TapeLines f product new_ends.receiver 0 (tape_in input) lines = rw (start.function, start.receiver, start.place, start.on_tape) at given in
    record {
      lines = lines;
      of_input = record { too_long = λ long. absurd (omega (arith, taken.short)); unfit_key = λ _ unfit. absurd (unfit taken.loads); taken = λ _. tape };
      is = is;
      only = λ others h. one_listing f product new_ends.receiver 0 (tape_in input) lines others tape (h.taken taken);
      by_line = λ _ cs e reads.
          let same = same_reading (tape_in input) cs tape.commands e tape.ending reads tape.reads in
          line_by_line f product cs e lines (rw (same.0, same.1, zero-add) at tape.are);
      told = λ _. told f product (tape_in input) lines tape;
    }

-- The listing of an input that was refused.
pub refusal_of : (input text : List ℕ) (fault : Fault) → OpensInput input (Err fault) → text ≡ text_of (line.Refused fault ∷ []) → ListingText input text
refusal_of input text fault (inl (long, too_long)) is = record {
  lines = line.Refused TooLong ∷ [];
  of_input = record { too_long = λ _. refl; unfit_key = λ short _. absurd (omega arith); taken = λ t. absurd (omega (arith, t.short)) };
  is = rw too_long at is;
  only = λ others h. h.too_long long;
  by_line = λ t. absurd (omega (arith, t.short));
  told = λ t. absurd (omega (arith, t.short));
}
refusal_of input text fault (inr (short, unfit, key)) is = record {
  lines = line.Refused Key ∷ [];
  of_input = record { too_long = λ long. absurd (omega arith); unfit_key = λ _ _. refl; taken = λ t. absurd (unfit t.loads) };
  is = rw key at is;
  only = λ others h. h.unfit_key short unfit;
  by_line = λ t. absurd (unfit t.loads);
  told = λ t. absurd (unfit t.loads);
}
