-- Each command has its line.
use Rattle.std.proofs.Common.{◌≡◌, ℕ, ◌+◌, List, [], ◌∷◌, ◌++◌, length, refl, sym, subst, arith}
use Rattle.std.specs.List.{AllZip, zip}
use Rattle.link.specs.Ends.{ReceiverState, new_ends}
use Rattle.tape.specs.Format.{Ending, bytes_of, places_from, tape_of}
use Rattle.tape.specs.LineByLine.{LineByLine, LineFor, Rises}
use Rattle.tape.specs.Replaying.{heard_line, heard_lines, last_line}
use Rattle.tape.specs.Withholding.{WithheldOnTape}
use Rattle.tape.specs.declared.command.Command.{Command}
use Rattle.tape.specs.declared.command.Command.TheVariants.{Nonce, Sealed, Open, Part, Break, Tag}
use Rattle.tape.specs.declared.line.Line.{Line}
use Rattle.tape.proofs.OnTape.{withheld_on_tape}
use Rattle.tape.proofs.OneWay.{some}

-- Places rise, since each command has a byte.
places_rise : (place : ℕ) (cs : List Command) → Rises (places_from place cs)
places_rise place [] = tt
places_rise place (c ∷ []) = tt
places_rise place (c ∷ d ∷ cs) = (omega (arith, some c), places_rise (place + length (bytes_of c)) (d ∷ cs))

module _ (f A : ℕ → ℕ) where
  -- The line of a command.
  line_for : (s : ReceiverState) (place : ℕ) (c : Command) → LineFor place c (heard_line f A s place c).1
  line_for s place (Nonce nonce) = refl
  line_for s place (Sealed wire) = (_, refl)
  line_for s place (Open wire) = (_, refl)
  line_for s place (Part mask wire) = (_, refl)
  line_for s place Break = refl
  line_for s place (Tag words) = (_, refl)

  line_for_each : (s : ReceiverState) (place : ℕ) (cs : List Command) →
      AllZip (λ x line. LineFor x.0 x.1 line) (zip (places_from place cs) cs) (heard_lines f A s place cs)
  line_for_each s place [] = tt
  line_for_each s place (c ∷ cs) = (line_for s place c, line_for_each (heard_line f A s place c).0 (place + length (bytes_of c)) cs)

  -- So the listing of commands goes line by line.
  pub line_by_line : (cs : List Command) (e : Ending) (lines : List Line) → lines ≡ heard_lines f A new_ends.receiver 0 cs ++ last_line (length (tape_of cs)) e ∷ [] →
      LineByLine cs e lines
  line_by_line cs e lines is = record {
    front = heard_lines f A new_ends.receiver 0 cs;
    each = line_for_each new_ends.receiver 0 cs;
    last = is;
    rises = places_rise 0 cs;
    withheld = subst (WithheldOnTape cs) (sym is) (withheld_on_tape f A 0 cs (last_line (length (tape_of cs)) e ∷ []));
  }
