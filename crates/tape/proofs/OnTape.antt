-- Exactly the words of a tape are withheld that must be.
use Rattle.std.proofs.Common.{ℕ, ◌+◌, List, [], ◌∷◌, ◌++◌, length, refl}
use Rattle.std.specs.List.{AllByRecursion as Every}
use Rattle.sss.specs.Cipher.{open_mask, sealed_mask}
use Rattle.link.specs.Ends.{ReceiverState, new_ends, word_heard}
use Rattle.link.specs.Law.{Withholds}
use Rattle.link.specs.Log.{Heard, Stretch, begin, break, finish, marked, new}
use Rattle.link.specs.Receiving.{Released, answer_of}
use Rattle.link.specs.declared.reception.Reception.TheVariants.{Lost, Whole}
use Rattle.link.specs.declared.reception.Release.{Release}
use Rattle.link.specs.declared.reception.Release.TheVariants.{HandOut, Withhold}
use Rattle.link.proofs.Withheld.{Standing, all_withheld, begin_stands, mark_stands, none_withheld, other_stands, word_stands, word_withheld}
use Rattle.tape.specs.Format.{bytes_of}
use Rattle.tape.specs.Replaying.{heard_lines, heard_line, word_line}
use Rattle.tape.specs.Withholding.{WithheldOnTape, command_noted, commands_noted, word_noted}
use Rattle.tape.specs.declared.command.Command.{Command}
use Rattle.tape.specs.declared.command.Command.TheVariants.{Nonce, Sealed, Open, Part, Break, Tag}
use Rattle.tape.specs.declared.line.Line.{Line}

-- A word is answered as it is released.
released : (r : Release) (plain : ℕ) → Released r (answer_of r plain)
released HandOut plain = tt
released (Withhold row) plain = refl

module _ (f A : ℕ → ℕ) where
  -- With each word and each command it stays true that the receiver stands where the words of its stretch were counted to.
  word_stays : (ss : List Stretch) (s : ReceiverState) (place mask wire : ℕ) → Standing ss s.reception →
      Standing (word_noted mask wire (word_line f A s place mask wire).1 ss) (word_line f A s place mask wire).0.reception
  word_stays [] s place mask wire h = absurd h
  word_stays (st ∷ ss) s place mask wire h =
      let w : Heard = record { mask = mask; wire = wire; answer = (word_heard f A s mask wire).1 } in
      let told = released _ _ in
      (word_stands st.mark st.words s.reception w h.0 told _ refl, word_withheld st.mark st.words s.reception w h.0 told h.1, h.2)

  command_stays : (ss : List Stretch) (s : ReceiverState) (place : ℕ) (c : Command) → Standing ss s.reception →
      Standing (command_noted c (heard_line f A s place c).1 ss) (heard_line f A s place c).0.reception
  command_stays ss s place (Nonce nonce) h = mark_stands (begin nonce) ss s.reception Whole (begin_stands nonce Whole refl) h
  command_stays ss s place (Sealed wire) h = word_stays ss s place sealed_mask wire h
  command_stays ss s place (Open wire) h = word_stays ss s place open_mask wire h
  command_stays ss s place (Part mask wire) h = word_stays ss s place mask wire h
  command_stays ss s place Break h = mark_stands break ss s.reception (Lost 0) (other_stands break (Lost 0) refl (λ n e. cc)) h
  command_stays ss s place (Tag words) h = mark_stands finish ss s.reception (Lost 0) (other_stands finish (Lost 0) refl (λ n e. cc)) h

  commands_withhold : (ss : List Stretch) (s : ReceiverState) (place : ℕ) (cs : List Command) (more : List Line) → Standing ss s.reception →
      Every Withholds (commands_noted cs (heard_lines f A s place cs ++ more) ss)
  commands_withhold ss s place [] more h = all_withheld ss s.reception h
  commands_withhold ss s place (c ∷ cs) more h =
      let l = heard_line f A s place c in
      commands_withhold (command_noted c l.1 ss) l.0 (place + length (bytes_of c)) cs more (command_stays ss s place c h)

  -- A new receiver.
  pub withheld_on_tape : (place : ℕ) (cs : List Command) (more : List Line) → WithheldOnTape cs (heard_lines f A new_ends.receiver place cs ++ more)
  withheld_on_tape place cs more =
      commands_withhold (marked new []) new_ends.receiver place cs more (other_stands new (Lost 0) refl (λ n e. cc), none_withheld new, tt)
