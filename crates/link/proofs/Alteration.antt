-- One word that was received otherwise than it was sent, among words that were received as they were sent.
use Rattle.std.proofs.Common.{◌≡◌, ℕ, ◌≢◌, List, ◌∷◌, sym, ap, ◌∙◌, subst}
use Rattle.std.specs.List.{AllByRecursion as Every}
use Rattle.sss.specs.Cipher.{BothRegisters, Word, OneToOne, drawn_from}
use Rattle.sss.specs.declared.message.MaskedWord.{MaskedWord}
use Rattle.link.specs.Law.{OneAltered}
use Rattle.link.proofs.Every.{every_parts}
use Rattle.link.proofs.Received.{Sized, WireWord, received, all_received, all_received_sized, all_received-++}
use Rattle.link.proofs.Altered.{altered}
use Rattle.link.proofs.Drawn.{drawn}

-- The registers just before the altered word, which both ends had, and from them the registers of both.
record Apart (f A : ℕ → ℕ) (b : BothRegisters) (sent heard : List MaskedWord) (a : OneAltered sent heard) : Type 0 where
  before : BothRegisters
  sized : Sized before
  sent_to : all_received f A b sent ≡ all_received f A (received f A before a.mask a.was) a.later
  heard_to : all_received f A b heard ≡ all_received f A (received f A before a.mask a.became) a.later
  was_word : Word a.was
  became_word : Word a.became
  later_words : Every WireWord a.later

module _ (f A : ℕ → ℕ) (onef : OneToOne f) (oneA : OneToOne A) (b : BothRegisters) (k : Sized b) (sent heard : List MaskedWord)
    (ls : Every WireWord sent) (lh : Every WireWord heard) where
  apart : (a : OneAltered sent heard) → Apart f A b sent heard a
  unfolding all_received
  apart a =
      let was : MaskedWord = record { mask = a.mask; text = a.was } in
      let became : MaskedWord = record { mask = a.mask; text = a.became } in
      let fs = every_parts WireWord a.front (was ∷ a.later) (subst (Every WireWord) a.sent_is ls) in
      let fh = every_parts WireWord a.front (became ∷ a.later) (subst (Every WireWord) a.heard_is lh) in
      record {
        before = all_received f A b a.front;
        sized = all_received_sized f A onef oneA b a.front k fs.0;
        sent_to = ap (all_received f A b) a.sent_is ∙ all_received-++ f A b a.front (was ∷ a.later);
        heard_to = ap (all_received f A b) a.heard_is ∙ all_received-++ f A b a.front (became ∷ a.later);
        was_word = fs.1.0;
        became_word = fh.1.0;
        later_words = fs.1.1;
      }

  -- The check registers differ.
  pub one_altered_check : OneAltered sent heard → (all_received f A b sent).c ≢ (all_received f A b heard).c
  one_altered_check a e =
      let x = apart a in
      altered f A onef oneA x.before x.sized a.mask a.was a.became x.was_word x.became_word a.altered a.later
      a.later_sealed x.later_words (ap (λ (z : BothRegisters). z.c) (sym x.sent_to) ∙ e ∙ ap (λ (z : BothRegisters). z.c) x.heard_to)

  -- So do the registers that the tags are drawn from.
  pub one_altered_tag : OneAltered sent heard → drawn_from f (all_received f A b sent) ≢ drawn_from f (all_received f A b heard)
  one_altered_tag a e =
      let x = apart a in
      drawn f A onef oneA x.before x.sized a.mask a.was a.became x.was_word x.became_word a.later a.later_sealed x.later_words a.altered
      (ap (drawn_from f) (sym x.sent_to) ∙ e ∙ ap (drawn_from f) x.heard_to)
