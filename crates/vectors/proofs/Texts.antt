-- Texts put together in another order of the brackets.
use Rattle.std.proofs.Common.{◌≡◌, ℕ, List, ◌++◌, codes, ◌∙◌, append_assoc}
use Rattle.fields.specs.Texts.{ended}

pub numbered_is : (number text : List ℕ) → codes "line " ++ (number ++ (codes ": " ++ ended text)) ≡ codes "line " ++ number ++ codes ": " ++ ended text
numbered_is number text = simp append_assoc

module _ (number length nonce sealed unsealed part tag verdict : List ℕ) where
  abbrev body : List ℕ
  body =
      codes "key " ++ length ++ codes " bytes, nonce " ++ nonce ++ codes ", words " ++ sealed ++ codes " sealed " ++ unsealed ++ codes " open " ++ part ++ codes " part, tag " ++ tag ++
      codes "; wire, plaintext and tag " ++ verdict ++ codes " in all 10 ways"

  bracketed : codes "line " ++ ((number ++ (codes ": key " ++ (length ++ (codes " bytes, nonce " ++ (nonce ++ (codes ", words " ++ (sealed ++ (codes " sealed " ++ (unsealed ++ (codes " open " ++ part))))))))))
      ++ (codes " part, tag " ++ (tag ++ (codes "; wire, plaintext and tag " ++ (verdict ++ ended (codes " in all 10 ways")))))) ≡ codes "line " ++ (number ++ (codes ": " ++ ended body))
  bracketed = simp append_assoc

  pub heading_is : codes "line " ++ ((number ++ (codes ": key " ++ (length ++ (codes " bytes, nonce " ++ (nonce ++ (codes ", words " ++ (sealed ++ (codes " sealed " ++ (unsealed ++ (codes " open " ++ part))))))))))
      ++ (codes " part, tag " ++ (tag ++ (codes "; wire, plaintext and tag " ++ (verdict ++ ended (codes " in all 10 ways")))))) ≡ codes "line " ++ number ++ codes ": " ++ ended body
  heading_is = bracketed ∙ numbered_is number body

pub worked_is : (compared worked : List ℕ) → compared ++ (codes " messages with " ++ (worked ++ ended (codes " words sealed and opened in each of 10 ways"))) ≡ ended (compared ++ codes " messages with " ++ worked ++ codes " words sealed and opened in each of 10 ways")
worked_is compared worked = simp append_assoc

pub differ_is : (differ : List ℕ) → differ ++ ended (codes " messages differ") ≡ ended (differ ++ codes " messages differ")
differ_is differ = simp append_assoc

pub counts_is : (messages words differ : List ℕ) → codes "messages " ++ (messages ++ (codes " words " ++ (words ++ (codes " differ " ++ ended differ)))) ≡ ended (codes "messages " ++ messages ++ codes " words " ++ words ++ codes " differ " ++ differ)
counts_is messages words differ = simp append_assoc
