-- What is looked at before a byte is touched, in this order.
use Rattle.std.specs.Prelude.{◌≡◌, ℕ, ◌*◌, ◌%◌, ◌≤◌, cond, Bool, ◌&&◌, ◌==◌, nat_le, List, [], ◌∷◌, length, Option, None, Some}
use Rattle.sss.specs.Cipher.{nonce_fits}
use Rattle.sss.specs.declared.fault.Fault.{Fault}
use Rattle.sss.specs.declared.fault.Fault.TheVariants.{Nonce, Input, Masks, Output, TagLength}
use Rattle.link.specs.Sealing.{longest_message}

-- What has to hold, and what is refused where it does not.
pub record Condition : Type 0 where
  pub holds : Bool
  pub otherwise : Fault

-- The refusal of the first check that fails.
abbrev pub first_failed : List Condition → Option Fault
first_failed [] = None
first_failed (c ∷ cs) = cond c.holds (first_failed cs) (Some c.otherwise)

-- A message has at most so many bytes: two for each of the most words that it has on the link.
abbrev pub longest_bytes : ℕ
longest_bytes = 2 * longest_message

-- The input has an even number of bytes, and no more than that; the masks are as long; the output is as long or longer; the tag has 16 bytes.
abbrev pub length_checks : (masks input output tag : List ℕ) → List Condition
length_checks masks input output tag =
    record { holds = length input % 2 == 0 && nat_le (length input) longest_bytes; otherwise = Input } ∷
    record { holds = length masks == length input; otherwise = Masks } ∷
    record { holds = nat_le (length input) (length output); otherwise = Output } ∷
    record { holds = length tag == 16; otherwise = TagLength } ∷ []

-- To seal a message these are all: an issuer's nonce always fits.
unfoldable pub seal_fault : (masks input output tag : List ℕ) → Option Fault
seal_fault masks input output tag = first_failed (length_checks masks input output tag)

-- To open one its nonce comes first: an even number of bytes, at most 32.
unfoldable pub open_fault : (nonce masks input output tag : List ℕ) → Option Fault
open_fault nonce masks input output tag =
    first_failed (record { holds = nonce_fits nonce; otherwise = Nonce } ∷ length_checks masks input output tag)

-- What that comes to: the lengths of masks, input, output and tag where nothing is refused.
pub record LengthsFit (masks input output tag : ℕ) : Type 0 where
  pub even : input % 2 ≡ 0
  pub most : input ≤ longest_bytes
  pub mask_each : masks ≡ input
  pub room : input ≤ output
  pub sixteen : tag ≡ 16
