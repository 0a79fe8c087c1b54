-- Known figures of the cipher: what the definitions give, beside what is published.
use Rattle.std.specs.Prelude.{◌≡◌, ℕ, List, [], ◌∷◌, map, replicate, slice_index, slice_set}
use Rattle.sss.specs.Cipher.{keyed, key_table, keystream, step, product, check_step, masked, mactext}

pub record Figure : Type 0 where
  pub computed : List ℕ
  pub published : List ℕ

-- One number.
abbrev number : ℕ → ℕ → Figure
number x y = record { computed = x ∷ []; published = y ∷ [] }

-- The wire word and the mactext of a plaintext word under a mask.
abbrev word : ℕ → ℕ → ℕ → ℕ → ℕ → Figure
word mask v p wire mac = record { computed = masked mask v p ∷ mactext mask v p ∷ []; published = wire ∷ mac ∷ [] }

abbrev zeros : List ℕ
zeros = replicate 17 0

-- The keyed function of the key 00, and its keystream word from a register of zeros.
abbrev f : ℕ → ℕ
f = keyed (key_table (0x00 ∷ []))

abbrev pub zero_keystream : ℕ
zero_keystream = keystream f zeros

abbrev pub figures : List Figure
figures =
    number (f 0x0000) 0xA34A ∷
    number (f 0x0102) 0xD7EF ∷
    number (keyed (key_table (0x01 ∷ [])) 0x0000) 0xD7ED ∷
    number (keyed (key_table (0x00 ∷ 0x00 ∷ [])) 0x0000) 0x2CFE ∷
    number zero_keystream 0x902C ∷
    record { computed = step f zeros 0x0001; published = slice_set (slice_set (slice_set zeros 12 0xA34A) 14 0xD7ED) 16 0x0001 } ∷
    number (product 0x0100) 0x500F ∷
    number (product 0x0401) 0x1133 ∷
    number (product 0xFF00) 0xF451 ∷
    word 0xFFFF zero_keystream 0x1234 0x8218 0x1234 ∷
    word 0x0000 zero_keystream 0x1234 0x1234 0x8218 ∷
    word 0x00FF zero_keystream 0x1234 0x1218 0x8234 ∷
    number (slice_index (check_step product (slice_set (slice_set zeros 4 3) 15 5) 1) 16) 7 ∷
    []

-- Each figure is as published.
abbrev pub FiguresHold : Type 0
FiguresHold = map (λ x. x.computed) figures ≡ map (λ x. x.published) figures
