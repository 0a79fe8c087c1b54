-- How much of a word its mask seals.
use Rattle.std.specs.Prelude.{ℕ, cond, ◌==◌}
use Rattle.sss.specs.Cipher.{open_mask, sealed_mask}
use Rattle.sss.specs.declared.mask.MaskKind.{MaskKind}
use Rattle.sss.specs.declared.mask.MaskKind.TheVariants.{Sealed, Open, Part}

-- The kind of a mask: of every bit, of none, or of some and not others.
abbrev pub kind_of : ℕ → MaskKind
kind_of mask = cond (mask == sealed_mask) Sealed (cond (mask == open_mask) Open Part)
