-- The kinds of mask.
use Rattle.std.specs.Prelude.{Bool, true, false}
use Rattle.sss.specs.Masks.{kind_of}
use Rattle.sss.specs.declared.mask.MaskKind.{MaskKind}
use Rattle.sss.specs.declared.mask.MaskKind.TheVariants.{Sealed, Open, Part}
use Rattle.sss.specs.declared.message.MaskedWord.{MaskedWord}

-- The two kinds are one.
abbrev pub same_kind : MaskKind → MaskKind → Bool
same_kind Sealed Sealed = true
same_kind Open Open = true
same_kind Part Part = true
same_kind kind other = false

-- The word's mask is of this kind.
abbrev pub mask_is : MaskKind → MaskedWord → Bool
mask_is kind w = same_kind (kind_of w.mask) kind
