-- The number, the place and the layer of each refusal.
use Rattle.std.specs.Prelude.{ℕ}
use Rattle.sss.specs.declared.fault.Fault.{Fault}
use Rattle.sss.specs.declared.fault.Fault.TheVariants.{Key, Table, Nonce, Exhausted, Full, Input, Masks, Output, TagLength, TagDiffers, UnknownCommand, CutOff, NoRoom, TooLong}
use Rattle.sss.specs.declared.fault.Layer.{Layer}
use Rattle.sss.specs.declared.fault.Layer.TheVariants as layer

-- The number of each refusal.
abbrev pub number_of : Fault → ℕ
number_of Key = 1
number_of Table = 2
number_of Nonce = 3
number_of Exhausted = 4
number_of Full = 5
number_of Input = 6
number_of Masks = 7
number_of Output = 8
number_of TagLength = 9
number_of TagDiffers = 10
number_of (UnknownCommand place) = 11
number_of (CutOff place) = 12
number_of (NoRoom place) = 13
number_of TooLong = 14

-- The place of each refusal: the offset on the tape where it was found, and 0 for one that comes from no tape.
abbrev pub place_of : Fault → ℕ
place_of Key = 0
place_of Table = 0
place_of Nonce = 0
place_of Exhausted = 0
place_of Full = 0
place_of Input = 0
place_of Masks = 0
place_of Output = 0
place_of TagLength = 0
place_of TagDiffers = 0
place_of (UnknownCommand place) = place
place_of (CutOff place) = place
place_of (NoRoom place) = place
place_of TooLong = 0

-- The layer of each refusal.
abbrev pub layer_of : Fault → Layer
layer_of Key = layer.Key
layer_of Table = layer.Key
layer_of Nonce = layer.Message
layer_of Exhausted = layer.Message
layer_of Full = layer.Message
layer_of Input = layer.Message
layer_of Masks = layer.Message
layer_of Output = layer.Message
layer_of TagLength = layer.Message
layer_of TagDiffers = layer.Message
layer_of (UnknownCommand place) = layer.Tape
layer_of (CutOff place) = layer.Tape
layer_of (NoRoom place) = layer.Tape
layer_of TooLong = layer.Message
