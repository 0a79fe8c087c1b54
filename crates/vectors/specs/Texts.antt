-- What is printed.
use Rattle.std.specs.Prelude.{ℕ, List, ◌++◌, codes}
use Rattle.std.specs.Fmt.{decimal}
use Rattle.sss.specs.Faults.{number_of}
use Rattle.sss.specs.declared.fault.Fault.{Fault}
use Rattle.sss.specs.declared.fault.Fault.TheVariants as fault
use Rattle.fields.specs.Texts.{not_bytes_text}
use Rattle.vectors.specs.declared.compare.Comparison.{Comparison}
use Rattle.vectors.specs.declared.compare.Comparison.TheVariants as comparison
use Rattle.vectors.specs.declared.compare.Difference.{Difference}
use Rattle.vectors.specs.declared.compare.FunctionName.{FunctionName}
use Rattle.vectors.specs.declared.compare.FunctionName.TheVariants as function
use Rattle.vectors.specs.declared.compare.CoefficientName.{CoefficientName}
use Rattle.vectors.specs.declared.compare.CoefficientName.TheVariants as coefficient
use Rattle.vectors.specs.declared.compare.Stopped.{Stopped}
use Rattle.vectors.specs.declared.compare.Stopped.TheVariants as stopped
use Rattle.vectors.specs.declared.compare.Way.{Way}
use Rattle.vectors.specs.declared.flaw.Flaw.{Flaw}
use Rattle.vectors.specs.declared.flaw.Flaw.TheVariants as flaw
use Rattle.vectors.specs.declared.vector.Field.{Field}
use Rattle.vectors.specs.declared.vector.Field.TheVariants as field
use Rattle.vectors.specs.declared.vector.Malformed.{Malformed}
use Rattle.vectors.specs.declared.vector.Malformed.TheVariants as malformed

abbrev pub field_text : Field → List ℕ
field_text field.Key = codes "key"
field_text field.Nonce = codes "nonce"
field_text field.Masks = codes "masks"
field_text field.Plaintext = codes "plaintext"
field_text field.Wire = codes "wire"
field_text field.Tag = codes "tag"

-- What is wrong with a field.
abbrev pub flaw_text : Flaw → List ℕ
flaw_text (flaw.NotBytes why) = not_bytes_text why
flaw_text flaw.OddBytes = codes "an odd number of bytes in a field of words"
flaw_text (flaw.NotATag n) = decimal n ++ codes " bytes instead of 16"

-- Why a line is no message.
abbrev pub malformed_text : Malformed → List ℕ
malformed_text malformed.NotText = codes "not text"
malformed_text (malformed.Fields n) = codes "6 fields are wanted, and it has " ++ decimal n
malformed_text (malformed.InField field flaw) = codes "field " ++ field_text field ++ codes ": " ++ flaw_text flaw
malformed_text malformed.Lengths = codes "fields masks, plaintext and wire are of different lengths"
malformed_text malformed.NoMemory = codes "no memory to read it"

abbrev pub function_text : FunctionName → List ℕ
function_text function.FromKey = codes "FromKey"
function_text function.FilledTable = codes "FilledTable"
function_text function.GivenTable = codes "GivenTable"
function_text function.LazyOverKey = codes "LazyTable over FromKey"
function_text function.LazyTwice = codes "LazyTable over LazyTable over FilledTable"

abbrev pub coefficient_text : CoefficientName → List ℕ
coefficient_text coefficient.PrintedTable = codes "PrintedTable"
coefficient_text coefficient.FieldRule = codes "FieldRule"

abbrev pub way_text : Way → List ℕ
way_text w = function_text w.function ++ codes " with " ++ coefficient_text w.coefficient

abbrev pub comparison_text : Comparison → List ℕ
comparison_text comparison.Wire = codes "the sealed words differ from the wire"
comparison_text comparison.SealedTag = codes "the tag of sealing differs"
comparison_text comparison.Plaintext = codes "the opened words differ from the plaintext"
comparison_text comparison.OpenedTag = codes "the tag of opening differs"

abbrev pub difference_text : Difference → List ℕ
difference_text d = way_text d.way ++ codes ": " ++ comparison_text d.comparison

-- What a refusal is of.
abbrev pub part_text : Fault → List ℕ
part_text fault.Key = codes "the key"
part_text fault.Table = codes "the table"
part_text fault.Nonce = codes "the nonce"
part_text fault.Exhausted = codes "the message"
part_text fault.Full = codes "the message"
part_text (fault.UnknownCommand place) = codes "the tape"
part_text (fault.CutOff place) = codes "the tape"
part_text (fault.NoRoom place) = codes "the tape"
part_text fault.Input = codes "the input"
part_text fault.TooLong = codes "the input"
part_text fault.Masks = codes "the masks"
part_text fault.Output = codes "the output"
part_text fault.TagLength = codes "the tag"
part_text fault.TagDiffers = codes "the tag"

-- Why a message was not compared.
abbrev pub stopped_text : Stopped → List ℕ
stopped_text (stopped.Refused fault) = part_text fault ++ codes " is refused, fault " ++ decimal (number_of fault)
stopped_text stopped.NoMemory = codes "no memory to compare it"
