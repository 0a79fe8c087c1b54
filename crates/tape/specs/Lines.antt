-- The lines of a listing, and their text.
use Rattle.std.specs.Prelude.{ℕ, List, [], ◌∷◌, ◌++◌, codes}
use Rattle.std.specs.List.{flat_map}
use Rattle.std.specs.Fmt.{decimal}
use Rattle.sss.specs.declared.Fault.{Fault}
use Rattle.sss.specs.Faults.{layer_of, number_of, place_of}
use Rattle.sss.specs.declared.fault.Layer.{Layer}
use Rattle.sss.specs.declared.fault.Layer.TheVariants as layer
use Rattle.link.specs.Receiving.{answer_text, verdict_text}
use Rattle.tape.specs.declared.line.Line.{Line}
use Rattle.tape.specs.declared.line.Line.TheVariants.{Nonce, Word, Break, Tag, End, Refused}

-- Where a refusal was found, if that was on a tape.
abbrev pub where_text : Layer → ℕ → List ℕ
where_text layer.Key place = []
where_text layer.Message place = []
where_text layer.Tape place = codes " at " ++ decimal place

-- A refusal, as a line says it.
abbrev pub fault_text : Fault → List ℕ
fault_text refusal = codes "refused " ++ decimal (number_of refusal) ++ where_text (layer_of refusal) (place_of refusal)

-- The text of a line, without its end. All but readings is in decimal.
abbrev pub line_text : Line → List ℕ
line_text (Nonce place) = decimal place ++ codes " nonce"
line_text (Word place answer) = decimal place ++ codes " " ++ answer_text answer
line_text (Break place) = decimal place ++ codes " break"
line_text (Tag place verdict) = decimal place ++ codes " " ++ verdict_text verdict
line_text (End length) = codes "end " ++ decimal length
line_text (Refused refusal) = fault_text refusal

-- The text of lines, each with its end, 0x0A.
abbrev pub text_of : List Line → List ℕ
text_of lines = flat_map (λ line. line_text line ++ 0x0A ∷ []) lines
