-- What is printed.
use Rattle.std.specs.Prelude.{ℕ, List, [], ◌∷◌, ◌++◌, cond, codes, vec_items, ◌==◌}
use Rattle.std.specs.Fmt.{decimal}
use Rattle.std.specs.List.{flat_map}
use Rattle.fields.specs.Texts.{ended, hex_text}
use Rattle.link.specs.Receiving.{verdict_text}
use Rattle.sss.specs.Bytes.{bytes_of_words, hex_of_word}
use Rattle.sss.specs.Masks.{kind_of}
use Rattle.sss.specs.declared.mask.MaskKind.{MaskKind}
use Rattle.sss.specs.declared.mask.MaskKind.TheVariants.{Sealed, Open, Part}
use Rattle.weld.specs.Scenario.{the_run}
use Rattle.weld.specs.declared.Findings.{Findings}
use Rattle.weld.specs.declared.line.Line.{Line}
use Rattle.weld.specs.declared.line.Line.TheVariants.{Heading, Readings, False, Withheld, Lost, Altered, Break, Ended, Abandoned}
use Rattle.weld.specs.declared.places.Places.{Places}
use Rattle.weld.specs.declared.span.Span.{Span}
use Rattle.weld.specs.declared.spot.SpotCheck.{SpotCheck}
use Rattle.weld.specs.declared.tally.Tally.{Tally}

-- The kind of a mask, which stands behind the places of its words.
abbrev pub kind_text : MaskKind → (mask : ℕ) → List ℕ
kind_text Sealed mask = []
kind_text Open mask = codes " (open)"
kind_text Part mask = codes " (part, mask " ++ hex_of_word mask ++ codes ")"

-- Consecutive places: one place, or the first and the last.
abbrev pub span_text : Span ℕ → List ℕ
span_text span =
    cond (span.first == span.last) (codes "word " ++ decimal span.first)
    (codes "words " ++ decimal span.first ++ codes " to " ++ decimal span.last)

-- Words by their places and their mask.
abbrev pub places_text : Places → List ℕ
places_text places = span_text places.span ++ kind_text (kind_of places.mask) places.mask

-- Words in hex, a blank before each.
abbrev pub words_text : List ℕ → List ℕ
words_text words = flat_map (λ word. codes " " ++ hex_of_word word) words

-- The rows of withheld words: one row, or the first and the last.
abbrev pub rows_text : Span ℕ → List ℕ
rows_text rows =
    cond (rows.first == rows.last) (codes "withheld " ++ decimal rows.first)
    (codes "withheld, rows " ++ decimal rows.first ++ codes " to " ++ decimal rows.last)

-- A line.
abbrev pub line_text : Line → List ℕ
line_text (Heading message nonce) = codes "message " ++ decimal message ++ codes ", nonce " ++ hex_text nonce
line_text (Readings places values) = codes "  " ++ places_text places ++ codes ": reading" ++ words_text values.items
line_text (False places reading plain) =
    codes "  " ++ places_text places ++ (codes ": reading " ++ (hex_of_word reading ++ (codes " false, the plaintext is " ++ hex_of_word plain)))
line_text (Withheld places rows) = codes "  " ++ places_text places ++ codes ": " ++ rows_text rows
line_text (Lost places) = codes "  " ++ places_text places ++ codes ": lost at a weld"
line_text (Altered places wire came) =
    codes "  " ++ places_text places ++ (codes ": altered on the way, wire " ++ (hex_of_word wire ++ (codes " came as " ++ hex_of_word came)))
line_text Break = codes "  break: the receiver is told of the loss"
line_text (Ended tag verdict) = codes "  tag " ++ hex_text (bytes_of_words tag) ++ codes ": verdict " ++ verdict_text verdict
line_text Abandoned = codes "  abandoned by the sealer: no tag, no verdict"

-- The message of one word.
abbrev pub spot_text : SpotCheck → List ℕ
spot_text spot =
    codes "a message of one word, sealed call by call, not sent across the joint and in no count: plaintext " ++ hex_of_word spot.plain
    ++ codes ", wire " ++ hex_of_word spot.wire ++ codes ", tag " ++ hex_text (bytes_of_words spot.tag)

-- The counts.
abbrev pub tally_text : Tally → List ℕ
tally_text tally =
    codes "sealed " ++ decimal tally.sealed ++ codes " received " ++ decimal tally.received ++ codes " handed-out " ++ decimal tally.handed_out
    ++ codes " withheld " ++ decimal tally.withheld ++ codes " false " ++ decimal tally.false_readings

-- What stands first.
abbrev pub opening_text : List ℕ
opening_text =
    ended (codes "known figures of cipher and link: all as published") ++ codes "run " ++ (decimal the_run ++ (
    ended (codes ": wall thicknesses in hundredths of a millimetre, in hex, sealed at one end of the link and received at the other")
    ++ ended (codes "words count from 0 in each message; a word is sealed unless it is open (a milestone, in metres) or part (the bits of its mask)")
    ++ ended (codes "withheld ROW: after a loss no reading is handed out until 17 sealed words in a row have come, and ROW of them have")
    ++ ended (codes "false: a reading that is not the plaintext which was sealed")
    ++ ended (codes "last line: the words that the sealer took, under any mask; of these the received; of those the handed out and the withheld; and the false")))

-- Lines.
abbrev pub lines_text : List Line → List ℕ
lines_text lines = flat_map (λ line. ended (line_text line)) lines

-- The whole report, up to its last line's end.
abbrev pub report_text : Findings → List ℕ
report_text findings = opening_text ++ (lines_text (vec_items findings.lines) ++ (ended (spot_text findings.spot) ++ tally_text findings.tally))
