-- What the report says of a message, of a line and at the end.
use Rattle.std.specs.Prelude.{◌≡◌, ℕ, ◌⊎◌, Bool, cond, List, [], ◌++◌, codes, count_by, length, nat_lt, vec_items, vec_len, Option, ◌==◌}
use Rattle.std.specs.Fmt.{decimal}
use Rattle.std.specs.Io.KnownBytes.{Appends}
use Rattle.std.specs.List.{flat_map}
use Rattle.sss.specs.Bytes.{bytes_of_words}
use Rattle.fields.specs.Texts.{ended, hex_text, numbered}
use Rattle.vectors.specs.declared.compare.Difference.{Difference}
use Rattle.vectors.specs.declared.compare.FunctionName.TheVariants.{FromKey, FilledTable, GivenTable, LazyOverKey, LazyTwice}
use Rattle.vectors.specs.declared.compare.CoefficientName.TheVariants.{PrintedTable, FieldRule}
use Rattle.vectors.specs.declared.compare.Stopped.{Stopped}
use Rattle.sss.specs.declared.mask.MaskKind.{MaskKind}
use Rattle.sss.specs.declared.mask.MaskKind.TheVariants.{Sealed, Open, Part}
use Rattle.vectors.specs.declared.report.Tally.{Tally}
use Rattle.vectors.specs.declared.vector.Malformed.{Malformed}
use Rattle.vectors.specs.declared.vector.Vector.{Vector}
use Rattle.vectors.specs.Lines.{Parses, NotParsed}
use Rattle.vectors.specs.Masks.{mask_is}
use Rattle.vectors.specs.Refusals.{Fit, StopsFor}
use Rattle.vectors.specs.Tallies.{after_compared, after_malformed, after_refused}
use Rattle.vectors.specs.Texts.{difference_text, function_text, malformed_text, coefficient_text, stopped_text}
use Rattle.vectors.specs.Ways.{AllWays, NoneExactly}

-- The first line.
abbrev pub figures_text : Bool → List ℕ
figures_text hold = codes "known figures of the cipher: " ++ cond hold (codes "all") (codes "NOT") ++ ended (codes " as published")

-- A line for each comparison that failed.
abbrev pub differences_text : ℕ → List Difference → List ℕ
differences_text number found = flat_map (λ d. numbered number (difference_text d)) found

-- How many words of the message have a mask of this kind.
abbrev pub words_of : MaskKind → Vector → ℕ
words_of kind v = count_by (mask_is kind) (vec_items v.plaintext)

-- What a message is made of, and whether it agrees.
abbrev pub heading_text : ℕ → Vector → Bool → List ℕ
heading_text number v agrees =
    numbered number (
    codes "key " ++ decimal (vec_len v.key) ++ codes " bytes, nonce " ++ hex_text (vec_items v.nonce) ++ codes ", words " ++ decimal (words_of Sealed v) ++
    codes " sealed " ++ decimal (words_of Open v) ++ codes " open " ++ decimal (words_of Part v) ++ codes " part, tag " ++ hex_text (bytes_of_words v.tag) ++
    codes "; wire, plaintext and tag " ++ cond agrees (codes "agree") (codes "do not agree") ++ codes " in all 10 ways"
    )

-- What comparing a message found, and before it what the message is made of, where that is shown.
abbrev pub comparison_text : ℕ → Vector → Bool → List Difference → List ℕ
comparison_text number v shown found = cond shown (heading_text number v (length found == 0)) [] ++ differences_text number found

-- The end of the report, in five lines: what was sealed and opened, with which functions and coefficients, how many messages differ, and the counts.
abbrev pub worked_text : Tally → List ℕ
worked_text t = ended (decimal t.compared ++ codes " messages with " ++ decimal t.worked ++ codes " words sealed and opened in each of 10 ways")

abbrev pub functions_text : List ℕ
functions_text =
    ended (codes "keyed functions: " ++ function_text FromKey ++ codes ", " ++ function_text FilledTable ++ codes ", " ++ function_text GivenTable ++ codes ", " ++
    function_text LazyOverKey ++ codes ", " ++ function_text LazyTwice)

abbrev pub coefficients_text : List ℕ
coefficients_text = ended (codes "coefficients: " ++ coefficient_text PrintedTable ++ codes ", " ++ coefficient_text FieldRule)

abbrev pub differ_text : Tally → List ℕ
differ_text t = ended (decimal t.differ ++ codes " messages differ")

abbrev pub counts_text : Tally → List ℕ
counts_text t = ended (codes "messages " ++ decimal t.messages ++ codes " words " ++ decimal t.words ++ codes " differ " ++ decimal t.differ)

abbrev pub summary_text : Tally → List ℕ
summary_text t = worked_text t ++ functions_text ++ coefficients_text ++ differ_text t ++ counts_text t

-- What is printed of a message: what all ten ways found, where five lines before it have not been counted what it is made of too, and it counts as
-- agreeing where nothing was found; or why it was not compared, and it counts as refused.
abbrev pub Compared : ℕ → Vector → Tally → Tally → List ℕ → Type 0
Compared number v before after text =
    ((found : List Difference) × Fit v × AllWays v found × NoneExactly v found × (after ≡ after_compared (vec_len v.wire) (length found == 0) before) ×
    (text ≡ comparison_text number v (nat_lt before.messages 5) found)) ⊎
    ((why : Stopped) × StopsFor v why × (after ≡ after_refused (vec_len v.wire) before) × (text ≡ numbered number (stopped_text why)))

-- What is printed of a line: that of the message that it is, or why it is none.
abbrev pub Told : ℕ → List ℕ → Tally → Tally → List ℕ → Type 0
Told number line before after text =
    ((v : Vector) × Parses line v × Compared number v before after text) ⊎
    ((why : Malformed) × NotParsed line why × (after ≡ after_malformed before) × (text ≡ numbered number (malformed_text why)))

-- A text of which P holds is printed.
abbrev pub Prints : (List ℕ → Type 0) → Option (List ℕ) → Option (List ℕ) → Type 0
Prints P printed printed' = (text : List ℕ) × P text × Appends printed printed' text
