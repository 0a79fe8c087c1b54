-- What a run of the program prints.
use Rattle.std.specs.Prelude.{◌≡◌, ℕ, ◌<◌, ◌⊎◌, List, [], ◌++◌, length, Option}
use Rattle.std.specs.Io.BufRead.{drop_through, first_piece}
use Rattle.std.specs.Io.KnownBytes.{Appends}
use Rattle.std.specs.List.{FoldsTo, concat}
use Rattle.fields.specs.Texts.{ended, numbered}
use Rattle.requests.specs.declared.reply.Reply.{Reply}
use Rattle.requests.specs.declared.request.Unread.{Unread}
use Rattle.requests.specs.declared.tally.Tally.{Tally}
use Rattle.requests.specs.Replies.{Answers, NotAnswered}
use Rattle.requests.specs.Tallies.{after_reply, after_unread, fresh}
use Rattle.requests.specs.Texts.{reply_text, tally_text, unread_text}

-- The text for a line, and how it is counted: the line is a request, and its reply is told; or it is none, and the reason is told with the
-- line's number.
abbrev pub Told : List ℕ → Tally → Tally → List ℕ → Type 0
Told line before after text =
    ((reply : Reply) × Answers line reply × (after ≡ after_reply reply before) × (text ≡ ended (reply_text reply))) ⊎
    ((e : Unread) × NotAnswered line e × (after ≡ after_unread before) × (text ≡ numbered after.requests (unread_text e)))

-- The same, where the text is printed.
abbrev pub Takes : List ℕ → Tally → Tally → Option (List ℕ) → Option (List ℕ) → Type 0
Takes line before after printed printed' = (text : List ℕ) × Told line before after text × Appends printed printed' text

-- What is left of the input, and the counts.
pub record Progress : Type 0 where
  pub left : List ℕ
  pub tally : Tally

-- The next line is what stands before the next line's end, or all that is left; its text is told, and what stands after it is left.
abbrev pub NextLine : Progress → List ℕ → Progress → Type 0
NextLine before text after =
    (0 < length before.left) × (after.left ≡ drop_through 0x0A before.left) × Told (first_piece 0x0A before.left) before.tally after.tally text

-- For an input the texts of its lines are printed, one after another until nothing is left, and then the counts.
abbrev pub PrintsReplies : Option (List ℕ) → Option (List ℕ) → List ℕ → Type 0
PrintsReplies printed printed' input =
    (texts : List (List ℕ)) × (last : Tally) ×
    FoldsTo NextLine (record { left = input; tally = fresh }) texts (record { left = []; tally = last }) ×
    Appends printed printed' (concat texts ++ ended (tally_text last))
