-- What is printed.
use Rattle.std.specs.Prelude.{ℕ, List, ◌++◌, codes, vec_items, Ok, Err}
use Rattle.std.specs.Fmt.{decimal}
use Rattle.sss.specs.Faults.{number_of}
use Rattle.fields.specs.Texts.{hex_text, not_bytes_text}
use Rattle.requests.specs.declared.field.Field.{Field}
use Rattle.requests.specs.declared.field.Field.TheVariants.{Key, Nonce, Masks, Plaintext, Wire, Tag, Room, TagRoom}
use Rattle.requests.specs.declared.field.Flaw.{Flaw}
use Rattle.requests.specs.declared.field.Flaw.TheVariants as flaw
use Rattle.requests.specs.declared.reply.Reply.{Reply}
use Rattle.requests.specs.declared.reply.Reply.TheVariants.{NoKey, Sealing, Opening}
use Rattle.requests.specs.declared.request.Unread.{Unread}
use Rattle.requests.specs.declared.request.Unread.TheVariants as unread
use Rattle.requests.specs.declared.tally.Tally.{Tally}

abbrev pub field_text : Field → List ℕ
field_text Key = codes "key"
field_text Nonce = codes "nonce"
field_text Masks = codes "masks"
field_text Plaintext = codes "plaintext"
field_text Wire = codes "wire"
field_text Tag = codes "tag"
field_text Room = codes "room"
field_text TagRoom = codes "tagroom"

abbrev pub flaw_text : Flaw → List ℕ
flaw_text (flaw.NotBytes why) = not_bytes_text why
flaw_text flaw.NotSixBytes = codes "not six bytes in hex, two digits a byte"
flaw_text flaw.NotALength = codes "not a number from 0 to 1000000"

-- Why a line is no request.
abbrev pub unread_text : Unread → List ℕ
unread_text unread.NotText = codes "not text"
unread_text (unread.Fields n) = codes "7 fields are wanted, and it has " ++ decimal n
unread_text unread.OtherCall = codes "neither seal nor open"
unread_text (unread.InField field flaw) = codes "field " ++ field_text field ++ codes ": " ++ flaw_text flaw
unread_text unread.NoMemory = codes "no memory for it"

-- The line of a reply: what the call answered, and its buffers.
abbrev pub reply_text : Reply → List ℕ
reply_text (NoKey fault) = codes "refused " ++ decimal (number_of fault)
reply_text (Sealing (Ok u) output tag) = codes "sealed " ++ hex_text (vec_items output) ++ codes " " ++ hex_text (vec_items tag)
reply_text (Sealing (Err fault) output tag) =
    codes "refused " ++ decimal (number_of fault) ++ codes " " ++ hex_text (vec_items output) ++ codes " " ++ hex_text (vec_items tag)
reply_text (Opening (Ok u) output) = codes "opened " ++ hex_text (vec_items output)
reply_text (Opening (Err fault) output) = codes "refused " ++ decimal (number_of fault) ++ codes " " ++ hex_text (vec_items output)

-- The last line.
abbrev pub tally_text : Tally → List ℕ
tally_text t =
    codes "requests " ++ decimal t.requests ++ codes " sealed " ++ decimal t.sealed ++ codes " opened " ++ decimal t.opened
    ++ codes " refused " ++ decimal t.refused ++ codes " unread " ++ decimal t.unread
