-- How a transcript shows replies.
use Rattle.std.specs.Prelude.{ℕ, List, [], ◌∷◌, ◌++◌, length, map, Bool, true, false, codes}
use Rattle.std.specs.Fmt.{decimal}
use Rattle.std.specs.List.{flat_map}
use Rattle.ocm_texts.specs.Hex.{hex}
use Rattle.ocm_path.specs.Escapes.{escape}
use Rattle.ocm_entry.specs.declared.replies.Reply.{Reply}
use Rattle.ocm_entry.specs.declared.replies.Reply.TheVariants.{Key, Number, Done, Left, Listing, Recipient, Noticed, Child, File, Items, Created, Replaced, Removed, Due, Refused, JournalFull, NoMemory, DiskFault, Stopped}
use Rattle.ocm_entry.specs.declared.refusals.Why.{Why}
use Rattle.ocm_entry.specs.Refusals.{status_of, message_of}
use Rattle.ocm_transcript.specs.Items.{item_text, listing_text}

-- the bytes of a file: how many, and their digits where there are any and they are to be shown
abbrev pub file_text : Bool → List ℕ → List ℕ
file_text digits [] = codes "200 0"
file_text true (b ∷ bytes) = codes "200 " ++ decimal (length (b ∷ bytes)) ++ 32 ∷ hex (b ∷ bytes)
file_text false (b ∷ bytes) = codes "200 " ++ decimal (length (b ∷ bytes))

-- a refusal: its status and its words
abbrev pub refusal_text : Why → List ℕ
refusal_text why = decimal (status_of why) ++ 32 ∷ message_of why

-- a reply, its further lines aside; the bytes of a file are shown, or only how many there are
abbrev pub reply_text : Bool → Reply → List ℕ
reply_text digits (Key key) = codes "201 key " ++ escape key
reply_text digits (Number number) = codes "201 number " ++ decimal number
reply_text digits Done = codes "204"
reply_text digits Left = codes "left"
reply_text digits (Listing lines) = codes "200 " ++ decimal (length lines)
reply_text digits (Recipient user) = codes "201 recipient " ++ escape user
reply_text digits Noticed = codes "201"
reply_text digits (Child id) = codes "201 child " ++ decimal id
reply_text digits (File body) = file_text digits body
reply_text digits (Items items) = codes "207 " ++ decimal (length items)
reply_text digits Created = codes "201"
reply_text digits Replaced = codes "204"
reply_text digits Removed = codes "204"
reply_text digits (Due messages) = codes "due " ++ decimal (length messages)
reply_text digits (Refused why) = refusal_text why
reply_text digits JournalFull = codes "507 journal full"
reply_text digits NoMemory = codes "500 no memory"
reply_text digits (DiskFault count) = codes "503 disk fault " ++ decimal count
reply_text digits (Stopped count) = codes "503 stopped " ++ decimal count

-- what the further lines of a reply show
abbrev pub further : Reply → List (List ℕ)
further (Listing lines) = map listing_text lines
further (Items items) = map item_text items
further _ = []

-- a line of a transcript: the number of the script's line, and a text
abbrev pub line_text : ℕ → List ℕ → List ℕ
line_text number text = decimal number ++ 32 ∷ (text ++ 10 ∷ [])

-- a further line, which begins with two spaces
abbrev pub further_line : List ℕ → List ℕ
further_line text = 32 ∷ 32 ∷ (text ++ 10 ∷ [])

-- the lines of a reply
abbrev pub reply_lines : ℕ → Bool → Reply → List ℕ
reply_lines number digits reply = line_text number (reply_text digits reply) ++ flat_map further_line (further reply)

-- the line of a reply that a server gave to another: the front names who, and there are no further lines
abbrev pub told_line : ℕ → List ℕ → List ℕ → Reply → List ℕ
told_line number front host reply = line_text number (front ++ 32 ∷ (host ++ 32 ∷ reply_text true reply))
