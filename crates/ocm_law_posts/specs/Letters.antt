-- Letters whose parts are values of their types, and what they are written as.
use Rattle.std.specs.Prelude.{◌≡◌, ℕ, true, List, [], ◌∷◌, ◌++◌, Option, Some, None, IsUtf8}
use Rattle.std.specs.List.{AllByRecursion}
use Rattle.ocm_types.specs.declared.addresses.Address.{Address}
use Rattle.ocm_types.specs.declared.letters.Letter.{Letter}
use Rattle.ocm_types.specs.declared.letters.Letter.TheVariants as letters
use Rattle.ocm_types.specs.declared.letters.Notice.{Notice}
use Rattle.ocm_types.specs.declared.letters.Notice.TheVariants as notices
use Rattle.ocm_entry.specs.declared.entries.Entry.{Entry}
use Rattle.ocm_records.specs.Sound.{IsOffer, IsNotice, is_numbered}
use Rattle.ocm_rules.specs.declared.rows.Message.{Message}
use Rattle.ocm_rules.specs.Messages.{out}
use Rattle.ocm_rules.specs.Numbers.{at_number}

-- the user's name of an address that may be absent
abbrev pub user_if : Option Address → List (List ℕ)
user_if (Some address) = address.user ∷ []
user_if None = []

-- the texts of a notification, but for those that are ASCII by their rules
abbrev pub notice_texts : Notice → List (List ℕ)
notice_texts (notices.Accepted id secret owner with perms) = id ∷ secret ∷ (user_if owner ++ user_if with)
notice_texts (notices.Declined id secret) = id ∷ secret ∷ []
notice_texts (notices.Unshared id secret) = id ∷ secret ∷ []
notice_texts (notices.ReshareRequest id secret with sender_id perms) = id ∷ secret ∷ with.user ∷ sender_id ∷ []
notice_texts (notices.ReshareUndo id secret) = id ∷ secret ∷ []
notice_texts (notices.Changed id secret serial perms) = id ∷ secret ∷ []

-- those of a letter
abbrev pub texts : Letter → List (List ℕ)
texts (letters.Offer o) = o.name ∷ o.id ∷ o.secret ∷ o.with.user ∷ o.owner.user ∷ o.sender.user ∷ []
texts (letters.Notice n) = notice_texts n

-- each part of a letter meets the rules of its type
abbrev pub HasParts : Letter → Type 0
HasParts (letters.Offer o) = IsOffer o
HasParts (letters.Notice n) = IsNotice n

-- changes of permissions are counted from 1
abbrev pub IsCounted : Letter → Type 0
IsCounted (letters.Offer o) = Unit {0}
IsCounted (letters.Notice n) = is_numbered n ≡ true

-- a letter that a server may send
pub record IsLetter (letter : Letter) : Type 0 where
  pub parts : HasParts letter
  pub utf8 : AllByRecursion IsUtf8 (texts letter)
  pub counted : IsCounted letter

-- the messages of a server are so: its own changes of permissions are counted
abbrev pub SentAreCounted : Type 0
SentAreCounted = (host : List ℕ) (g : List Entry) (number : ℕ) (message : Message) → at_number (out host g) number ≡ Some message → IsCounted message.letter
