use Rattle.std.specs.Prelude.{ℕ, List, map, Bool, false, true, Option, option_map}
use Rattle.std.specs.Option.{option_map_or}
use Rattle.ocm_types.specs.declared.letters.Numbered.{Numbered}
use Rattle.ocm_rules.specs.declared.rows.Message.{Message}
use Rattle.ocm_rules.specs.declared.rows.SentRow.{SentRow}
use Rattle.ocm_rules.specs.declared.rows.Subject.{Subject}
use Rattle.ocm_rules.specs.Numbers.{at_number}
use Rattle.ocm_rules.specs.Messages.{as_sent, due_among}

-- the messages that were sent, numbered from 1, and how many more can be added without memory
pub record OutboxLists : Type 0 where
  pub sent : List SentRow
  pub room : ℕ

-- the messages alone
abbrev pub messages : List SentRow → List Message
messages sent = map (λ (row : SentRow). row.message) sent

-- whether the message of a number is settled
abbrev pub is_settled : List SentRow → ℕ → Bool
is_settled sent m = option_map_or (λ (row : SentRow). row.settled) (at_number sent m) false

-- the message of a number
abbrev pub message_at : List SentRow → ℕ → Option Message
message_at sent m = at_number (messages sent) m

-- the message of a number, as it is sent
abbrev pub numbered_at : List SentRow → ℕ → Option Numbered
numbered_at sent m = option_map (λ message. as_sent (m, message)) (message_at sent m)

-- what the message of a number is about
abbrev pub subject_at : List SentRow → ℕ → Option Subject
subject_at sent m = option_map (λ (message : Message). message.subject) (message_at sent m)

-- a message that is settled now
abbrev pub settled_row : SentRow → SentRow
settled_row row = record row { settled = true }

-- the messages that are due, in order
abbrev pub due_in : List SentRow → List Numbered
due_in sent = due_among (is_settled sent) (messages sent)
