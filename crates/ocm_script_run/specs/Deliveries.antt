-- Messages that are given to the servers that they are for, and the replies that come back.
use Rattle.std.specs.Prelude.{ℕ, ◌+◌, List, [], ◌∷◌, ◌++◌, Bool, true, false, if◌then◌else◌, Option, Some, None, decimal, codes}
use Rattle.std.specs.Option.{option_map_or}
use Rattle.ocm_types.specs.Draws.{fresh_plus}
use Rattle.ocm_types.specs.declared.letters.Numbered.{Numbered}
use Rattle.ocm_entry.specs.declared.asks.Ask.{Ask}
use Rattle.ocm_entry.specs.declared.asks.Ask.TheVariants.{Due, Settle}
use Rattle.ocm_entry.specs.declared.replies.Reply.{Reply}
use Rattle.ocm_entry.specs.declared.replies.Reply.TheVariants as replies
use Rattle.ocm_entry.specs.Deliveries.{delivered_status, delivered_id, letter_ask}
use Rattle.ocm_transcript.specs.Texts.{line_text, reply_lines, told_line}
use Rattle.ocm_script_run.specs.Servers.{World, asked_at, message_at, reply_at}

-- the servers after a line, and what it prints
pub record Run : Type 0 where
  pub world : World
  pub text : List ℕ

-- whether memory was wanting at the next ask, and at those behind it; where nothing is told, it was not
abbrev pub next_wanting : List Bool → Bool
next_wanting [] = false
next_wanting (wanting ∷ others) = wanting

abbrev pub others_wanting : List Bool → List Bool
others_wanting [] = []
others_wanting (wanting ∷ others) = others

-- what the sender is told: that its message of this number was answered so
abbrev pub settlement : ℕ → Reply → Ask
settlement m reply = Settle m (delivered_status reply) (delivered_id reply)

-- the reply comes back to the sender, behind a text
abbrev pub come_back : Bool → World → ℕ → List ℕ → List ℕ → Ask → Run
come_back wanting world number front sender ask = record {
  world = asked_at wanting world sender ask;
  text = front ++ option_map_or (λ reply. told_line number (codes "back") sender reply) (reply_at wanting world sender ask) [];
}

-- a message was answered by the server that it is for; the reply comes back, or is lost
abbrev pub answered : Bool → World → ℕ → List ℕ → Bool → Numbered → Reply → Run
answered wanting world number sender lost message reply =
    if lost then record { world = world; text = told_line number (codes "at") message.to reply }
    else come_back wanting world number (told_line number (codes "at") message.to reply) sender (settlement message.number reply)

-- no server of the script has this host
abbrev pub unreachable : World → ℕ → List ℕ → Run
unreachable world number host = record { world = world; text = line_text number (codes "unreachable " ++ host) }

-- a message of this sender is given to the server that it is for, as this ask, if there is that server
abbrev pub given : List Bool → World → ℕ → List ℕ → Bool → Numbered → Ask → Run
given wanting world number sender lost message ask =
    option_map_or
    (λ reply. answered (next_wanting (others_wanting wanting)) (asked_at (next_wanting wanting) world message.to ask) number sender lost message reply)
    (reply_at (next_wanting wanting) world message.to ask)
    (unreachable world number message.to)

-- a message of this sender is given to the server that it is for, with these drawn bytes
abbrev pub delivered : List Bool → World → ℕ → List ℕ → List ℕ → Bool → Numbered → Run
delivered wanting world number sender fresh lost message = given wanting world number sender lost message (letter_ask message.letter fresh)

-- one run, and behind it another that goes on from its servers
abbrev pub before : Run → (World → Run) → Run
before first more = record { world = (more first.world).world; text = first.text ++ (more first.world).text }

-- messages are given to the servers that they are for, one after another; the one of this place gets the drawn bytes and so many more
abbrev pub all_delivered : List Bool → World → ℕ → List ℕ → List ℕ → ℕ → List Numbered → Run
all_delivered wanting world number sender fresh place [] = record { world = world; text = [] }
all_delivered wanting world number sender fresh place (message ∷ messages) =
    before (delivered wanting world number sender (fresh_plus fresh place) false message)
    (λ w. all_delivered (others_wanting (others_wanting wanting)) w number sender fresh (place + 1) messages)

-- a line that prints that there is nothing
abbrev pub nothing : World → ℕ → Run
nothing world number = record { world = world; text = line_text number (codes "nothing") }

-- the message of this number of a server is delivered, if there is one
abbrev pub deliver : List Bool → World → ℕ → List ℕ → ℕ → List ℕ → Bool → Run
deliver wanting world number sender m fresh lost = option_map_or (delivered wanting world number sender fresh lost) (message_at world sender m) (nothing world number)

-- what was answered to the question which messages are due
abbrev pub pumped : List Bool → World → ℕ → List ℕ → List ℕ → Reply → Run
pumped wanting world number sender fresh (replies.Due []) = nothing world number
pumped wanting world number sender fresh (replies.Due (message ∷ messages)) = all_delivered wanting world number sender fresh 0 (message ∷ messages)
pumped wanting world number sender fresh reply = record { world = world; text = reply_lines number true reply }

-- all messages of a server that are due are delivered
abbrev pub pump : List Bool → World → ℕ → List ℕ → List ℕ → Run
pump wanting world number sender fresh =
    option_map_or
    (λ reply. pumped (others_wanting wanting) (asked_at (next_wanting wanting) world sender Due) number sender fresh reply)
    (reply_at (next_wanting wanting) world sender Due)
    (record { world = world; text = [] })
