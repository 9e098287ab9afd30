-- What a message is at the server that it is for, and what its sender is told.
use Rattle.std.specs.Prelude.{ℕ, List, Option, Some, None, decimal}
use Rattle.ocm_types.specs.declared.letters.Letter.{Letter}
use Rattle.ocm_types.specs.declared.letters.Letter.TheVariants as letters
use Rattle.ocm_entry.specs.declared.asks.Ask.{Ask}
use Rattle.ocm_entry.specs.declared.asks.Ask.TheVariants as asks
use Rattle.ocm_entry.specs.declared.replies.Reply.{Reply}
use Rattle.ocm_entry.specs.declared.replies.Reply.TheVariants as replies
use Rattle.ocm_entry.specs.Refusals.{status_of}

-- the ask that a letter is at the server that it is for, with these drawn bytes
abbrev pub letter_ask : Letter → List ℕ → Ask
letter_ask (letters.Offer offer) fresh = asks.Offer offer
letter_ask (letters.Notice notice) fresh = asks.Notice notice fresh

-- the status of a reply to an offer or a notification (OCM API 1.1): 201 where it was taken
abbrev pub delivered_status : Reply → ℕ
delivered_status (replies.Refused why) = status_of why
delivered_status replies.JournalFull = 507
delivered_status replies.NoMemory = 500
delivered_status (replies.DiskFault count) = 503
delivered_status (replies.Stopped count) = 503
delivered_status _ = 201

-- the id that comes back with it: that of a further share
abbrev pub delivered_id : Reply → Option (List ℕ)
delivered_id (replies.Child id) = Some (decimal id)
delivered_id _ = None
