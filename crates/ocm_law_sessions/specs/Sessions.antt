-- Which histories the session of a server can have that keeps its changes in a journal: from one opening of the journal
-- to the next, the history `h ++ k` of the calls h after what was opened, k.
use Rattle.std.specs.Prelude.{◌≡◌, ℕ, ◌+◌, nat_le, List, [], ◌∷◌, ◌++◌, Bool, true, false, ◌⊎◌, Option, Some, None}
use Rattle.ocm_entry.specs.declared.asks.Ask.{Ask}
use Rattle.ocm_entry.specs.declared.replies.Reply.{Reply}
use Rattle.ocm_entry.specs.declared.replies.Reply.TheVariants.{JournalFull, NoMemory, DiskFault, Stopped}
use Rattle.ocm_entry.specs.declared.entries.Entry.{Entry}
use Rattle.ocm_journal_image.specs.Layout.{blocks_size}
use Rattle.ocm_rules.specs.Numbers.{latest}
use Rattle.ocm_rules.specs.History.{kept, changes, answer, IsLegal}
use Rattle.ocm_rules.specs.Lean.{lean}
use Rattle.ocm_law_sessions.specs.Readings.{entry_after}
use Rattle.ocm_law_sessions.specs.Written.{records_of}

-- an ask with the answer to it after a history
abbrev pub heard : List ℕ → List Entry → Ask → Entry
heard host g ask = entry_after host (kept host g) ask

-- whether an ask with its answer would change something after a history
abbrev pub would_change : List ℕ → List Entry → Ask → Bool
would_change host g ask = changes host (kept host g) (heard host g ask)

-- the count that a reply of a disk fault tells
abbrev pub count_of : Reply → Option ℕ
count_of (DiskFault count) = Some count
count_of _ = None

-- the count that the last disk fault of these calls told
abbrev pub fault_in : List Entry → Option ℕ
fault_in h = latest (λ (e : Entry). count_of e.reply) h

-- how many bytes of an area the records of a history's lean list take, in form 2
abbrev pub lean_size : List ℕ → List Entry → ℕ
lean_size host g = 2 + blocks_size (records_of (lean host g))

-- whether the lean list of a history with this ask and its answer fits into an area of so many bytes, in form 2 whatever the live area's form is
abbrev pub fits : List ℕ → ℕ → List Entry → Ask → Bool
fits host area g ask = nat_le (lean_size host (heard host g ask ∷ g)) area

-- what a change is told that fits: its answer, or that the disk failed, with any count
abbrev pub IsDoneOrFault : Reply → Reply → Type 0
IsDoneOrFault answered reply = (reply ≡ answered) ⊎ ((count : ℕ) × (reply ≡ DiskFault count))

-- What a change is told, where its disk failed before or not, it fits or not, and this is the answer to it. After a fault
-- it is told the fault's count, and where it does not fit that the journal is full.
abbrev pub IsChangeReply : Option ℕ → Bool → Reply → Reply → Type 0
IsChangeReply (Some count) room answered reply = reply ≡ Stopped count
IsChangeReply None true answered reply = IsDoneOrFault answered reply
IsChangeReply None false answered reply = reply ≡ JournalFull

-- what an ask is told that would change something or not
abbrev pub IsToldReply : Bool → Option ℕ → Bool → Reply → Reply → Type 0
IsToldReply true fault room answered reply = IsChangeReply fault room answered reply
IsToldReply false fault room answered reply = reply ≡ answered

-- what an ask is told after a history in whose session the disk failed with this count, or did not: want of memory may come at any ask
abbrev pub IsReplyAfter : List ℕ → ℕ → Option ℕ → List Entry → Ask → Reply → Type 0
IsReplyAfter host area fault g ask reply =
    (reply ≡ NoMemory) ⊎ IsToldReply (would_change host g ask) fault (fits host area g ask) (answer host g ask) reply

-- a reply that an ask can have after the calls h of a session that opened to k, where an area has so many bytes
abbrev pub IsReply : List ℕ → ℕ → List Entry → List Entry → Ask → Reply → Type 0
IsReply host area k h ask reply = IsReplyAfter host area (fault_in h) (h ++ k) ask reply

-- the calls h are those of a session that opened to k, where an area has so many bytes
abbrev pub IsSession : List ℕ → ℕ → List Entry → List Entry → Type 0
IsSession host area k [] = IsLegal host k
IsSession host area k (e ∷ h) = IsReply host area k h e.ask e.reply × IsSession host area k h
