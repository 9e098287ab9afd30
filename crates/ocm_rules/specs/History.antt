use Rattle.std.specs.Prelude.{◌≡◌, ℕ, List, [], ◌∷◌, length, nat_lt, Bool, true, false, not, ◌&&◌, ◌⊎◌, IsTrue, if◌then◌else◌, ⊤}
use Rattle.std.specs.List.{list_any}
use Rattle.std.specs.Option.{option_map_or}
use Rattle.ocm_types.specs.declared.letters.Notice.{Notice}
use Rattle.ocm_types.specs.declared.letters.Notice.TheVariants as notices
use Rattle.ocm_entry.specs.declared.asks.Ask.{Ask}
use Rattle.ocm_entry.specs.declared.asks.Ask.TheVariants as asks
use Rattle.ocm_entry.specs.declared.asks.Cmd.{Cmd}
use Rattle.ocm_entry.specs.declared.asks.Cmd.TheVariants as commands
use Rattle.ocm_entry.specs.declared.asks.Method.{Method}
use Rattle.ocm_entry.specs.declared.asks.Method.TheVariants as methods
use Rattle.ocm_entry.specs.declared.replies.Reply.{Reply}
use Rattle.ocm_entry.specs.declared.replies.Reply.TheVariants.{Key, Number, Done, Recipient, Noticed, Child, Created, Replaced, Removed, JournalFull, NoMemory, DiskFault, Stopped}
use Rattle.ocm_entry.specs.declared.entries.Entry.{Entry}
use Rattle.ocm_rules.specs.Numbers.{at_number, numbers}
use Rattle.ocm_rules.specs.Shares.{named}
use Rattle.ocm_rules.specs.Offers.{is_known, is_of, is_given_up}
use Rattle.ocm_rules.specs.Views.{View, is_live_in}
use Rattle.ocm_rules.specs.Messages.{view_of}
use Rattle.ocm_rules.specs.Answers.{reply_in}

-- ---- which entries change something

-- whether a command changes something where it is not refused
abbrev pub is_change : Cmd → Bool
is_change commands.List = false
is_change _ = true

-- whether a method changes something where it is not refused
abbrev pub writes : Method → Bool
writes methods.Put = true
writes methods.Delete = true
writes methods.Mkcol = true
writes _ = false

-- whether the share that this id names is live
abbrev pub is_live_named : View → List ℕ → Bool
is_live_named v id = option_map_or (is_live_in v) (named id) false

-- whether a record with this id and secret is neither declined nor removed
abbrev pub is_held : View → List ℕ → List ℕ → Bool
is_held v id secret = list_any (λ n. option_map_or (is_of id secret) (at_number v.offers n) false && not (is_given_up (v.phase n))) (numbers v.offers)

-- whether the guest of a record with this id and secret was told a lower serial
abbrev pub is_news : View → List ℕ → List ℕ → ℕ → Bool
is_news v id secret serial = list_any (λ n. option_map_or (is_of id secret) (at_number v.offers n) false && nat_lt (v.told n).serial serial) (numbers v.offers)

-- whether a notice that was answered so changes something
abbrev pub notice_changes : View → Notice → Reply → Bool
notice_changes v (notices.Declined id secret) Noticed = is_live_named v id
notice_changes v (notices.ReshareUndo id secret) Noticed = is_live_named v id
notice_changes v (notices.ReshareRequest id secret with sender_id perms) (Child n) = nat_lt (length v.shares) n
notice_changes v (notices.Unshared id secret) Noticed = is_held v id secret
notice_changes v (notices.Changed id secret serial perms) Noticed = is_news v id secret serial
notice_changes v _ _ = false

-- whether an ask that was answered so changes something, by what is read of the history before
abbrev pub changes_in : View → Ask → Reply → Bool
changes_in v (asks.AddUser name fresh) (Key key) = true
changes_in v (asks.Local key cmd) (Number number) = is_change cmd
changes_in v (asks.Local key cmd) Done = is_change cmd
changes_in v (asks.Offer offer) (Recipient user) = not (is_known v.offers offer)
changes_in v (asks.Notice notice fresh) reply = notice_changes v notice reply
changes_in v (asks.Dav secret method path body) Created = writes method
changes_in v (asks.Dav secret method path body) Replaced = writes method
changes_in v (asks.Dav secret method path body) Removed = writes method
changes_in v (asks.Carry secret from to moving overwrite) Created = true
changes_in v (asks.Carry secret from to moving overwrite) Replaced = true
changes_in v (asks.Tick clock) Done = nat_lt v.moment clock
changes_in v (asks.Settle number status id) Done = not (v.is_settled number)
changes_in v _ _ = false

-- whether an entry changes something on this host after these kept entries
abbrev pub changes : List ℕ → List Entry → Entry → Bool
changes host g e = changes_in (view_of host g) e.ask e.reply

-- these kept entries, and before them this one, where it changes something
abbrev pub kept_with : List ℕ → Entry → List Entry → List Entry
kept_with host e g = if changes host g e then e ∷ g else g

-- the entries of a history that change something after the kept ones before them; a history stands newest first, here and in all definitions
abbrev pub kept : List ℕ → List Entry → List Entry
kept host [] = []
kept host (e ∷ before) = kept_with host e (kept host before)

-- ---- replies

-- the reply to an ask on this host after these kept entries
abbrev pub answer_kept : List ℕ → List Entry → Ask → Reply
answer_kept host g ask = reply_in (view_of host g) ask

-- the reply to an ask on this host after a history
abbrev pub answer : List ℕ → List Entry → Ask → Reply
answer host g ask = answer_kept host (kept host g) ask

-- whether a reply tells that the server could not do it, and changes nothing
abbrev pub is_failure : Reply → Bool
is_failure JournalFull = true
is_failure NoMemory = true
is_failure (DiskFault count) = true
is_failure (Stopped count) = true
is_failure _ = false

-- an entry has the reply that the rules give after the history before it, or tells that the server could not do it
abbrev pub IsGiven : List ℕ → List Entry → Entry → Type 0
IsGiven host before e = (e.reply ≡ answer host before e.ask) ⊎ IsTrue (is_failure e.reply)

-- a history is legal: each of its entries is given so after those before it
abbrev pub IsLegal : List ℕ → List Entry → Type 0
IsLegal host [] = ⊤
IsLegal host (e ∷ before) = IsGiven host before e × IsLegal host before

-- each of these entries changes something after those before it, and has the reply that the rules give there: so it is with what is kept of a legal history
abbrev pub IsAnswered : List ℕ → List Entry → Type 0
IsAnswered host [] = ⊤
IsAnswered host (e ∷ before) = (e.reply ≡ answer_kept host before e.ask) × IsTrue (changes host before e) × IsAnswered host before
