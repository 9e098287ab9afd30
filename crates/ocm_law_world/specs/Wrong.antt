-- Wrong definitions, for each of which a law would be false. They serve the counterexamples alone.
use Rattle.std.specs.Prelude.{ℕ, List, [], ◌∷◌, ◌++◌, Option, Some, None, if◌then◌else◌, codes, unwrap_or}
use Rattle.std.specs.Option.{option_map_or}
use Rattle.ocm_types.specs.declared.letters.Notice.TheVariants as notices
use Rattle.ocm_types.specs.declared.letters.Offer.{Offer}
use Rattle.ocm_types.specs.declared.phases.Phase.{Phase}
use Rattle.ocm_types.specs.declared.phases.Phase.TheVariants.{Confirmed}
use Rattle.ocm_types.specs.declared.rights.Rights.{Rights}
use Rattle.ocm_types.specs.Rights.{all_rights}
use Rattle.ocm_entry.specs.declared.asks.Ask.TheVariants as asks
use Rattle.ocm_entry.specs.declared.asks.Cmd.TheVariants as commands
use Rattle.ocm_entry.specs.declared.entries.Entry.{Entry}
use Rattle.ocm_entry.specs.declared.rows.Grant.{Grant}
use Rattle.ocm_entry.specs.declared.replies.Reply.{Reply}
use Rattle.ocm_entry.specs.declared.replies.Reply.TheVariants.{Child, Done, Key, Noticed, Number, Recipient}
use Rattle.ocm_rules.specs.declared.rows.Told.{Told}
use Rattle.ocm_rules.specs.Answers.{accepted_reply, share_with}
use Rattle.ocm_rules.specs.Cases.{add_alice, add_bob, alice_commands, alice_key, alice_shares, bob, bob_key, carol, change_for_bob, first_bytes, first_secret, given, history, host_of_bob, offer_to_bob, our_host, request_for, root_path, second_bytes, sharing, to_read, to_read_and_share, to_write}
use Rattle.ocm_rules.specs.Holders.{grant_of, holder_among}
use Rattle.ocm_rules.specs.Messages.{phase}
use Rattle.ocm_rules.specs.Numbers.{latest}
use Rattle.ocm_rules.specs.Offers.{told_by, told_first}
use Rattle.ocm_rules.specs.State.{is_accepting}
use Rattle.ocm_rules.specs.Views.{View, effective_in}
use Rattle.ocm_law_sessions.specs.Sessions.{heard}
use Rattle.ocm_law_world.specs.World.{Session, World, changed, history_of, kept_at, reopened}
use Rattle.ocm_law_world.specs.Stories.{Event, Crash, Do}
use Rattle.ocm_law_world.specs.Cases.{accepted, alice_shares_all, bob_gets, kept_in, story, two_servers}

-- a record counts as confirmed as soon as its acceptance is sent
abbrev pub phase_when_sent : List ℕ → List Entry → ℕ → Phase
phase_when_sent host g n = if is_accepting (phase host g n) then Confirmed else phase host g n

-- an owner's server does not compare the permissions of an acceptance
abbrev pub reply_without_permissions : View → Offer → Reply
reply_without_permissions v offer = accepted_reply v (share_with v offer.id offer.secret) (Some offer.owner) (Some offer.with) None

-- anybody may ask a server to settle a message
abbrev pub forged_settlement : List ℕ → Event
forged_settlement host = Do host (asks.Settle 1 201 None) Done

-- a crash loses the calls since the journal was opened
abbrev pub without_calls : World → List ℕ → World
without_calls w host = option_map_or (λ (s : Session). changed w host (reopened s s.base) w.answers) (w.session host) w

-- alice ends a share that is older than the last crash
abbrev pub ended : List Event
ended = two_servers ++ alice_shares_all all_rights ∷ Crash our_host ∷ Do our_host (alice_commands (commands.Unshare 1)) Done ∷ []

-- alice shares all that she has with bob, whose server gets an offer of it, and he accepts it
abbrev pub taken : List Event
taken = two_servers ++ alice_shares_all all_rights ∷ bob_gets offer_to_bob

-- whoever knows the secret tells bob other permissions
abbrev pub told_by_a_forger : List Event
told_by_a_forger = taken ++ Do host_of_bob (change_for_bob 7 to_write) Noticed ∷ []

-- each sender is told that its message was taken, whatever was replied
abbrev pub told_as_taken : Reply → ℕ
told_as_taken reply = 201

-- an answer settles its message whatever its status is
abbrev pub settled_by_failure : List Entry
settled_by_failure = given (asks.Settle 1 503 None) Done ∷ kept_in (story accepted) host_of_bob

-- a crash keeps what a forger tells bob, although nobody heard the answer to it
abbrev pub with_unheard : Session → Session
with_unheard s = reopened s (heard host_of_bob (history_of s) (change_for_bob 7 to_write) ∷ history_of s)

abbrev pub kept_unheard : List Entry
kept_unheard = option_map_or (λ (s : Session). kept_at host_of_bob (with_unheard s)) ((story taken).session host_of_bob) []

-- a crash loses the call by which alice was added, and keeps the one by which she shares
abbrev pub later_call_alone : List Entry
later_call_alone = given (alice_shares root_path bob all_rights first_bytes) (Number 1) ∷ []

-- a secret is let in whose own share goes on, whatever became of the one above it
abbrev pub grant_by_itself : View → List ℕ → Option Grant
grant_by_itself v secret = grant_of v.goes_on (effective_in v) (holder_among v.users v.shares secret)

-- alice ends the share below which bob had another made
abbrev pub parent_ended : List Entry
parent_ended = history our_host (sharing all_rights ++ request_for carol second_bytes ∷ alice_commands (commands.Unshare 1) ∷ [])

-- alice, and the share that she lets bob have
abbrev pub alice_shared : Rights → List Entry
alice_shared perms = given (alice_shares root_path bob perms first_bytes) (Number 1) ∷ given add_alice (Key alice_key) ∷ []

-- a server takes drawn bytes that served before
abbrev pub drawn_twice : List Entry
drawn_twice = given (alice_shares root_path carol all_rights first_bytes) (Number 2) ∷ alice_shared all_rights

-- a server makes a share below another, with more than the other's guest may do
abbrev pub more_than_asked : List Entry
more_than_asked = given (asks.Notice (notices.ReshareRequest (codes "1") first_secret carol (codes "1") (Some to_write)) second_bytes) (Child 2) ∷ alice_shared to_read_and_share

-- a server limits a share to more than was granted
abbrev pub more_than_granted : List Entry
more_than_granted = given (alice_commands (commands.Limit 1 all_rights)) Done ∷ alice_shared to_read

-- alice limits a share after another was made below it
abbrev pub own_rights : List Entry
own_rights = given (alice_commands (commands.Limit 1 to_read)) Done ∷ given (request_for carol second_bytes) (Child 2) ∷ alice_shared all_rights

-- a guest takes each change as it comes
abbrev pub told_as_it_comes : Offer → List Entry → Told
told_as_it_comes offer g = unwrap_or (latest (λ (e : Entry). told_by offer e.ask) g) (told_first offer)

-- bob's server gets an offer, and then the second change, and then the first
abbrev pub second_change : List Entry
second_change =
    given (change_for_bob 2 to_read) Noticed
    ∷ given (asks.Offer offer_to_bob) (Recipient (codes "bob"))
    ∷ given add_bob (Key bob_key)
    ∷ []

abbrev pub first_change_late : List Entry
first_change_late = given (change_for_bob 1 all_rights) Noticed ∷ second_change
