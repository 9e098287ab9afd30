-- Worked stories of two servers: alice's at `a.example` and bob's at `b.example`.
use Rattle.std.specs.Prelude.{ℕ, List, [], ◌∷◌, ◌++◌, codes}
use Rattle.std.specs.Option.{option_map_or}
use Rattle.ocm_types.specs.declared.letters.Offer.{Offer}
use Rattle.ocm_types.specs.declared.rights.Rights.{Rights}
use Rattle.ocm_types.specs.Rights.{all_rights}
use Rattle.ocm_entry.specs.declared.asks.Ask.TheVariants as asks
use Rattle.ocm_entry.specs.declared.asks.Cmd.TheVariants as commands
use Rattle.ocm_entry.specs.declared.entries.Entry.{Entry}
use Rattle.ocm_entry.specs.declared.replies.Reply.{Reply}
use Rattle.ocm_entry.specs.declared.replies.Reply.TheVariants.{Done, Key, Number, Recipient}
use Rattle.ocm_rules.specs.Cases.{add_alice, add_bob, alice_key, alice_shares, bob, bob_commands, bob_key, first_bytes, host_of_bob, no_bytes, offer_to_bob, our_host, root_path, to_read}
use Rattle.ocm_rules.specs.Numbers.{same_text}
use Rattle.ocm_law_world.specs.World.{World, empty, empty_among, kept_at}
use Rattle.ocm_law_world.specs.Stories.{Event, Begin, Do, Deliver, Invent, Return, after}

-- the world that a story leads to, and what a host keeps in it; nothing where it has no server
abbrev pub story : List Event → World
story events = after empty events

abbrev pub kept_in : World → List ℕ → List Entry
kept_in w host = option_map_or (kept_at host) (w.session host) []

-- two servers, each with its user
abbrev pub two_servers : List Event
two_servers = Begin our_host ∷ Begin host_of_bob ∷ Do our_host add_alice (Key alice_key) ∷ Do host_of_bob add_bob (Key bob_key) ∷ []

-- alice shares all that she has with bob, with these permissions
abbrev pub alice_shares_all : Rights → Event
alice_shares_all perms = Do our_host (alice_shares root_path bob perms first_bytes) (Number 1)

-- bob accepts the first offer that he got
abbrev pub bob_accepts : Event
bob_accepts = Do host_of_bob (bob_commands (commands.Accept 1)) Done

-- an offer comes to bob's server, from whomever, and he accepts it
abbrev pub bob_gets : Offer → List Event
bob_gets offer = Do host_of_bob (asks.Offer offer) (Recipient (codes "bob")) ∷ bob_accepts ∷ []

-- alice's offer comes to bob's server, and he accepts it
abbrev pub accepted : List Event
accepted = two_servers ++ alice_shares_all all_rights ∷ Deliver our_host 1 no_bytes (Recipient (codes "bob")) ∷ bob_accepts ∷ []

-- an offer comes to bob's server that alice's never made, and bob accepts it
abbrev pub forged : List Event
forged = two_servers ++ bob_gets offer_to_bob

-- alice lets bob read, and an offer comes to bob's server, with the right id and secret, that lets him do all; bob accepts it
abbrev pub exaggerated : List Event
exaggerated = two_servers ++ alice_shares_all to_read ∷ bob_gets offer_to_bob

-- bob's acceptance is delivered to alice's server, and replied to so
abbrev pub acceptance_told : Reply → Event
acceptance_told reply = Deliver host_of_bob 1 no_bytes reply

-- alice's server is of another program; bob accepts an offer of hers that he got, and her server says yes
abbrev pub alice_abroad : World
alice_abroad = empty_among (λ host. same_text host our_host)

abbrev pub confirmed_abroad : List Event
confirmed_abroad = Begin host_of_bob ∷ Do host_of_bob add_bob (Key bob_key) ∷ bob_gets offer_to_bob ++ Invent host_of_bob 1 201 ∷ Return Done ∷ []
