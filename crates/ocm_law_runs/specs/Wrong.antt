-- Wrong definitions, for each of which a law of transcripts would be false. They serve the counterexamples alone.
use Rattle.std.specs.Prelude.{List, [], ◌∷◌, ◌++◌, true}
use Rattle.ocm_types.specs.Rights.{all_rights}
use Rattle.ocm_entry.specs.declared.asks.Ask.TheVariants.{Offer}
use Rattle.ocm_entry.specs.declared.asks.Cmd.TheVariants.{Accept, Unshare}
use Rattle.ocm_entry.specs.declared.asks.Method.TheVariants.{Get}
use Rattle.ocm_entry.specs.declared.replies.Reply.TheVariants.{Done}
use Rattle.ocm_rules.specs.Cases.{add_bob, alice_commands, alice_key, bob_commands, first_secret, given, history, host_of_bob, offer_to_bob, our_host, root_path, sharing}
use Rattle.ocm_script.specs.declared.events.Event.{Event}
use Rattle.ocm_script.specs.declared.events.Event.TheVariants.{Dav, Local}
use Rattle.ocm_script_run.specs.Servers.{Server, crashed, new_server}

-- alice's server, at which she shares a file with bob, and the line by which she ends the share
abbrev pub sharing_server : Server
sharing_server = record (new_server our_host) { calls = history our_host (sharing all_rights) }

abbrev pub unshare : Event
unshare = Local our_host alice_key (Unshare 1)

-- her server once she has ended it, and the line by which bob gets the file
abbrev pub ended_server : Server
ended_server = record (new_server our_host) { calls = history our_host (sharing all_rights ++ alice_commands (Unshare 1) ∷ []) }

abbrev pub get : Event
get = Dav our_host first_secret Get root_path

-- a crash loses the calls since the last one
abbrev pub without_calls : Server → Server
without_calls server = record server { calls = [] }

-- alice's server, which crashed before she ended the share
abbrev pub ended_after_crash : Server
ended_after_crash = record (crashed true sharing_server) { calls = given (alice_commands (Unshare 1)) Done ∷ [] }

-- bob's server, at which he accepts an offer that nobody made
abbrev pub forged_at_bob : Server
forged_at_bob = record (new_server host_of_bob) { calls = history host_of_bob (add_bob ∷ Offer offer_to_bob ∷ bob_commands (Accept 1) ∷ []) }
