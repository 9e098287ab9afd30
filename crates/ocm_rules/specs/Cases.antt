use Rattle.std.specs.Prelude.{ℕ, List, [], ◌∷◌, None, Some, true, false, replicate, codes, decimal}
use Rattle.ocm_path.specs.Paths.{Segments}
use Rattle.ocm_types.specs.declared.addresses.Address.{Address}
use Rattle.ocm_types.specs.declared.letters.Offer.{Offer}
use Rattle.ocm_types.specs.declared.letters.Letter.{Letter}
use Rattle.ocm_types.specs.declared.letters.Letter.TheVariants as letters
use Rattle.ocm_types.specs.declared.letters.Notice.TheVariants as notices
use Rattle.ocm_types.specs.declared.letters.Numbered.{Numbered}
use Rattle.ocm_types.specs.declared.rights.Rights.{Rights}
use Rattle.ocm_entry.specs.declared.asks.Ask.{Ask}
use Rattle.ocm_entry.specs.declared.asks.Ask.TheVariants.{AddUser, Local, Dav, Notice, Carry}
use Rattle.ocm_entry.specs.declared.asks.Ask.TheVariants as asks
use Rattle.ocm_entry.specs.declared.asks.Cmd.{Cmd}
use Rattle.ocm_entry.specs.declared.asks.Cmd.TheVariants.{Share, Accept, Reshare}
use Rattle.ocm_entry.specs.declared.asks.Method.TheVariants.{Get, Head, Put, Delete, Mkcol, List0, List1}
use Rattle.ocm_entry.specs.declared.replies.Reply.{Reply}
use Rattle.ocm_entry.specs.declared.entries.Entry.{Entry}
use Rattle.ocm_types.specs.Rights.{all_rights}
use Rattle.ocm_rules.specs.History.{answer}

-- an ask with the reply that was given
abbrev pub given : Ask → Reply → Entry
given ask reply = record { ask = ask; reply = reply }

-- a reply, and the replies to the asks that follow it
abbrev pub reply_before : List Entry → Ask → Reply → (List Entry → List Reply) → List Reply
reply_before g ask reply rest = reply ∷ rest (given ask reply ∷ g)

-- the replies to asks, one after another after this history
abbrev pub replies_after : List ℕ → List Entry → List Ask → List Reply
replies_after host g [] = []
replies_after host g (ask ∷ more) = reply_before g ask (answer host g ask) (λ h. replies_after host h more)

-- the replies to asks, one after another from the beginning
abbrev pub replies : List ℕ → List Ask → List Reply
replies host asks = replies_after host [] asks

-- a history before others, with the asks that follow
abbrev pub entry_before : List Entry → Ask → Reply → (List Entry → List Entry) → List Entry
entry_before g ask reply rest = rest (given ask reply ∷ g)

-- the history after asks, one after another after this history
abbrev pub history_after : List ℕ → List Entry → List Ask → List Entry
history_after host g [] = g
history_after host g (ask ∷ more) = entry_before g ask (answer host g ask) (λ h. history_after host h more)

-- the history of a server that was asked this, one after another
abbrev pub history : List ℕ → List Ask → List Entry
history host asks = history_after host [] asks

-- the host of the server whose histories these are
abbrev pub our_host : List ℕ
our_host = codes "a.example"

-- sixteen drawn bytes, all the same
abbrev pub sixteen_of : ℕ → List ℕ
sixteen_of byte = replicate 16 byte

-- the keys of alice and of bob, 32 digits `a` and 32 digits `b`
abbrev pub alice_key : List ℕ
alice_key = codes "aaaaaaaaaaaaaaaaaaaaaaaaaaaaaaaa"

abbrev pub bob_key : List ℕ
bob_key = codes "bbbbbbbbbbbbbbbbbbbbbbbbbbbbbbbb"

-- drawn bytes and the secrets that they spell
abbrev pub first_bytes : List ℕ
first_bytes = 0 ∷ 1 ∷ 2 ∷ 3 ∷ 4 ∷ 5 ∷ 6 ∷ 7 ∷ 8 ∷ 9 ∷ 10 ∷ 11 ∷ 12 ∷ 13 ∷ 14 ∷ 15 ∷ []

abbrev pub first_secret : List ℕ
first_secret = codes "000102030405060708090a0b0c0d0e0f"

abbrev pub second_bytes : List ℕ
second_bytes = 16 ∷ 17 ∷ 18 ∷ 19 ∷ 20 ∷ 21 ∷ 22 ∷ 23 ∷ 24 ∷ 25 ∷ 26 ∷ 27 ∷ 28 ∷ 29 ∷ 30 ∷ 31 ∷ []

abbrev pub second_secret : List ℕ
second_secret = codes "101112131415161718191a1b1c1d1e1f"

abbrev pub third_bytes : List ℕ
third_bytes = 32 ∷ 33 ∷ 34 ∷ 35 ∷ 36 ∷ 37 ∷ 38 ∷ 39 ∷ 40 ∷ 41 ∷ 42 ∷ 43 ∷ 44 ∷ 45 ∷ 46 ∷ 47 ∷ []

abbrev pub third_secret : List ℕ
third_secret = codes "202122232425262728292a2b2c2d2e2f"

abbrev pub no_bytes : List ℕ
no_bytes = sixteen_of 0

-- the path `/`, and the paths of one segment and of two
abbrev pub root_path : Segments
root_path = []

abbrev pub path_of_one : List ℕ → Segments
path_of_one segment = segment ∷ []

abbrev pub path_of_two : List ℕ → List ℕ → Segments
path_of_two first second = first ∷ second ∷ []

-- users of hosts
abbrev pub alice : Address
alice = record { user = codes "alice"; host = our_host }

abbrev pub bob : Address
bob = record { user = codes "bob"; host = codes "b.example" }

abbrev pub carol : Address
carol = record { user = codes "carol"; host = codes "c.example" }

abbrev pub dan : Address
dan = record { user = codes "dan"; host = codes "d.example" }

-- dora as a new user of alice's server, with these drawn bytes, and her key of 32 digits `d`
abbrev pub add_dora : List ℕ → Ask
add_dora fresh = AddUser (codes "dora") fresh

abbrev pub dora_key : List ℕ
dora_key = codes "dddddddddddddddddddddddddddddddd"

abbrev pub dora_commands : Cmd → Ask
dora_commands cmd = Local dora_key cmd

-- rights
abbrev pub to_read : Rights
to_read = record { read = true; write = false; share = false }

abbrev pub to_write : Rights
to_write = record { read = false; write = true; share = false }

abbrev pub to_read_and_write : Rights
to_read_and_write = record { read = true; write = true; share = false }

abbrev pub to_read_and_share : Rights
to_read_and_share = record { read = true; write = false; share = true }

-- alice as a new user
abbrev pub add_alice : Ask
add_alice = AddUser (codes "alice") (sixteen_of 170)

-- requests for files by the holder of a secret
abbrev pub get_by : List ℕ → Segments → Ask
get_by secret path = Dav secret Get path []

abbrev pub head_by : List ℕ → Segments → Ask
head_by secret path = Dav secret Head path []

abbrev pub put_by : List ℕ → Segments → List ℕ → Ask
put_by secret path body = Dav secret Put path body

abbrev pub mkcol_by : List ℕ → Segments → Ask
mkcol_by secret path = Dav secret Mkcol path []

abbrev pub delete_by : List ℕ → Segments → Ask
delete_by secret path = Dav secret Delete path []

abbrev pub list0_by : List ℕ → Segments → Ask
list0_by secret path = Dav secret List0 path []

abbrev pub list1_by : List ℕ → Segments → Ask
list1_by secret path = Dav secret List1 path []

abbrev pub copy_by : List ℕ → Segments → Segments → Ask
copy_by secret from to = Carry secret from to false false

abbrev pub move_by : List ℕ → Segments → Segments → Ask
move_by secret from to = Carry secret from to true false

abbrev pub move_over_by : List ℕ → Segments → Segments → Ask
move_over_by secret from to = Carry secret from to true true

-- alice's commands
abbrev pub alice_commands : Cmd → Ask
alice_commands cmd = Local alice_key cmd

abbrev pub alice_shares : Segments → Address → Rights → List ℕ → Ask
alice_shares path with perms fresh = alice_commands (Share path with perms fresh)

-- alice has put `hi` at `/f`, and shares it with bob
abbrev pub sharing : Rights → List Ask
sharing perms =
    add_alice
    ∷ put_by alice_key (path_of_one (codes "f")) (codes "hi")
    ∷ alice_shares (path_of_one (codes "f")) bob perms first_bytes
    ∷ []

-- bob's request to share the first share with this guest, and that request taken back
abbrev pub request_for : Address → List ℕ → Ask
request_for with fresh = Notice (notices.ReshareRequest (codes "1") first_secret with (codes "1") None) fresh

abbrev pub undo_of_second : Ask
undo_of_second = Notice (notices.ReshareUndo (codes "2") first_secret) no_bytes

-- bob's server, and bob as a new user there
abbrev pub host_of_bob : List ℕ
host_of_bob = codes "b.example"

abbrev pub add_bob : Ask
add_bob = AddUser (codes "bob") (sixteen_of 187)

-- the offer of alice's file `/f` to bob
abbrev pub offer_to_bob : Offer
offer_to_bob = record {
  with = bob;
  name = codes "f";
  id = codes "1";
  owner = alice;
  sender = alice;
  secret = first_secret;
  perms = all_rights;
}

-- what alice's server tells of this share's permissions
abbrev pub change_for_bob : ℕ → Rights → Ask
change_for_bob serial perms = Notice (notices.Changed (codes "1") first_secret serial perms) no_bytes

-- that the share ended
abbrev pub unshared_for_bob : Ask
unshared_for_bob = Notice (notices.Unshared (codes "1") first_secret) no_bytes

-- bob's commands
abbrev pub bob_commands : Cmd → Ask
bob_commands cmd = Local bob_key cmd

-- the paths `/c`, `/d` and `/f`
abbrev pub path_c : Segments
path_c = path_of_one (codes "c")

abbrev pub path_d : Segments
path_d = path_of_one (codes "d")

abbrev pub path_f : Segments
path_f = path_of_one (codes "f")

-- the chain at alice's server: alice shares `/f` with bob, who has it shared with carol, who has it shared with dan; each offer is taken and accepted
abbrev pub accepted_by : List ℕ → List ℕ → Address → Ask
accepted_by id secret guest = Notice (notices.Accepted id secret (Some alice) (Some guest) (Some all_rights)) no_bytes

abbrev pub chain : List Ask
chain =
    add_alice
    ∷ put_by alice_key path_f (codes "hi")
    ∷ alice_shares path_f bob all_rights first_bytes
    ∷ asks.Settle 1 201 None
    ∷ accepted_by (codes "1") first_secret bob
    ∷ request_for carol second_bytes
    ∷ asks.Settle 2 201 None
    ∷ accepted_by (codes "2") second_secret carol
    ∷ Notice (notices.ReshareRequest (codes "2") second_secret dan (codes "1") None) third_bytes
    ∷ asks.Settle 3 201 None
    ∷ accepted_by (codes "3") third_secret dan
    ∷ []

-- the offer of one of these shares
abbrev pub offer_in_chain : ℕ → List ℕ → Address → Address → Offer
offer_in_chain id secret sender guest = record {
  with = guest;
  name = codes "f";
  id = decimal id;
  owner = alice;
  sender = sender;
  secret = secret;
  perms = all_rights;
}

-- a message of alice's server
abbrev pub message_to : ℕ → Address → Letter → Numbered
message_to number guest letter = record { number = number; to = guest.host; letter = letter }

-- that one of these shares ended, and that its guest has these permissions
abbrev pub end_told : ℕ → Address → ℕ → List ℕ → Numbered
end_told number guest id secret = message_to number guest (letters.Notice (notices.Unshared (decimal id) secret))

abbrev pub change_told : ℕ → Address → ℕ → List ℕ → ℕ → Rights → Numbered
change_told number guest id secret serial perms = message_to number guest (letters.Notice (notices.Changed (decimal id) secret serial perms))

-- the chain at bob's server, up to his request to share with carol
abbrev pub chain_at_bob : List Ask
chain_at_bob =
    add_bob
    ∷ asks.Offer offer_to_bob
    ∷ bob_commands (Accept 1)
    ∷ asks.Settle 1 201 None
    ∷ bob_commands (Reshare 1 carol None)
    ∷ []
