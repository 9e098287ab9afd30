-- The forms of a script's lines: for each its first word, and the row of the words behind it.
--
-- HOST, a host that an earlier line names, is known named; a key or secret is secret_word; drawn bytes are
-- fresh_word; a number is number_word most_number; a path is path_word; an address is address_word; permissions
-- are perms_word.
use Rattle.std.specs.Prelude.{ℕ, List, [], ◌∷◌, ◌++◌, Bool, true, false, bytes_eq, Option, Some, None, option_map, if◌then◌else◌, codes}
use Rattle.ocm_entry.specs.declared.asks.Cmd.TheVariants as commands
use Rattle.ocm_entry.specs.declared.asks.Method.{Method}
use Rattle.ocm_entry.specs.declared.asks.Method.TheVariants as methods
use Rattle.ocm_records.specs.Offers.{offer}
use Rattle.ocm_records.specs.Notices.{notice}
use Rattle.ocm_records.specs.Rows.{record_of}
use Rattle.ocm_script.specs.Words.{◌▸◌, ends, remaining, known, new_host, name_word, secret_word, fresh_word, address_word, perms_word, perms_if_word, number_word, most_number, path_word, digits_word, overwrite_word, crash_word}
use Rattle.ocm_script.specs.Bodies.{body_of}
use Rattle.ocm_disk.specs.declared.crashes.Crash.TheVariants as crashes
use Rattle.ocm_script.specs.declared.events.Event.{Event}
use Rattle.ocm_script.specs.declared.events.Event.TheVariants.{Node, User, Local, Dav, Put, Carry, Clock, Offer, Notice, Raw, Deliver, Pump, Fuse, Crash}

-- how the words behind the first are read, where lines before named these hosts
abbrev pub Reading : Type 0
Reading = List (List ℕ) → Option (List ℕ) → Option Event

-- node HOST
unfoldable pub node_line : Reading
node_line named = new_host named ▸ λ h. ends (Node h)

-- user HOST NAME FRESH
unfoldable pub user_line : Reading
user_line named = known named ▸ λ h. name_word ▸ λ n. fresh_word ▸ λ f. ends (User h n f)

-- share HOST KEY PATH ADDRESS PERMISSIONS FRESH
unfoldable pub share_line : Reading
share_line named = known named ▸ λ h. secret_word ▸ λ k. path_word ▸ λ p. address_word ▸ λ w. perms_word ▸ λ r. fresh_word ▸ λ f. ends (Local h k (commands.Share p w r f))

-- unshare HOST KEY ID
unfoldable pub unshare_line : Reading
unshare_line named = known named ▸ λ h. secret_word ▸ λ k. number_word most_number ▸ λ i. ends (Local h k (commands.Unshare i))

-- limit HOST KEY ID PERMISSIONS
unfoldable pub limit_line : Reading
limit_line named = known named ▸ λ h. secret_word ▸ λ k. number_word most_number ▸ λ i. perms_word ▸ λ r. ends (Local h k (commands.Limit i r))

-- accept HOST KEY NUMBER
unfoldable pub accept_line : Reading
accept_line named = known named ▸ λ h. secret_word ▸ λ k. number_word most_number ▸ λ i. ends (Local h k (commands.Accept i))

-- decline HOST KEY NUMBER
unfoldable pub decline_line : Reading
decline_line named = known named ▸ λ h. secret_word ▸ λ k. number_word most_number ▸ λ i. ends (Local h k (commands.Decline i))

-- reshare HOST KEY NUMBER ADDRESS PERMISSIONS, or `-` for no permissions
unfoldable pub reshare_line : Reading
reshare_line named = known named ▸ λ h. secret_word ▸ λ k. number_word most_number ▸ λ i. address_word ▸ λ w. perms_if_word ▸ λ r. ends (Local h k (commands.Reshare i w r))

-- undo HOST KEY REQUEST
unfoldable pub undo_line : Reading
undo_line named = known named ▸ λ h. secret_word ▸ λ k. number_word most_number ▸ λ i. ends (Local h k (commands.Undo i))

-- list HOST KEY
unfoldable pub list_line : Reading
list_line named = known named ▸ λ h. secret_word ▸ λ k. ends (Local h k commands.List)

-- expire HOST KEY ID END
unfoldable pub expire_line : Reading
expire_line named = known named ▸ λ h. secret_word ▸ λ k. number_word most_number ▸ λ i. number_word most_number ▸ λ u. ends (Local h k (commands.Expire i u))

-- METHOD HOST SECRET PATH, for a method without a body
unfoldable pub dav_line : Method → Reading
dav_line method named = known named ▸ λ h. secret_word ▸ λ k. path_word ▸ λ p. ends (Dav h k method p)

-- put HOST SECRET PATH BODY
unfoldable pub put_line : Reading
put_line named = known named ▸ λ h. secret_word ▸ λ k. path_word ▸ λ p. remaining (λ j. option_map (Put h k p) (body_of j))

-- copy or move HOST SECRET PATH PATH, and overwrite or keep
unfoldable pub carry_line : Bool → Reading
carry_line moving named = known named ▸ λ h. secret_word ▸ λ k. path_word ▸ λ p. path_word ▸ λ q. overwrite_word ▸ λ o. ends (Carry h k p q moving o)

-- clock HOST SECONDS
unfoldable pub clock_line : Reading
clock_line named = known named ▸ λ h. number_word most_number ▸ λ i. ends (Clock h i)

-- offer HOST J
unfoldable pub offer_line : Reading
offer_line named = known named ▸ λ h. remaining (λ j. Some (Offer h (record_of offer j)))

-- notice HOST FRESH J
unfoldable pub notice_line : Reading
notice_line named = known named ▸ λ h. fresh_word ▸ λ f. remaining (λ j. Some (Notice h f (record_of notice j)))

-- raw HOST FRESH DIGITS
unfoldable pub raw_line : Reading
raw_line named = known named ▸ λ h. fresh_word ▸ λ f. digits_word ▸ λ b. ends (Raw h f b)

-- deliver or lost HOST NUMBER FRESH
unfoldable pub deliver_line : Bool → Reading
deliver_line lost named = known named ▸ λ h. number_word most_number ▸ λ i. fresh_word ▸ λ f. ends (Deliver h i f lost)

-- pump HOST FRESH
unfoldable pub pump_line : Reading
pump_line named = known named ▸ λ h. fresh_word ▸ λ f. ends (Pump h f)

-- fuse HOST CALLS
unfoldable pub fuse_line : Reading
fuse_line named = known named ▸ λ h. number_word most_number ▸ λ i. ends (Fuse h i)

-- crash HOST, and old, new or torn
unfoldable pub crash_line : Reading
crash_line named = known named ▸ λ h. crash_word ▸ λ m. ends (Crash h m)

-- restart HOST: the same as crash HOST new
unfoldable pub restart_line : Reading
restart_line named = known named ▸ λ h. ends (Crash h crashes.New)

-- a form: the first word, and how the rest is read
abbrev pub Form : Type 0
Form = List ℕ × Reading

-- the forms that a server's files are reached by
abbrev pub file_forms : List Form
file_forms =
    (codes "get", dav_line methods.Get)
    ∷ (codes "head", dav_line methods.Head)
    ∷ (codes "delete", dav_line methods.Delete)
    ∷ (codes "mkcol", dav_line methods.Mkcol)
    ∷ (codes "list0", dav_line methods.List0)
    ∷ (codes "list1", dav_line methods.List1)
    ∷ (codes "put", put_line)
    ∷ (codes "copy", carry_line false)
    ∷ (codes "move", carry_line true)
    ∷ []

-- the forms of a user's commands
abbrev pub command_forms : List Form
command_forms =
    (codes "share", share_line)
    ∷ (codes "unshare", unshare_line)
    ∷ (codes "limit", limit_line)
    ∷ (codes "accept", accept_line)
    ∷ (codes "decline", decline_line)
    ∷ (codes "reshare", reshare_line)
    ∷ (codes "undo", undo_line)
    ∷ (codes "list", list_line)
    ∷ (codes "expire", expire_line)
    ∷ []

-- the forms that servers speak with one another by
abbrev pub letter_forms : List Form
letter_forms =
    (codes "offer", offer_line)
    ∷ (codes "notice", notice_line)
    ∷ (codes "raw", raw_line)
    ∷ (codes "deliver", deliver_line false)
    ∷ (codes "lost", deliver_line true)
    ∷ (codes "pump", pump_line)
    ∷ []

-- the forms that make a server, tell it the time, and stop it
abbrev pub server_forms : List Form
server_forms =
    (codes "node", node_line)
    ∷ (codes "user", user_line)
    ∷ (codes "clock", clock_line)
    ∷ (codes "fuse", fuse_line)
    ∷ (codes "crash", crash_line)
    ∷ (codes "restart", restart_line)
    ∷ []

-- a line by the first of these forms whose word it begins with
abbrev pub line_by : List Form → List (List ℕ) → List ℕ × Option (List ℕ) → Option Event
line_by [] named line = None
line_by (form ∷ forms) named line = if bytes_eq line.0 form.0 then form.1 named line.1 else line_by forms named line

-- a line by its first word
abbrev pub line_of : List (List ℕ) → List ℕ × Option (List ℕ) → Option Event
line_of named line = line_by (file_forms ++ command_forms ++ letter_forms ++ server_forms) named line
