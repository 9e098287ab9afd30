-- The table of a local command.
use Rattle.std.specs.Prelude.{ℕ, List, [], ◌∷◌, codes, Result, Ok}
use Rattle.serde_json.specs.Data.{Data}
use Rattle.ocm_entry.specs.declared.asks.Cmd.TheVariants as commands
use Rattle.ocm_records.specs.Kinds.{Kind, word, whole, bad_but}
use Rattle.ocm_records.specs.Readings.{within, user_name, address, path, number, perms}
use Rattle.ocm_records.specs.Kinds.{◌>>=◌}
use Rattle.ocm_records.specs.Kinds.{optional}
use Rattle.ocm_records.specs.Rows.{required}
use Rattle.ocm_records.specs.declared.choices.Command.{Command}
use Rattle.ocm_records.specs.declared.choices.Command.TheVariants as names
use Rattle.ocm_records.specs.declared.values.LocalAsk.{LocalAsk}
use Rattle.ocm_records.specs.declared.values.LocalAsk.TheVariants as asks
use Rattle.ocm_records.specs.declared.faults.Field.TheVariants as fields
use Rattle.ocm_records.specs.declared.faults.RecordFault.{RecordFault}

-- the names of commands
abbrev pub command_words : List (List ℕ × Command)
command_words =
    (codes "user", names.User)
    ∷ (codes "share", names.Share)
    ∷ (codes "unshare", names.Unshare)
    ∷ (codes "limit", names.Limit)
    ∷ (codes "expire", names.Expire)
    ∷ (codes "accept", names.Accept)
    ∷ (codes "decline", names.Decline)
    ∷ (codes "reshare", names.Reshare)
    ∷ (codes "undo", names.Undo)
    ∷ (codes "list", names.List)
    ∷ []

abbrev pub command_name : Kind Command
command_name = word command_words (bad_but [])

-- a moment, in whole seconds since the epoch, below 2^63
abbrev pub moment : Kind ℕ
moment = whole (within 0 9223372036854775807)

unfoldable pub share : List ℕ → Data → Result LocalAsk RecordFault
share fresh d = do
  path ← required d fields.Path path
  with ← required d fields.With address
  perms ← required d fields.Permissions perms
  Ok (asks.Command (commands.Share path with perms fresh))

unfoldable pub limit : Data → Result LocalAsk RecordFault
limit d = do
  id ← required d fields.Number number
  perms ← required d fields.Permissions perms
  Ok (asks.Command (commands.Limit id perms))

unfoldable pub expire : Data → Result LocalAsk RecordFault
expire d = do
  id ← required d fields.Number number
  until ← required d fields.Until moment
  Ok (asks.Command (commands.Expire id until))

unfoldable pub reshare : Data → Result LocalAsk RecordFault
reshare d = do
  number ← required d fields.Number number
  with ← required d fields.With address
  perms ← optional d fields.Permissions perms
  Ok (asks.Command (commands.Reshare number with perms))

unfoldable pub user : Data → Result LocalAsk RecordFault
user d = do
  name ← required d fields.Name user_name
  Ok (asks.User name)

unfoldable pub unshare : Data → Result LocalAsk RecordFault
unshare d = do
  id ← required d fields.Number number
  Ok (asks.Command (commands.Unshare id))

unfoldable pub accept : Data → Result LocalAsk RecordFault
accept d = do
  number ← required d fields.Number number
  Ok (asks.Command (commands.Accept number))

unfoldable pub decline : Data → Result LocalAsk RecordFault
decline d = do
  number ← required d fields.Number number
  Ok (asks.Command (commands.Decline number))

unfoldable pub undo : Data → Result LocalAsk RecordFault
undo d = do
  request ← required d fields.Number number
  Ok (asks.Command (commands.Undo request))

-- the further fields of each command
abbrev pub asked : List ℕ → Data → Command → Result LocalAsk RecordFault
asked fresh d names.User = user d
asked fresh d names.Share = share fresh d
asked fresh d names.Unshare = unshare d
asked fresh d names.Limit = limit d
asked fresh d names.Expire = expire d
asked fresh d names.Accept = accept d
asked fresh d names.Decline = decline d
asked fresh d names.Reshare = reshare d
asked fresh d names.Undo = undo d
asked fresh d names.List = Ok (asks.Command commands.List)

unfoldable pub local : List ℕ → Data → Result LocalAsk RecordFault
local fresh d = do
  command ← required d fields.Command command_name
  asked fresh d command
