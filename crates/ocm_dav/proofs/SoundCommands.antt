-- Each command that is read of a record is proper.
use Rattle.std.proofs.Common.{ℕ, List, Option, Some, None, Result, Ok, Err, refl}
use Rattle.std.specs.Prelude.{IsTrue}
use Rattle.serde_json.specs.Data.{Data}
use Rattle.ocm_json.specs.Json.{object_of}
use Rattle.ocm_path.specs.Paths.{Segments, path_given}
use Rattle.ocm_entry.specs.Proper.{is_proper, is_short}
use Rattle.ocm_entry.specs.declared.asks.Ask.TheVariants as asks
use Rattle.ocm_records.specs.Kinds.{◌>>=◌, each, taken, text_at, optional}
use Rattle.ocm_records.specs.Readings.{path, address, perms, number, user_name}
use Rattle.ocm_records.specs.Rows.{or_else, required, opened, record_of}
use Rattle.ocm_records.specs.Commands.{command_name, moment, asked, local, share, limit, expire, reshare, user, unshare, accept, decline, undo}
use Rattle.ocm_records.specs.declared.choices.Command.{Command}
use Rattle.ocm_records.specs.declared.choices.Command.TheVariants as names
use Rattle.ocm_records.specs.declared.faults.Field.{Field}
use Rattle.ocm_records.specs.declared.faults.Field.TheVariants as fields
use Rattle.ocm_records.specs.declared.faults.RecordFault.{RecordFault}
use Rattle.ocm_records.specs.declared.faults.RecordFault.TheVariants as faults
use Rattle.ocm_records.specs.declared.values.LocalAsk.{LocalAsk}
use Rattle.ocm_records.specs.declared.values.LocalAsk.TheVariants as locals
use Rattle.ocm_dav.proofs.ShortPaths.{IsShortIf, short-path_given}

-- what a reading gives has a property
abbrev pub Gives : {A : Type 0} → (A → Type 0) → Result A RecordFault → Type 0
Gives P (Ok x) = P x
Gives P (Err fault) = Unit {0}

-- one reading after another gives what the second gives
behind : {A B : Type 0} (Q : B → Type 0) (r : Result A RecordFault) (f : A → Result B RecordFault) → ((x : A) → Gives Q (f x)) → Gives Q (r >>= f)
behind Q (Ok x) f h = h x
behind Q (Err fault) f h = tt

-- with a property of what the first gives
behind_with : {A B : Type 0} (P : A → Type 0) (Q : B → Type 0) (r : Result A RecordFault) (f : A → Result B RecordFault) → Gives P r → ((x : A) → P x → Gives Q (f x)) → Gives Q (r >>= f)
behind_with P Q (Ok x) f p h = h x p
behind_with P Q (Err fault) f p h = tt

-- a path in a record is short
abbrev pub IsShort : Segments → Type 0
IsShort segments = IsTrue (is_short segments)

held : (f : Field) (given : Option Segments) → IsShortIf given → Gives IsShortIf (taken f given >>= λ y. Ok (Some y))
held f (Some segments) h = h
held f None h = tt

read : (f : Field) (text : Option (List ℕ)) → Gives IsShortIf (each (λ s. taken f (path_given s)) text)
read f None = tt
read f (Some s) = held f (path_given s) (short-path_given s)

there : (f : Field) (given : Option Segments) → IsShortIf given → Gives IsShort (or_else (Err (faults.Missing f)) given)
there f (Some segments) h = h
there f None h = tt

short-path : (d : Data) (f : Field) → Gives IsShort (required d f path)
short-path d f =
    behind_with IsShortIf IsShort (optional d f path) (or_else (Err (faults.Missing f)))
    (behind IsShortIf (text_at d f) (each (λ s. taken f (path_given s))) (read f)) (there f)

-- a command is proper whoever gives it
abbrev pub IsProperLocal : LocalAsk → Type 0
IsProperLocal (locals.User name) = Unit {0}
IsProperLocal (locals.Command cmd) = (key : List ℕ) → IsTrue (is_proper (asks.Local key cmd))

proper-share : (fresh : List ℕ) (d : Data) → Gives IsProperLocal (share fresh d)
unfolding share
proper-share fresh d =
    behind_with IsShort IsProperLocal (required d fields.Path path) _ (short-path d fields.Path)
    (λ segments short. behind IsProperLocal (required d fields.With address) _
    (λ with. behind IsProperLocal (required d fields.Permissions perms) _ (λ rights. λ key. short)))

proper-unshare : (d : Data) → Gives IsProperLocal (unshare d)
unfolding unshare
proper-unshare d = behind IsProperLocal (required d fields.Number number) _ (λ id. λ key. refl)

proper-limit : (d : Data) → Gives IsProperLocal (limit d)
unfolding limit
proper-limit d =
    behind IsProperLocal (required d fields.Number number) _
    (λ id. behind IsProperLocal (required d fields.Permissions perms) _ (λ rights. λ key. refl))

proper-expire : (d : Data) → Gives IsProperLocal (expire d)
unfolding expire
proper-expire d =
    behind IsProperLocal (required d fields.Number number) _
    (λ id. behind IsProperLocal (required d fields.Until moment) _ (λ until. λ key. refl))

proper-accept : (d : Data) → Gives IsProperLocal (accept d)
unfolding accept
proper-accept d = behind IsProperLocal (required d fields.Number number) _ (λ id. λ key. refl)

proper-decline : (d : Data) → Gives IsProperLocal (decline d)
unfolding decline
proper-decline d = behind IsProperLocal (required d fields.Number number) _ (λ id. λ key. refl)

proper-reshare : (d : Data) → Gives IsProperLocal (reshare d)
unfolding reshare
proper-reshare d =
    behind IsProperLocal (required d fields.Number number) _
    (λ id. behind IsProperLocal (required d fields.With address) _
    (λ with. behind IsProperLocal (optional d fields.Permissions perms) _ (λ rights. λ key. refl)))

proper-undo : (d : Data) → Gives IsProperLocal (undo d)
unfolding undo
proper-undo d = behind IsProperLocal (required d fields.Number number) _ (λ id. λ key. refl)

proper-user : (d : Data) → Gives IsProperLocal (user d)
unfolding user
proper-user d = behind IsProperLocal (required d fields.Name user_name) _ (λ name. tt)

proper-asked : (fresh : List ℕ) (d : Data) (command : Command) → Gives IsProperLocal (asked fresh d command)
proper-asked fresh d names.User = proper-user d
proper-asked fresh d names.Share = proper-share fresh d
proper-asked fresh d names.Unshare = proper-unshare d
proper-asked fresh d names.Limit = proper-limit d
proper-asked fresh d names.Expire = proper-expire d
proper-asked fresh d names.Accept = proper-accept d
proper-asked fresh d names.Decline = proper-decline d
proper-asked fresh d names.Reshare = proper-reshare d
proper-asked fresh d names.Undo = proper-undo d
proper-asked fresh d names.List = λ key. refl

proper-local : (fresh : List ℕ) (d : Data) → Gives IsProperLocal (local fresh d)
unfolding local
proper-local fresh d = behind IsProperLocal (required d fields.Command command_name) _ (proper-asked fresh d)

-- a command that bytes spell is proper
pub proper-record : (fresh bytes : List ℕ) → Gives IsProperLocal (record_of (local fresh) bytes)
proper-record fresh bytes = behind IsProperLocal (opened (object_of bytes)) (local fresh) (proper-local fresh)
