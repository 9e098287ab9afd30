-- How bytes are read as an ask: from left to right, field by field, up to the first fault.
use Rattle.std.specs.Prelude.{◌≡◌, ℕ, ◌/◌, ◌%◌, ◌==◌, Bool, true, false, nat_lt, if◌then◌else◌, List, [], ◌∷◌, length, take, drop, Option, Some, None, Result, Ok, Err}
use Rattle.std.specs.Int.{Width, w16, w32, w64, byte_len, from_be_bytes}
use Rattle.std.specs.Str.{is_utf8}
use Rattle.ocm_limits.specs.Limits.{most_file_bytes}
use Rattle.ocm_types.specs.declared.addresses.Address.{Address}
use Rattle.ocm_types.specs.declared.rights.Rights.{Rights}
use Rattle.ocm_types.specs.declared.letters.Offer.{Offer}
use Rattle.ocm_types.specs.declared.letters.Notice.{Notice}
use Rattle.ocm_types.specs.declared.letters.Notice.TheVariants as notices
use Rattle.ocm_types.specs.Addresses.{canonical_address_of}
use Rattle.ocm_types.specs.Rights.{perms_from}
use Rattle.ocm_types.specs.Texts.{name_of, share_name_of, provider_id_of, sender_id_of, secret_of}
use Rattle.ocm_path.specs.Paths.{Segments}
use Rattle.ocm_path.specs.PathTexts.{path_with_text}
use Rattle.ocm_entry.specs.declared.asks.Ask.{Ask}
use Rattle.ocm_entry.specs.declared.asks.Ask.TheVariants as asks
use Rattle.ocm_entry.specs.declared.asks.Cmd.{Cmd}
use Rattle.ocm_entry.specs.declared.asks.Cmd.TheVariants as commands
use Rattle.ocm_entry.specs.declared.asks.Method.{Method}
use Rattle.ocm_entry.specs.declared.asks.Method.TheVariants as methods
use Rattle.ocm_entry_bytes.specs.declared.entry_faults.EntryFault.{EntryFault}
use Rattle.ocm_entry_bytes.specs.declared.entry_faults.EntryFault.TheVariants as faults

-- one reading after another, up to the first fault
infixl 10 ◌>>=◌
abbrev pub ◌>>=◌ : {A B : Type 0} → Result A EntryFault → (A → Result B EntryFault) → Result B EntryFault
(Ok x) >>= f = f x
(Err e) >>= f = Err e

-- a fault is the one that reading gives; want of memory may come at any bytes
abbrev pub Fails : {Y : Type 0} → EntryFault → Result Y EntryFault → Type 0
Fails faults.NoMemory read = Unit {0}
Fails e read = read ≡ Err e

-- what a function returned, seen by view, is what reading gives, unless memory ran out
abbrev pub Gives : {X Y : Type 0} → (X → Y) → Result X EntryFault → Result Y EntryFault → Type 0
Gives view (Ok x) read = read ≡ Ok (view x)
Gives view (Err e) read = Fails e read

-- a value from the front of bytes, and the bytes after it
abbrev pub Reading : Type 0 → Type 0
Reading A = List ℕ → Result (A × List ℕ) EntryFault

-- a value made of fields, each read where the one before it ends
abbrev pub reads1 : {A V : Type 0} → (A → V) → Reading A → Reading V
reads1 make a bytes = a bytes >>= λ x. Ok (make x.0, x.1)

abbrev pub reads2 : {A B V : Type 0} → (A → B → V) → Reading A → Reading B → Reading V
reads2 make a b bytes = a bytes >>= λ x. reads1 (make x.0) b x.1

abbrev pub reads3 : {A B C V : Type 0} → (A → B → C → V) → Reading A → Reading B → Reading C → Reading V
reads3 make a b c bytes = a bytes >>= λ x. reads2 (make x.0) b c x.1

abbrev pub reads4 : {A B C D V : Type 0} → (A → B → C → D → V) → Reading A → Reading B → Reading C → Reading D → Reading V
reads4 make a b c d bytes = a bytes >>= λ x. reads3 (make x.0) b c d x.1

abbrev pub reads5 : {A B C D E V : Type 0} → (A → B → C → D → E → V) → Reading A → Reading B → Reading C → Reading D → Reading E → Reading V
reads5 make a b c d e bytes = a bytes >>= λ x. reads4 (make x.0) b c d e x.1

abbrev pub reads7 : {A B C D E F G V : Type 0} → (A → B → C → D → E → F → G → V) → Reading A → Reading B → Reading C → Reading D → Reading E → Reading F → Reading G → Reading V
reads7 make a b c d e f g bytes = a bytes >>= λ x. b x.1 >>= λ y. reads5 (make x.0 y.0) c d e f g y.1

-- a value, where the bytes before these are one
abbrev pub found : {A : Type 0} → Option A → List ℕ → Result (A × List ℕ) EntryFault
found None rest = Err faults.Value
found (Some x) rest = Ok (x, rest)

-- ---- the fields

unfoldable pub byte_at : Reading ℕ
byte_at [] = Err faults.Length
byte_at (b ∷ rest) = Ok (b, rest)

-- that many bytes
unfoldable pub bytes_at : ℕ → Reading (List ℕ)
bytes_at count bytes = if nat_lt (length bytes) count then Err faults.Length else Ok (take count bytes, drop count bytes)

-- a big-endian number
abbrev pub number_at : Width → Reading ℕ
number_at w bytes = bytes_at (byte_len w) bytes >>= λ x. Ok (from_be_bytes w x.0, x.1)

unfoldable pub two_bytes_at : Reading ℕ
two_bytes_at bytes = number_at w16 bytes

unfoldable pub four_bytes_at : Reading ℕ
four_bytes_at bytes = number_at w32 bytes

unfoldable pub eight_bytes_at : Reading ℕ
eight_bytes_at bytes = number_at w64 bytes

-- two bytes of length, and a text
unfoldable pub text_at : Reading (List ℕ)
text_at bytes = do
  n ← two_bytes_at bytes
  t ← bytes_at n.0 n.1
  if is_utf8 t.0 then Ok t else Err faults.Value

-- a value by its text
abbrev pub text_as : {A : Type 0} → (List ℕ → Option A) → Reading A
text_as read bytes = text_at bytes >>= λ t. found (read t.0) t.1

unfoldable pub name_at : Reading (List ℕ)
name_at bytes = text_as name_of bytes

unfoldable pub share_name_at : Reading (List ℕ)
share_name_at bytes = text_as share_name_of bytes

unfoldable pub provider_id_at : Reading (List ℕ)
provider_id_at bytes = text_as provider_id_of bytes

unfoldable pub sender_id_at : Reading (List ℕ)
sender_id_at bytes = text_as sender_id_of bytes

unfoldable pub secret_at : Reading (List ℕ)
secret_at bytes = text_as secret_of bytes

unfoldable pub address_at : Reading Address
address_at bytes = text_as canonical_address_of bytes

unfoldable pub path_at : Reading Segments
path_at bytes = text_as path_with_text bytes

-- four bytes of length, and a body of at most so many bytes
unfoldable pub body_at : ℕ → Reading (List ℕ)
body_at most bytes = do
  n ← four_bytes_at bytes
  b ← bytes_at n.0 n.1
  if nat_lt most n.0 then Err faults.Value else Ok b

unfoldable pub fresh_at : Reading (List ℕ)
fresh_at bytes = bytes_at 16 bytes

-- whether a number has this bit, which is a power of 2
abbrev pub has_bit : ℕ → ℕ → Bool
has_bit bit n = n / bit % 2 == 1

-- read is 1, write is 2, share is 4
abbrev pub rights_of_number : ℕ → Rights
rights_of_number n = record { read = has_bit 1 n; write = has_bit 2 n; share = has_bit 4 n }

-- one byte from 1 to 7
abbrev pub perms_of_number : ℕ → Option Rights
perms_of_number n = if nat_lt 7 n then None else perms_from (rights_of_number n)

unfoldable pub perms_at : Reading Rights
perms_at bytes = byte_at bytes >>= λ b. found (perms_of_number b.0) b.1

-- the byte 0 or 1: whether something follows
unfoldable pub flag_at : Reading Bool
flag_at bytes = do
  b ← byte_at bytes
  if b.0 == 0 then Ok (false, b.1) else if b.0 == 1 then Ok (true, b.1) else Err faults.Value

-- what follows, where something does
unfoldable pub optional_at : {A : Type 0} → Reading A → Reading (Option A)
optional_at read bytes = flag_at bytes >>= λ some. if some.0 then reads1 Some read some.1 else Ok (None, some.1)

-- moving is 1, overwriting is 2
abbrev pub carry_of_number : ℕ → Option (Bool × Bool)
carry_of_number n = if nat_lt 3 n then None else Some (has_bit 1 n, has_bit 2 n)

unfoldable pub carry_byte_at : Reading (Bool × Bool)
carry_byte_at bytes = byte_at bytes >>= λ b. found (carry_of_number b.0) b.1

-- ---- what a first byte tells

abbrev pub chosen : {A : Type 0} → ℕ → List (ℕ × Reading A) → Reading A
chosen tag [] bytes = Err faults.Tag
chosen tag (c ∷ cases) bytes = if tag == c.0 then c.1 bytes else chosen tag cases bytes

-- a byte that tells what follows
abbrev pub tagged : {A : Type 0} → List (ℕ × Reading A) → Reading A
tagged cases bytes = byte_at bytes >>= λ tag. chosen tag.0 cases tag.1

-- ---- the asks

unfoldable pub share_at : Reading Cmd
share_at bytes = reads4 commands.Share path_at address_at perms_at fresh_at bytes

unfoldable pub unshare_at : Reading Cmd
unshare_at bytes = reads1 commands.Unshare four_bytes_at bytes

unfoldable pub limit_at : Reading Cmd
limit_at bytes = reads2 commands.Limit four_bytes_at perms_at bytes

unfoldable pub accept_at : Reading Cmd
accept_at bytes = reads1 commands.Accept four_bytes_at bytes

unfoldable pub decline_at : Reading Cmd
decline_at bytes = reads1 commands.Decline four_bytes_at bytes

unfoldable pub reshare_at : Reading Cmd
reshare_at bytes = reads3 commands.Reshare four_bytes_at address_at (optional_at perms_at) bytes

unfoldable pub undo_at : Reading Cmd
undo_at bytes = reads1 commands.Undo four_bytes_at bytes

unfoldable pub expire_at : Reading Cmd
expire_at bytes = reads2 commands.Expire four_bytes_at eight_bytes_at bytes

unfoldable pub command_at : Reading Cmd
command_at bytes =
    tagged ((1, share_at) ∷ (2, unshare_at) ∷ (3, limit_at) ∷ (4, accept_at) ∷ (5, decline_at) ∷ (6, reshare_at) ∷ (7, undo_at) ∷ (8, expire_at) ∷ []) bytes

abbrev pub offer_of : Address → List ℕ → List ℕ → Address → Address → List ℕ → Rights → Offer
offer_of with name id owner sender secret perms =
    record { with = with; name = name; id = id; owner = owner; sender = sender; secret = secret; perms = perms }

unfoldable pub offer_at : Reading Offer
offer_at bytes = reads7 offer_of address_at share_name_at provider_id_at address_at address_at secret_at perms_at bytes

unfoldable pub accepted_at : Reading Notice
accepted_at bytes = reads5 notices.Accepted provider_id_at secret_at (optional_at address_at) (optional_at address_at) (optional_at perms_at) bytes

unfoldable pub declined_at : Reading Notice
declined_at bytes = reads2 notices.Declined provider_id_at secret_at bytes

unfoldable pub unshared_at : Reading Notice
unshared_at bytes = reads2 notices.Unshared provider_id_at secret_at bytes

unfoldable pub reshare_request_at : Reading Notice
reshare_request_at bytes = reads5 notices.ReshareRequest provider_id_at secret_at address_at sender_id_at (optional_at perms_at) bytes

unfoldable pub reshare_undo_at : Reading Notice
reshare_undo_at bytes = reads2 notices.ReshareUndo provider_id_at secret_at bytes

unfoldable pub changed_at : Reading Notice
changed_at bytes = reads4 notices.Changed provider_id_at secret_at four_bytes_at perms_at bytes

unfoldable pub notice_at : Reading Notice
notice_at bytes =
    tagged ((1, accepted_at) ∷ (2, declined_at) ∷ (3, unshared_at) ∷ (4, reshare_request_at) ∷ (5, reshare_undo_at) ∷ (6, changed_at) ∷ []) bytes

unfoldable pub dav_of : Method → ℕ → Reading Ask
dav_of method most bytes = reads3 (λ secret path body. asks.Dav secret method path body) secret_at path_at (body_at most) bytes

-- PUT with a file of at most 1,048,576 bytes, DELETE and MKCOL without a body
unfoldable pub dav_at : Reading Ask
dav_at bytes = tagged ((1, dav_of methods.Put most_file_bytes) ∷ (2, dav_of methods.Delete 0) ∷ (3, dav_of methods.Mkcol 0) ∷ []) bytes

unfoldable pub add_user_at : Reading Ask
add_user_at bytes = reads2 asks.AddUser name_at fresh_at bytes

unfoldable pub local_at : Reading Ask
local_at bytes = reads2 asks.Local secret_at command_at bytes

unfoldable pub offered_at : Reading Ask
offered_at bytes = reads1 asks.Offer offer_at bytes

unfoldable pub noticed_at : Reading Ask
noticed_at bytes = reads2 asks.Notice notice_at fresh_at bytes

unfoldable pub settle_at : Reading Ask
settle_at bytes = reads3 asks.Settle four_bytes_at two_bytes_at (optional_at provider_id_at) bytes

unfoldable pub tick_at : Reading Ask
tick_at bytes = reads1 asks.Tick eight_bytes_at bytes

abbrev pub carry_of : List ℕ → Segments → Segments → Bool × Bool → Ask
carry_of secret from to how = asks.Carry secret from to how.0 how.1

unfoldable pub carry_at : Reading Ask
carry_at bytes = reads4 carry_of secret_at path_at path_at carry_byte_at bytes

unfoldable pub ask_at : Reading Ask
ask_at bytes =
    tagged ((1, add_user_at) ∷ (2, local_at) ∷ (3, offered_at) ∷ (4, noticed_at) ∷ (5, dav_at) ∷ (6, settle_at) ∷ (7, tick_at) ∷ (8, carry_at) ∷ []) bytes

-- the ask of all the bytes
unfoldable pub ask_of : List ℕ → Result Ask EntryFault
ask_of bytes = do
  a ← ask_at bytes
  if length a.1 == 0 then Ok a.0 else Err faults.Rest
