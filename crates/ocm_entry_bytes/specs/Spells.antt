-- The bytes of an ask, as a journal keeps them. Numbers are big-endian.
use Rattle.std.specs.Prelude.{◌≡◌, ℕ, ◌+◌, ◌<◌, ◌≤◌, ◌^◌, Bool, true, false, ◌&&◌, nat_le, if◌then◌else◌, List, [], ◌∷◌, ◌++◌, length, Option, Some, None, IsTrue, IfSome}
use Rattle.std.specs.Int.{w16, w32, w64, to_be_bytes}
use Rattle.std.specs.Str.{is_utf8}
use Rattle.ocm_limits.specs.Limits.{most_file_bytes}
pub use Rattle.ocm_texts.specs.Hex.{AreBytes}
use Rattle.ocm_types.specs.declared.addresses.Address.{Address}
use Rattle.ocm_types.specs.declared.rights.Rights.{Rights}
use Rattle.ocm_types.specs.declared.letters.Offer.{Offer}
use Rattle.ocm_types.specs.declared.letters.Notice.{Notice}
use Rattle.ocm_types.specs.declared.letters.Notice.TheVariants as notices
use Rattle.ocm_types.specs.Addresses.{address_text, canonical_address_of}
use Rattle.ocm_types.specs.Rights.{is_any}
use Rattle.ocm_types.specs.Texts.{name_of, share_name_of, provider_id_of, sender_id_of, secret_of}
use Rattle.ocm_path.specs.Paths.{Segments, path_text}
use Rattle.ocm_path.specs.PathTexts.{path_with_text}
use Rattle.ocm_entry.specs.declared.asks.Ask.{Ask}
use Rattle.ocm_entry.specs.declared.asks.Ask.TheVariants as asks
use Rattle.ocm_entry.specs.declared.asks.Cmd.{Cmd}
use Rattle.ocm_entry.specs.declared.asks.Cmd.TheVariants as commands
use Rattle.ocm_entry.specs.declared.asks.Method.{Method}
use Rattle.ocm_entry.specs.declared.asks.Method.TheVariants as methods
use Rattle.ocm_entry.specs.Proper.{is_short}

-- ---- the fields

unfoldable pub two_bytes : ℕ → List ℕ
two_bytes n = to_be_bytes w16 n

unfoldable pub four_bytes : ℕ → List ℕ
four_bytes n = to_be_bytes w32 n

unfoldable pub eight_bytes : ℕ → List ℕ
eight_bytes n = to_be_bytes w64 n

-- two bytes of length, and the bytes of a text
unfoldable pub text : List ℕ → List ℕ
text s = two_bytes (length s) ++ s

-- four bytes of length, and the bytes of a body
unfoldable pub counted : List ℕ → List ℕ
counted body = four_bytes (length body) ++ body

-- read is 1, write is 2, share is 4, added
abbrev pub rights_number : Rights → ℕ
rights_number r = (if r.read then 1 else 0) + (if r.write then 2 else 0) + (if r.share then 4 else 0)

-- permissions are one byte
unfoldable pub rights : Rights → List ℕ
rights r = rights_number r ∷ []

-- the byte 0, or the byte 1 and what is there
unfoldable pub optional : {A : Type 0} → (A → List ℕ) → Option A → List ℕ
optional spell None = 0 ∷ []
optional spell (Some x) = 1 ∷ spell x

-- moving is 1, overwriting is 2, added
abbrev pub carry_number : Bool → Bool → ℕ
carry_number moving overwrite = (if moving then 1 else 0) + (if overwrite then 2 else 0)

unfoldable pub carry_byte : Bool → Bool → List ℕ
carry_byte moving overwrite = carry_number moving overwrite ∷ []

-- ---- the asks

-- a command, after the key; listing has no bytes
abbrev pub command : Cmd → List ℕ
command (commands.Share path with perms fresh) = 1 ∷ text (path_text path) ++ text (address_text with) ++ rights perms ++ fresh
command (commands.Unshare id) = 2 ∷ four_bytes id
command (commands.Limit id perms) = 3 ∷ four_bytes id ++ rights perms
command (commands.Accept number) = 4 ∷ four_bytes number
command (commands.Decline number) = 5 ∷ four_bytes number
command (commands.Reshare number with perms) = 6 ∷ four_bytes number ++ text (address_text with) ++ optional rights perms
command (commands.Undo request) = 7 ∷ four_bytes request
command commands.List = []
command (commands.Expire id until) = 8 ∷ four_bytes id ++ eight_bytes until

-- an offer, in the order of its fields
abbrev pub offer : Offer → List ℕ
offer o =
    text (address_text o.with) ++ text o.name ++ text o.id ++ text (address_text o.owner) ++ text (address_text o.sender)
    ++ text o.secret ++ rights o.perms

-- a notification, before the drawn bytes
abbrev pub notice : Notice → List ℕ
notice (notices.Accepted id secret owner with perms) =
    1 ∷ text id ++ text secret ++ optional (λ a. text (address_text a)) owner ++ optional (λ a. text (address_text a)) with ++ optional rights perms
notice (notices.Declined id secret) = 2 ∷ text id ++ text secret
notice (notices.Unshared id secret) = 3 ∷ text id ++ text secret
notice (notices.ReshareRequest id secret with sender_id perms) =
    4 ∷ text id ++ text secret ++ text (address_text with) ++ text sender_id ++ optional rights perms
notice (notices.ReshareUndo id secret) = 5 ∷ text id ++ text secret
notice (notices.Changed id secret serial perms) = 6 ∷ text id ++ text secret ++ four_bytes serial ++ rights perms

-- the methods that a journal keeps
abbrev pub method_byte : Method → ℕ
method_byte methods.Put = 1
method_byte methods.Delete = 2
method_byte methods.Mkcol = 3
method_byte _ = 0

-- an ask; what is due has no bytes
abbrev pub spelling : Ask → List ℕ
spelling (asks.AddUser name fresh) = 1 ∷ text name ++ fresh
spelling (asks.Local key cmd) = 2 ∷ text key ++ command cmd
spelling (asks.Offer o) = 3 ∷ offer o
spelling (asks.Notice n fresh) = 4 ∷ notice n ++ fresh
spelling (asks.Dav secret method path body) = 5 ∷ method_byte method ∷ text secret ++ text (path_text path) ++ counted body
spelling asks.Due = []
spelling (asks.Settle number status id) = 6 ∷ four_bytes number ++ two_bytes status ++ optional text id
spelling (asks.Tick clock) = 7 ∷ eight_bytes clock
spelling (asks.Carry secret from to moving overwrite) =
    8 ∷ text secret ++ text (path_text from) ++ text (path_text to) ++ carry_byte moving overwrite

-- ---- which asks have a spelling

-- a file that is put has at most 1,048,576 bytes, what deletes or makes a collection has no body, and what reads is not kept
abbrev pub has_kept_body : Method → List ℕ → Bool
has_kept_body methods.Put body = nat_le (length body) most_file_bytes
has_kept_body methods.Delete body = nat_le (length body) 0
has_kept_body methods.Mkcol body = nat_le (length body) 0
has_kept_body _ body = false

-- whether a command has a spelling
abbrev pub command_has_spelling : Cmd → Bool
command_has_spelling (commands.Share path with perms fresh) = is_short path
command_has_spelling commands.List = false
command_has_spelling _ = true

-- whether an ask has a spelling
abbrev pub has_spelling : Ask → Bool
has_spelling (asks.Local key cmd) = command_has_spelling cmd
has_spelling (asks.Dav secret method path body) = is_short path && has_kept_body method body
has_spelling asks.Due = false
has_spelling (asks.Carry secret from to moving overwrite) = is_short from && is_short to
has_spelling _ = true

-- ---- what the types of an ask's fields keep

-- a value with a text: UTF-8 of fewer than 65,536 bytes that is read as this value
pub record IsOwnText {A : Type 0} (read : List ℕ → Option A) (own_text : A → List ℕ) (value : A) : Type 0 where
  pub utf8 : is_utf8 (own_text value) ≡ true
  pub short : length (own_text value) < 2 ^ 16
  pub own : read (own_text value) ≡ Some value

abbrev pub itself : List ℕ → List ℕ
itself s = s

abbrev pub IsName : List ℕ → Type 0
IsName = IsOwnText name_of itself

abbrev pub IsShareName : List ℕ → Type 0
IsShareName = IsOwnText share_name_of itself

abbrev pub IsProviderId : List ℕ → Type 0
IsProviderId = IsOwnText provider_id_of itself

abbrev pub IsSenderId : List ℕ → Type 0
IsSenderId = IsOwnText sender_id_of itself

abbrev pub IsSecret : List ℕ → Type 0
IsSecret = IsOwnText secret_of itself

abbrev pub IsAddress : Address → Type 0
IsAddress = IsOwnText canonical_address_of address_text

-- a path whose text has at most 1,024 bytes
abbrev pub IsShortPath : Segments → Type 0
IsShortPath = IsOwnText path_with_text path_text

abbrev pub IsPerms : Rights → Type 0
IsPerms r = IsTrue (is_any r)

-- drawn bytes are 16
abbrev pub IsFresh : List ℕ → Type 0
IsFresh fresh = length fresh ≡ 16

abbrev pub IsBody : ℕ → List ℕ → Type 0
IsBody most body = (length body ≤ most) × (length body < 2 ^ 32)

-- the number of bytes that a body may have
abbrev pub most_of : Method → ℕ
most_of methods.Put = most_file_bytes
most_of _ = 0

-- a method that a journal keeps
abbrev pub IsKept : Method → Type 0
IsKept methods.Put = Unit {0}
IsKept methods.Delete = Unit {0}
IsKept methods.Mkcol = Unit {0}
IsKept _ = ⊥

abbrev pub FitsCommand : Cmd → Type 0
FitsCommand (commands.Share path with perms fresh) = IsShortPath path × IsAddress with × IsPerms perms × IsFresh fresh
FitsCommand (commands.Unshare id) = id < 2 ^ 32
FitsCommand (commands.Limit id perms) = (id < 2 ^ 32) × IsPerms perms
FitsCommand (commands.Accept number) = number < 2 ^ 32
FitsCommand (commands.Decline number) = number < 2 ^ 32
FitsCommand (commands.Reshare number with perms) = (number < 2 ^ 32) × IsAddress with × IfSome perms IsPerms
FitsCommand (commands.Undo request) = request < 2 ^ 32
FitsCommand commands.List = ⊥
FitsCommand (commands.Expire id until) = (id < 2 ^ 32) × (until < 2 ^ 64)

abbrev pub FitsOffer : Offer → Type 0
FitsOffer o = IsAddress o.with × IsShareName o.name × IsProviderId o.id × IsAddress o.owner × IsAddress o.sender × IsSecret o.secret × IsPerms o.perms

abbrev pub FitsNotice : Notice → Type 0
FitsNotice (notices.Accepted id secret owner with perms) = IsProviderId id × IsSecret secret × IfSome owner IsAddress × IfSome with IsAddress × IfSome perms IsPerms
FitsNotice (notices.Declined id secret) = IsProviderId id × IsSecret secret
FitsNotice (notices.Unshared id secret) = IsProviderId id × IsSecret secret
FitsNotice (notices.ReshareRequest id secret with sender_id perms) = IsProviderId id × IsSecret secret × IsAddress with × IsSenderId sender_id × IfSome perms IsPerms
FitsNotice (notices.ReshareUndo id secret) = IsProviderId id × IsSecret secret
FitsNotice (notices.Changed id secret serial perms) = IsProviderId id × IsSecret secret × (serial < 2 ^ 32) × IsPerms perms

-- An ask that has a spelling, and whose fields are values of their types. Of an ask that a program holds the types keep
-- all of this but what `has_spelling` tests.
abbrev pub Fits : Ask → Type 0
Fits (asks.AddUser name fresh) = IsName name × IsFresh fresh
Fits (asks.Local key cmd) = IsSecret key × FitsCommand cmd
Fits (asks.Offer o) = FitsOffer o
Fits (asks.Notice n fresh) = FitsNotice n × IsFresh fresh
Fits (asks.Dav secret method path body) = IsKept method × IsSecret secret × IsShortPath path × IsBody (most_of method) body
Fits asks.Due = ⊥
Fits (asks.Settle number status id) = (number < 2 ^ 32) × (status < 2 ^ 16) × IfSome id IsProviderId
Fits (asks.Tick clock) = clock < 2 ^ 64
Fits (asks.Carry secret from to moving overwrite) = IsSecret secret × IsShortPath from × IsShortPath to

-- the bytes spell the ask
pub record Spells (ask : Ask) (bytes : List ℕ) : Type 0 where
  pub fits : Fits ask
  pub text : bytes ≡ spelling ask
