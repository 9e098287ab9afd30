-- What each value of a record keeps.
use Rattle.std.specs.Prelude.{◌≡◌, ℕ, nat_le, List, Bool, true, Option, Some, None, Ok}
use Rattle.ocm_types.specs.Texts.{has_length, is_share_name, is_provider_id, is_secret, is_sender_id}
use Rattle.ocm_types.specs.Addresses.{address_of, address_text}
use Rattle.ocm_types.specs.Rights.{is_any}
use Rattle.ocm_types.specs.declared.addresses.Address.{Address}
use Rattle.ocm_types.specs.declared.rights.Rights.{Rights}
use Rattle.ocm_types.specs.declared.letters.Offer.{Offer}
use Rattle.ocm_types.specs.declared.letters.Notice.{Notice}
use Rattle.ocm_types.specs.declared.letters.Notice.TheVariants as notices
use Rattle.ocm_records.specs.Kinds.{most_bytes}

-- an address whose text may stand in a record and is read as that address
pub record ReadsAsItself (a : Address) : Type 0 where
  pub read : address_of (address_text a) ≡ Ok a
  pub fits : has_length 0 most_bytes (address_text a) ≡ true

-- an offer of sound parts
pub record IsOffer (o : Offer) : Type 0 where
  pub with : ReadsAsItself o.with
  pub name : is_share_name o.name ≡ true
  pub id : is_provider_id o.id ≡ true
  pub owner : ReadsAsItself o.owner
  pub sender : ReadsAsItself o.sender
  pub secret : is_secret o.secret ≡ true
  pub perms : is_any o.perms ≡ true

-- an address that may be absent
abbrev pub AddressIf : Option Address → Type 0
AddressIf None = Unit {0}
AddressIf (Some a) = ReadsAsItself a

-- permissions that may be absent
abbrev pub PermsIf : Option Rights → Type 0
PermsIf None = Unit {0}
PermsIf (Some rights) = is_any rights ≡ true

-- the marks of a share that each notification has
pub record HasMarks (id secret : List ℕ) : Type 0 where
  pub has_id : is_provider_id id ≡ true
  pub has_secret : is_secret secret ≡ true

-- a notification of sound parts
abbrev pub IsNotice : Notice → Type 0
IsNotice (notices.Accepted id secret owner with perms) = HasMarks id secret × AddressIf owner × AddressIf with × PermsIf perms
IsNotice (notices.Declined id secret) = HasMarks id secret
IsNotice (notices.Unshared id secret) = HasMarks id secret
IsNotice (notices.ReshareRequest id secret with sender_id perms) = HasMarks id secret × ReadsAsItself with × (is_sender_id sender_id ≡ true) × PermsIf perms
IsNotice (notices.ReshareUndo id secret) = HasMarks id secret
IsNotice (notices.Changed id secret serial perms) = HasMarks id secret × (nat_le serial 4294967295 ≡ true) × (is_any perms ≡ true)

-- whether changes of permissions are counted from 1
abbrev pub is_numbered : Notice → Bool
is_numbered (notices.Accepted id secret owner with perms) = true
is_numbered (notices.Declined id secret) = true
is_numbered (notices.Unshared id secret) = true
is_numbered (notices.ReshareRequest id secret with sender_id perms) = true
is_numbered (notices.ReshareUndo id secret) = true
is_numbered (notices.Changed id secret serial perms) = nat_le 1 serial
