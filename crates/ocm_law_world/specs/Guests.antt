-- What an owner's server has of an offer that a guest took, and what guests are told of their permissions.
use Rattle.std.specs.Prelude.{◌≡◌, ℕ, List, ◌∷◌, ◌++◌, nat_eq, Bool, false, ◌&&◌, IsTrue, Some}
use Rattle.std.specs.List.{list_any}
use Rattle.ocm_types.specs.declared.letters.Letter.TheVariants as letters
use Rattle.ocm_types.specs.declared.letters.Notice.TheVariants as notices
use Rattle.ocm_types.specs.declared.letters.Offer.{Offer}
use Rattle.ocm_types.specs.Rights.{is_within}
use Rattle.ocm_entry.specs.declared.asks.Ask.{Ask}
use Rattle.ocm_entry.specs.declared.asks.Ask.TheVariants as asks
use Rattle.ocm_entry.specs.declared.entries.Entry.{Entry}
use Rattle.ocm_entry.specs.declared.rows.Share.{Share}
use Rattle.ocm_rules.specs.declared.rows.Message.{Message}
use Rattle.ocm_rules.specs.declared.rows.Told.{Told}
use Rattle.ocm_rules.specs.Equal.{same_rights}
use Rattle.ocm_rules.specs.Numbers.{at_number}
use Rattle.ocm_rules.specs.Shares.{address_of, effective, made, named}
use Rattle.ocm_rules.specs.Offers.{is_of}
use Rattle.ocm_rules.specs.Views.{View, is_limit, limits}
use Rattle.ocm_rules.specs.Messages.{out, view_of}
use Rattle.ocm_law_world.specs.World.{Session, World, kept_at}

-- ---- what an owner has made

-- Of the shares that are read here, one is what the offer says: the offer's id names it, it has the offer's owner,
-- recipient and secret, and what was granted holds the offer's permissions.
pub record Makes (v : View) (offer : Offer) : Type 0 where
  pub id : ℕ
  pub share : Share
  pub named : named offer.id ≡ Some id
  pub made : at_number v.shares id ≡ Some share
  pub owner : address_of v.host v.users share.owner ≡ offer.owner
  pub guest : share.with ≡ offer.with
  pub secret : share.secret ≡ offer.secret
  pub perms : IsTrue (is_within offer.perms share.granted)

-- all that is read of the history of this host's session
abbrev pub view_at : List ℕ → Session → View
view_at host s = view_of host (kept_at host s)

-- the server of an offer's owner is there, and has made what the offer says
abbrev pub IsMade : World → Offer → Type 0
IsMade w offer = (s : Session) × (w.session offer.owner.host ≡ Some s) × Makes (view_at offer.owner.host s) offer

-- ---- what a guest was told

-- These permissions, told with this serial, are what an offer's share let its guest do after the limit of that number: of the
-- kept entries the one that is so many limits on is a limit, and then the offer's id names a share that is there, with the
-- offer's secret.
pub record IsAfterLimit (host : List ℕ) (g : List Entry) (offer : Offer) (told : Told) : Type 0 where
  pub id : ℕ
  pub share : Share
  pub named : named offer.id ≡ Some id
  pub later : List Entry
  pub limit : Entry
  pub before : List Entry
  pub stands : g ≡ later ++ limit ∷ before
  pub is_limit : IsTrue (is_limit limit.ask)
  pub number : limits (limit ∷ before) ≡ told.serial
  pub made : at_number (made host (limit ∷ before)) id ≡ Some share
  pub secret : share.secret ≡ offer.secret
  pub perms : told.perms ≡ effective host (limit ∷ before) id

-- the server of an offer's owner is there, and one of its messages tells this of the offer's permissions
abbrev pub IsSaid : World → Offer → Told → Type 0
IsSaid w offer told =
    (s : Session) × (number : ℕ) × (message : Message) × (w.session offer.owner.host ≡ Some s)
    × (at_number (out offer.owner.host (kept_at offer.owner.host s)) number ≡ Some message)
    × (message.letter ≡ letters.Notice (notices.Changed offer.id offer.secret told.serial told.perms))

-- whether an ask tells this of an offer's permissions
abbrev pub tells : Offer → Told → Ask → Bool
tells offer told (asks.Notice (notices.Changed id secret serial perms) fresh) = is_of id secret offer && nat_eq serial told.serial && same_rights perms told.perms
tells offer told _ = false

-- whatever a host keeps that tells an offer's permissions was said by the server of the offer's owner: nobody else knows the offer's secret
abbrev pub HearsOwnerAlone : World → List ℕ → Session → Offer → Type 0
HearsOwnerAlone w host s offer = (told : Told) → IsTrue (list_any (λ (e : Entry). tells offer told e.ask) (kept_at host s)) → IsSaid w offer told
