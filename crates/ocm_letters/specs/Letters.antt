use Rattle.std.specs.Prelude.{ℕ, List, decimal, unwrap_or}
use Rattle.ocm_path.specs.Paths.{Segments, last}
use Rattle.ocm_types.specs.declared.letters.Offer.{Offer}
use Rattle.ocm_types.specs.declared.letters.Letter.TheVariants as letters
use Rattle.ocm_entry.specs.declared.rows.Share.{Share}
use Rattle.ocm_rules.specs.declared.rows.Message.{Message}
use Rattle.ocm_rules.specs.Messages.{about_share}

-- the name of a share of this root, whose owner has this name: the last segment of the root, or the owner's name
abbrev pub share_name_from : List ℕ → Segments → List ℕ
share_name_from owner root = unwrap_or (last root) owner

-- the offer of the share of this number, made at this host, whose owner has this name
abbrev pub offer_from : List ℕ → List ℕ → ℕ → Share → Offer
offer_from host owner id share = record {
  with = share.with;
  name = share_name_from owner share.root;
  id = decimal id;
  owner = record { user = owner; host = host };
  sender = share.sender;
  secret = share.secret;
  perms = share.granted;
}

-- that the share of this number was made at this host, whose owner has this name
abbrev pub offered_from : List ℕ → List ℕ → ℕ → Share → Message
offered_from host owner id share = about_share id share (letters.Offer (offer_from host owner id share))
