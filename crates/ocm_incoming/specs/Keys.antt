use Rattle.std.specs.Prelude.{Bool, ◌&&◌}
use Rattle.std.proofs.Math.Bool.{beq}
use Rattle.ocm_types.specs.declared.letters.Offer.{Offer}
use Rattle.ocm_rules.specs.Numbers.{same_text}
use Rattle.ocm_rules.specs.Equal.{same_address}
use Rattle.ocm_incoming.specs.declared.rows.Mark.{Mark}
use Rattle.ocm_incoming.specs.declared.plans.OfferKey.{OfferKey}

-- the mark of an offer
abbrev pub mark_of : Offer → Mark
mark_of offer = record { id = offer.id; secret = offer.secret }

-- whether two marks are the same
abbrev pub same_mark : Mark → Mark → Bool
same_mark a b = same_text a.id b.id && same_text a.secret b.secret

-- all that an offer says
abbrev pub key_of : Offer → OfferKey
key_of offer = record {
  with = offer.with;
  name = offer.name;
  id = offer.id;
  owner = offer.owner;
  sender = offer.sender;
  secret = offer.secret;
  read = offer.perms.read;
  write = offer.perms.write;
  share = offer.perms.share;
}

-- whether two offers say the same
abbrev pub same_key : OfferKey → OfferKey → Bool
same_key a b =
    same_address a.with b.with
    && (same_text a.name b.name
    && (same_text a.id b.id
    && (same_address a.owner b.owner
    && (same_address a.sender b.sender
    && (same_text a.secret b.secret && (beq a.read b.read && (beq a.write b.write && beq a.share b.share)))))))
