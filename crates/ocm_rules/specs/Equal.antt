use Rattle.std.specs.Prelude.{Bool, true, false, ◌&&◌, Option, Some, None}
use Rattle.ocm_types.specs.declared.addresses.Address.{Address}
use Rattle.ocm_types.specs.declared.letters.Offer.{Offer}
use Rattle.ocm_types.specs.declared.rights.Rights.{Rights}
use Rattle.ocm_types.specs.Rights.{is_within}
use Rattle.ocm_rules.specs.Numbers.{same_text}

-- whether two addresses are the same
abbrev pub same_address : Address → Address → Bool
same_address a b = same_text a.user b.user && same_text a.host b.host

-- whether two sets of rights are the same
abbrev pub same_rights : Rights → Rights → Bool
same_rights a b = is_within a b && is_within b a

-- whether the same was asked: the same permissions, or none both times
abbrev pub same_asked : Option Rights → Option Rights → Bool
same_asked None None = true
same_asked (Some a) (Some b) = same_rights a b
same_asked _ _ = false

-- whether two offers are equal in each field
abbrev pub same_offer : Offer → Offer → Bool
same_offer a b =
    same_address a.with b.with && same_text a.name b.name && same_text a.id b.id && same_address a.owner b.owner
    && same_address a.sender b.sender && same_text a.secret b.secret && same_rights a.perms b.perms
