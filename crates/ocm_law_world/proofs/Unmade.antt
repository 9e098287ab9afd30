-- Offers that their owners did not make.
use Rattle.std.proofs.Common.{◌≡◌, ℕ, [], false, sym, ap, ◌∙◌, subst}
use Rattle.std.specs.Prelude.{Option, Some}
use Rattle.std.specs.Option.{option_map_or}
use Rattle.ocm_types.specs.declared.letters.Offer.{Offer}
use Rattle.ocm_types.specs.Rights.{is_within}
use Rattle.ocm_entry.specs.declared.rows.Share.{Share}
use Rattle.ocm_rules.specs.Numbers.{at_number}
use Rattle.ocm_rules.specs.Shares.{made, named}
use Rattle.ocm_rules.proofs.Lists.{not_both}
use Rattle.ocm_rules.proofs.Searches.{some-same}
use Rattle.ocm_law_world.specs.World.{Session, World, kept_at}
use Rattle.ocm_law_world.specs.Guests.{IsMade}
use Rattle.ocm_law_world.specs.Cases.{kept_in}
use Rattle.ocm_law_world.proofs.Reached.{nothing-there}

-- who has made no share has not made this one
pub unmade : (w : World) (offer : Offer) → made offer.owner.host (kept_in w offer.owner.host) ≡ [] → IsMade w offer → ⊥
unmade w offer none (s, is, m) =
    let P : Option Session → Type 0 = λ o. made offer.owner.host (option_map_or (kept_at offer.owner.host) o []) ≡ [] in
    nothing-there m.id m.share (ap (λ l. at_number l m.id) (sym (subst P is none)) ∙ m.made)

-- nor has who granted less
pub less : (w : World) (offer : Offer) (id : ℕ) (share : Share) → named offer.id ≡ Some id → at_number (made offer.owner.host (kept_in w offer.owner.host)) id ≡ Some share → is_within offer.perms share.granted ≡ false → IsMade w offer → ⊥
less w offer id share names there little (s, is, m) =
    let P : Option Session → Type 0 = λ o. at_number (made offer.owner.host (option_map_or (kept_at offer.owner.host) o [])) id ≡ Some share in
    let same_id : m.id ≡ id = some-same m.id id (sym m.named ∙ names) in
    let same : m.share ≡ share = some-same m.share share (sym m.made ∙ ap (λ i. at_number (made offer.owner.host (kept_at offer.owner.host s)) i) same_id ∙ subst P is there) in
    not_both (is_within offer.perms share.granted) (ap (λ (x : Share). is_within offer.perms x.granted) (sym same) ∙ m.perms) little
