use Rattle.std.proofs.Common.{◌≡◌, ℕ, zero, suc, ◌≤◌, List, length, Bool, false, refl, ap, ◌∙◌, arith, if◌then◌else◌}
use Rattle.std.specs.Prelude.{Option, Some, None, is_some, option_map, ◌&&◌}
use Rattle.std.specs.List.{list_all}
use Rattle.std.proofs.lemmas.List.{length-map}
use Rattle.ocm_rules.specs.declared.rows.ShareRow.{ShareRow}
use Rattle.ocm_rules.specs.Numbers.{at_number}
use Rattle.ocm_rules.specs.Shares.{has_secret, links, share_of_secret}
use Rattle.ocm_rules.proofs.Lists.{number_of-within}
use Rattle.ocm_rules.proofs.Searches.{number_of-found}
use Rattle.ocm_chain.specs.Lists.{made_of, effective_at, goes_on_at, guest_at, is_live_at}
use Rattle.ocm_chain.specs.Reaches.{reach_at, reach_goes_on}
use Rattle.ocm_chain.proofs.Places.{at_number-map}
use Rattle.ocm_chain.proofs.ChainLinks.{goes_on-along}

share-there : (shares : List ShareRow) (i : ℕ) (o : Option ShareRow) → at_number shares i ≡ o → is_some (at_number (made_of shares) i) ≡ is_some (option_map (λ (row : ShareRow). row.share) o)
share-there shares i o e = ap is_some (at_number-map (λ (row : ShareRow). row.share) shares i ∙ ap (λ p. option_map (λ (row : ShareRow). row.share) p) e)

-- a share that is there is live where what is left at it goes on
pub live-there : (moment : ℕ) (shares : List ShareRow) (i : ℕ) (row : ShareRow) → at_number shares i ≡ Some row → is_live_at moment shares i ≡ reach_goes_on moment (reach_at shares i)
live-there moment shares i row at =
    ap (λ t. t && list_all (goes_on_at moment shares) (links (made_of shares) i)) (share-there shares i (Some row) at) ∙ goes_on-along moment shares (links (made_of shares) i)

-- and one that is not there is not live
pub live-absent : (moment : ℕ) (shares : List ShareRow) (i : ℕ) → at_number shares i ≡ None → is_live_at moment shares i ≡ false
live-absent moment shares i at = ap (λ t. t && list_all (goes_on_at moment shares) (links (made_of shares) i)) (share-there shares i None at)

-- the guest of a share that is there has what is left at it, where that goes on
pub guest-there : (moment : ℕ) (shares : List ShareRow) (i : ℕ) (row : ShareRow) (live : Bool) → at_number shares i ≡ Some row → reach_goes_on moment (reach_at shares i) ≡ live
    → guest_at moment shares i ≡ (if live then Some (row.share, effective_at shares i) else None)
guest-there moment shares i row live at goes =
    let made : at_number (made_of shares) i ≡ Some row.share = at_number-map (λ (r : ShareRow). r.share) shares i ∙ ap (option_map (λ (r : ShareRow). r.share)) at in
    let is : is_live_at moment shares i ≡ live = live-there moment shares i row at ∙ goes in
    rw (is, made) refl

-- the number of the share with a secret is that of one that is there
pub found-within : (shares : List ShareRow) (secret : List ℕ) (i : ℕ) → share_of_secret (made_of shares) secret ≡ Some i → (1 ≤ i) × (i ≤ length shares)
found-within shares secret zero found = let none = number_of-found (has_secret secret) (made_of shares) zero found in let there = none.1 in absurd (cc)
found-within shares secret (suc i) found =
    let high = number_of-within (has_secret secret) (made_of shares) (suc i) found in
    let as_many = length-map shares (λ (r : ShareRow). r.share) in
    (omega arith, omega (arith, high, as_many))
