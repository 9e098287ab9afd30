-- What is read of a history and stays so with each further entry.
use Rattle.std.proofs.Common.{◌≡◌, ℕ, List, [], ◌∷◌, Bool, true, false, ◌∙◌}
use Rattle.std.specs.Prelude.{Some, if◌then◌else◌, is_some}
use Rattle.ocm_types.specs.declared.letters.Offer.{Offer}
use Rattle.ocm_entry.specs.declared.entries.Entry.{Entry}
use Rattle.ocm_entry.specs.declared.rows.Share.{Share}
use Rattle.ocm_rules.specs.declared.rows.Message.{Message}
use Rattle.ocm_rules.specs.Numbers.{at_number}
use Rattle.ocm_rules.specs.Users.{users, user_by}
use Rattle.ocm_rules.specs.Shares.{made, address_of}
use Rattle.ocm_rules.specs.Views.{View, is_live_in}
use Rattle.ocm_rules.specs.Messages.{sends, out, view_of}
use Rattle.ocm_rules.specs.History.{kept, changes, IsAnswered, IsLegal}
use Rattle.ocm_rules.proofs.Kept.{kept-answered}
use Rattle.ocm_rules.proofs.Lists.{at_number-all}
use Rattle.ocm_rules.proofs.Numbering.{at_number-more}
use Rattle.ocm_law_grants.proofs.Permissions.{at_number-length}
use Rattle.ocm_law_grants.proofs.Revoked.{ended-stays}
use Rattle.ocm_law_grants.proofs.Holding.{made-kept}
use Rattle.ocm_law_world.specs.Guests.{Makes}
use Rattle.ocm_law_world.proofs.Owners.{at_number-added, has_owner, owners-there, name-stays}

-- what is read of a legal history and holds with each entry more
abbrev pub Lasts : (View → Type 0) → Type 0
Lasts Q = (host : List ℕ) (e : Entry) (g : List Entry) → IsLegal host (e ∷ g) → Q (view_of host (kept host g)) → Q (view_of host (kept host (e ∷ g)))

-- only entries that are kept matter
pub lasts : (Q : View → Type 0) → ((host : List ℕ) (e : Entry) (before : List Entry) → IsAnswered host (e ∷ before) → Q (view_of host before) → Q (view_of host (e ∷ before))) → Lasts Q
lasts Q step host e g legal q = cases (changes host (kept host g) e) (kept-answered host (e ∷ g) legal)
  where
    cases : (b : Bool) → IsAnswered host (if b then e ∷ kept host g else kept host g) → Q (view_of host (if b then e ∷ kept host g else kept host g))
    cases true answered = step host e (kept host g) answered q
    cases false answered = q

-- a message keeps its number
abbrev pub HasMessage : ℕ → Message → View → Type 0
HasMessage number message v = at_number v.messages number ≡ Some message

pub message-lasts : (number : ℕ) (message : Message) → Lasts (HasMessage number message)
message-lasts number message = lasts (HasMessage number message) (λ host e before answered is. at_number-more (out host before) (sends (view_of host before) e.ask) number message is)

-- a share keeps its number, and one that is not live stays so
abbrev pub HasEnded : ℕ → Share → View → Type 0
HasEnded i m v = (at_number v.shares i ≡ Some m) × (is_live_in v i ≡ false)

pub ended-lasts : (i : ℕ) (m : Share) → Lasts (HasEnded i m)
ended-lasts i m host e g legal (is, ended) =
    (made-kept host (e ∷ []) g i m is, ended-stays host (e ∷ []) g i legal (at_number-length (made host (kept host g)) i m is) ended)

-- what an offer says stays true
address-stays : (host : List ℕ) (e : Entry) (before : List Entry) (i : ℕ) (m : Share) → at_number (made host before) i ≡ Some m
    → address_of host (users (e ∷ before)) m.owner ≡ address_of host (users before) m.owner
address-stays host e before i m is =
    let there : is_some (at_number (users before) m.owner) ≡ true = rw is at (at_number-all (has_owner (users before)) (made host before) (owners-there host before) i) in
    λ j. record { user = name-stays (users before) (user_by e.ask e.reply) m.owner there j; host = host }

pub made-lasts : (offer : Offer) → Lasts (λ v. Makes v offer)
made-lasts offer = lasts (λ v. Makes v offer) (λ host e before answered made. record {
  id = made.id;
  share = made.share;
  named = made.named;
  made = at_number-added (Rattle.ocm_rules.specs.Shares.made host before) _ made.id made.share made.made;
  owner = address-stays host e before made.id made.share made.made ∙ made.owner;
  guest = made.guest;
  secret = made.secret;
  perms = made.perms;
})
