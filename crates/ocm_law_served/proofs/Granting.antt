-- What a secret grants, by who may use it.
use Rattle.std.proofs.Common.{◌≡◌, ℕ, List, Bool, true, false, refl, sym, ap, ◌∙◌, subst}
use Rattle.std.specs.Prelude.{Some, None, if◌then◌else◌}
use Rattle.ocm_types.specs.declared.rights.Rights.{Rights}
use Rattle.ocm_types.specs.Rights.{all_rights}
use Rattle.ocm_entry.specs.declared.entries.Entry.{Entry}
use Rattle.ocm_entry.specs.declared.rows.Grant.{Grant}
use Rattle.ocm_entry.specs.declared.rows.Place.{Place}
use Rattle.ocm_entry.specs.declared.rows.Share.{Share}
use Rattle.ocm_rules.specs.Numbers.{at_number}
use Rattle.ocm_rules.specs.Shares.{effective, is_live, links, made}
use Rattle.ocm_rules.specs.Views.{grant_in}
use Rattle.ocm_rules.specs.Messages.{view_of}
use Rattle.ocm_rules.specs.History.{IsAnswered}
use Rattle.ocm_rules.proofs.Lists.{not_both}
use Rattle.ocm_law_served.specs.Requests.{FileRequest, suffices}
use Rattle.ocm_law_served.specs.Links.{IsOpenChain, all_grant}
use Rattle.ocm_law_served.specs.Served.{ByGuest, ByUser, IsGranted, IsHeld, IsShort, IsUnheld, OfRights, ToGuest, ToUser, root_of_guest, root_of_user}
use Rattle.ocm_law_served.proofs.Chains.{live-open, open-live, suffices-all, suffices-chain}
use Rattle.ocm_law_served.proofs.Holders.{OfNobody, OfShare, OfUser, Whose, granted-by_key, granted-by_share, guest_grant, whose}

-- a secret gives a grant with this `/` and these rights
abbrev pub Gives : List ℕ → List Entry → List ℕ → Place → Rights → Type 0
Gives host g secret root rights = grant_in (view_of host g) secret ≡ Some (let grant : Grant = record { root = root; rights = rights } in grant)

gives-at : (host : List ℕ) (g : List Entry) (secret : List ℕ) (root other : Place) (rights : Rights) → root ≡ other → Gives host g secret other rights → Gives host g secret root rights
gives-at host g secret root other rights same gives = let P : Place → Type 0 = λ p. Gives host g secret p rights in subst P (sym same) gives

-- a chain of opened links gives what the share lets its guest do
chain-gives : (host : List ℕ) (g : List Entry) (secret : List ℕ) (i : ℕ) (m : Share) (chain : List ℕ) → IsAnswered host g → m.secret ≡ secret → IsOpenChain host g i m chain → Gives host g secret (root_of_guest m) (effective host g i)
chain-gives host g secret i m chain answered same opened =
    let live = open-live host g i m chain answered opened in
    granted-by_share host g secret i m answered opened.0 same ∙ ap (λ b. if b then Some (guest_grant host g i m) else None) live

-- who may use a secret has a grant
pub held-gives : (host : List ℕ) (g : List Entry) (secret : List ℕ) (root : Place) → IsAnswered host g → IsHeld host g secret root → (rights : Rights) × Gives host g secret root rights
held-gives host g secret root answered (ByUser user key at) = (all_rights, gives-at host g secret root (root_of_user user) all_rights at (granted-by_key host g secret user answered key))
held-gives host g secret root answered (ByGuest i m chain same at opened) =
    (effective host g i, gives-at host g secret root (root_of_guest m) (effective host g i) at (chain-gives host g secret i m chain answered same opened))

-- what is granted is given, with rights that suffice
pub granted-gives : (host : List ℕ) (g : List Entry) (secret : List ℕ) (request : FileRequest) (root : Place) → IsAnswered host g → IsGranted host g secret request root → (rights : Rights) × Gives host g secret root rights × (suffices request rights ≡ true)
granted-gives host g secret request root answered (ToUser user key at) =
    (all_rights, gives-at host g secret root (root_of_user user) all_rights at (granted-by_key host g secret user answered key), suffices-all request)
granted-gives host g secret request root answered (ToGuest i m chain same at opened all) = (
  effective host g i,
  gives-at host g secret root (root_of_guest m) (effective host g i) at (chain-gives host g secret i m chain answered same opened),
  suffices-chain host g m.owner i chain request answered opened.1 ∙ all,
)

-- where a link does not grant, the rights do not suffice
pub short-gives : (host : List ℕ) (g : List Entry) (secret : List ℕ) (request : FileRequest) → IsAnswered host g → IsShort host g secret request → (root : Place) × (rights : Rights) × Gives host g secret root rights × (suffices request rights ≡ false)
short-gives host g secret request answered (OfRights i m chain same opened all) = (
  root_of_guest m,
  effective host g i,
  chain-gives host g secret i m chain answered same opened,
  suffices-chain host g m.owner i chain request answered opened.1 ∙ all,
)

-- who is granted holds the secret
pub granted-held : (host : List ℕ) (g : List Entry) (secret : List ℕ) (request : FileRequest) (root : Place) → IsGranted host g secret request root → IsHeld host g secret root
granted-held host g secret request root (ToUser user key at) = ByUser user key at
granted-held host g secret request root (ToGuest i m chain same at opened all) = ByGuest i m chain same at opened

-- so does who is short of rights
short-held : (host : List ℕ) (g : List Entry) (secret : List ℕ) (request : FileRequest) → IsShort host g secret request → (root : Place) × IsHeld host g secret root
short-held host g secret request (OfRights i m chain same opened all) = (root_of_guest m, ByGuest i m chain same refl opened)

some-grant : (root other : Place) (rights more : Rights) → Some (let grant : Grant = record { root = root; rights = rights } in grant) ≡ Some (let grant : Grant = record { root = other; rights = more } in grant) → (root ≡ other) × (rights ≡ more)
some-grant root other rights more h =
    let one : Grant = record { root = root; rights = rights } in
    let two : Grant = record { root = other; rights = more } in
    let same : one ≡ two = cc in
    (ap (λ (x : Grant). x.root) same, ap (λ (x : Grant). x.rights) same)

-- nobody holds a secret with two places
pub held-once : (host : List ℕ) (g : List Entry) (secret : List ℕ) (root other : Place) → IsAnswered host g → IsHeld host g secret root → IsHeld host g secret other → root ≡ other
held-once host g secret root other answered h k =
    let one = held-gives host g secret root answered h in
    let two = held-gives host g secret other answered k in
    (some-grant root other one.0 two.0 (sym one.1 ∙ two.1)).0

-- what is granted is not short of rights
pub granted-suffices : (host : List ℕ) (g : List Entry) (secret : List ℕ) (request : FileRequest) (root : Place) → IsAnswered host g → IsGranted host g secret request root → IsShort host g secret request → ⊥
granted-suffices host g secret request root answered h k =
    let one = granted-gives host g secret request root answered h in
    let two = short-gives host g secret request answered k in
    let same = (some-grant root two.0 one.0 two.1 (sym one.1 ∙ two.2)).1 in
    let P : Rights → Type 0 = λ r. suffices request r ≡ true in
    not_both (suffices request two.1) (subst P same one.2) two.3

-- who is short of rights holds the secret
pub short-unheld : (host : List ℕ) (g : List Entry) (secret : List ℕ) (request : FileRequest) → IsShort host g secret request → IsUnheld host g secret → ⊥
short-unheld host g secret request short unheld = let held = short-held host g secret request short in unheld held.0 held.1

-- ---- one of the three holds

-- what a secret grants of a request
pub data Standing (host : List ℕ) (g : List Entry) (secret : List ℕ) (request : FileRequest) : Type 0 where
  Granted : (root : Place) → IsGranted host g secret request root → Standing host g secret request
  Short : IsShort host g secret request → Standing host g secret request
  Unheld : IsUnheld host g secret → grant_in (view_of host g) secret ≡ None → Standing host g secret request

-- where nothing is given, nobody holds the secret
none-unheld : (host : List ℕ) (g : List Entry) (secret : List ℕ) → IsAnswered host g → grant_in (view_of host g) secret ≡ None → IsUnheld host g secret
none-unheld host g secret answered none = λ root held. let gives = held-gives host g secret root answered held in let never = sym none ∙ gives.1 in absurd (cc)

-- nobody holds the secret of a share that is not live
pub ended-unheld : (host : List ℕ) (g : List Entry) (i : ℕ) (m : Share) → IsAnswered host g → at_number (made host g) i ≡ Some m → is_live host g i ≡ false → IsUnheld host g m.secret
ended-unheld host g i m answered is ended =
    none-unheld host g m.secret answered (granted-by_share host g m.secret i m answered is refl ∙ ap (λ b. if b then Some (guest_grant host g i m) else None) ended)

pub stands : (host : List ℕ) (g : List Entry) (secret : List ℕ) (request : FileRequest) → IsAnswered host g → Standing host g secret request
stands host g secret request answered = by_owner (whose host g secret)
  where
    by_rights : (i : ℕ) (m : Share) → m.secret ≡ secret → IsOpenChain host g i m (links (made host g) i) → (b : Bool) → all_grant host g request (links (made host g) i) ≡ b → Standing host g secret request
    by_rights i m same opened true all = Granted (root_of_guest m) (ToGuest i m (links (made host g) i) same refl opened all)
    by_rights i m same opened false all = Short (OfRights i m (links (made host g) i) same opened all)

    by_end : (i : ℕ) (m : Share) → at_number (made host g) i ≡ Some m → m.secret ≡ secret → (b : Bool) → is_live host g i ≡ b → Standing host g secret request
    by_end i m is same true live = by_rights i m same (live-open host g i m answered is live) (all_grant host g request (links (made host g) i)) refl
    by_end i m is same false ended =
        let none : grant_in (view_of host g) secret ≡ None = granted-by_share host g secret i m answered is same ∙ ap (λ b. if b then Some (guest_grant host g i m) else None) ended in
        Unheld (none-unheld host g secret answered none) none

    by_owner : Whose host g secret → Standing host g secret request
    by_owner (OfUser user key) = Granted (root_of_user user) (ToUser user key refl)
    by_owner (OfShare i m is same) = by_end i m is same (is_live host g i) refl
    by_owner (OfNobody none) = Unheld (none-unheld host g secret answered none) none
