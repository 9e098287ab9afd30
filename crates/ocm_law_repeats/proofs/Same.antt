use Rattle.std.proofs.Common.{◌≡◌, ℕ, List, Bool, true, false, refl, ap}
use Rattle.std.specs.Prelude.{Option, Some, None, nat_eq, ◌&&◌, ◌||◌, not}
use Rattle.std.proofs.lemmas.Bool.{eqb-true}
use Rattle.std.proofs.lemmas.Slice.Eq.{bytes_eq-Decides}
use Rattle.ocm_types.specs.declared.addresses.Address.{Address}
use Rattle.ocm_types.specs.declared.letters.Offer.{Offer}
use Rattle.ocm_types.specs.declared.letters.Notice.{Notice}
use Rattle.ocm_types.specs.declared.letters.Notice.TheVariants as notices
use Rattle.ocm_types.specs.declared.rights.Rights.{Rights}
use Rattle.ocm_types.specs.Rights.{is_within}
use Rattle.ocm_entry.specs.declared.asks.Ask.{Ask}
use Rattle.ocm_entry.specs.declared.asks.Ask.TheVariants as asks
use Rattle.ocm_rules.specs.Numbers.{same_text}
use Rattle.ocm_rules.specs.Equal.{same_address, same_rights, same_asked, same_offer}
use Rattle.ocm_law_repeats.specs.Repeats.{same_given, same_notice, same_ask}
use Rattle.ocm_law_repeats.proofs.Tests.{both}

-- ---- what compares equal is equal

pub text-equal : (a b : List ℕ) → same_text a b ≡ true → a ≡ b
text-equal a b h = (bytes_eq-Decides a b).0 h

pub text-same : (a : List ℕ) → same_text a a ≡ true
text-same a = (bytes_eq-Decides a a).1 refl

address_of : (a b : Address) → a.user ≡ b.user → a.host ≡ b.host → a ≡ b
address_of a b p q = λ i. record { user = p i; host = q i }

pub address-equal : (a b : Address) → same_address a b ≡ true → a ≡ b
address-equal a b h =
    let r = both (same_text a.user b.user) (same_text a.host b.host) h in
    address_of a b (text-equal a.user b.user r.0) (text-equal a.host b.host r.1)

pub address-same : (a : Address) → same_address a a ≡ true
address-same a = rw (text-same a.user, text-same a.host) refl

each_way : (x y : Bool) → (not x || y) ≡ true → (not y || x) ≡ true → x ≡ y
each_way true true h k = refl
each_way true false h k = absurd (cc)
each_way false true h k = absurd (cc)
each_way false false h k = refl

each_same : (x : Bool) → (not x || x) ≡ true
each_same true = refl
each_same false = refl

rights_of : (a b : Rights) → a.read ≡ b.read → a.write ≡ b.write → a.share ≡ b.share → a ≡ b
rights_of a b p q r = λ i. record { read = p i; write = q i; share = r i }

within-each : (a b : Rights) → is_within a b ≡ true → ((not a.read || b.read) ≡ true) × ((not a.write || b.write) ≡ true) × ((not a.share || b.share) ≡ true)
within-each a b h =
    let by_share = both ((not a.read || b.read) && (not a.write || b.write)) (not a.share || b.share) h in
    let by_write = both (not a.read || b.read) (not a.write || b.write) by_share.0 in
    (by_write.0, by_write.1, by_share.1)

pub rights-equal : (a b : Rights) → same_rights a b ≡ true → a ≡ b
rights-equal a b h =
    let r = both (is_within a b) (is_within b a) h in
    let forth = within-each a b r.0 in
    let back = within-each b a r.1 in
    rights_of a b (each_way a.read b.read forth.0 back.0) (each_way a.write b.write forth.1 back.1) (each_way a.share b.share forth.2 back.2)

within-same : (a : Rights) → is_within a a ≡ true
within-same a = rw (each_same a.read, each_same a.write, each_same a.share) refl

pub rights-same : (a : Rights) → same_rights a a ≡ true
rights-same a = rw (within-same a) refl

pub asked-equal : (a b : Option Rights) → same_asked a b ≡ true → a ≡ b
asked-equal None None h = refl
asked-equal None (Some b) h = absurd (cc)
asked-equal (Some a) None h = absurd (cc)
asked-equal (Some a) (Some b) h = ap Some (rights-equal a b h)

pub asked-same : (a : Option Rights) → same_asked a a ≡ true
asked-same None = refl
asked-same (Some a) = rights-same a

given-equal : {X : Type 0} (same : X → X → Bool) → ((a b : X) → same a b ≡ true → a ≡ b) → (a b : Option X) → same_given same a b ≡ true → a ≡ b
given-equal same equal None None h = refl
given-equal same equal None (Some b) h = absurd (cc)
given-equal same equal (Some a) None h = absurd (cc)
given-equal same equal (Some a) (Some b) h = ap Some (equal a b h)

offer_of : (a b : Offer) → a.with ≡ b.with → a.name ≡ b.name → a.id ≡ b.id → a.owner ≡ b.owner → a.sender ≡ b.sender → a.secret ≡ b.secret → a.perms ≡ b.perms → a ≡ b
offer_of a b p q r s t u v = λ i. record { with = p i; name = q i; id = r i; owner = s i; sender = t i; secret = u i; perms = v i }

pub offer-equal : (a b : Offer) → same_offer a b ≡ true → a ≡ b
offer-equal a b h =
    let by_perms = both (same_address a.with b.with && same_text a.name b.name && same_text a.id b.id && same_address a.owner b.owner && same_address a.sender b.sender && same_text a.secret b.secret) (same_rights a.perms b.perms) h in
    let by_secret = both (same_address a.with b.with && same_text a.name b.name && same_text a.id b.id && same_address a.owner b.owner && same_address a.sender b.sender) (same_text a.secret b.secret) by_perms.0 in
    let by_sender = both (same_address a.with b.with && same_text a.name b.name && same_text a.id b.id && same_address a.owner b.owner) (same_address a.sender b.sender) by_secret.0 in
    let by_owner = both (same_address a.with b.with && same_text a.name b.name && same_text a.id b.id) (same_address a.owner b.owner) by_sender.0 in
    let by_id = both (same_address a.with b.with && same_text a.name b.name) (same_text a.id b.id) by_owner.0 in
    let by_name = both (same_address a.with b.with) (same_text a.name b.name) by_id.0 in
    offer_of a b (address-equal a.with b.with by_name.0) (text-equal a.name b.name by_name.1) (text-equal a.id b.id by_id.1) (address-equal a.owner b.owner by_owner.1) (address-equal a.sender b.sender by_sender.1) (text-equal a.secret b.secret by_secret.1) (rights-equal a.perms b.perms by_perms.1)

pub offer-same : (a : Offer) → same_offer a a ≡ true
offer-same a = rw (address-same a.with, text-same a.name, text-same a.id, address-same a.owner, address-same a.sender, text-same a.secret, rights-same a.perms) refl

-- ---- notices

both_texts : (id other_id secret other_secret : List ℕ) → (same_text id other_id && same_text secret other_secret) ≡ true → (id ≡ other_id) × (secret ≡ other_secret)
both_texts id other_id secret other_secret h =
    let r = both (same_text id other_id) (same_text secret other_secret) h in
    (text-equal id other_id r.0, text-equal secret other_secret r.1)

accepted-equal : (id other_id secret other_secret : List ℕ) (owner other_owner with other_with : Option Address) (perms other_perms : Option Rights)
    → same_notice (notices.Accepted id secret owner with perms) (notices.Accepted other_id other_secret other_owner other_with other_perms) ≡ true
    → notices.Accepted id secret owner with perms ≡ notices.Accepted other_id other_secret other_owner other_with other_perms
accepted-equal id other_id secret other_secret owner other_owner with other_with perms other_perms h =
    let by_perms = both (same_text id other_id && same_text secret other_secret && same_given same_address owner other_owner && same_given same_address with other_with) (same_asked perms other_perms) h in
    let by_with = both (same_text id other_id && same_text secret other_secret && same_given same_address owner other_owner) (same_given same_address with other_with) by_perms.0 in
    let by_owner = both (same_text id other_id && same_text secret other_secret) (same_given same_address owner other_owner) by_with.0 in
    let by_secret = both (same_text id other_id) (same_text secret other_secret) by_owner.0 in
    let equal_id = text-equal id other_id by_secret.0 in
    let equal_secret = text-equal secret other_secret by_secret.1 in
    let equal_owner = given-equal same_address address-equal owner other_owner by_owner.1 in
    let equal_with = given-equal same_address address-equal with other_with by_with.1 in
    let equal_perms = asked-equal perms other_perms by_perms.1 in
    λ i. notices.Accepted (equal_id i) (equal_secret i) (equal_owner i) (equal_with i) (equal_perms i)

request-equal : (id other_id secret other_secret : List ℕ) (with other_with : Address) (sender_id other_sender_id : List ℕ) (asked other_asked : Option Rights)
    → same_notice (notices.ReshareRequest id secret with sender_id asked) (notices.ReshareRequest other_id other_secret other_with other_sender_id other_asked) ≡ true
    → notices.ReshareRequest id secret with sender_id asked ≡ notices.ReshareRequest other_id other_secret other_with other_sender_id other_asked
request-equal id other_id secret other_secret with other_with sender_id other_sender_id asked other_asked h =
    let by_asked = both (same_text id other_id && same_text secret other_secret && same_address with other_with && same_text sender_id other_sender_id) (same_asked asked other_asked) h in
    let by_sender = both (same_text id other_id && same_text secret other_secret && same_address with other_with) (same_text sender_id other_sender_id) by_asked.0 in
    let by_with = both (same_text id other_id && same_text secret other_secret) (same_address with other_with) by_sender.0 in
    let by_secret = both (same_text id other_id) (same_text secret other_secret) by_with.0 in
    let equal_id = text-equal id other_id by_secret.0 in
    let equal_secret = text-equal secret other_secret by_secret.1 in
    let equal_with = address-equal with other_with by_with.1 in
    let equal_sender = text-equal sender_id other_sender_id by_sender.1 in
    let equal_asked = asked-equal asked other_asked by_asked.1 in
    λ i. notices.ReshareRequest (equal_id i) (equal_secret i) (equal_with i) (equal_sender i) (equal_asked i)

changed-equal : (id other_id secret other_secret : List ℕ) (serial other_serial : ℕ) (perms other_perms : Rights)
    → same_notice (notices.Changed id secret serial perms) (notices.Changed other_id other_secret other_serial other_perms) ≡ true
    → notices.Changed id secret serial perms ≡ notices.Changed other_id other_secret other_serial other_perms
changed-equal id other_id secret other_secret serial other_serial perms other_perms h =
    let by_perms = both (same_text id other_id && same_text secret other_secret && nat_eq serial other_serial) (same_rights perms other_perms) h in
    let by_serial = both (same_text id other_id && same_text secret other_secret) (nat_eq serial other_serial) by_perms.0 in
    let by_secret = both (same_text id other_id) (same_text secret other_secret) by_serial.0 in
    let equal_id = text-equal id other_id by_secret.0 in
    let equal_secret = text-equal secret other_secret by_secret.1 in
    let equal_serial = eqb-true serial other_serial by_serial.1 in
    let equal_perms = rights-equal perms other_perms by_perms.1 in
    λ i. notices.Changed (equal_id i) (equal_secret i) (equal_serial i) (equal_perms i)

pub notice-equal : (a b : Notice) → same_notice a b ≡ true → a ≡ b
notice-equal (notices.Accepted id secret owner with perms) (notices.Accepted other_id other_secret other_owner other_with other_perms) h = accepted-equal id other_id secret other_secret owner other_owner with other_with perms other_perms h
notice-equal (notices.Declined id secret) (notices.Declined other_id other_secret) h = let r = both_texts id other_id secret other_secret h in let p = r.0 in let q = r.1 in λ i. notices.Declined (p i) (q i)
notice-equal (notices.Unshared id secret) (notices.Unshared other_id other_secret) h = let r = both_texts id other_id secret other_secret h in let p = r.0 in let q = r.1 in λ i. notices.Unshared (p i) (q i)
notice-equal (notices.ReshareRequest id secret with sender_id asked) (notices.ReshareRequest other_id other_secret other_with other_sender_id other_asked) h = request-equal id other_id secret other_secret with other_with sender_id other_sender_id asked other_asked h
notice-equal (notices.ReshareUndo id secret) (notices.ReshareUndo other_id other_secret) h = let r = both_texts id other_id secret other_secret h in let p = r.0 in let q = r.1 in λ i. notices.ReshareUndo (p i) (q i)
notice-equal (notices.Changed id secret serial perms) (notices.Changed other_id other_secret other_serial other_perms) h = changed-equal id other_id secret other_secret serial other_serial perms other_perms h
notice-equal _ _ h = absurd (cc)

-- ---- asks

-- what is equal to an offer is that offer
pub same_ask-offer : (ask : Ask) (offer : Offer) → same_ask ask (asks.Offer offer) ≡ true → ask ≡ asks.Offer offer
same_ask-offer (asks.Offer other) offer h = ap asks.Offer (offer-equal other offer h)
same_ask-offer _ offer h = absurd (cc)

-- what is equal to a notice is that notice, with some drawn bytes
pub same_ask-notice : (ask : Ask) (notice : Notice) (fresh : List ℕ) → same_ask ask (asks.Notice notice fresh) ≡ true → (drawn : List ℕ) × (ask ≡ asks.Notice notice drawn)
same_ask-notice (asks.Notice other drawn) notice fresh h = let e = notice-equal other notice h in (drawn, λ i. asks.Notice (e i) drawn)
same_ask-notice _ notice fresh h = absurd (cc)

-- what is equal to a settlement is that settlement
pub same_ask-settle : (ask : Ask) (number status : ℕ) (id : Option (List ℕ)) → same_ask ask (asks.Settle number status id) ≡ true → ask ≡ asks.Settle number status id
same_ask-settle (asks.Settle other_number other_status other_id) number status id h =
    let by_id = both (nat_eq other_number number && nat_eq other_status status) (same_given same_text other_id id) h in
    let by_status = both (nat_eq other_number number) (nat_eq other_status status) by_id.0 in
    let equal_number = eqb-true other_number number by_status.0 in
    let equal_status = eqb-true other_status status by_status.1 in
    let equal_id = given-equal same_text text-equal other_id id by_id.1 in
    λ i. asks.Settle (equal_number i) (equal_status i) (equal_id i)
same_ask-settle _ number status id h = absurd (cc)
