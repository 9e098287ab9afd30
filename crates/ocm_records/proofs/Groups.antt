-- Rows that are read in groups are rows that are read one after another.
use Rattle.std.proofs.Common.{◌≡◌, ℕ, List, Result, Ok, Err, refl, sym, subst}
use Rattle.serde_json.specs.Data.{Data}
use Rattle.ocm_types.specs.declared.letters.Offer.{Offer}
use Rattle.ocm_records.specs.Kinds.{◌>>=◌}
use Rattle.ocm_records.specs.Readings.{share_name, provider_id, address, resource}
use Rattle.ocm_json.specs.Json.{object_of}
use Rattle.ocm_records.specs.Rows.{Gives, opened, record_of, required}
use Rattle.ocm_records.specs.Offers.{offer, by_groups, recipient, origin, kinds, access, share_type, sender_or}
use Rattle.ocm_records.specs.declared.faults.Field.TheVariants as fields
use Rattle.ocm_records.specs.declared.faults.RecordFault.{RecordFault}

-- values that were read together
abbrev two : {A B : Type 0} → A → B → Result (A × B) RecordFault
two x y = Ok (x, y)

abbrev three : {A B C : Type 0} → A → B → C → Result (A × B × C) RecordFault
three x y z = Ok (x, y, z)

-- what is left once the owner is read
from_sender : {C D E F G X R : Type 0} → (i : C) (o : D) (q : Result E RecordFault) (t : Result F RecordFault) (r : Result G RecordFault) (x : Result X RecordFault) (k : C → D → E → X → Result R RecordFault)
    → ((q >>= λ q. three i o q) >>= λ g. (t >>= λ _. r) >>= λ _. x >>= λ a. k g.0 g.1 g.2 a) ≡ (q >>= λ q. t >>= λ _. r >>= λ _. x >>= λ a. k i o q a)
from_sender i o (Ok q) (Ok b) r x k = refl
from_sender i o (Ok q) (Err e) r x k = refl
from_sender i o (Err e) t r x k = refl

-- groups of two rows, of three, of two, and one more
in_groups : {A B C D E F G X R : Type 0} → (w : Result A RecordFault) (n : Result B RecordFault) (i : Result C RecordFault) (o : Result D RecordFault) (q : D → Result E RecordFault) (t : Result F RecordFault) (r : Result G RecordFault) (x : Result X RecordFault) (k : A → B → C → D → E → X → Result R RecordFault)
    → ((w >>= λ w. n >>= λ n. two w n) >>= λ p. (i >>= λ i. o >>= λ o. q o >>= λ q. three i o q) >>= λ g. (t >>= λ _. r) >>= λ _. x >>= λ a. k p.0 p.1 g.0 g.1 g.2 a)
    ≡ (w >>= λ w. n >>= λ n. i >>= λ i. o >>= λ o. q o >>= λ q. t >>= λ _. r >>= λ _. x >>= λ a. k w n i o q a)
in_groups (Err e) n i o q t r x k = refl
in_groups (Ok w) (Err e) i o q t r x k = refl
in_groups (Ok w) (Ok n) (Err e) o q t r x k = refl
in_groups (Ok w) (Ok n) (Ok i) (Err e) q t r x k = refl
in_groups (Ok w) (Ok n) (Ok i) (Ok o) q t r x k = from_sender i o (q o) t r x (λ i o q a. k w n i o q a)

by_groups_is_offer : (d : Data) → by_groups d ≡ offer d
unfolding by_groups offer recipient origin kinds
by_groups_is_offer d =
    in_groups
    (required d fields.ShareWith address)
    (required d fields.Name share_name)
    (required d fields.ProviderId provider_id)
    (required d fields.Owner address)
    (λ owner. sender_or owner d)
    (required d fields.ShareType share_type)
    (required d fields.ResourceType resource)
    (access d)
    (λ with name id owner sender access. Ok (record { with = with; name = name; id = id; owner = owner; sender = sender; secret = access.0; perms = access.1 }))

-- what was read group by group is what the bytes give by the whole table
pub read_by_groups : (bytes : List ℕ) (given : Result Offer RecordFault) (d e : Data) → opened (object_of bytes) ≡ Ok e → d ≡ e → Gives (λ o. o) given (by_groups d) → Gives (λ o. o) given (record_of offer bytes)
read_by_groups bytes given d e opens same read =
    let of_table : Result Offer RecordFault → Type 0 = λ x. Gives (λ o. o) given x in
    let of_data : Data → Type 0 = λ x. Gives (λ o. o) given (offer x) in
    let of_bytes : Result Data RecordFault → Type 0 = λ x. Gives (λ o. o) given (x >>= offer) in
    subst of_bytes (sym opens) (subst of_data same (subst of_table (by_groups_is_offer d) read))
