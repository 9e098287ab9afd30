use Rattle.std.specs.Prelude.{◌≡◌, ℕ, ◌<◌, ◌≤◌, List, [], ◌∷◌, length, nat_eq, slice_get, Bool, ◌&&◌, if◌then◌else◌, Option, Some, None}
use Rattle.std.specs.declared.cmp.Ordering.{Ordering}
use Rattle.std.specs.declared.cmp.Ordering.TheVariants.{Less, Equal, Greater}
use Rattle.std.specs.Ordering.{nat_cmp, ordering_then}
use Rattle.std.specs.Cmp.Lexicographic.{slice_cmp}
use Rattle.ocm_rules.specs.Numbers.{same_text}
use Rattle.ocm_chain.specs.declared.secrets.SecretEntry.{SecretEntry}
use Rattle.ocm_chain.specs.declared.requests.RequestEntry.{RequestEntry}

-- the number in the first entry that passes
abbrev pub found_by : {E : Type 0} → (E → Bool) → (E → ℕ) → List E → Option ℕ
found_by test number [] = None
found_by test number (e ∷ es) = if test e then Some (number e) else found_by test number es

-- each entry comes before those behind it
abbrev pub Ascends : {E : Type 0} → (E → E → Ordering) → List E → Type 0
Ascends {E} order es = (i j : ℕ) (a b : E) → i < j → slice_get es i ≡ Some a → slice_get es j ≡ Some b → order a b ≡ Less

-- the entry at a place is equal, by a comparison of entries with what is looked for
abbrev pub IsEqualAt : {E : Type 0} → (E → Ordering) → List E → ℕ → Type 0
IsEqualAt {E} order es place = (e : E) × (slice_get es place ≡ Some e) × (order e ≡ Equal)

-- the entries before a place come before what is looked for
abbrev pub AreBefore : {E : Type 0} → (E → Ordering) → List E → ℕ → Type 0
AreBefore {E} order es place = (i : ℕ) (e : E) → i < place → slice_get es i ≡ Some e → order e ≡ Less

-- the entries from a place on come behind it
abbrev pub AreBehind : {E : Type 0} → (E → Ordering) → List E → ℕ → Type 0
AreBehind {E} order es place = (i : ℕ) (e : E) → place ≤ i → slice_get es i ≡ Some e → order e ≡ Greater

-- those before a place come before it, and all others behind it
abbrev pub ArePartedAt : {E : Type 0} → (E → Ordering) → List E → ℕ → Type 0
ArePartedAt order es place = (place ≤ length es) × AreBefore order es place × AreBehind order es place

-- ---- secrets

-- the order of an entry's secret and this one, byte by byte
abbrev pub secret_cmp : SecretEntry → List ℕ → Ordering
secret_cmp e secret = slice_cmp nat_cmp e.secret secret

-- the number that an index has for a secret
abbrev pub number_with : List SecretEntry → List ℕ → Option ℕ
number_with es secret = found_by (λ (e : SecretEntry). same_text e.secret secret) (λ (e : SecretEntry). e.number) es

-- each secret comes before those behind it
abbrev pub SecretsAscend : List SecretEntry → Type 0
SecretsAscend es = Ascends (λ (a b : SecretEntry). secret_cmp a b.secret) es

-- an index in byte order, and how many more secrets it takes without memory
pub record SecretLists : Type 0 where
  pub entries : List SecretEntry
  pub room : ℕ

-- ---- requests

-- the number that was kept, or else this one where it passes
abbrev pub number_or : Option ℕ → Bool → ℕ → Option ℕ
number_or None passes number = if passes then Some number else None
number_or (Some kept) passes number = Some kept

-- the order of an entry and a request: by the parent, then by the sender's mark byte by byte
abbrev pub request_cmp : RequestEntry → ℕ → List ℕ → Ordering
request_cmp e parent sender_id = ordering_then (nat_cmp e.parent parent) (slice_cmp nat_cmp e.sender_id sender_id)

-- whether an entry is of this request
abbrev pub is_of_request : ℕ → List ℕ → RequestEntry → Bool
is_of_request parent sender_id e = nat_eq e.parent parent && same_text e.sender_id sender_id

-- the number that an index has for a request
abbrev pub number_for : List RequestEntry → ℕ → List ℕ → Option ℕ
number_for es parent sender_id = found_by (is_of_request parent sender_id) (λ (e : RequestEntry). e.number) es

-- each request comes before those behind it
abbrev pub RequestsAscend : List RequestEntry → Type 0
RequestsAscend es = Ascends (λ (a b : RequestEntry). request_cmp a b.parent b.sender_id) es

-- an index in that order, and how many more requests it takes without memory
pub record RequestLists : Type 0 where
  pub entries : List RequestEntry
  pub room : ℕ
