use Rattle.std.specs.Prelude.{◌≡◌, ℕ, ◌-◌, ◌≤◌, List, [], ◌∷◌, length, map, Bool, not, unwrap_or, slice_index}
use Rattle.std.specs.HashMap as hash
use Rattle.std.specs.HashMap.{HashMap}
use Rattle.std.specs.declared.hash.FoldHasher.{FoldHasher}
use Rattle.std.specs.declared.hash.BuildHasherDefault.{BuildHasherDefault}
use Rattle.ocm_limits.specs.Limits.{most_records, most_requests}
use Rattle.ocm_entry.specs.declared.rows.Request.{Request}
use Rattle.ocm_rules.specs.Numbers.{same_text, number_of}
use Rattle.ocm_rules.specs.Offers.{is_pending, is_given_up}
use Rattle.ocm_incoming.specs.declared.rows.Record.{Record}
use Rattle.ocm_incoming.specs.declared.rows.Mark.{Mark}
use Rattle.ocm_incoming.specs.declared.plans.OfferKey.{OfferKey}
use Rattle.ocm_incoming.specs.declared.tallies.Tag.{Tag}
use Rattle.ocm_incoming.specs.Groups.{IsNumberOf}
use Rattle.ocm_incoming.specs.Keys.{key_of, mark_of, same_key, same_mark}
use Rattle.ocm_incoming.specs.Lists.{users_of, marks_of, first_for, first_with}

-- an index by hash to numbers
abbrev pub NumbersBy : Type 0 → Type 0
NumbersBy K = HashMap K ℕ (BuildHasherDefault FoldHasher)

-- all that these records say
abbrev pub keys_of : List Record → List OfferKey
keys_of records = map (λ (r : Record). key_of r.offer) records

-- each index has the number of the first of the records that are found by a key
pub record IsRecords (rows : List Record) (by_offer : NumbersBy OfferKey) (by_user : NumbersBy (List ℕ)) (by_mark : NumbersBy Mark) : Type 0 where
  pub few : length rows ≤ most_records
  pub offers : (k : OfferKey) → hash.get same_key by_offer k ≡ number_of (λ o. same_key o k) (keys_of rows)
  pub users : (s : List ℕ) → hash.get same_text by_user s ≡ first_for (users_of rows) s
  pub marks : (m : Mark) → hash.get same_mark by_mark m ≡ first_with (marks_of rows) m

-- ---- groups

-- the number of the first key that is the same as this one, or 0 where there is none
abbrev pub label : {K : Type 0} → (K → K → Bool) → List K → K → ℕ
label eq keys key = unwrap_or (number_of (λ k. eq k key) keys) 0

-- something of each row and of the number of the first row with the same key
abbrev pub labelled : {K X Y : Type 0} → (K → K → Bool) → (X → K) → (ℕ → X → Y) → List X → List Y
labelled eq key f rows = map (λ row. f (label eq (map key rows) (key row)) row) rows

-- the user that a record is for
abbrev pub user_of : Record → List ℕ
user_of r = r.offer.with.user

-- the mark of a record
abbrev pub sign_of : Record → Mark
sign_of r = mark_of r.offer

-- the groups of the records that are for the same user, and of those that have the same mark
abbrev pub user_groups : List Record → List ℕ
user_groups rows = labelled same_text user_of (λ n r. n) rows

abbrev pub mark_groups : List Record → List ℕ
mark_groups rows = labelled same_mark sign_of (λ n r. n) rows

-- which records of a user are undecided, and which with a mark are neither declined nor removed
abbrev pub pending_tags : List Record → List Tag
pending_tags rows = labelled same_text user_of (λ n r. record { group = n; counts = is_pending r.phase }) rows

abbrev pub held_tags : List Record → List Tag
held_tags rows = labelled same_mark sign_of (λ n r. record { group = n; counts = not (is_given_up r.phase) }) rows

-- the group of the record that a request is about
abbrev pub asker_of : List ℕ → Request → ℕ
asker_of users q = slice_index users (q.received - 1)

-- each request is about one of so many records
abbrev pub AreThere : ℕ → List Request → Type 0
AreThere count [] = Unit {0}
AreThere count (q ∷ qs) = IsNumberOf count q.received × AreThere count qs

-- the groups of the records and of the requests, and what is counted of them
pub record IsInbox (rows : List Record) (requests : List Request) (users marks askers : List ℕ) (pending held : List Tag) : Type 0 where
  pub few : length rows ≤ most_records
  pub few_requests : length requests ≤ most_requests
  pub there : AreThere (length rows) requests
  pub by_user : users ≡ user_groups rows
  pub by_mark : marks ≡ mark_groups rows
  pub by_asker : askers ≡ map (asker_of users) requests
  pub undecided : pending ≡ pending_tags rows
  pub still_held : held ≡ held_tags rows
