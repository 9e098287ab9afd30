use Rattle.std.proofs.Common.{◌≡◌, ℕ, List, [], ◌∷◌, map, length, Bool, true, false, not, ◌&&◌, Option, Some, None, refl, sym, ap, ◌∙◌, is_some, count_by, option_map, nat_eq, if◌then◌else◌}
use Rattle.std.specs.Option.{option_map_or}
use Rattle.std.specs.List.{list_any}
use Rattle.ocm_types.specs.declared.letters.Offer.{Offer}
use Rattle.ocm_types.specs.declared.phases.Phase.TheVariants.{Pending, Removed}
use Rattle.ocm_incoming.specs.declared.rows.Record.{Record}
use Rattle.ocm_incoming.specs.declared.rows.Mark.{Mark}
use Rattle.ocm_incoming.specs.Lists.{offers_of, phase_at, unshared}
use Rattle.ocm_rules.specs.declared.rows.Told.{Told}
use Rattle.ocm_rules.specs.declared.rows.ReceivedRow.{ReceivedRow}
use Rattle.ocm_rules.specs.Numbers.{at_number, same_text, numbers}
use Rattle.ocm_rules.specs.Offers.{is_of, is_given_up, is_pending}
use Rattle.ocm_tables.specs.Tables.{received_row, received_rows, record_in}
use Rattle.ocm_rules.proofs.Lists.{count_by-cons}
use Rattle.ocm_tables.specs.Changes.{told_all, told_to}
use Rattle.ocm_tables.proofs.Joins.{joined-map, joined-length, joined-first, joined-second, joined-map_first, joined-numbered_second}

-- there are as many rows as records
pub rows-length : (rs : List Record) (ts : List Told) → length ts ≡ length rs → length (received_rows rs ts) ≡ length rs
rows-length rs ts e = joined-length received_row rs ts e

-- the rows have the offers of the records
pub rows-offers : (rs : List Record) (ts : List Told) → length ts ≡ length rs → map (λ (row : ReceivedRow). row.offer) (received_rows rs ts) ≡ offers_of rs
rows-offers rs ts e = joined-map received_row (λ (row : ReceivedRow). row.offer) (λ (r : Record). r.offer) rs ts e (λ x y. refl)

-- and their phases
pub rows-phase : (rs : List Record) (ts : List Told) (n : ℕ) → length ts ≡ length rs → option_map_or (λ (row : ReceivedRow). row.phase) (at_number (received_rows rs ts) n) Pending ≡ phase_at rs n
rows-phase rs ts n e = joined-first received_row (λ (row : ReceivedRow). row.phase) (λ (r : Record). r.phase) Pending rs ts n e (λ x y. refl)

or-some : {X : Type 0} (o : Option X) → option_map_or (λ x. Some x) o None ≡ o
or-some None = refl
or-some (Some x) = refl

map-or : {X Y : Type 0} (f : X → Y) (o : Option X) → option_map f o ≡ option_map_or (λ x. Some (f x)) o None
map-or f None = refl
map-or f (Some x) = refl

-- the record of a row
pub rows-record : (rs : List Record) (ts : List Told) (n : ℕ) → length ts ≡ length rs → option_map record_in (at_number (received_rows rs ts) n) ≡ at_number rs n
rows-record rs ts n e =
    map-or record_in (at_number (received_rows rs ts) n)
    ∙ (joined-first received_row (λ (row : ReceivedRow). Some (record_in row)) (λ (r : Record). Some r) None rs ts n e (λ x y. refl) ∙ or-some (at_number rs n))

is_some-or : {X : Type 0} (o : Option X) → is_some o ≡ option_map_or (λ x. true) o false
is_some-or None = refl
is_some-or (Some x) = refl

-- there is a row where there is a record, and where something was told
pub rows-there : (rs : List Record) (ts : List Told) (n : ℕ) → length ts ≡ length rs → is_some (at_number (received_rows rs ts) n) ≡ is_some (at_number rs n)
rows-there rs ts n e =
    is_some-or (at_number (received_rows rs ts) n) ∙ (joined-first received_row (λ row. true) (λ r. true) false rs ts n e (λ x y. refl) ∙ sym (is_some-or (at_number rs n)))

pub rows-told_there : (rs : List Record) (ts : List Told) (n : ℕ) → length ts ≡ length rs → is_some (at_number (received_rows rs ts) n) ≡ is_some (at_number ts n)
rows-told_there rs ts n e =
    is_some-or (at_number (received_rows rs ts) n) ∙ (joined-second received_row (λ row. true) (λ t. true) false rs ts n e (λ x y. refl) ∙ sym (is_some-or (at_number ts n)))

same-or : {X : Type 0} (o : Option X) (x d : X) → o ≡ Some x → option_map_or (λ y. y) o d ≡ x
same-or None x d e = absurd (cc)
same-or (Some y) x d e = cc

-- what was told is that of the row
pub rows-told : (rs : List Record) (ts : List Told) (n : ℕ) (told d : Told) → length ts ≡ length rs → at_number ts n ≡ Some told → option_map_or (λ (row : ReceivedRow). row.told) (at_number (received_rows rs ts) n) d ≡ told
rows-told rs ts n told d e there = joined-second received_row (λ (row : ReceivedRow). row.told) (λ (t : Told). t) d rs ts n e (λ x y. refl) ∙ same-or (at_number ts n) told d there

any-alike : (p q : ℕ → Bool) (ns : List ℕ) → ((n : ℕ) → p n ≡ q n) → list_any p ns ≡ list_any q ns
any-alike p q [] same = refl
any-alike p q (n ∷ ns) same = let first = same n in let rest = any-alike p q ns same in rw (first, rest) refl

count-alike : (p q : ℕ → Bool) (ns : List ℕ) → ((n : ℕ) → p n ≡ q n) → count_by p ns ≡ count_by q ns
count-alike p q [] same = refl
count-alike p q (n ∷ ns) same = let first = same n in let rest = count-alike p q ns same in rw (count_by-cons p n ns, count_by-cons q n ns, first, rest) refl

-- whether a record with this mark is neither declined nor removed, by the rows
pub rows-held : (rs : List Record) (ts : List Told) (id secret : List ℕ) → length ts ≡ length rs
    → list_any (λ n. option_map_or (is_of id secret) (at_number (offers_of rs) n) false && not (is_given_up (phase_at rs n))) (numbers (offers_of rs))
    ≡ list_any (λ n. option_map_or (is_of id secret) (at_number (map (λ (row : ReceivedRow). row.offer) (received_rows rs ts)) n) false && not (is_given_up (option_map_or (λ (row : ReceivedRow). row.phase) (at_number (received_rows rs ts) n) Pending)))
    (numbers (map (λ (row : ReceivedRow). row.offer) (received_rows rs ts)))
rows-held rs ts id secret e =
    let offers = rows-offers rs ts e in
    rw offers (any-alike _ _ (numbers (offers_of rs)) (λ n. ap (λ phase. option_map_or (is_of id secret) (at_number (offers_of rs) n) false && not (is_given_up phase)) (sym (rows-phase rs ts n e))))

-- how many of the offers for a user are undecided, by the rows
pub rows-pending : (rs : List Record) (ts : List Told) (name : List ℕ) → length ts ≡ length rs
    → count_by (λ n. is_pending (phase_at rs n) && option_map_or (λ (offer : Offer). same_text offer.with.user name) (at_number (offers_of rs) n) false) (numbers (offers_of rs))
    ≡ count_by (λ n. is_pending (option_map_or (λ (row : ReceivedRow). row.phase) (at_number (received_rows rs ts) n) Pending) && option_map_or (λ (offer : Offer). same_text offer.with.user name) (at_number (map (λ (row : ReceivedRow). row.offer) (received_rows rs ts)) n) false)
    (numbers (map (λ (row : ReceivedRow). row.offer) (received_rows rs ts)))
rows-pending rs ts name e =
    let offers = rows-offers rs ts e in
    rw offers (count-alike _ _ (numbers (offers_of rs)) (λ n. ap (λ phase. is_pending phase && option_map_or (λ (offer : Offer). same_text offer.with.user name) (at_number (offers_of rs) n) false) (sym (rows-phase rs ts n e))))

removed-row : (b : Bool) (r : Record) (t : Told) → received_row (record { offer = r.offer; phase = if b then Removed else r.phase }) t ≡ (if b then record (received_row r t) { phase = Removed } else received_row r t)
removed-row true r t = refl
removed-row false r t = refl

-- the rows of records of which some are shared no more
pub rows-unshared : (rs : List Record) (ts : List Told) (mark : Mark) → received_rows (map (unshared mark) rs) ts
    ≡ map (λ (row : ReceivedRow). if is_of mark.id mark.secret row.offer && not (is_given_up row.phase) then record row { phase = Removed } else row) (received_rows rs ts)
rows-unshared rs ts mark = joined-map_first received_row (unshared mark) _ rs ts (λ r t. removed-row (is_of mark.id mark.secret r.offer && not (is_given_up r.phase)) r t)

told-row : (b : Bool) (r : Record) (t new : Told) → received_row r (if b then new else t) ≡ (if b then record (received_row r t) { told = new } else received_row r t)
told-row true r t new = refl
told-row false r t new = refl

-- the rows where the guests of some were told this
pub rows-told_all : (rs : List Record) (ts : List Told) (numbers : List ℕ) (new : Told) → received_rows rs (told_all numbers new ts) ≡ told_to numbers new (received_rows rs ts)
rows-told_all rs ts numbers new = joined-numbered_second received_row _ _ 1 rs ts (λ j r t. told-row (list_any (nat_eq j) numbers) r t new)
