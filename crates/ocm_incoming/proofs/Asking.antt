use Rattle.std.proofs.Common.{◌≡◌, ℕ, zero, suc, ◌+◌, ◌-◌, ◌<◌, ◌≤◌, List, [], ◌∷◌, length, map, get_or, Bool, true, false, cond, not, Option, Some, None, refl, sym, ap, ◌∙◌, arith}
use Rattle.std.specs.Prelude.{nat_eq, nat_lt, slice_get, count_by, ◌&&◌, is_some, unwrap_or, Result, Ok, Err, IfOk}
use Rattle.std.specs.List.{list_any}
use Rattle.std.specs.Option.{option_map_or}
use Rattle.std.proofs.lemmas.List.Sums.{sum_by-cons}
use Rattle.ocm_types.specs.declared.letters.Offer.{Offer}
use Rattle.ocm_entry.specs.declared.rows.Request.{Request}
use Rattle.ocm_rules.specs.Numbers.{same_text, at_number, number_from, number_of}
use Rattle.ocm_rules.specs.Equal.{same_offer}
use Rattle.ocm_rules.specs.Offers.{is_of, is_pending, is_given_up, is_known}
use Rattle.ocm_incoming.specs.declared.rows.Record.{Record}
use Rattle.ocm_incoming.specs.declared.rows.Mark.{Mark}
use Rattle.ocm_incoming.specs.declared.tallies.Tag.{Tag}
use Rattle.ocm_incoming.specs.Groups.{one_if, counts_for, counted, numbers_from, numbers_where, members, IsNumberOf}
use Rattle.ocm_incoming.specs.Keys.{same_mark}
use Rattle.ocm_incoming.specs.Lists.{offers_of, users_of, marks_of, first_for, first_with, phase_at, is_for, is_with, pending_among, records_for, requests_for, is_held_among, records_with, holds}
use Rattle.ocm_incoming.specs.Index.{label, user_of, sign_of, user_groups, mark_groups, pending_tags, held_tags, asker_of, AreThere}
use Rattle.ocm_incoming.proofs.Firsts.{text-Decides, mark-Decides}
use Rattle.ocm_incoming.proofs.Labelling.{number_of-bounds, number_from-found, label-is, is-label}
use Rattle.ocm_incoming.proofs.Listing.{agree-rows, at_number-map, filter-rows, filter-own, count-rows, any-rows, numbers_where-made, count_by-made, counted-any}

-- ---- groups

-- the group of a new row has the number of one of the rows
pub group-bounds : {X : Type 0} (p : X → Bool) (xs : List X) (g last : ℕ) → last ≡ length xs + 1 → g ≡ unwrap_or (number_of p xs) last → (0 < g) × (g ≤ last)
group-bounds p xs g last e h = step (number_of p xs) refl
  where
    step : (o : Option ℕ) → number_of p xs ≡ o → (0 < g) × (g ≤ last)
    step None f = let is : g ≡ last = h ∙ ap (λ o. unwrap_or o last) f in (omega (arith, is, e), omega (arith, is))
    step (Some m) f =
        let is : g ≡ m = h ∙ ap (λ o. unwrap_or o last) f in
        let within = number_of-bounds p xs m f in
        (omega (arith, is, within), omega (arith, is, within, e))

-- no row passes
abbrev AllFail : {X : Type 0} → (X → Bool) → List X → Type 0
AllFail p [] = Unit {0}
AllFail p (x ∷ xs) = (p x ≡ false) × AllFail p xs

none-step : (b : Bool) (n : ℕ) (rest : Option ℕ) → cond b (Some n) rest ≡ None → (b ≡ false) × (rest ≡ None)
none-step true n rest e = absurd (cc)
none-step false n rest e = (refl, e)

none-fail : {X Y : Type 0} (f : X → Y) (q : Y → Bool) (n : ℕ) (xs : List X) → number_from q n (map f xs) ≡ None → AllFail (λ x. q (f x)) xs
none-fail f q n [] e = tt
none-fail f q n (x ∷ xs) e = let s = none-step (q (f x)) n (number_from q (n + 1) (map f xs)) e in (s.0, none-fail f q (n + 1) xs s.1)

none-numbers : {X : Type 0} (p : X → Bool) (n : ℕ) (xs : List X) → AllFail p xs → numbers_from p n xs ≡ []
none-numbers p n [] h = refl
none-numbers p n (x ∷ xs) h = let one = h.0 in let rest = none-numbers p (n + 1) xs h.1 in rw one rest

no-one : (a b : Bool) → b ≡ false → one_if (a && b) ≡ 0
no-one true b e = ap one_if e
no-one false b e = refl

none-count : {X : Type 0} (q p : X → Bool) (xs : List X) → AllFail p xs → count_by (λ x. q x && p x) xs ≡ 0
none-count q p [] h = refl
none-count q p (x ∷ xs) h =
    let both = sum_by-cons (λ y. one_if (q y && p y)) x xs in
    let one = no-one (q x) (p x) h.0 in
    let rest = none-count q p xs h.1 in
    omega (arith, both, one, rest)

none-any : {X : Type 0} (p q : X → Bool) (xs : List X) → AllFail p xs → list_any (λ x. p x && q x) xs ≡ false
none-any p q [] h = refl
none-any p q (x ∷ xs) h = let one = h.0 in let rest = none-any p q xs h.1 in rw one rest

-- ---- what is said of numbers, by rows

and-comm : (a b : Bool) → (a && b) ≡ (b && a)
and-comm true true = refl
and-comm true false = refl
and-comm false true = refl
and-comm false false = refl

at-for : (rows : List Record) (user : List ℕ) (m : ℕ) (r : Record) → at_number rows m ≡ Some r → is_for (offers_of rows) user m ≡ same_text r.offer.with.user user
at-for rows user m r e = rw (at_number-map, e) refl

at-with : (rows : List Record) (mark : Mark) (m : ℕ) (r : Record) → at_number rows m ≡ Some r → is_with (offers_of rows) mark m ≡ is_of mark.id mark.secret r.offer
at-with rows mark m r e = rw (at_number-map, e) refl

at-phase : (rows : List Record) (m : ℕ) (r : Record) → at_number rows m ≡ Some r → phase_at rows m ≡ r.phase
at-phase rows m r e = rw e refl

-- whether an undecided record is for a user
abbrev is_pending_for : List ℕ → Record → Bool
is_pending_for user r = is_pending r.phase && same_text r.offer.with.user user

pending-rows : (rows : List Record) (user : List ℕ) → pending_among rows user ≡ count_by (is_pending_for user) rows
pending-rows rows user = count-rows (λ (r : Record). r.offer) (λ n. is_pending (phase_at rows n) && is_for (offers_of rows) user n) (is_pending_for user) rows
    (agree-rows _ _ rows (λ m r e. let phase = at-phase rows m r e in let for = at-for rows user m r e in rw (phase, for) refl))

held-rows : (rows : List Record) (mark : Mark) → is_held_among rows mark ≡ list_any (holds mark) rows
held-rows rows mark = any-rows (λ (r : Record). r.offer) (λ n. is_with (offers_of rows) mark n && not (is_given_up (phase_at rows n))) (holds mark) rows
    (agree-rows _ _ rows (λ m r e. let phase = at-phase rows m r e in let with = at-with rows mark m r e in rw (phase, with) refl))

for-rows : (rows : List Record) (user : List ℕ) → records_for rows user ≡ numbers_where (λ (r : Record). same_text r.offer.with.user user) rows
for-rows rows user = filter-rows (λ (r : Record). r.offer) (is_for (offers_of rows) user) (λ (r : Record). same_text r.offer.with.user user) rows (agree-rows _ _ rows (λ m r e. at-for rows user m r e))

with-rows : (rows : List Record) (mark : Mark) → records_with rows mark ≡ numbers_where (λ (r : Record). is_of mark.id mark.secret r.offer) rows
with-rows rows mark = filter-rows (λ (r : Record). r.offer) (is_with (offers_of rows) mark) (λ (r : Record). is_of mark.id mark.secret r.offer) rows (agree-rows _ _ rows (λ m r e. at-with rows mark m r e))

-- ---- the answers

pub pending-is : (rows : List Record) (user : List ℕ) (tags : List Tag) (g : ℕ) → tags ≡ pending_tags rows → first_for (users_of rows) user ≡ Some g → counted tags g ≡ pending_among rows user
pending-is rows user tags g e found =
    let each : (r : Record) → (nat_eq (label same_text (users_of rows) (user_of r)) g && is_pending r.phase) ≡ is_pending_for user r = λ r.
    ap (λ b. b && is_pending r.phase) (label-is same_text text-Decides (users_of rows) user (user_of r) g found) ∙ and-comm (same_text r.offer.with.user user) (is_pending r.phase) in
    rw e (count_by-made (λ (r : Record). record { group = label same_text (users_of rows) (user_of r); counts = is_pending r.phase }) (counts_for g) (is_pending_for user) rows each) ∙ sym (pending-rows rows user)

pub pending-none : (rows : List Record) (user : List ℕ) → first_for (users_of rows) user ≡ None → 0 ≡ pending_among rows user
pending-none rows user none =
    sym (pending-rows rows user ∙ none-count (λ (r : Record). is_pending r.phase) (λ (r : Record). same_text r.offer.with.user user) rows (none-fail user_of (λ u. same_text u user) 1 rows none))

pub held-is : (rows : List Record) (mark : Mark) (tags : List Tag) (g : ℕ) → tags ≡ held_tags rows → first_with (marks_of rows) mark ≡ Some g → nat_lt 0 (counted tags g) ≡ is_held_among rows mark
held-is rows mark tags g e found =
    let each : (r : Record) → (nat_eq (label same_mark (marks_of rows) (sign_of r)) g && not (is_given_up r.phase)) ≡ holds mark r = λ r.
    ap (λ b. b && not (is_given_up r.phase)) (label-is same_mark mark-Decides (marks_of rows) mark (sign_of r) g found) in
    let counts : counted tags g ≡ count_by (holds mark) rows = rw e (count_by-made (λ (r : Record). record { group = label same_mark (marks_of rows) (sign_of r); counts = not (is_given_up r.phase) }) (counts_for g) (holds mark) rows each) in
    ap (λ n. nat_lt 0 n) counts ∙ (counted-any (holds mark) rows ∙ sym (held-rows rows mark))

pub held-none : (rows : List Record) (mark : Mark) → first_with (marks_of rows) mark ≡ None → false ≡ is_held_among rows mark
held-none rows mark none =
    sym (held-rows rows mark ∙ none-any (λ (r : Record). is_of mark.id mark.secret r.offer) (λ (r : Record). not (is_given_up r.phase)) rows (none-fail sign_of (λ m. same_mark m mark) 1 rows none))

pub for-is : (rows : List Record) (user : List ℕ) (groups : List ℕ) (g : ℕ) → groups ≡ user_groups rows → first_for (users_of rows) user ≡ Some g → members groups g ≡ records_for rows user
for-is rows user groups g e found =
    rw e (numbers_where-made (λ (r : Record). label same_text (users_of rows) (user_of r)) (nat_eq g) (λ (r : Record). same_text r.offer.with.user user) rows (λ r. is-label same_text text-Decides (users_of rows) user (user_of r) g found))
    ∙ sym (for-rows rows user)

pub for-none : (rows : List Record) (user : List ℕ) → first_for (users_of rows) user ≡ None → [] ≡ records_for rows user
for-none rows user none = sym (for-rows rows user ∙ none-numbers (λ (r : Record). same_text r.offer.with.user user) 1 rows (none-fail user_of (λ u. same_text u user) 1 rows none))

pub with-is : (rows : List Record) (mark : Mark) (groups : List ℕ) (g : ℕ) → groups ≡ mark_groups rows → first_with (marks_of rows) mark ≡ Some g → members groups g ≡ records_with rows mark
with-is rows mark groups g e found =
    rw e (numbers_where-made (λ (r : Record). label same_mark (marks_of rows) (sign_of r)) (nat_eq g) (λ (r : Record). is_of mark.id mark.secret r.offer) rows (λ r. is-label same_mark mark-Decides (marks_of rows) mark (sign_of r) g found))
    ∙ sym (with-rows rows mark)

pub with-none : (rows : List Record) (mark : Mark) → first_with (marks_of rows) mark ≡ None → [] ≡ records_with rows mark
with-none rows mark none = sym (with-rows rows mark ∙ none-numbers (λ (r : Record). is_of mark.id mark.secret r.offer) 1 rows (none-fail sign_of (λ m. same_mark m mark) 1 rows none))

number_from-with : (mark : Mark) (n : ℕ) (rows : List Record) → number_from (λ m. same_mark m mark) n (marks_of rows) ≡ number_from (is_of mark.id mark.secret) n (offers_of rows)
number_from-with mark n [] = refl
number_from-with mark n (r ∷ rows) = let rest = number_from-with mark (n + 1) rows in rw rest refl

-- the first with a mark is the first offer with this id and secret
pub first_with-offers : (mark : Mark) (rows : List Record) → first_with (marks_of rows) mark ≡ number_of (is_of mark.id mark.secret) (offers_of rows)
first_with-offers mark rows = number_from-with mark 1 rows

-- an equal offer is known exactly where there is a first one
pub same-known : (offer : Offer) (offers : List Offer) → is_some (number_of (same_offer offer) offers) ≡ is_known offers offer
same-known offer offers = number_from-found (same_offer offer) 1 offers

-- ---- requests

-- a row at a place, and what is made of it
record IsRow {X : Type 0} (made : X → ℕ) (xs : List X) (i : ℕ) : Type 0 where
  one : X
  at : slice_get xs i ≡ Some one
  read : get_or (map made xs) i 0 ≡ made one

row-at : {X : Type 0} (made : X → ℕ) (xs : List X) (i : ℕ) → i < length xs → IsRow made xs i
row-at made [] i h = absurd (omega (arith, h))
row-at made (x ∷ xs) zero h = record { one = x; at = refl; read = refl }
row-at made (x ∷ xs) (suc i) h = let r = row-at made xs i (omega (arith, h)) in record { one = r.one; at = r.at; read = r.read }

-- the group of the record of a request tells whether it is for a user
asker-is : (rows : List Record) (user : List ℕ) (g m : ℕ) → first_for (users_of rows) user ≡ Some g → IsNumberOf (length rows) m → nat_eq g (get_or (user_groups rows) (m - 1) 0) ≡ is_for (offers_of rows) user m
asker-is rows user g zero found h = absurd (let low = h.from_one in omega (arith, low))
asker-is rows user g (suc i) found h =
    let low : suc i - 1 ≡ i = omega arith in
    let place : i < length rows = omega (arith, h.within) in
    let r = row-at (λ (r : Record). label same_text (users_of rows) (user_of r)) rows i place in
    let at = at-for rows user (suc i) r.one r.at in
    rw (low, r.read, at) (is-label same_text text-Decides (users_of rows) user (user_of r.one) g found)

numbers-there : (rows : List Record) (users : List ℕ) (user : List ℕ) (g n : ℕ) (qs : List Request) → ((m : ℕ) → IsNumberOf (length rows) m → nat_eq g (get_or users (m - 1) 0) ≡ is_for (offers_of rows) user m) → AreThere (length rows) qs → numbers_from (nat_eq g) n (map (asker_of users) qs) ≡ numbers_from (λ (q : Request). is_for (offers_of rows) user q.received) n qs
numbers-there rows users user g n [] h t = refl
numbers-there rows users user g n (q ∷ qs) h t =
    let one = h q.received t.0 in
    let rest = numbers-there rows users user g (n + 1) qs h t.1 in
    rw (one, rest) refl

asked-rows : (rows : List Record) (requests : List Request) (user : List ℕ) → requests_for rows requests user ≡ numbers_where (λ (q : Request). is_for (offers_of rows) user q.received) requests
asked-rows rows requests user = filter-own _ (λ (q : Request). is_for (offers_of rows) user q.received) requests (agree-rows _ _ requests (λ m q e. rw e refl))

pub asked-is : (rows : List Record) (requests : List Request) (users askers : List ℕ) (user : List ℕ) (g : ℕ) → users ≡ user_groups rows → askers ≡ map (asker_of users) requests → AreThere (length rows) requests → first_for (users_of rows) user ≡ Some g → members askers g ≡ requests_for rows requests user
asked-is rows requests users askers user g e a there found =
    let each : (m : ℕ) → IsNumberOf (length rows) m → nat_eq g (get_or users (m - 1) 0) ≡ is_for (offers_of rows) user m = λ m h. rw e (asker-is rows user g m found h) in
    rw a (numbers-there rows users user g 1 requests each there) ∙ sym (asked-rows rows requests user)

-- no offer is for a user whose name none has
no-offer : (rows : List Record) (user : List ℕ) (i : ℕ) → AllFail (λ (r : Record). same_text (user_of r) user) rows → option_map_or (λ (o : Offer). same_text o.with.user user) (slice_get (offers_of rows) i) false ≡ false
no-offer [] user i h = refl
no-offer (r ∷ rows) user zero h = h.0
no-offer (r ∷ rows) user (suc i) h = no-offer rows user i h.1

no-offer-at : (rows : List Record) (user : List ℕ) (m : ℕ) → AllFail (λ (r : Record). same_text (user_of r) user) rows → is_for (offers_of rows) user m ≡ false
no-offer-at rows user zero h = refl
no-offer-at rows user (suc i) h = no-offer rows user i h

all-fail : (rows : List Record) (user : List ℕ) (qs : List Request) → AllFail (λ (r : Record). same_text (user_of r) user) rows → AllFail (λ (q : Request). is_for (offers_of rows) user q.received) qs
all-fail rows user [] h = tt
all-fail rows user (q ∷ qs) h = (no-offer-at rows user q.received h, all-fail rows user qs h)

pub asked-none : (rows : List Record) (requests : List Request) (user : List ℕ) → first_for (users_of rows) user ≡ None → [] ≡ requests_for rows requests user
asked-none rows requests user none =
    sym (asked-rows rows requests user ∙ none-numbers (λ (q : Request). is_for (offers_of rows) user q.received) 1 requests (all-fail rows user requests (none-fail user_of (λ u. same_text u user) 1 rows none)))

-- ---- no record with a mark

fail-at : {X : Type 0} (p : X → Bool) (xs : List X) (i : ℕ) (d : X) → AllFail p xs → i < length xs → p (get_or xs i d) ≡ false
fail-at p [] i d h k = absurd (omega (arith, k))
fail-at p (x ∷ xs) zero d h k = h.0
fail-at p (x ∷ xs) (suc i) d h k = fail-at p xs i d h.1 (omega (arith, k))

pub none-holds : (rows : List Record) (mark : Mark) → first_with (marks_of rows) mark ≡ None → (i : ℕ) (d : Record) → i < length rows → holds mark (get_or rows i d) ≡ false
none-holds rows mark none i d h =
    let fails = fail-at (λ (r : Record). is_of mark.id mark.secret r.offer) rows i d (none-fail sign_of (λ m. same_mark m mark) 1 rows none) h in
    ap (λ b. b && not (is_given_up (get_or rows i d).phase)) fails

-- what an answer is, by another name of the same list
pub each_of : {E : Type 0} (r : Result (List ℕ) E) (one other : List ℕ) → IfOk r (λ xs. xs ≡ one) → one ≡ other → IfOk r (λ xs. xs ≡ other)
each_of (Ok xs) one other h e = h ∙ e
each_of (Err x) one other h e = h
