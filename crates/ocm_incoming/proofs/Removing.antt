use Rattle.std.proofs.Common.{◌≡◌, ◌≢◌, ℕ, zero, suc, ◌+◌, ◌-◌, ◌<◌, ◌≤◌, List, [], ◌∷◌, length, map, take, get_or, Bool, true, false, cond, not, Some, refl, sym, ap, ◌∙◌, arith, ⊎_elim}
use Rattle.std.proofs.Math.ListN.{set}
use Rattle.std.proofs.Math.Seq.{map-set_same}
use Rattle.std.specs.Prelude.{nat_eq, slice_get, count_by, ◌&&◌, IsSome}
use Rattle.std.proofs.lemmas.Bool.{cases_lt}
use Rattle.std.proofs.lemmas.Bool.Decides.{nat_tests}
use Rattle.std.proofs.lemmas.Grind.{get_or-set_at}
use Rattle.std.proofs.lemmas.List.{length-map, length-set, length-take-le, get_or-take, set-get_or, get_or-set_other, get_or-map}
use Rattle.std.proofs.lemmas.List.Sums.{sum_by-set, sum_by-cons, count_by-le-length}
use Rattle.ocm_types.specs.declared.phases.Phase.{Phase}
use Rattle.ocm_types.specs.declared.phases.Phase.TheVariants as phases
use Rattle.ocm_rules.specs.Numbers.{at_number}
use Rattle.ocm_rules.specs.Offers.{is_of, is_given_up}
use Rattle.ocm_rules.specs.State.{changed_at}
use Rattle.ocm_incoming.specs.declared.rows.Record.{Record}
use Rattle.ocm_incoming.specs.declared.rows.Mark.{Mark}
use Rattle.ocm_incoming.specs.Groups.{one_if, numbers_from, IsLastOf}
use Rattle.ocm_incoming.specs.Keys.{same_mark}
use Rattle.ocm_incoming.specs.Lists.{InboxLists, marks_of, first_with, phase_at, phased, holds, unshared, gone}
use Rattle.ocm_incoming.specs.Index.{label, sign_of, mark_groups}
use Rattle.ocm_incoming.proofs.Changing.{set-changed, number-within}
use Rattle.ocm_incoming.proofs.Counting.{one_if-le}
use Rattle.ocm_incoming.proofs.Firsts.{mark-Decides}
use Rattle.ocm_incoming.proofs.Labelling.{is-label, map-unchanged, labelled-unchanged}

-- ---- between two members of a group

no-number-later : {X : Type 0} (p : X → Bool) (x : X) (xs : List X) (i : ℕ) (d : X) → p x ≡ false → i < length (x ∷ xs) → ((j : ℕ) → j < length xs → p (get_or xs j d) ≡ false) → p (get_or (x ∷ xs) i d) ≡ false
no-number-later p x xs zero d g h ih = g
no-number-later p x xs (suc j) d g h ih = ih j (omega (arith, h))

no-number-step : {X : Type 0} (p : X → Bool) (n : ℕ) (x : X) (xs : List X) (i : ℕ) (d : X) (b : Bool) → p x ≡ b → length (cond b (n ∷ numbers_from p (n + 1) xs) (numbers_from p (n + 1) xs)) ≡ 0 → i < length (x ∷ xs) → ((j : ℕ) → length (numbers_from p (n + 1) xs) ≡ 0 → j < length xs → p (get_or xs j d) ≡ false) → p (get_or (x ∷ xs) i d) ≡ false
no-number-step p n x xs i d true g f h ih = absurd (let bad : suc (length (numbers_from p (n + 1) xs)) ≡ 0 = f in omega (arith, bad))
no-number-step p n x xs i d false g f h ih = no-number-later p x xs i d g h (λ j k. ih j f k)

no-number : {X : Type 0} (p : X → Bool) (n : ℕ) (xs : List X) (i : ℕ) (d : X) → length (numbers_from p n xs) ≡ 0 → i < length xs → p (get_or xs i d) ≡ false
no-number p n [] i d e h = absurd (omega (arith, h))
no-number p n (x ∷ xs) i d e h = no-number-step p n x xs i d (p x) refl e h (λ j f k. no-number p (n + 1) xs j d f k)

-- no member of a group stands after the last of those before
gap : {X : Type 0} (p : X → Bool) (n : ℕ) (xs : List X) (a b i : ℕ) (d : X) → a ≤ i → i < b → b ≤ length xs → length (numbers_from p n (take b xs)) ≡ length (numbers_from p n (take a xs)) → p (get_or xs i d) ≡ false
gap p n [] a b i d h k l e = absurd (omega (arith, h, k, l))
gap p n (x ∷ xs) zero b i d h k l e =
    let long = length-take-le b (x ∷ xs) l in
    let none = no-number p n (take b (x ∷ xs)) i d e (omega (arith, long, k)) in
    let at = get_or-take b (x ∷ xs) i d k in
    rw at at none
gap p n (x ∷ xs) (suc a) zero i d h k l e = absurd (omega (arith, k))
gap p n (x ∷ xs) (suc a) (suc b) zero d h k l e = absurd (omega (arith, h))
gap p n (x ∷ xs) (suc a) (suc b) (suc i) d h k l e = gap p (n + 1) xs a b i d (omega (arith, h)) (omega (arith, k)) (omega (arith, l)) (step (p x) e)
  where
    step : (c : Bool) → length (cond c (n ∷ numbers_from p (n + 1) (take b xs)) (numbers_from p (n + 1) (take b xs))) ≡ length (cond c (n ∷ numbers_from p (n + 1) (take a xs)) (numbers_from p (n + 1) (take a xs))) → length (numbers_from p (n + 1) (take b xs)) ≡ length (numbers_from p (n + 1) (take a xs))
    step true f = let same : suc (length (numbers_from p (n + 1) (take b xs))) ≡ suc (length (numbers_from p (n + 1) (take a xs))) = f in omega (arith, same)
    step false f = f

pub last-gap : (groups : List ℕ) (group count last i : ℕ) → IsLastOf groups group count last → count ≤ length groups → last ≤ i → i < count → nat_eq group (get_or groups i 0) ≡ false
last-gap groups group count last i h few low high = gap (nat_eq group) 1 groups last count i 0 low high few (ap length h.alone)

-- ---- a record that is removed

gone-holds : (mark : Mark) (r : Record) → holds mark (gone r) ≡ false
gone-holds mark r = step (is_of mark.id mark.secret r.offer) (is_given_up r.phase) refl
  where
    step : (b c : Bool) → is_given_up r.phase ≡ c → (b && not (is_given_up (cond c r.phase phases.Removed))) ≡ false
    step false c e = refl
    step true true e = rw e refl
    step true false e = refl

not-true : (c : Bool) → not c ≡ true → c ≡ false
not-true true e = sym e
not-true false e = refl

not-false : (c : Bool) → not c ≡ false → c ≡ true
not-false true e = refl
not-false false e = sym e

abbrev phased-by : Record → Phase → Record
phased-by r phase = record { offer = r.offer; phase = phase }

flipped : (b c : Bool) (x y : Phase) → b ≡ true → cond c x y ≡ cond (b && not c) y x
flipped true true x y e = refl
flipped true false x y e = refl
flipped false c x y e = absurd (cc)

gone-unshared : (mark : Mark) (r : Record) → is_of mark.id mark.secret r.offer ≡ true → unshared mark (gone r) ≡ unshared mark r
gone-unshared mark r own =
    let none = gone-holds mark r in
    let one : unshared mark (gone r) ≡ phased-by r (gone r).phase = ap (λ b. phased-by r (cond b phases.Removed (gone r).phase)) none in
    let two : phased-by r (gone r).phase ≡ unshared mark r = ap (λ p. phased-by r p) (flipped (is_of mark.id mark.secret r.offer) (is_given_up r.phase) r.phase phases.Removed own) in
    one ∙ two

-- ---- the row of a number

-- a row, by its number and by its place
pub record IsRowAt (rows : List Record) (n : ℕ) : Type 0 where
  pub one : Record
  pub at : at_number rows n ≡ Some one
  pub low : n - 1 + 1 ≡ n
  pub place : n - 1 < length rows
  pub read : (d : Record) → get_or rows (n - 1) d ≡ one

record IsPlace (rows : List Record) (i : ℕ) : Type 0 where
  one : Record
  at : slice_get rows i ≡ Some one
  place : i < length rows
  read : (d : Record) → get_or rows i d ≡ one

place-at : (rows : List Record) (i : ℕ) → i < length rows → IsPlace rows i
place-at [] i h = absurd (omega (arith, h))
place-at (r ∷ rows) zero h = record { one = r; at = refl; place = h; read = λ d. refl }
place-at (r ∷ rows) (suc i) h = let p = place-at rows i (omega (arith, h)) in record { one = p.one; at = p.at; place = h; read = p.read }

pub row-of : (rows : List Record) (n : ℕ) → 0 < n → n ≤ length rows → IsRowAt rows n
row-of rows zero l h = absurd (omega (arith, l))
row-of rows (suc i) l h =
    let p = place-at rows i (omega (arith, h)) in
    let same : suc i - 1 ≡ i = omega arith in
    record { one = p.one; at = p.at; low = omega arith; place = omega (arith, h); read = λ d. rw same (p.read d) }

pub row-there : (rows : List Record) (n : ℕ) → IsSome (at_number rows n) → IsRowAt rows n
row-there rows n h = let w = number-within rows n h in row-of rows n (omega (arith, w)) (omega (arith, w))

-- a removed row, as a write at its place
gone-set : (rows : List Record) (n : ℕ) (r : IsRowAt rows n) → set rows (n - 1) (gone r.one) ≡ changed_at n gone rows
gone-set rows n r = set-changed rows (n - 1) n gone (gone r.one) r.one r.low r.place (ap gone (sym (r.read r.one)))

phase-of : (rows : List Record) (n : ℕ) (r : IsRowAt rows n) → phase_at rows n ≡ r.one.phase
phase-of rows n r = let at = r.at in rw at refl

-- removed, where it was held
pub removed-gone : (rows : List Record) (n : ℕ) → IsSome (at_number rows n) → not (is_given_up (phase_at rows n)) ≡ true → changed_at n (phased phases.Removed) rows ≡ changed_at n gone rows
removed-gone rows n h held =
    let r = row-there rows n h in
    let phase = phase-of rows n r in
    let given : is_given_up r.one.phase ≡ false = not-true (is_given_up r.one.phase) (rw phase at held) in
    let same : phased phases.Removed r.one ≡ gone r.one = ap (λ c. phased-by r.one (cond c r.one.phase phases.Removed)) (sym given) in
    sym (set-changed rows (n - 1) n (phased phases.Removed) (phased phases.Removed r.one) r.one r.low r.place (ap (phased phases.Removed) (sym (r.read r.one))))
    ∙ (ap (λ y. set rows (n - 1) y) same ∙ gone-set rows n r)

-- left as it is, where it was not
pub kept-gone : (rows : List Record) (n : ℕ) → IsSome (at_number rows n) → not (is_given_up (phase_at rows n)) ≡ false → rows ≡ changed_at n gone rows
kept-gone rows n h held =
    let r = row-there rows n h in
    let phase = phase-of rows n r in
    let given : is_given_up r.one.phase ≡ true = not-false (is_given_up r.one.phase) (rw phase at held) in
    let same : gone r.one ≡ r.one = ap (λ c. phased-by r.one (cond c r.one.phase phases.Removed)) given in
    let back : set rows (n - 1) r.one ≡ rows = ap (λ y. set rows (n - 1) y) (sym (r.read r.one)) ∙ set-get_or rows (n - 1) r.one in
    sym back ∙ (ap (λ y. set rows (n - 1) y) (sym same) ∙ gone-set rows n r)

-- ---- the records with a mark, from the last on

-- where the walk stands: no record from this number on is held, and so many were
pub record IsRemoving (mark : Mark) (group number count : ℕ) (old now : InboxLists) : Type 0 where
  pub requests : now.requests ≡ old.requests
  pub room : now.room ≡ old.room
  pub few : length old.records ≤ 65536
  pub first : first_with (marks_of now.records) mark ≡ Some group
  pub within : number ≤ length now.records
  pub belongs : 0 < number → get_or (mark_groups now.records) (number - 1) 0 ≡ group
  pub later : (i : ℕ) (d : Record) → number ≤ i → i < length now.records → holds mark (get_or now.records i d) ≡ false
  pub same : map (unshared mark) now.records ≡ map (unshared mark) old.records
  pub adds_up : count + count_by (holds mark) now.records ≡ count_by (holds mark) old.records

-- a record of another group has another mark
other-mark : (mark : Mark) (rows : List Record) (group i : ℕ) (d : Record) → first_with (marks_of rows) mark ≡ Some group → i < length rows → nat_eq group (get_or (mark_groups rows) i 0) ≡ false → holds mark (get_or rows i d) ≡ false
other-mark mark rows group i d found h other =
    let p = place-at rows i h in
    let at = get_or-map (λ (r : Record). label same_mark (marks_of rows) (sign_of r)) rows i d 0 h in
    let is = is-label same_mark mark-Decides (marks_of rows) mark (sign_of (get_or rows i d)) group found in
    let not-of : is_of mark.id mark.secret (get_or rows i d).offer ≡ false = sym is ∙ (ap (λ n. nat_eq group n) (sym at) ∙ other) in
    ap (λ b. b && not (is_given_up (get_or rows i d).phase)) not-of

-- the last record of a group has its mark
own-mark : (mark : Mark) (rows : List Record) (group n : ℕ) (r : IsRowAt rows n) → first_with (marks_of rows) mark ≡ Some group → get_or (mark_groups rows) (n - 1) 0 ≡ group → is_of mark.id mark.secret r.one.offer ≡ true
own-mark mark rows group n r found belongs =
    let at = get_or-map (λ (x : Record). label same_mark (marks_of rows) (sign_of x)) rows (n - 1) r.one 0 r.place in
    let is = is-label same_mark mark-Decides (marks_of rows) mark (sign_of (get_or rows (n - 1) r.one)) group found in
    let read = r.read r.one in
    let label-same : nat_eq group (get_or (mark_groups rows) (n - 1) 0) ≡ true = rw belongs (grind (arith, nat_tests)) in
    let own = sym is ∙ (ap (λ k. nat_eq group k) (sym at) ∙ label-same) in
    rw read at own

pub removing-start : (mark : Mark) (group last count : ℕ) (groups : List ℕ) (lists : InboxLists) → count ≡ 0 → length lists.records ≤ 65536 → first_with (marks_of lists.records) mark ≡ Some group → groups ≡ mark_groups lists.records → IsLastOf groups group (length groups) last → IsRemoving mark group last count lists lists
removing-start mark group last count groups lists e few found g h =
    let h' : IsLastOf (mark_groups lists.records) group (length (mark_groups lists.records)) last = rw g at h in
    let long : length (mark_groups lists.records) ≡ length lists.records = length-map lists.records _ in
    record {
      requests = refl;
      room = refl;
      few = few;
      first = found;
      within = omega (arith, h'.within, long);
      belongs = h'.belongs;
      later = λ i d low high. other-mark mark lists.records group i d found high (last-gap (mark_groups lists.records) group (length (mark_groups lists.records)) last i h' (omega arith) low (omega (arith, high, long)));
      same = refl;
      adds_up = omega (arith, e);
    }

later-on : (mark : Mark) (group number next count i : ℕ) (old now : InboxLists) (new : List Record) (r : IsRowAt now.records number) (d : Record) → IsRemoving mark group number count old now → new ≡ set now.records (number - 1) (gone r.one) → IsLastOf (mark_groups now.records) group (number - 1) next → next ≤ i → i < length now.records → holds mark (get_or new i d) ≡ false
later-on mark group number next count i old now new r d w e link low high =
    let long : length (mark_groups now.records) ≡ length now.records = length-map now.records _ in
    rw e (⊎_elim
    (λ (before : i < number - 1).
    let other : i ≢ number - 1 = omega arith in
    rw get_or-set_other (other-mark mark now.records group i d w.first high (last-gap (mark_groups now.records) group (number - 1) next i link (omega (arith, long, r.place)) low before)))
    (λ (from : number - 1 ≤ i).
    ⊎_elim
    (λ (after : number - 1 < i).
    let other : i ≢ number - 1 = omega arith in
    let past : number ≤ i = omega (arith, r.low) in
    rw get_or-set_other (w.later i d past high))
    (λ (till : i ≤ number - 1).
    let here : i ≡ number - 1 = omega arith in
    rw (get_or-set_at now.records (number - 1) i (gone r.one) d here r.place) (gone-holds mark r.one))
    (cases_lt (number - 1) i))
    (cases_lt i (number - 1)))

-- the walk goes on once the record of this number is removed
pub removing-step : (mark : Mark) (group number next count weight : ℕ) (held : Bool) (groups : List ℕ) (old now new : InboxLists) → IsRemoving mark group number count old now → 0 < number → new.records ≡ changed_at number gone now.records → new.requests ≡ now.requests → new.room ≡ now.room → held ≡ not (is_given_up (phase_at now.records number)) → weight ≡ one_if held → groups ≡ mark_groups new.records → IsLastOf groups (get_or groups (number - 1) 0) (number - 1) next → IsRemoving mark group next (count + weight) old new
removing-step mark group number next count weight held groups old now new w low e q m b v g link =
    let r = row-of now.records number low w.within in
    let belongs = w.belongs low in
    let own = own-mark mark now.records group number r w.first belongs in
    let set-is : new.records ≡ set now.records (number - 1) (gone r.one) = e ∙ sym (gone-set now.records number r) in
    let signs : marks_of new.records ≡ marks_of now.records = ap marks_of e ∙ map-unchanged sign_of gone number now.records (λ r. refl) in
    let alike : mark_groups new.records ≡ mark_groups now.records = ap mark_groups e ∙ labelled-unchanged same_mark sign_of (λ n r. n) gone number now.records (λ r. refl) (λ n r. refl) in
    let all = g ∙ alike in
    let link' : IsLastOf (mark_groups now.records) group (number - 1) next = rw (all, belongs) at link in
    let long : length new.records ≡ length now.records = ap length set-is ∙ length-set now.records (number - 1) (gone r.one) in
    let phase = phase-of now.records number r in
    let counted = sum_by-set (λ (x : Record). one_if (holds mark x)) now.records (number - 1) (gone r.one) r.one r.place in
    let read : holds mark (get_or now.records (number - 1) r.one) ≡ held = ap (holds mark) (r.read r.one) ∙ (ap (λ c. c && not (is_given_up r.one.phase)) own ∙ sym (b ∙ ap (λ p. not (is_given_up p)) phase)) in
    let was : one_if (holds mark (get_or now.records (number - 1) r.one)) ≡ weight = ap one_if read ∙ sym v in
    let is : one_if (holds mark (gone r.one)) ≡ 0 = ap one_if (gone-holds mark r.one) in
    let sums : count_by (holds mark) new.records ≡ count_by (holds mark) (set now.records (number - 1) (gone r.one)) = ap (λ rows. count_by (holds mark) rows) set-is in
    record {
      requests = q ∙ w.requests;
      room = m ∙ w.room;
      few = w.few;
      first = rw signs w.first;
      within = omega (arith, link'.within, w.within, long);
      belongs = λ (p : 0 < next). rw alike (link'.belongs p);
      later = λ i d lo hi. later-on mark group number next count i old now new.records r d w set-is link' lo (omega (arith, hi, long));
      same = ap (λ rows. map (unshared mark) rows) set-is ∙ (map-set_same (unshared mark) now.records (number - 1) (gone r.one) r.one (gone-unshared mark r.one own ∙ ap (unshared mark) (sym (r.read r.one))) ∙ w.same);
      adds_up = omega (arith, counted, was, is, sums, w.adds_up);
    }

-- the count and the weight of one more fit
pub removing-fits : (mark : Mark) (group number count weight : ℕ) (held : Bool) (old now : InboxLists) → IsRemoving mark group number count old now → weight ≡ one_if held → count + weight ≤ 65537
removing-fits mark group number count weight held old now w v =
    let most = count_by-le-length (holds mark) old.records in
    omega (arith, w.adds_up, w.few, most, v, one_if-le held)

-- ---- no record is held any more

none-counted : {X : Type 0} (p : X → Bool) (xs : List X) → ((i : ℕ) (d : X) → i < length xs → p (get_or xs i d) ≡ false) → count_by p xs ≡ 0
none-counted p [] h = refl
none-counted p (x ∷ xs) h =
    let both = sum_by-cons (λ y. one_if (p y)) x xs in
    let one : one_if (p x) ≡ 0 = ap one_if (h 0 x (omega arith)) in
    let rest = none-counted p xs (λ i d k. h (suc i) d (omega (arith, k))) in
    omega (arith, both, one, rest)

none-unshared : (mark : Mark) (rows : List Record) → ((i : ℕ) (d : Record) → i < length rows → holds mark (get_or rows i d) ≡ false) → rows ≡ map (unshared mark) rows
none-unshared mark [] h = refl
none-unshared mark (r ∷ rows) h =
    let none = h 0 r (omega arith) in
    let one : r ≡ unshared mark r = sym (ap (λ b. phased-by r (cond b phases.Removed r.phase)) none) in
    let rest = none-unshared mark rows (λ i d k. h (suc i) d (omega (arith, k))) in
    rw (← one, ← rest) refl

pub nothing-held : (mark : Mark) (rows : List Record) → ((i : ℕ) (d : Record) → i < length rows → holds mark (get_or rows i d) ≡ false) → (rows ≡ map (unshared mark) rows) × (0 ≡ count_by (holds mark) rows)
nothing-held mark rows h = (none-unshared mark rows h, sym (none-counted (holds mark) rows h))

-- at the end of the walk all are removed
pub removing-end : (mark : Mark) (group number count : ℕ) (old now : InboxLists) → IsRemoving mark group number count old now → number ≡ 0 → (now.records ≡ map (unshared mark) old.records) × (count ≡ count_by (holds mark) old.records)
removing-end mark group number count old now w e =
    let done = nothing-held mark now.records (λ i d h. w.later i d (omega (arith, e)) h) in
    (done.0 ∙ w.same, omega (arith, w.adds_up, done.1))

-- each number of one of so many has a row
pub number-there : (rows : List Record) (n : ℕ) → 0 < n → n ≤ length rows → IsSome (at_number rows n)
number-there rows n l h = let r = row-of rows n l h in let at = r.at in rw at refl
