use Rattle.std.proofs.Common.{◌≡◌, ℕ, zero, suc, ◌+◌, ◌≤◌, ◌<◌, List, [], ◌∷◌, map, length, Bool, true, false, cond, ◌&&◌, ◌||◌, Option, Some, None, refl, sym, ap, ◌∙◌, subst, arith, eqb-true, eq-eqb, if◌then◌else◌, nat_eq, nat_lt, option_map}
use Rattle.std.specs.Prelude.{filter, IsSome, All, slice_index_or}
use Rattle.std.specs.List.{list_any, range_with_len}
use Rattle.std.specs.Option.{option_map_or}
use Rattle.std.proofs.lemmas.List.{length-map}
use Rattle.std.proofs.lemmas.List.Elements.{All-filter, filter_passes}
use Rattle.ocm_types.specs.declared.letters.Notice.TheVariants as notices
use Rattle.ocm_types.specs.declared.letters.Offer.{Offer}
use Rattle.ocm_types.specs.declared.rights.Rights.{Rights}
use Rattle.ocm_entry.specs.declared.asks.Ask.TheVariants.{Notice}
use Rattle.ocm_entry.specs.declared.replies.Reply.TheVariants.{Noticed}
use Rattle.ocm_incoming.specs.declared.rows.Mark.{Mark}
use Rattle.ocm_rules.specs.declared.rows.ReceivedRow.{ReceivedRow}
use Rattle.ocm_rules.specs.declared.rows.Told.{Told}
use Rattle.ocm_rules.specs.Numbers.{at_number, numbers}
use Rattle.ocm_rules.specs.Offers.{is_of, later}
use Rattle.ocm_rules.specs.History.{is_news}
use Rattle.ocm_rules.specs.State.{State, step, view_in}
use Rattle.ocm_rules.proofs.Lists.{not_both}
use Rattle.ocm_rules.proofs.Numbering.{map_numbered-plain}
use Rattle.ocm_rules.proofs.Searches.{map_numbered-there, at_number-within}
use Rattle.ocm_tables.specs.declared.changes.TableChange.TheVariants as changes
use Rattle.ocm_tables.specs.Changes.{IsRecord, acted, changed, told_to}
use Rattle.ocm_rules_steps.proofs.NoticeSteps.{unshared-step, changed-step}
use Rattle.ocm_rules_steps.proofs.Rows.{none-sent}
use Rattle.ocm_plan_peers.proofs.ListRows.{row-part}

-- each record of a share that is shared no more is removed
pub unshared-makes : (st : State) (id secret fresh : List ℕ) (mark : Mark) → mark ≡ record { id = id; secret = secret }
    → changed st (changes.GiveUp mark) [] ≡ step st (Notice (notices.Unshared id secret) fresh) Noticed
unshared-makes st id secret fresh mark e =
    let made : Mark = record { id = id; secret = secret } in
    ap (λ (m : Mark). changed st (changes.GiveUp m) []) e ∙ (none-sent (acted st (changes.GiveUp made)) ∙ sym (unshared-step st id secret fresh Noticed))

-- ---- the numbers of those that pass two tests

any-cond : (q : ℕ → Bool) (b : Bool) (m : ℕ) (ns : List ℕ) → list_any q (cond b (m ∷ ns) ns) ≡ cond b (q m || list_any q ns) (list_any q ns)
any-cond q true m ns = refl
any-cond q false m ns = refl

-- which of the numbers that pass is this one
held-filter : (p : ℕ → Bool) (n : ℕ) (ns : List ℕ) → list_any (nat_eq n) (filter p ns) ≡ (p n && list_any (nat_eq n) ns)
held-filter p n [] = by_test (p n)
  where
    by_test : (b : Bool) → false ≡ (b && false)
    by_test true = refl
    by_test false = refl
held-filter p n (m ∷ ns) = any-cond (nat_eq n) (p m) m (filter p ns) ∙ by_tests (p n) (p m) (nat_eq n m) (λ e. ap p (eqb-true n m e)) (held-filter p n ns)
  where
    by_tests : (pn pm e : Bool) → (e ≡ true → pn ≡ pm) → list_any (nat_eq n) (filter p ns) ≡ (pn && list_any (nat_eq n) ns)
        → cond pm (e || list_any (nat_eq n) (filter p ns)) (list_any (nat_eq n) (filter p ns)) ≡ (pn && (e || list_any (nat_eq n) ns))
    by_tests true true true same rest = refl
    by_tests true true false same rest = rest
    by_tests true false true same rest = absurd (let bad = same refl in cc)
    by_tests true false false same rest = rest
    by_tests false true true same rest = absurd (let bad = same refl in cc)
    by_tests false true false same rest = rest
    by_tests false false e same rest = rest

in-range : (n k count : ℕ) → k ≤ n → n < k + count → list_any (nat_eq n) (range_with_len k count) ≡ true
in-range n k zero low high = absurd (omega (arith, low, high))
in-range n k (suc count) low high = by_test (nat_eq n k) refl (λ later. in-range n (k + 1) count later (omega (arith, high)))
  where
    by_test : (b : Bool) → nat_eq n k ≡ b → (k + 1 ≤ n → list_any (nat_eq n) (range_with_len (k + 1) count) ≡ true) → (b || list_any (nat_eq n) (range_with_len (k + 1) count)) ≡ true
    by_test true e rest = refl
    by_test false e rest = rest (let other : n ≡ k → ⊥ = λ same. not_both (nat_eq n k) (eq-eqb n k same) e in omega (arith, low, other))

not_zero : {X : Type 0} (xs : List X) (j : ℕ) (x : X) → at_number xs j ≡ Some x → 1 ≤ j
not_zero xs zero x there = absurd (cc)
not_zero xs (suc i) x there = omega arith

-- the number of one that is there is one of the numbers
numbers-there : {X Y : Type 0} (f : X → Y) (xs : List X) (j : ℕ) (x : X) → at_number xs j ≡ Some x → list_any (nat_eq j) (numbers (map f xs)) ≡ true
numbers-there f xs j x there =
    let within = at_number-within xs j x there in
    let first = not_zero xs j x there in
    rw length-map (in-range j 1 (length xs) first (omega (arith, within)))

-- whether the offer of this number has this mark
abbrev has_mark : State → List ℕ → List ℕ → ℕ → Bool
has_mark st id secret n = option_map_or (is_of id secret) (at_number (view_in st).offers n) false

-- whether the guest of the record of this number was told a lower serial
abbrev is_behind : State → ℕ → ℕ → Bool
is_behind st serial n = nat_lt ((view_in st).told n).serial serial

-- the numbers of the records with this mark whose guest was told a lower serial
abbrev pub told_now : State → List ℕ → List ℕ → ℕ → List ℕ
told_now st id secret serial = filter (is_behind st serial) (filter (has_mark st id secret) (numbers (view_in st).offers))

told-row : (row : ReceivedRow) (new : Told) (q p : Bool) → (if q && (p && true) then record row { told = new } else row) ≡ (if p then record row { told = if q then new else row.told } else row)
told-row row new true true = refl
told-row row new true false = refl
told-row row new false true = refl
told-row row new false false = refl

told-there : (st : State) (id secret : List ℕ) (new : Told) (j : ℕ) (row : ReceivedRow) → at_number st.received j ≡ Some row
    → (if list_any (nat_eq j) (told_now st id secret new.serial) then record row { told = new } else row) ≡ (if is_of id secret row.offer then record row { told = later new row.told } else row)
told-there st id secret new j row there =
    let second = held-filter (is_behind st new.serial) j (filter (has_mark st id secret) (numbers (view_in st).offers)) in
    let first = held-filter (has_mark st id secret) j (numbers (view_in st).offers) in
    let all = numbers-there (λ (r : ReceivedRow). r.offer) st.received j row there in
    let mark : has_mark st id secret j ≡ is_of id secret row.offer = rw (row-part (λ (r : ReceivedRow). r.offer) st.received j, there) refl in
    let behind : is_behind st new.serial j ≡ nat_lt row.told.serial new.serial = rw there refl in
    rw (second, first, all, mark, behind) (told-row row new (nat_lt row.told.serial new.serial) (is_of id secret row.offer))

-- the guest of each record with this mark is told of this, where it is later
told-rows : (st : State) (id secret : List ℕ) (new : Told) → told_to (told_now st id secret new.serial) new st.received
    ≡ map (λ (row : ReceivedRow). if is_of id secret row.offer then record row { told = later new row.told } else row) st.received
told-rows st id secret new =
    map_numbered-there _ (λ j (row : ReceivedRow). if is_of id secret row.offer then record row { told = later new row.told } else row) st.received (λ j row there. told-there st id secret new j row there)
    ∙ map_numbered-plain _ _ 1 st.received (λ j row low. refl)

pub changed-makes : (st : State) (id secret fresh : List ℕ) (serial : ℕ) (perms : Rights) (ns : List ℕ) → ns ≡ told_now st id secret serial
    → changed st (changes.Tell ns serial perms) [] ≡ step st (Notice (notices.Changed id secret serial perms) fresh) Noticed
changed-makes st id secret fresh serial perms ns e =
    let new : Told = record { serial = serial; perms = perms } in
    let told = told_now st id secret serial in
    ap (λ (m : List ℕ). changed st (changes.Tell m serial perms) []) e
    ∙ (none-sent (acted st (changes.Tell told serial perms))
    ∙ (ap (λ (rows : List ReceivedRow). let r : State = record st { received = rows } in r) (told-rows st id secret new) ∙ sym (changed-step st id secret serial perms fresh Noticed)))

-- ---- that there are some

any-both : (p q : ℕ → Bool) (ns : List ℕ) → list_any q (filter p ns) ≡ list_any (λ n. p n && q n) ns
any-both p q [] = refl
any-both p q (n ∷ ns) = by_test (p n) (any-both p q ns)
  where
    by_test : (b : Bool) → list_any q (filter p ns) ≡ list_any (λ m. p m && q m) ns
        → list_any q (cond b (n ∷ filter p ns) (filter p ns)) ≡ (b && q n || list_any (λ m. p m && q m) ns)
    by_test true rest = ap (λ any. q n || any) rest
    by_test false rest = rest

any-some : (p : ℕ → Bool) (ns : List ℕ) → (length (filter p ns) ≡ 0 → list_any p ns ≡ false) × ((length (filter p ns) ≡ 0 → ⊥) → list_any p ns ≡ true)
any-some p [] = (λ e. refl, λ e. absurd (e refl))
any-some p (n ∷ ns) = by_test (p n) (any-some p ns)
  where
    by_test : (b : Bool) → (length (filter p ns) ≡ 0 → list_any p ns ≡ false) × ((length (filter p ns) ≡ 0 → ⊥) → list_any p ns ≡ true)
        → (length (cond b (n ∷ filter p ns) (filter p ns)) ≡ 0 → (b || list_any p ns) ≡ false) × ((length (cond b (n ∷ filter p ns) (filter p ns)) ≡ 0 → ⊥) → (b || list_any p ns) ≡ true)
    by_test true rest = (λ e. absurd (omega (arith, e)), λ e. refl)
    by_test false rest = rest

-- there is news exactly where there are some to tell
pub news-none : (st : State) (id secret : List ℕ) (serial : ℕ) (ns : List ℕ) → ns ≡ told_now st id secret serial → length ns ≡ 0 → is_news (view_in st) id secret serial ≡ false
news-none st id secret serial ns e none =
    sym (any-both (has_mark st id secret) (is_behind st serial) (numbers (view_in st).offers))
    ∙ (any-some (is_behind st serial) (filter (has_mark st id secret) (numbers (view_in st).offers))).0 (rw e at none)

pub news-some : (st : State) (id secret : List ℕ) (serial : ℕ) (ns : List ℕ) → ns ≡ told_now st id secret serial → (length ns ≡ 0 → ⊥) → is_news (view_in st) id secret serial ≡ true
news-some st id secret serial ns e some =
    sym (any-both (has_mark st id secret) (is_behind st serial) (numbers (view_in st).offers))
    ∙ (any-some (is_behind st serial) (filter (has_mark st id secret) (numbers (view_in st).offers))).1 (λ none. some (ap length e ∙ none))

-- each of them is a record

passed-there : (test : Offer → Bool) (o : Option ReceivedRow) → option_map_or test (option_map (λ (row : ReceivedRow). row.offer) o) false ≡ true → IsSome o
passed-there test None e = absurd (cc)
passed-there test (Some row) e = refl

marked-there : (st : State) (id secret : List ℕ) (n : ℕ) → has_mark st id secret n ≡ true → IsRecord st n
marked-there st id secret n e =
    passed-there (is_of id secret) (at_number st.received n) (ap (λ o. option_map_or (is_of id secret) o false) (sym (row-part (λ (row : ReceivedRow). row.offer) st.received n)) ∙ e)

pub told-fit : (st : State) (id secret : List ℕ) (serial : ℕ) (ns : List ℕ) → ns ≡ told_now st id secret serial → All (λ number. IsRecord st number) ns
told-fit st id secret serial ns e =
    let P : List ℕ → Type 0 = λ ms. All (λ number. IsRecord st number) ms in
    let marked = filter (has_mark st id secret) (numbers (view_in st).offers) in
    subst P (sym e) (All-filter (is_behind st serial) (λ number. IsRecord st number) marked (λ k d within. marked-there st id secret (slice_index_or marked k d) (filter_passes (has_mark st id secret) (numbers (view_in st).offers) k d within)))

-- those that were found and are behind
pub told_after : (st : State) (id secret : List ℕ) (serial : ℕ) (mark : Mark) (received ns : List ℕ) → mark ≡ record { id = id; secret = secret }
    → received ≡ filter (λ n. option_map_or (is_of mark.id mark.secret) (at_number (view_in st).offers n) false) (numbers (view_in st).offers)
    → ns ≡ filter (λ n. nat_lt ((view_in st).told n).serial serial) received → ns ≡ told_now st id secret serial
told_after st id secret serial mark received ns e found behind =
    behind ∙ (ap (λ (ms : List ℕ). filter (λ n. nat_lt ((view_in st).told n).serial serial) ms) found
    ∙ ap (λ (m : Mark). filter (λ n. nat_lt ((view_in st).told n).serial serial) (filter (λ n. option_map_or (is_of m.id m.secret) (at_number (view_in st).offers n) false) (numbers (view_in st).offers))) e)
