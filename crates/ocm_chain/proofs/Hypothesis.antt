use Rattle.std.proofs.Common.{◌≡◌, ℕ, zero, suc, ◌+◌, ◌<◌, ◌≤◌, List, [], ◌∷◌, ◌++◌, length, map, Bool, true, false, refl, sym, ap, ◌∙◌, ◌⊎◌, inl, inr, arith}
use Rattle.std.specs.Prelude.{Option, Some, None, nat_eq, not, ◌&&◌, is_some, slice_get, option_map, filter, if◌then◌else◌}
use Rattle.std.specs.List.{range_with_len, list_all}
use Rattle.std.specs.Option.{option_map_or}
use Rattle.std.proofs.lemmas.List.{length-append, length-map, map-append}
use Rattle.std.proofs.lemmas.Option.{slice_get-map, slice_get_within}
use Rattle.std.proofs.lemmas.Bool.{cases_lt, eqb-true, eqb-false, eq-eqb, ne_eqb}
use Rattle.ocm_types.specs.declared.rights.Rights.{Rights}
use Rattle.ocm_types.specs.Rights.{is_any, both}
use Rattle.ocm_entry.specs.declared.rows.Share.{Share}
use Rattle.ocm_rules.specs.declared.rows.ShareRow.{ShareRow}
use Rattle.ocm_rules.specs.Equal.{same_rights}
use Rattle.ocm_rules.specs.Numbers.{at_number}
use Rattle.ocm_rules.specs.Shares.{no_rights, links, permitted}
use Rattle.ocm_rules.specs.State.{map_numbered, row_goes_on}
use Rattle.ocm_rules.proofs.Numbering.{at_number-map_numbered}
use Rattle.ocm_rules.proofs.Searches.{some-same}
use Rattle.ocm_chain.specs.declared.reaches.Reach.{Reach}
use Rattle.ocm_chain.specs.declared.reaches.Row.{Row}
use Rattle.ocm_chain.specs.declared.answers.Change.{Change}
use Rattle.ocm_chain.specs.Lists.{made_of, goes_on_at, perms_at, is_live_at, is_live_without, cut_by, effective_at, effective_with, is_told, changes_by, IsAmongFirst}
use Rattle.ocm_chain.specs.Reaches.{reach_of, reach_at, reach_above, reach_goes_on, owns, AreRight}
use Rattle.ocm_chain.specs.Hypotheses.{with_own, AreReaches, reach_goes_on_at, effective_of, is_cut_by, is_cut_among, told_by, is_told_among, change_among, reaches_of}
use Rattle.ocm_chain.proofs.Search.{get-there}
use Rattle.ocm_chain.proofs.Places.{slice_get-front, slice_get-last}
use Rattle.ocm_chain.proofs.ChainLinks.{reach_at-row}
use Rattle.ocm_chain.proofs.RightRows.{own-at}
use Rattle.ocm_chain.proofs.LiveShares.{live-there}
use Rattle.ocm_chain.proofs.OwnNumbers.{filter-push}

-- ---- what is collected by numbers

-- a filter of the numbers up to one more, by whether that one passes
pub filter-more : (test : ℕ → Bool) (n : ℕ) (items more : List ℕ) (b : Bool) → test (suc n) ≡ b → items ≡ filter test (range_with_len 1 n) → more ≡ items ++ (if b then suc n ∷ [] else [])
    → more ≡ filter test (range_with_len 1 (n + 1))
filter-more test n items more b t before now =
    let next : suc n ≡ n + 1 = omega arith in
    now ∙ (ap (λ ns. ns ++ (if b then suc n ∷ [] else [])) before ∙ (ap (λ s. filter test (range_with_len 1 n) ++ (if s then suc n ∷ [] else [])) (sym t)
    ∙ (sym (filter-push test n) ∙ ap (λ m. filter test (range_with_len 1 m)) next)))

images : (f : ℕ → Change) (n : ℕ) (b : Bool) → map f (if b then suc n ∷ [] else []) ≡ (if b then f (suc n) ∷ [] else [])
images f n true = refl
images f n false = refl

-- and of what is told of each
pub changes-more : (f : ℕ → Change) (test : ℕ → Bool) (n : ℕ) (items more : List Change) (b : Bool) → test (suc n) ≡ b → items ≡ map f (filter test (range_with_len 1 n))
    → more ≡ items ++ (if b then f (suc n) ∷ [] else []) → more ≡ map f (filter test (range_with_len 1 (n + 1)))
changes-more f test n items more b t before now =
    let taken = filter test (range_with_len 1 n) in
    now ∙ (ap (λ cs. cs ++ (if b then f (suc n) ∷ [] else [])) before ∙ (ap (λ cs. map f taken ++ cs) (sym (images f n b))
    ∙ (sym (map-append f taken (if b then suc n ∷ [] else [])) ∙ ap (map f) (filter-more test n taken (taken ++ (if b then suc n ∷ [] else [])) b t refl refl))))

-- tests that agree at each number up to the last collect the same
pub filter-same : (s t : ℕ → Bool) (n : ℕ) → ((k : ℕ) → k < n → s (suc k) ≡ t (suc k)) → filter s (range_with_len 1 n) ≡ filter t (range_with_len 1 n)
filter-same s t zero same = refl
filter-same s t (suc n) same =
    filter-push s n
    ∙ (ap (λ ns. ns ++ (if s (suc n) then suc n ∷ [] else [])) (filter-same s t n (λ k low. same k (omega (arith, low))))
    ∙ (ap (λ b. filter t (range_with_len 1 n) ++ (if b then suc n ∷ [] else [])) (same n (omega arith)) ∙ sym (filter-push t n)))

pub changes-same : (f g : ℕ → Change) (s t : ℕ → Bool) (n : ℕ) → ((k : ℕ) → k < n → s (suc k) ≡ t (suc k)) → ((k : ℕ) → k < n → f (suc k) ≡ g (suc k))
    → map f (filter s (range_with_len 1 n)) ≡ map g (filter t (range_with_len 1 n))
changes-same f g s t zero same images_same = refl
changes-same f g s t (suc n) same images_same =
    let low : n < suc n = omega arith in
    let before = changes-same f g s t n (λ k l. same k (omega (arith, l))) (λ k l. images_same k (omega (arith, l))) in
    ap (map f) (filter-push s n) ∙ (map-append f (filter s (range_with_len 1 n)) (if s (suc n) then suc n ∷ [] else [])
    ∙ (ap (λ cs. cs ++ map f (if s (suc n) then suc n ∷ [] else [])) before
    ∙ (ap (λ cs. map g (filter t (range_with_len 1 n)) ++ cs) (images f n (s (suc n)) ∙ (ap (λ b. if b then f (suc n) ∷ [] else []) (same n low) ∙ (one (t (suc n)) (images_same n low) ∙ sym (images g n (t (suc n))))))
    ∙ (sym (map-append g (filter t (range_with_len 1 n)) (if t (suc n) then suc n ∷ [] else [])) ∙ ap (map g) (sym (filter-push t n))))))
  where
    one : (b : Bool) → f (suc n) ≡ g (suc n) → (if b then f (suc n) ∷ [] else []) ≡ (if b then g (suc n) ∷ [] else [])
    one true e = ap (λ c. c ∷ []) e
    one false e = refl

-- ---- the test of one number

pub reach-here : (rows : List Row) (k : ℕ) (row : Row) → slice_get rows k ≡ Some row → at_number (reaches_of rows) (suc k) ≡ Some row.reach
reach-here rows k row at = slice_get-map (λ (r : Row). r.reach) rows k ∙ ap (λ o. option_map (λ (r : Row). r.reach) o) at

pub cut-here : (moment : ℕ) (rows : List Row) (after : List Reach) (k : ℕ) (row : Row) (reach : Reach) → slice_get rows k ≡ Some row → slice_get after k ≡ Some reach
    → is_cut_among moment (reaches_of rows) after (suc k) ≡ is_cut_by moment row.reach reach
cut-here moment rows after k row reach at there =
    ap (λ o. option_map_or (reach_goes_on moment) o false && not (reach_goes_on_at moment after (suc k))) (reach-here rows k row at)
    ∙ ap (λ o. reach_goes_on moment row.reach && not (option_map_or (reach_goes_on moment) o false)) there

-- whether one is told of what is left
abbrev pub told-both : ℕ → Reach → Reach → Bool
told-both moment before after = reach_goes_on moment before && is_any after.effective && not (same_rights after.effective before.effective)

told-here : (moment : ℕ) (rows : List Row) (after : List Reach) (k : ℕ) (row : Row) (reach : Reach) → slice_get rows k ≡ Some row → slice_get after k ≡ Some reach
    → is_told_among moment (reaches_of rows) after (suc k) ≡ told-both moment row.reach reach
told-here moment rows after k row reach at there =
    let test : Option Reach → Option Reach → Bool = λ o p. option_map_or (reach_goes_on moment) o false && is_any (option_map_or (λ (r : Reach). r.effective) p no_rights)
    && not (same_rights (option_map_or (λ (r : Reach). r.effective) p no_rights) (option_map_or (λ (r : Reach). r.effective) o no_rights)) in
    ap (λ o. test o (at_number after (suc k))) (reach-here rows k row at) ∙ ap (test (Some row.reach)) there

told-cases : (live any same : Bool) (rights : Rights) → (if live && not same then (if any then Some rights else None) else None) ≡ (if live && any && not same then Some rights else None)
told-cases true true same rights = refl
told-cases true false true rights = refl
told-cases true false false rights = refl
told-cases false any same rights = refl

pub told_by-is : (moment : ℕ) (before after : Reach) → told_by moment before after ≡ (if told-both moment before after then Some after.effective else None)
told_by-is moment before after = told-cases (reach_goes_on moment before) (is_any after.effective) (same_rights after.effective before.effective) after.effective

told-some : (b : Bool) (e p : Rights) → Some p ≡ (if b then Some e else None) → (b ≡ true) × (p ≡ e)
told-some true e p h = (refl, some-same p e h)
told-some false e p h = absurd (cc)

told-none : (b : Bool) (e : Rights) → (let none : Option Rights = None in none) ≡ (if b then Some e else None) → b ≡ false
told-none true e h = absurd (cc)
told-none false e h = refl

-- one who is told is told what may be done after
pub told-yes : (moment : ℕ) (rows : List Row) (after : List Reach) (k : ℕ) (row : Row) (reach : Reach) (p : Rights) → slice_get rows k ≡ Some row → slice_get after k ≡ Some reach
    → Some p ≡ told_by moment row.reach reach → (is_told_among moment (reaches_of rows) after (suc k) ≡ true) × (p ≡ effective_of after (suc k))
told-yes moment rows after k row reach p at there h =
    let both_of = told-some (told-both moment row.reach reach) reach.effective p (h ∙ told_by-is moment row.reach reach) in
    (told-here moment rows after k row reach at there ∙ both_of.0, both_of.1 ∙ ap (λ o. option_map_or (λ (r : Reach). r.effective) o no_rights) (sym there))

pub told-no : (moment : ℕ) (rows : List Row) (after : List Reach) (k : ℕ) (row : Row) (reach : Reach) → slice_get rows k ≡ Some row → slice_get after k ≡ Some reach
    → None ≡ told_by moment row.reach reach → is_told_among moment (reaches_of rows) after (suc k) ≡ false
told-no moment rows after k row reach at there h =
    told-here moment rows after k row reach at there ∙ told-none (told-both moment row.reach reach) reach.effective (h ∙ told_by-is moment row.reach reach)

-- ---- the shares with one closed or limited

pub with-at : (shares : List ShareRow) (id : ℕ) (rights : Rights) (closed : Bool) (i : ℕ) → at_number (with_own shares id rights closed) i
    ≡ option_map (λ (row : ShareRow). if nat_eq id i then record row { perms = rights; closed = closed } else row) (at_number shares i)
with-at shares id rights closed i = at_number-map_numbered (λ j (row : ShareRow). if nat_eq id j then record row { perms = rights; closed = closed } else row) shares i

share-kept : (b : Bool) (row : ShareRow) (rights : Rights) (closed : Bool) → (let after : ShareRow = if b then record row { perms = rights; closed = closed } else row in after.share) ≡ row.share
share-kept true row rights closed = refl
share-kept false row rights closed = refl

-- the row of an index, were it so
pub reach-with : (shares : List ShareRow) (id : ℕ) (rights : Rights) (closed : Bool) (k : ℕ) (row : ShareRow) → slice_get shares k ≡ Some row → IsAmongFirst k row.share.parent
    → reach_at (with_own shares id rights closed) (suc k)
    ≡ reach_of (if nat_eq id (suc k) then closed else row.closed) (if nat_eq id (suc k) then rights else row.perms) row.end (reach_above (with_own shares id rights closed) row.share.parent)
reach-with shares id rights closed k row at low = by_case (nat_eq id (suc k)) refl (with-at shares id rights closed (suc k) ∙ ap (λ o. option_map (λ (r : ShareRow). if nat_eq id (suc k) then record r { perms = rights; closed = closed } else r) o) at)
  where
    by_case : (b : Bool) → nat_eq id (suc k) ≡ b → slice_get (with_own shares id rights closed) k ≡ Some (if nat_eq id (suc k) then record row { perms = rights; closed = closed } else row)
        → reach_at (with_own shares id rights closed) (suc k) ≡ reach_of (if nat_eq id (suc k) then closed else row.closed) (if nat_eq id (suc k) then rights else row.perms) row.end (reach_above (with_own shares id rights closed) row.share.parent)
    by_case true e there = rw e (reach_at-row (with_own shares id rights closed) k (record row { perms = rights; closed = closed }) (rw e at there) low)
    by_case false e there = rw e (reach_at-row (with_own shares id rights closed) k row (rw e at there) low)

-- one more of what would be left
pub reaches-more : (shares : List ShareRow) (reaches : List Reach) (n : ℕ) (reach : Reach) → AreReaches shares reaches n → reach ≡ reach_at shares (suc n) → AreReaches shares (reaches ++ reach ∷ []) (n + 1)
reaches-more shares reaches n reach h e =
    let longer = length-append reaches (reach ∷ []) in
    let many = h.0 in
    (omega (arith, longer, many), λ k x at. by_case k x at (cases_lt k (length reaches)) (slice_get_within (reaches ++ reach ∷ []) k x at))
  where
    by_case : (k : ℕ) (x : Reach) → slice_get (reaches ++ reach ∷ []) k ≡ Some x → (k < length reaches) ⊎ (length reaches ≤ k) → k < length (reaches ++ reach ∷ []) → x ≡ reach_at shares (suc k)
    by_case k x at (inl lt) within = h.1 k x (sym (slice_get-front reaches reach k lt) ∙ at)
    by_case k x at (inr ge) within =
        let longer = length-append reaches (reach ∷ []) in
        let last : k ≡ length reaches = omega (arith, ge, within, longer) in
        let same : reach ≡ x = some-same reach x (sym (slice_get-last reaches reach) ∙ ap (slice_get (reaches ++ reach ∷ [])) (sym last) ∙ at) in
        sym same ∙ (e ∙ ap (λ i. reach_at shares (suc i)) (sym (last ∙ h.0)))

-- ---- what would be, by the links

made-numbered : (id : ℕ) (rights : Rights) (closed : Bool) (n : ℕ) (shares : List ShareRow)
    → made_of (map_numbered (λ j (row : ShareRow). if nat_eq id j then record row { perms = rights; closed = closed } else row) n shares) ≡ made_of shares
made-numbered id rights closed n [] = refl
made-numbered id rights closed n (row ∷ shares) =
    ap (λ m. m ∷ made_of (map_numbered (λ j (r : ShareRow). if nat_eq id j then record r { perms = rights; closed = closed } else r) (n + 1) shares)) (share-kept (nat_eq id n) row rights closed)
    ∙ ap (λ ms. row.share ∷ ms) (made-numbered id rights closed (n + 1) shares)

pub made-with : (shares : List ShareRow) (id : ℕ) (rights : Rights) (closed : Bool) → made_of (with_own shares id rights closed) ≡ made_of shares
made-with shares id rights closed = made-numbered id rights closed 1 shares

list_all-same : (p q : ℕ → Bool) → ((i : ℕ) → p i ≡ q i) → (ns : List ℕ) → list_all p ns ≡ list_all q ns
list_all-same p q same [] = refl
list_all-same p q same (n ∷ ns) = ap (λ t. t && list_all p ns) (same n) ∙ ap (λ t. q n && t) (list_all-same p q same ns)

permitted-same : (p q : ℕ → Rights) → ((i : ℕ) → p i ≡ q i) → (ns : List ℕ) → permitted p ns ≡ permitted q ns
permitted-same p q same [] = refl
permitted-same p q same (n ∷ ns) = ap (λ r. both r (permitted p ns)) (same n) ∙ ap (both (q n)) (permitted-same p q same ns)

and-off : (b : Bool) → false ≡ (b && false)
and-off true = refl
and-off false = refl

and-on : (b : Bool) → b ≡ (b && true)
and-on true = refl
and-on false = refl

-- a link goes on with one closed where it goes on and is not that one
goes_on-with : (moment : ℕ) (shares : List ShareRow) (id : ℕ) (row : ShareRow) (rights : Rights) → at_number shares id ≡ Some row → (i : ℕ)
    → goes_on_at moment (with_own shares id rights true) i ≡ (goes_on_at moment shares i && not (nat_eq i id))
goes_on-with moment shares id row rights there i = ap (λ o. option_map_or (row_goes_on moment) o true) (with-at shares id rights true i) ∙ by_case (nat_eq id i) refl
  where
    by_case : (b : Bool) → nat_eq id i ≡ b → option_map_or (row_goes_on moment) (option_map (λ (r : ShareRow). if b then record r { perms = rights; closed = true } else r) (at_number shares i)) true
        ≡ (goes_on_at moment shares i && not (nat_eq i id))
    by_case true e =
        let same = eqb-true id i e in
        let at : at_number shares i ≡ Some row = ap (at_number shares) (sym same) ∙ there in
        ap (λ o. option_map_or (row_goes_on moment) (option_map (λ (r : ShareRow). record r { perms = rights; closed = true }) o) true) at
        ∙ (and-off (goes_on_at moment shares i) ∙ ap (λ t. goes_on_at moment shares i && not t) (sym (eq-eqb i id (sym same))))
    by_case false e =
        let other = eqb-false id i e in
        plain (at_number shares i) ∙ (and-on (goes_on_at moment shares i) ∙ ap (λ t. goes_on_at moment shares i && not t) (sym (ne_eqb i id (λ h. other (sym h)))))
      where
        plain : (o : Option ShareRow) → option_map_or (row_goes_on moment) (option_map (λ (r : ShareRow). r) o) true ≡ option_map_or (row_goes_on moment) o true
        plain None = refl
        plain (Some r) = refl

pub live-with : (moment : ℕ) (shares : List ShareRow) (id : ℕ) (row : ShareRow) (rights : Rights) → at_number shares id ≡ Some row → (i : ℕ)
    → is_live_at moment (with_own shares id rights true) i ≡ is_live_without moment shares id i
live-with moment shares id row rights there i =
    let hyp = with_own shares id rights true in
    ap (λ (ms : List Share). is_some (at_number ms i) && list_all (goes_on_at moment hyp) (links ms i)) (made-with shares id rights true)
    ∙ ap (λ t. is_some (at_number (made_of shares) i) && t)
    (list_all-same (goes_on_at moment hyp) (λ link. goes_on_at moment shares link && not (nat_eq link id)) (goes_on-with moment shares id row rights there) (links (made_of shares) i))

-- the permissions of a link with one limited
perms-with : (shares : List ShareRow) (id : ℕ) (row : ShareRow) (rights : Rights) (closed : Bool) → at_number shares id ≡ Some row → (i : ℕ)
    → perms_at (with_own shares id rights closed) i ≡ (if nat_eq i id then rights else perms_at shares i)
perms-with shares id row rights closed there i = ap (λ o. option_map_or (λ (r : ShareRow). r.perms) o no_rights) (with-at shares id rights closed i) ∙ by_case (nat_eq id i) refl
  where
    plain : (o : Option ShareRow) → option_map_or (λ (r : ShareRow). r.perms) (option_map (λ (r : ShareRow). r) o) no_rights ≡ option_map_or (λ (r : ShareRow). r.perms) o no_rights
    plain None = refl
    plain (Some r) = refl

    by_case : (b : Bool) → nat_eq id i ≡ b → option_map_or (λ (r : ShareRow). r.perms) (option_map (λ (r : ShareRow). if b then record r { perms = rights; closed = closed } else r) (at_number shares i)) no_rights
        ≡ (if nat_eq i id then rights else perms_at shares i)
    by_case true e =
        let same = eqb-true id i e in
        let at : at_number shares i ≡ Some row = ap (at_number shares) (sym same) ∙ there in
        ap (λ o. option_map_or (λ (r : ShareRow). r.perms) (option_map (λ (r : ShareRow). record r { perms = rights; closed = closed }) o) no_rights) at
        ∙ ap (λ t. if t then rights else perms_at shares i) (sym (eq-eqb i id (sym same)))
    by_case false e =
        let other = eqb-false id i e in
        plain (at_number shares i) ∙ ap (λ t. if t then rights else perms_at shares i) (sym (ne_eqb i id (λ h. other (sym h))))

pub effective-with : (shares : List ShareRow) (id : ℕ) (row : ShareRow) (rights : Rights) (closed : Bool) → at_number shares id ≡ Some row → (i : ℕ)
    → effective_at (with_own shares id rights closed) i ≡ effective_with shares id rights i
effective-with shares id row rights closed there i =
    let hyp = with_own shares id rights closed in
    ap (λ (ms : List Share). permitted (perms_at hyp) (links ms i)) (made-with shares id rights closed)
    ∙ permitted-same (perms_at hyp) (λ link. if nat_eq link id then rights else perms_at shares link) (perms-with shares id row rights closed there) (links (made_of shares) i)

-- ---- the two answers

many-made : (rows : List Row) → length (made_of (owns rows)) ≡ length rows
many-made rows = length-map (owns rows) (λ (r : ShareRow). r.share) ∙ length-map rows (λ (r : Row). r.own)

live-row : (moment : ℕ) (rows : List Row) (k : ℕ) (row : Row) → AreRight rows (length rows) → slice_get rows k ≡ Some row → reach_goes_on_at moment (reaches_of rows) (suc k) ≡ is_live_at moment (owns rows) (suc k)
live-row moment rows k row right at =
    ap (λ o. option_map_or (reach_goes_on moment) o false) (reach-here rows k row at)
    ∙ (ap (reach_goes_on moment) (right k row (slice_get_within rows k row at) at) ∙ sym (live-there moment (owns rows) (suc k) row.own (own-at rows k row at)))

live-after : (moment : ℕ) (rows : List Row) (after : List Reach) (id : ℕ) (rights : Rights) (closed : Bool) (k : ℕ) (row : Row) → AreReaches (with_own (owns rows) id rights closed) after (length rows)
    → slice_get rows k ≡ Some row → reach_goes_on_at moment after (suc k) ≡ is_live_at moment (with_own (owns rows) id rights closed) (suc k)
live-after moment rows after id rights closed k row h at =
    let shares = with_own (owns rows) id rights closed in
    let many = h.0 in
    let within = slice_get_within rows k row at in
    let there = get-there after k (omega (arith, many, within)) in
    let here = with-at (owns rows) id rights closed (suc k) ∙ ap (λ o. option_map (λ (r : ShareRow). if nat_eq id (suc k) then record r { perms = rights; closed = closed } else r) o) (own-at rows k row at) in
    ap (λ o. option_map_or (reach_goes_on moment) o false) there.1
    ∙ (ap (reach_goes_on moment) (h.1 k there.0 there.1) ∙ sym (live-there moment shares (suc k) (if nat_eq id (suc k) then record row.own { perms = rights; closed = closed } else row.own) here))

effective-after : (rows : List Row) (after : List Reach) (id : ℕ) (rights : Rights) (closed : Bool) (k : ℕ) → AreReaches (with_own (owns rows) id rights closed) after (length rows)
    → k < length rows → effective_of after (suc k) ≡ effective_at (with_own (owns rows) id rights closed) (suc k)
effective-after rows after id rights closed k h within =
    let many = h.0 in
    let there = get-there after k (omega (arith, many, within)) in
    ap (λ o. option_map_or (λ (r : Reach). r.effective) o no_rights) there.1 ∙ ap (λ (r : Reach). r.effective) (h.1 k there.0 there.1)

effective-row : (rows : List Row) (k : ℕ) (row : Row) → AreRight rows (length rows) → slice_get rows k ≡ Some row → effective_of (reaches_of rows) (suc k) ≡ effective_at (owns rows) (suc k)
effective-row rows k row right at =
    ap (λ o. option_map_or (λ (r : Reach). r.effective) o no_rights) (reach-here rows k row at) ∙ ap (λ (r : Reach). r.effective) (right k row (slice_get_within rows k row at) at)

-- the shares that closing one takes
pub cut-is : (moment : ℕ) (rows : List Row) (after : List Reach) (id : ℕ) (row : ShareRow) (rights : Rights) → AreRight rows (length rows) → at_number (owns rows) id ≡ Some row
    → AreReaches (with_own (owns rows) id rights true) after (length rows) → filter (is_cut_among moment (reaches_of rows) after) (range_with_len 1 (length rows)) ≡ cut_by moment (owns rows) id
cut-is moment rows after id row rights right there h =
    filter-same (is_cut_among moment (reaches_of rows) after) (λ i. is_live_at moment (owns rows) i && not (is_live_without moment (owns rows) id i)) (length rows) same
    ∙ ap (λ n. filter (λ i. is_live_at moment (owns rows) i && not (is_live_without moment (owns rows) id i)) (range_with_len 1 n)) (sym (many-made rows))
  where
    same : (k : ℕ) → k < length rows → is_cut_among moment (reaches_of rows) after (suc k) ≡ (is_live_at moment (owns rows) (suc k) && not (is_live_without moment (owns rows) id (suc k)))
    same k low =
        let one = get-there rows k low in
        ap (λ t. t && not (reach_goes_on_at moment after (suc k))) (live-row moment rows k one.0 right one.1)
        ∙ ap (λ t. is_live_at moment (owns rows) (suc k) && not t) (live-after moment rows after id rights true k one.0 h one.1 ∙ live-with moment (owns rows) id row rights there (suc k))

-- what guests are told once one is limited
pub changed-is : (moment : ℕ) (rows : List Row) (after : List Reach) (id : ℕ) (row : ShareRow) (rights : Rights) (closed : Bool) → AreRight rows (length rows) → at_number (owns rows) id ≡ Some row
    → AreReaches (with_own (owns rows) id rights closed) after (length rows)
    → map (change_among after) (filter (is_told_among moment (reaches_of rows) after) (range_with_len 1 (length rows))) ≡ changes_by moment (owns rows) id rights
changed-is moment rows after id row rights closed right there h =
    changes-same (change_among after) told_of (is_told_among moment (reaches_of rows) after) (is_told moment (owns rows) id rights) (length rows) same (λ k low. ap (λ r. telling (suc k) r) (effective k low))
    ∙ ap (λ n. map told_of (filter (is_told moment (owns rows) id rights) (range_with_len 1 n))) (sym (many-made rows))
  where
    telling : ℕ → Rights → Change
    telling i r = record { id = i; perms = r }

    told_of : ℕ → Change
    told_of i = record { id = i; perms = effective_with (owns rows) id rights i }

    effective : (k : ℕ) → k < length rows → effective_of after (suc k) ≡ effective_with (owns rows) id rights (suc k)
    effective k low = effective-after rows after id rights closed k h low ∙ effective-with (owns rows) id row rights closed there (suc k)

    same : (k : ℕ) → k < length rows → is_told_among moment (reaches_of rows) after (suc k) ≡ is_told moment (owns rows) id rights (suc k)
    same k low =
        let one = get-there rows k low in
        let test : Bool → Rights → Rights → Bool = λ live new old. live && is_any new && not (same_rights new old) in
        ap (λ t. test t (effective_of after (suc k)) (effective_of (reaches_of rows) (suc k))) (live-row moment rows k one.0 right one.1)
        ∙ (ap (λ r. test (is_live_at moment (owns rows) (suc k)) r (effective_of (reaches_of rows) (suc k))) (effective k low)
        ∙ ap (test (is_live_at moment (owns rows) (suc k)) (effective_with (owns rows) id rights (suc k))) (effective-row rows k one.0 right one.1))
