use Rattle.std.proofs.Common.{◌≡◌, ℕ, zero, suc, ◌+◌, ◌-◌, ◌<◌, ◌≤◌, List, [], ◌∷◌, ◌++◌, length, get_or, Bool, true, false, refl, sym, ap, subst, ◌∙◌, ◌⊎◌, inl, inr, arith}
use Rattle.std.specs.Prelude.{Option, Some, None, slice_get, slice_set, option_map}
use Rattle.std.proofs.lemmas.List.{length-append, length-map, map-append}
use Rattle.std.proofs.lemmas.Option.{slice_get-map, slice_get_within, slice_get-get_or}
use Rattle.std.proofs.lemmas.Bool.{cases_lt}
use Rattle.ocm_entry.specs.declared.rows.Share.{Share}
use Rattle.ocm_rules.specs.declared.rows.ShareRow.{ShareRow}
use Rattle.ocm_rules.specs.Numbers.{at_number}
use Rattle.ocm_rules.specs.Shares.{links}
use Rattle.ocm_rules.specs.State.{changed_at}
use Rattle.ocm_rules.proofs.Searches.{some-same}
use Rattle.ocm_rules.proofs.Steps.{changed_at-set}
use Rattle.ocm_chain.specs.declared.reaches.Row.{Row}
use Rattle.ocm_chain.specs.Lists.{made_of, IsAmongFirst}
use Rattle.ocm_chain.specs.Reaches.{reach_of, reach_at, reach_above, owns, marks_of, IsRightAt, AreLower, AreRight, AreRightFrom, AreMarked, AreRows, IsChildless}
use Rattle.ocm_chain.specs.Hypotheses.{reaches_of}
use Rattle.ocm_chain.proofs.Search.{get-there}
use Rattle.ocm_chain.proofs.Places.{at_number-place, slice_get-front, slice_get-last, at_number-front, slice_get-set, slice_get-other, length-slice_set, map-same_set, map-slice_set}
use Rattle.ocm_chain.proofs.ChainLinks.{links-front, reach_at-row, reach_at-same, reach-childless}

-- the own part of a row
pub own-at : (rows : List Row) (k : ℕ) (row : Row) → slice_get rows k ≡ Some row → slice_get (owns rows) k ≡ Some row.own
own-at rows k row at = slice_get-map (λ (r : Row). r.own) rows k ∙ ap (λ o. option_map (λ (r : Row). r.own) o) at

-- and its mark
pub mark-at : (rows : List Row) (k : ℕ) (row : Row) → slice_get rows k ≡ Some row → slice_get (marks_of rows) k ≡ Some row.is_parent
mark-at rows k row at = slice_get-map (λ (r : Row). r.is_parent) rows k ∙ ap (λ o. option_map (λ (r : Row). r.is_parent) o) at

-- the row of a share
share-row : (shares : List ShareRow) (k : ℕ) (share : Share) → slice_get (made_of shares) k ≡ Some share → (row : ShareRow) × (slice_get shares k ≡ Some row) × (row.share ≡ share)
share-row shares k share at =
    let within = slice_get_within (made_of shares) k share at in
    let many = length-map shares (λ (r : ShareRow). r.share) in
    let one = get-there shares k (omega (arith, within, many)) in
    (one.0, one.1, some-same one.0.share share (sym (slice_get-map (λ (r : ShareRow). r.share) shares k ∙ ap (λ o. option_map (λ (r : ShareRow). r.share) o) one.1) ∙ at))

-- the row of a parent among the first tells what is left at its share
pub right-among : (rows : List Row) (n : ℕ) → AreRight rows n → n ≤ length rows → (parent : Option ℕ) → IsAmongFirst n parent → (p : ℕ) → parent ≡ Some p → IsRightAt rows p
right-among rows n right within parent among p e = by_number p (among p e).0 (among p e).1
  where
    by_number : (p : ℕ) → 1 ≤ p → p ≤ n → IsRightAt rows p
    by_number zero low high = absurd (omega (arith, low))
    by_number (suc j) low high =
        let there = get-there rows j (omega (arith, high, within)) in
        (there.0, there.1, right j there.0 (omega (arith, high)) there.1)

-- what the own values of a row leave
pub right-row : (rows : List Row) (k : ℕ) (row : Row) → slice_get rows k ≡ Some row → AreLower (owns rows)
    → reach_of row.own.closed row.own.perms row.own.end (reach_above (owns rows) row.own.share.parent) ≡ reach_at (owns rows) (suc k)
right-row rows k row at lower = sym (reach_at-row (owns rows) k row.own (own-at rows k row at) (lower k row.own (own-at rows k row at)))

-- ---- what is left is set anew

-- a row with another reach has the same own part
pub owns-settled : (rows : List Row) (k : ℕ) (row next : Row) → slice_get rows k ≡ Some row → next.own ≡ row.own → owns (slice_set rows k next) ≡ owns rows
owns-settled rows k row next at own = map-same_set (λ (r : Row). r.own) rows k row next at own

-- one more row tells what is left
pub right-settled : (rows : List Row) (k : ℕ) (row next : Row) → slice_get rows k ≡ Some row → next.own ≡ row.own → next.reach ≡ reach_at (owns rows) (suc k) → AreRight rows k → AreRight (slice_set rows k next) (k + 1)
right-settled rows k row next at own reach right j found low there =
    by_case (cases_lt j k) ∙ ap (λ (shares : List ShareRow). reach_at shares (suc j)) (sym (owns-settled rows k row next at own))
  where
    by_case : (j < k) ⊎ (k ≤ j) → found.reach ≡ reach_at (owns rows) (suc j)
    by_case (inl lt) = right j found lt (sym (slice_get-other rows k j next (λ e. absurd (omega (arith, e, lt)))) ∙ there)
    by_case (inr ge) =
        let same : k ≡ j = omega (arith, ge, low) in
        let here : next ≡ found = some-same next found (sym (slice_get-set rows k row next at) ∙ ap (slice_get (slice_set rows k next)) same ∙ there) in
        ap (λ (r : Row). r.reach) (sym here) ∙ (reach ∙ ap (λ i. reach_at (owns rows) (suc i)) same)

-- and those behind still tell it
pub right-behind : (rows : List Row) (k to : ℕ) (row next : Row) → slice_get rows k ≡ Some row → next.own ≡ row.own → k < to → AreRightFrom rows to → AreRightFrom (slice_set rows k next) to
right-behind rows k to row next at own low right j found high there =
    right j found high (sym (slice_get-other rows k j next (λ e. absurd (omega (arith, e, low, high)))) ∙ there)
    ∙ ap (λ (shares : List ShareRow). reach_at shares (suc j)) (sym (owns-settled rows k row next at own))

-- a row with another reach has the same mark
pub marks-settled : (rows : List Row) (k : ℕ) (row next : Row) → slice_get rows k ≡ Some row → next.is_parent ≡ row.is_parent → marks_of (slice_set rows k next) ≡ marks_of rows
marks-settled rows k row next at mark = map-same_set (λ (r : Row). r.is_parent) rows k row next at mark

-- where the rows up to an index tell what is left, and those from it on, all do
pub right-all : (rows : List Row) (n : ℕ) → AreRight rows n → AreRightFrom rows n → AreRight rows (length rows)
right-all rows n before behind j found low there = by_case (cases_lt j n)
  where
    by_case : (j < n) ⊎ (n ≤ j) → found.reach ≡ reach_at (owns rows) (suc j)
    by_case (inl lt) = before j found lt there
    by_case (inr ge) = behind j found ge there

-- ---- a row is changed

-- the parents stay where the shares stay
pub lower-made : (a b : List ShareRow) → made_of a ≡ made_of b → AreLower b → AreLower a
lower-made a b made lower k row at =
    let share : slice_get (made_of a) k ≡ Some row.share = slice_get-map (λ (r : ShareRow). r.share) a k ∙ ap (λ o. option_map (λ (r : ShareRow). r.share) o) at in
    by_case (slice_get b k) refl (sym (slice_get-map (λ (r : ShareRow). r.share) b k) ∙ ap (λ ms. slice_get ms k) (sym made) ∙ share)
  where
    by_case : (o : Option ShareRow) → slice_get b k ≡ o → option_map (λ (r : ShareRow). r.share) o ≡ Some row.share → IsAmongFirst k row.share.parent
    by_case None e h = absurd (cc)
    by_case (Some other) e h =
        let same : other.share ≡ row.share = some-same other.share row.share h in
        let P : Share → Type 0 = λ s. IsAmongFirst k s.parent in
        subst P same (lower k other e)

-- the rows after a change of a row's own values
pub owns-changed : (rows : List Row) (k : ℕ) (next : Row) → owns (slice_set rows k next) ≡ slice_set (owns rows) k next.own
owns-changed rows k next = map-slice_set (λ (r : Row). r.own) rows k next

-- the change, as it is told by numbers
pub owns-changed_at : (rows : List Row) (k : ℕ) (row next : Row) (change : ShareRow → ShareRow) → slice_get rows k ≡ Some row → next.own ≡ change row.own → owns (slice_set rows k next) ≡ changed_at (k + 1) change (owns rows)
owns-changed_at rows k row next change at own =
    owns-changed rows k next ∙ (ap (λ o. slice_set (owns rows) k o) own ∙ sym (changed_at-set k change (owns rows) row.own (own-at rows k row at)))

-- a change of a row keeps the shares
pub made-changed : (rows : List Row) (k : ℕ) (row next : Row) → slice_get rows k ≡ Some row → next.own.share ≡ row.own.share → made_of (owns (slice_set rows k next)) ≡ made_of (owns rows)
made-changed rows k row next at share =
    ap made_of (owns-changed rows k next) ∙ map-same_set (λ (r : ShareRow). r.share) (owns rows) k row.own next.own (own-at rows k row at) share

-- the rows before a changed one still tell what is left
pub right-changed : (rows : List Row) (k : ℕ) (row next : Row) → slice_get rows k ≡ Some row → next.own.share ≡ row.own.share → AreRight rows k → AreRight (slice_set rows k next) k
right-changed rows k row next at share right j found low there =
    let before = right j found low (sym (slice_get-other rows k j next (λ e. absurd (omega (arith, e, low)))) ∙ there) in
    before ∙ reach_at-same (owns rows) (owns (slice_set rows k next)) (suc j)
    (ap (λ ms. links ms (suc j)) (sym (made-changed rows k row next at share)))
    (λ i high. same i high)
  where
    same : (i : ℕ) → i ≤ suc j → at_number (owns rows) i ≡ at_number (owns (slice_set rows k next)) i
    same zero high = refl
    same (suc i) high = sym (ap (λ l. slice_get l i) (owns-changed rows k next) ∙ slice_get-other (owns rows) k i next.own (λ e. absurd (omega (arith, e, high, low))))

-- the rows apart from a change with none below it still tell what is left
pub right-apart : (rows : List Row) (k to : ℕ) (row next : Row) → AreRows rows → slice_get rows k ≡ Some row → next.own.share ≡ row.own.share → k < to
    → (to < length rows → IsChildless (made_of (owns rows)) (suc k)) → AreRightFrom (slice_set rows k next) to
right-apart rows k to row next h at share low apart j found high there =
    let before : slice_get rows j ≡ Some found = sym (slice_get-other rows k j next (λ e. absurd (omega (arith, e, low, high)))) ∙ there in
    let within = slice_get_within rows j found before in
    h.right j found within before
    ∙ reach-childless (owns rows) (owns (slice_set rows k next)) (suc k) h.lower (apart (omega (arith, within, high))) same j found.own (own-at rows j found before) (λ e. absurd (omega (arith, e, low, high)))
  where
    same : (i : ℕ) → (i ≡ suc k → ⊥) → at_number (owns rows) i ≡ at_number (owns (slice_set rows k next)) i
    same zero other = refl
    same (suc i) other = sym (ap (λ l. slice_get l i) (owns-changed rows k next) ∙ slice_get-other (owns rows) k i next.own (λ e. other (ap (λ n. suc n) e)))

-- what is read at a place stands there
pub read-at : (rows : List Row) (k : ℕ) (row : Row) → k < length rows → row ≡ get_or rows k row → slice_get rows k ≡ Some row
read-at rows k row within read = slice_get-get_or rows k row within ∙ ap (λ (r : Row). Some r) (sym read)

-- rows that can be settled from an index on
pub record IsReady (given : List Row) (k to : ℕ) : Type 0 where
  pub lower : AreLower (owns given)
  pub before : AreRight given k
  pub behind : AreRightFrom given to

pub ready : (rows given : List Row) (k to : ℕ) (row next : Row) → AreRows rows → slice_get rows k ≡ Some row → next.own.share ≡ row.own.share → k < to
    → (to < length rows → IsChildless (made_of (owns rows)) (suc k)) → given ≡ slice_set rows k next → IsReady given k to
ready rows given k to row next h at share low apart e =
    let within = slice_get_within rows k row at in
    let before : AreRight rows k = λ j found low there. h.right j found (omega (arith, low, within)) there in
    let P : List Row → Type 0 = λ rs. IsReady rs k to in
    subst P (sym e) (record {
      lower = lower-made (owns (slice_set rows k next)) (owns rows) (made-changed rows k row next at share) h.lower;
      before = right-changed rows k row next at share before;
      behind = right-apart rows k to row next h at share low apart;
    })

-- the marks stay where the shares stay
marks-same : (a b : List ShareRow) (rows more : List Row) → made_of b ≡ made_of a → marks_of more ≡ marks_of rows → AreMarked (made_of a) (marks_of rows) → AreMarked (made_of b) (marks_of more)
marks-same a b rows more made marks h = let P : List Share → List Bool → Type 0 = λ ms bs. AreMarked ms bs in rw (made, marks) h

-- rows that were settled after a change of one of them
pub record IsChanged (rows settled : List Row) (id : ℕ) (change : ShareRow → ShareRow) : Type 0 where
  pub are : AreRows settled
  pub shares : owns settled ≡ changed_at id change (owns rows)
  pub made : made_of (owns settled) ≡ made_of (owns rows)

pub changed : (rows given settled : List Row) (id : ℕ) (row next : Row) (change : ShareRow → ShareRow) → AreRows rows → 1 ≤ id → slice_get rows (id - 1) ≡ Some row
    → next.own ≡ change row.own → next.own.share ≡ row.own.share → next.is_parent ≡ row.is_parent → given ≡ slice_set rows (id - 1) next
    → owns settled ≡ owns given → marks_of settled ≡ marks_of given → AreRight settled (length settled) → length settled ≡ length given → IsChanged rows settled id change
changed rows given settled id row next change h low at own share mark e same marked right as_many =
    let number : id - 1 + 1 ≡ id = omega (arith, low) in
    let given_is : owns settled ≡ owns (slice_set rows (id - 1) next) = same ∙ ap owns e in
    let made = ap made_of given_is ∙ made-changed rows (id - 1) row next at share in
    let many = as_many ∙ (ap length e ∙ length-slice_set rows (id - 1) next) in
    let marks = marked ∙ (ap marks_of e ∙ marks-settled rows (id - 1) row next at mark) in
    record {
      are = record { few = omega (arith, many, h.few); lower = lower-made (owns settled) (owns rows) made h.lower; right = right; marks = marks-same (owns rows) (owns settled) rows settled made marks h.marks };
      shares = given_is ∙ (owns-changed_at rows (id - 1) row next change at own ∙ ap (λ i. changed_at i change (owns rows)) number);
      made = made;
    }

-- a change of the row of a number looks at that row alone
pub changed_at_one : (shares : List ShareRow) (id : ℕ) (change other : ShareRow → ShareRow) (row : ShareRow) → at_number shares id ≡ Some row → change row ≡ other row → changed_at id change shares ≡ changed_at id other shares
changed_at_one shares zero change other row at e = absurd (cc)
changed_at_one shares (suc k) change other row at e =
    let number : k + 1 ≡ suc k = omega arith in
    let one = changed_at-set k change shares row at in
    let two = changed_at-set k other shares row at in
    rw (← number) (one ∙ (ap (slice_set shares k) e ∙ sym two))

-- what is told of the row at a place is told of its number
pub reach-number : (rows : List Row) (id : ℕ) (row : Row) → AreRows rows → 1 ≤ id → slice_get rows (id - 1) ≡ Some row → row.reach ≡ reach_at (owns rows) id
reach-number rows id row h low at =
    let number : suc (id - 1) ≡ id = omega (arith, low) in
    h.right (id - 1) row (slice_get_within rows (id - 1) row at) at ∙ ap (reach_at (owns rows)) number

pub own-number : (rows : List Row) (id : ℕ) (row : Row) → 1 ≤ id → slice_get rows (id - 1) ≡ Some row → at_number (owns rows) id ≡ Some row.own
own-number rows id row low at = at_number-place (owns rows) id low ∙ own-at rows (id - 1) row at

-- what is said of the row at a place is said of its number
pub childless-number : (rows : List Row) (id : ℕ) (row : Row) → AreRows rows → 1 ≤ id → slice_get rows (id - 1) ≡ Some row → row.is_parent ≡ false → IsChildless (made_of (owns rows)) id
childless-number rows id row h low at none =
    h.marks id (at_number-place (marks_of rows) id low ∙ mark-at rows (id - 1) row at ∙ ap (λ b. Some b) none)

-- ---- a parent is marked

-- the row of a parent is marked
pub marked-here : (rows : List Row) (p q : ℕ) (row next : Row) → Some p ≡ Some q → 1 ≤ p → slice_get rows (p - 1) ≡ Some row → next.is_parent ≡ true → at_number (marks_of (slice_set rows (p - 1) next)) q ≡ Some true
marked-here rows p q row next e low at mark =
    let marked = slice_set rows (p - 1) next in
    ap (λ i. at_number (marks_of marked) i) (sym (some-same p q e))
    ∙ (at_number-place (marks_of marked) p low ∙ (mark-at marked (p - 1) next (slice_get-set rows (p - 1) row next at) ∙ ap (λ b. Some b) mark))

-- and no other
pub marked-other : (rows : List Row) (p i : ℕ) (next : Row) → 1 ≤ p → (Some p ≡ Some i → ⊥) → at_number (marks_of (slice_set rows (p - 1) next)) i ≡ at_number (marks_of rows) i
marked-other rows p zero next low other = refl
marked-other rows p (suc i) next low other =
    ap (λ l. slice_get l i) (map-slice_set (λ (r : Row). r.is_parent) rows (p - 1) next)
    ∙ slice_get-other (marks_of rows) (p - 1) i next.is_parent (λ e. let same : p ≡ suc i = omega (arith, e, low) in other (ap (λ n. Some n) same))

-- rows of which one more is marked
pub rows-marked : (rows marked : List Row) (parent : Option ℕ) → AreRows rows → owns marked ≡ owns rows → reaches_of marked ≡ reaches_of rows
    → ((p : ℕ) → parent ≡ Some p → at_number (marks_of marked) p ≡ Some true) → ((i : ℕ) → (parent ≡ Some i → ⊥) → at_number (marks_of marked) i ≡ at_number (marks_of rows) i) → AreRows marked
rows-marked rows marked parent h own reaches here others = record {
  few = omega (arith, many, h.few);
  lower = rw own h.lower;
  right = right;
  marks = λ id none. rw own (h.marks id (sym (others id (λ e. absurd (not-both (at_number (marks_of marked) id) (here id e) none))) ∙ none));
}
  where
    many : length marked ≡ length rows
    many = sym (length-map marked (λ (r : Row). r.own)) ∙ (ap length own ∙ length-map rows (λ (r : Row). r.own))

    not-both : (o : Option Bool) → o ≡ Some true → o ≡ Some false → ⊥
    not-both o t f = absurd (cc)

    right : AreRight marked (length marked)
    right k row low at =
        let one = get-there rows k (omega (arith, low, many)) in
        let mine : slice_get (reaches_of marked) k ≡ Some row.reach = slice_get-map (λ (r : Row). r.reach) marked k ∙ ap (λ o. option_map (λ (r : Row). r.reach) o) at in
        let theirs : slice_get (reaches_of rows) k ≡ Some one.0.reach = slice_get-map (λ (r : Row). r.reach) rows k ∙ ap (λ o. option_map (λ (r : Row). r.reach) o) one.1 in
        some-same row.reach one.0.reach (sym mine ∙ (ap (λ l. slice_get l k) reaches ∙ theirs))
        ∙ (h.right k one.0 (omega (arith, low, many)) one.1 ∙ ap (λ (shares : List ShareRow). reach_at shares (suc k)) (sym own))

-- ---- one row more

-- one row more that tells what is left
pub rows-more : (rows : List Row) (row : Row) → AreRows rows → length rows < 65536 → IsAmongFirst (length (owns rows)) row.own.share.parent
    → ((p : ℕ) → row.own.share.parent ≡ Some p → at_number (marks_of rows) p ≡ Some true)
    → row.reach ≡ reach_of row.own.closed row.own.perms row.own.end (reach_above (owns rows) row.own.share.parent) → AreRows (rows ++ row ∷ [])
rows-more rows row h few parent marked reach = record {
  few = let as_many = length-append rows (row ∷ []) in omega (arith, as_many, few);
  lower = lower;
  right = right;
  marks = marks;
}
  where
    pushed : owns (rows ++ row ∷ []) ≡ owns rows ++ row.own ∷ []
    pushed = map-append (λ (r : Row). r.own) rows (row ∷ [])

    made : made_of (owns (rows ++ row ∷ [])) ≡ made_of (owns rows) ++ row.own.share ∷ []
    made = ap made_of pushed ∙ map-append (λ (r : ShareRow). r.share) (owns rows) (row.own ∷ [])

    many : length (owns rows) ≡ length rows
    many = length-map rows (λ (r : Row). r.own)

    as_many : length (made_of (owns rows)) ≡ length (owns rows)
    as_many = length-map (owns rows) (λ (r : ShareRow). r.share)

    within : (k : ℕ) (x : Row) → slice_get (rows ++ row ∷ []) k ≡ Some x → k < length rows + 1
    within k x at = let below = slice_get_within (rows ++ row ∷ []) k x at in let longer = length-append rows (row ∷ []) in omega (arith, below, longer)

    lower : AreLower (owns (rows ++ row ∷ []))
    lower k own at =
        let there = ap (λ l. slice_get l k) (sym pushed) ∙ at in
        let below = slice_get_within (owns rows ++ row.own ∷ []) k own there in
        let longer = length-append (owns rows) (row.own ∷ []) in
        by_case (cases_lt k (length (owns rows))) there (omega (arith, below, longer))
      where
        by_case : (k < length (owns rows)) ⊎ (length (owns rows) ≤ k) → slice_get (owns rows ++ row.own ∷ []) k ≡ Some own → k ≤ length (owns rows) → IsAmongFirst k own.share.parent
        by_case (inl lt) found bound = h.lower k own (sym (slice_get-front (owns rows) row.own k lt) ∙ found)
        by_case (inr ge) found bound =
            let last : k ≡ length (owns rows) = omega (arith, ge, bound) in
            let same : row.own ≡ own = some-same row.own own (sym (slice_get-last (owns rows) row.own) ∙ ap (slice_get (owns rows ++ row.own ∷ [])) (sym last) ∙ found) in
            let P : ShareRow → Type 0 = λ o. IsAmongFirst k o.share.parent in
            subst P same (let Q : ℕ → Type 0 = λ n. IsAmongFirst n row.own.share.parent in subst Q (sym last) parent)

    marks : AreMarked (made_of (owns (rows ++ row ∷ []))) (marks_of (rows ++ row ∷ []))
    marks id none k share at e =
        let one = share-row (owns (rows ++ row ∷ [])) k share at in
        let among = lower k one.0 one.1 id (ap (λ (s : Share). s.parent) one.2 ∙ e) in
        let below = slice_get_within (owns (rows ++ row ∷ [])) k one.0 one.1 in
        let longer = length-append rows (row ∷ []) in
        let all = length-map (rows ++ row ∷ []) (λ (r : Row). r.own) in
        let last : k ≤ length rows = omega (arith, below, longer, all) in
        let marks_many = length-map rows (λ (r : Row). r.is_parent) in
        let said : at_number (marks_of rows) id ≡ Some false =
        sym (ap (λ l. at_number l id) (map-append (λ (r : Row). r.is_parent) rows (row ∷ [])) ∙ at_number-front (marks_of rows) row.is_parent id (omega (arith, among.1, last, marks_many))) ∙ none in
        by_case said (ap (λ l. slice_get l k) (sym made) ∙ at) last (cases_lt k (length rows))
      where
        by_case : at_number (marks_of rows) id ≡ Some false → slice_get (made_of (owns rows) ++ row.own.share ∷ []) k ≡ Some share → k ≤ length rows → (k < length rows) ⊎ (length rows ≤ k) → ⊥
        by_case said found high (inl lt) = h.marks id said k share (sym (slice_get-front (made_of (owns rows)) row.own.share k (omega (arith, lt, many, as_many))) ∙ found) e
        by_case said found high (inr ge) =
            let last : k ≡ length (made_of (owns rows)) = omega (arith, ge, high, many, as_many) in
            let same : row.own.share ≡ share = some-same row.own.share share (sym (slice_get-last (made_of (owns rows)) row.own.share) ∙ ap (slice_get (made_of (owns rows) ++ row.own.share ∷ [])) (sym last) ∙ found) in
            let here = marked id (ap (λ (s : Share). s.parent) same ∙ e) in
            absurd (cc)

    same_reach : (i : ℕ) → i ≤ length rows → reach_at (owns rows) i ≡ reach_at (owns (rows ++ row ∷ [])) i
    same_reach i high =
        reach_at-same (owns rows) (owns (rows ++ row ∷ [])) i
        (sym (ap (λ ms. links ms i) made ∙ links-front (made_of (owns rows)) row.own.share i (omega (arith, high, many, as_many))))
        (λ j low. sym (ap (λ l. at_number l j) pushed ∙ at_number-front (owns rows) row.own j (omega (arith, low, high, many))))

    same_above : (o : Option ℕ) → IsAmongFirst (length (owns rows)) o → reach_above (owns rows) o ≡ reach_above (owns (rows ++ row ∷ [])) o
    same_above None among = refl
    same_above (Some p) among = let high = (among p refl).1 in same_reach p (omega (arith, high, many))

    right : AreRight (rows ++ row ∷ []) (length (rows ++ row ∷ []))
    right k x low at = by_case (cases_lt k (length rows)) (within k x at)
      where
        by_case : (k < length rows) ⊎ (length rows ≤ k) → k < length rows + 1 → x.reach ≡ reach_at (owns (rows ++ row ∷ [])) (suc k)
        by_case (inl lt) bound = h.right k x lt (sym (slice_get-front rows row k lt) ∙ at) ∙ same_reach (suc k) (omega (arith, lt))
        by_case (inr ge) bound =
            let last : k ≡ length rows = omega (arith, ge, bound) in
            let same : row ≡ x = some-same row x (sym (slice_get-last rows row) ∙ ap (slice_get (rows ++ row ∷ [])) (sym last) ∙ at) in
            let own = own-at (rows ++ row ∷ []) k row (at ∙ ap (λ (r : Row). Some r) (sym same)) in
            ap (λ (r : Row). r.reach) (sym same)
            ∙ (reach ∙ (ap (reach_of row.own.closed row.own.perms row.own.end) (same_above row.own.share.parent parent)
            ∙ sym (reach_at-row (owns (rows ++ row ∷ [])) k row.own own (lower k row.own own))))
