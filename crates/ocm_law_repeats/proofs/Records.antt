use Rattle.std.proofs.Common.{◌≡◌, ℕ, zero, suc, ◌+◌, ◌<◌, ◌≤◌, List, [], ◌∷◌, length, Bool, true, false, refl, sym, subst, arith}
use Rattle.std.specs.Prelude.{Option, Some, None, nat_le, if◌then◌else◌, is_some}
use Rattle.std.specs.List.{list_any, range_with_len}
use Rattle.std.proofs.lemmas.Bool.{leb-true, leb-false, or_parts}
use Rattle.ocm_entry.specs.declared.asks.Ask.{Ask}
use Rattle.ocm_entry.specs.declared.entries.Entry.{Entry}
use Rattle.ocm_rules.specs.Numbers.{added, at_number, numbers}
use Rattle.ocm_rules.specs.Offers.{offers, offer_by}
use Rattle.ocm_rules.specs.History.{kept, changes, answer_kept, IsLegal}
use Rattle.ocm_law_repeats.specs.Repeats.{answers_equal, was_taken, received_before, same_ask}
use Rattle.ocm_law_repeats.proofs.Tests.{both}
use Rattle.ocm_law_repeats.proofs.Once.{taken-given}
use Rattle.ocm_law_grants.proofs.Links.{at_number-behind, within-at_number}
use Rattle.ocm_law_grants.proofs.Revoked.{length-added}

-- ---- the numbers of a list

pub at_number-within : {X : Type 0} (xs : List X) (n : ℕ) (x : X) → at_number xs n ≡ Some x → (1 ≤ n) × (n ≤ length xs)
at_number-within xs n x h =
    let P : Option _ → Type 0 = λ o. is_some o ≡ true in
    within-at_number xs n (subst P (sym h) refl)

pub at_number-added : {X : Type 0} (xs : List X) (o : Option X) (n : ℕ) → n ≤ length xs → at_number (added xs o) n ≡ at_number xs n
at_number-added xs None n h = refl
at_number-added xs (Some x) n h = at_number-behind xs x n h

-- a test that none passes of some numbers in a row fails at each of these
none-in_range : (p : ℕ → Bool) (first count n : ℕ) → list_any p (range_with_len first count) ≡ false → first ≤ n → n < first + count → p n ≡ false
none-in_range p first zero n h low high = absurd (omega arith)
none-in_range p first (suc count) n h low high = cases (nat_le (first + 1) n) refl (or_parts (p first) (list_any p (range_with_len (first + 1) count)) h) (λ k. none-in_range p (first + 1) count n k)
  where
    cases : (b : Bool) → nat_le (first + 1) n ≡ b → (p first ≡ false) × (list_any p (range_with_len (first + 1) count) ≡ false) → (list_any p (range_with_len (first + 1) count) ≡ false → first + 1 ≤ n → n < first + 1 + count → p n ≡ false) → p n ≡ false
    cases true above none again = let a = leb-true (first + 1) n above in again none.1 a (omega arith)
    cases false here none again =
        let a = leb-false (first + 1) n here in
        let e : first ≡ n = omega arith in
        subst (λ m. p m ≡ false) e none.0

-- a test that none passes of the numbers of a list fails at the number of each
pub none-numbered : {X : Type 0} (p : ℕ → Bool) (xs : List X) (n : ℕ) (x : X) → list_any p (numbers xs) ≡ false → at_number xs n ≡ Some x → p n ≡ false
none-numbered p xs n x h is =
    let within = at_number-within xs n x is in
    let low = within.0 in
    let high = within.1 in
    none-in_range p 1 (length xs) n h low (omega arith)

-- two tests that agree on each number agree on whether some passes
pub some-alike : (p q : ℕ → Bool) → ((n : ℕ) → p n ≡ q n) → (ns : List ℕ) → list_any p ns ≡ list_any q ns
some-alike p q alike [] = refl
some-alike p q alike (n ∷ ns) = rw (alike n, some-alike p q alike ns) refl

-- a test that none passes passes nowhere
pub none-passes : (p : ℕ → Bool) → ((n : ℕ) → p n ≡ false) → (ns : List ℕ) → list_any p ns ≡ false
none-passes p none [] = refl
none-passes p none (n ∷ ns) = rw (none n, none-passes p none ns) refl

-- ---- the records that were received before the last entry that an ask repeats

offers-grow : (e : Entry) (k : List Entry) → length (offers k) ≤ length (offers (e ∷ k))
offers-grow e k = length-added (offers k) (offer_by e.ask)

kept-grow : (host : List ℕ) (e : Entry) (before : List Entry) → length (offers (kept host before)) ≤ length (offers (kept host (e ∷ before)))
kept-grow host e before = cases (changes host (kept host before) e)
  where
    cases : (b : Bool) → length (offers (kept host before)) ≤ length (offers (if b then e ∷ kept host before else kept host before))
    cases true = offers-grow e (kept host before)
    cases false = omega arith

-- these are records
pub received-within : (host : List ℕ) (ask : Ask) (g : List Entry) → received_before host ask g ≤ length (offers (kept host g))
received-within host ask [] = omega arith
received-within host ask (e ∷ before) = cases (answers_equal was_taken ask e) (received-within host ask before)
  where
    cases : (b : Bool) → received_before host ask before ≤ length (offers (kept host before)) → (if b then length (offers (kept host before)) else received_before host ask before) ≤ length (offers (kept host (e ∷ before)))
    cases true older = kept-grow host e before
    cases false older = let grown = kept-grow host e before in omega arith

-- what an ask brings about for all records when it is taken, and each later change leaves so, holds of all that were received before the last such ask
module _ (host : List ℕ) (ask : Ask) (Old : List Entry → ℕ → Type 0)
    (none : Old [] 0)
    (begins : (e : Entry) (k : List Entry) → same_ask e.ask ask ≡ true → was_taken e.reply ≡ true → e.reply ≡ answer_kept host k e.ask → (b : Bool) → changes host k e ≡ b → (n : ℕ) → n ≤ length (offers k) → Old (if b then e ∷ k else k) n)
    (stays : (e : Entry) (k : List Entry) → changes host k e ≡ true → (n : ℕ) → n ≤ length (offers k) → Old k n → Old (e ∷ k) n) where
  pub of_old : (g : List Entry) → IsLegal host g → (n : ℕ) → n ≤ received_before host ask g → Old (kept host g) n
  of_old [] legal n h = let e : 0 ≡ n = omega arith in subst (Old []) e none
  of_old (e ∷ before) legal n h = by_entry (answers_equal was_taken ask e) refl h (of_old before legal.1 n)
    where
      by_change : (b : Bool) → changes host (kept host before) e ≡ b → n ≤ length (offers (kept host before)) → Old (kept host before) n → Old (if b then e ∷ kept host before else kept host before) n
      by_change true changed within old = stays e (kept host before) changed n within old
      by_change false changed within old = old

      by_entry : (b : Bool) → answers_equal was_taken ask e ≡ b → n ≤ (if b then length (offers (kept host before)) else received_before host ask before) → (n ≤ received_before host ask before → Old (kept host before) n) → Old (kept host (e ∷ before)) n
      by_entry true found within again =
          let r = both (same_ask e.ask ask) (was_taken e.reply) found in
          begins e (kept host before) r.0 r.1 (taken-given host before e r.1 legal.0) (changes host (kept host before) e) refl n within
      by_entry false found within again =
          let all = received-within host ask before in
          by_change (changes host (kept host before) e) refl (omega arith) (again within)
