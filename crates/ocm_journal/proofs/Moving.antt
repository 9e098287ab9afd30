-- Crashes while a text is written and synced.
use Rattle.std.proofs.Common.{inl, inr, ⊎_elim, ℕ, List, refl, sym, subst, arith}
use Rattle.ocm_disk.specs.Disk.{Only, Follows, Torn, Elapses, LeavesOnly}
use Rattle.ocm_disk.proofs.Moments.{started, goes_on}

pub torn_same : (p n : ℕ) (bytes : List ℕ) → Torn p n bytes bytes
torn_same p n bytes = record { before = refl; after = refl; no_shorter = omega arith; no_longer = omega arith }

pub torn_now : (p n : ℕ) (seen : List ℕ) (old new : List ℕ → Type 0) → Only seen old → Follows (Torn p n) old new → (c : List ℕ) → new c → Torn p n seen c
torn_now p n seen old new only follows c left = let from = follows c left in subst (λ f. Torn p n f c) (only from.0 from.1) from.2

module _ {D : Type 0} (moment : D → ℕ) (left_since : D → ℕ → List ℕ → Type 0) where
  -- a text is written
  pub wrote : (old new : D) (p n : ℕ) (seen : List ℕ) (may_old may_new : List ℕ → Type 0) → ((c : List ℕ) → left_since old (moment old) c → may_old c) → Only seen may_old → Elapses (moment old) (moment new) (left_since old) (left_since new) may_new → Follows (Torn p n) may_old may_new → LeavesOnly moment left_since old new (Torn p n seen)
  wrote old new p n seen may_old may_new only_now only time follows =
      let start = started moment left_since old (Torn p n seen) (λ c left. subst (λ f. Torn p n seen f) (sym (only c (only_now c left))) (torn_same p n seen)) in
      goes_on moment left_since old old new (Torn p n seen) may_new start time (torn_now p n seen may_old may_new only follows)

  -- and then synced
  pub then_synced : (old mid new : D) (P may_mid may_new : List ℕ → Type 0) → LeavesOnly moment left_since old mid P → ((c : List ℕ) → may_mid c → P c) → Elapses (moment mid) (moment new) (left_since mid) (left_since new) may_new → ((c : List ℕ) → may_new c → may_mid c) → LeavesOnly moment left_since old new P
  then_synced old mid new P may_mid may_new so_far here time crash = goes_on moment left_since old mid new P may_new so_far time (λ c now. here c (crash c now))

  -- what a crash leaves in a part leaves no more in the whole
  pub weaker : (old new : D) (P Q : List ℕ → Type 0) → LeavesOnly moment left_since old new P → ((c : List ℕ) → P c → Q c) → LeavesOnly moment left_since old new Q
  weaker old new P Q leaves wider = record { later = leaves.later; each = λ c left. wider c (leaves.each c left); before = λ t c le left. ⊎_elim (λ was. inl was) (λ now. inr (wider c now)) (leaves.before t c le left) }

  -- two parts after one another
  pub joined : (old mid new : D) (P : List ℕ → Type 0) → LeavesOnly moment left_since old mid P → LeavesOnly moment left_since mid new P → LeavesOnly moment left_since old new P
  joined old mid new P first second = record {
    later = omega (arith, first.later, second.later);
    each = λ c left. ⊎_elim (first.each c) (λ now. now) (second.before (moment old) c first.later left);
    before = λ t c le left. ⊎_elim (first.before t c le) (λ now. inr now) (second.before t c (omega (arith, le, first.later)) left);
  }

  -- a call that changes nothing
  pub still : (old new : D) (P may_old may_new : List ℕ → Type 0) → ((c : List ℕ) → left_since old (moment old) c → may_old c) → ((c : List ℕ) → may_old c → P c) → Elapses (moment old) (moment new) (left_since old) (left_since new) may_new → ((c : List ℕ) → may_new c → may_old c) → LeavesOnly moment left_since old new P
  still old new P may_old may_new only_now here time crash = goes_on moment left_since old old new P may_new (started moment left_since old P (λ c left. here c (only_now c left))) time (λ c now. here c (crash c now))
