use Rattle.std.proofs.Common.{◌≡◌, ℕ, List, [], ◌∷◌, Bool, true, false, refl}
use Rattle.std.specs.Prelude.{◌&&◌, ◌||◌, if◌then◌else◌}
use mathlib.Core.Logic.{inl, inr}
use Rattle.ocm_entry.specs.declared.asks.Ask.{Ask}
use Rattle.ocm_entry.specs.declared.replies.Reply.{Reply}
use Rattle.ocm_entry.specs.declared.replies.Reply.TheVariants as replies
use Rattle.ocm_entry.specs.declared.entries.Entry.{Entry}
use Rattle.ocm_rules.specs.History.{kept, changes, answer_kept, is_failure, IsGiven, IsLegal, IsAnswered}
use Rattle.ocm_rules.proofs.Kept.{kept-answered}
use Rattle.ocm_law_repeats.specs.Repeats.{is_repeat, was_taken, same_ask, was_answered}
use Rattle.ocm_law_repeats.proofs.Tests.{both}

-- what was taken is no failure
taken-no_failure : (reply : Reply) → was_taken reply ≡ true → is_failure reply ≡ true → ⊥
taken-no_failure (replies.Recipient user) h k = cc
taken-no_failure replies.Noticed h k = cc
taken-no_failure (replies.Child n) h k = cc
taken-no_failure replies.Done h k = cc
taken-no_failure _ h k = cc

-- an entry whose ask was taken has the reply that the rules give
pub taken-given : (host : List ℕ) (before : List Entry) (e : Entry) → was_taken e.reply ≡ true → IsGiven host before e → e.reply ≡ answer_kept host (kept host before) e.ask
taken-given host before e taken (inl given) = given
taken-given host before e taken (inr failed) = absurd (taken-no_failure e.reply taken failed)

-- what an ask brings about that was answered so, and each later change leaves so, holds of what is kept of each legal history that it repeats
module _ (host : List ℕ) (ask : Ask) (takes : Reply → Bool) (P : List Entry → Type 0)
    (taken : (reply : Reply) → takes reply ≡ true → was_taken reply ≡ true)
    (begins : (e : Entry) (k : List Entry) → same_ask e.ask ask ≡ true → takes e.reply ≡ true → e.reply ≡ answer_kept host k e.ask → (b : Bool) → changes host k e ≡ b → P (if b then e ∷ k else k))
    (stays : (e : Entry) (k : List Entry) → e.reply ≡ answer_kept host k e.ask → changes host k e ≡ true → P k → P (e ∷ k)) where
  step : (e : Entry) (before : List Entry) → IsLegal host (e ∷ before) → P (kept host before) → P (kept host (e ∷ before))
  step e before legal old = cases (changes host (kept host before) e) refl (kept-answered host (e ∷ before) legal)
    where
      cases : (b : Bool) → changes host (kept host before) e ≡ b → IsAnswered host (if b then e ∷ kept host before else kept host before) → P (if b then e ∷ kept host before else kept host before)
      cases true h answered = stays e (kept host before) answered.0 h old
      cases false h answered = old

  pub since : (g : List Entry) → IsLegal host g → was_answered takes g ask ≡ true → P (kept host g)
  since [] legal h = absurd (cc)
  since (e ∷ before) legal h = cases (same_ask e.ask ask && takes e.reply) refl h (since before legal.1)
    where
      cases : (b : Bool) → (same_ask e.ask ask && takes e.reply) ≡ b → (b || was_answered takes before ask) ≡ true → (was_answered takes before ask ≡ true → P (kept host before)) → P (kept host (e ∷ before))
      cases true found k again =
          let r = both (same_ask e.ask ask) (takes e.reply) found in
          begins e (kept host before) r.0 r.1 (taken-given host before e (taken e.reply r.1) legal.0) (changes host (kept host before) e) refl
      cases false found k again = step e before legal (again k)

-- the same of an ask that was taken
pub once : (host : List ℕ) (ask : Ask) (P : List Entry → Type 0)
    → ((e : Entry) (k : List Entry) → same_ask e.ask ask ≡ true → was_taken e.reply ≡ true → e.reply ≡ answer_kept host k e.ask → (b : Bool) → changes host k e ≡ b → P (if b then e ∷ k else k))
    → ((e : Entry) (k : List Entry) → e.reply ≡ answer_kept host k e.ask → changes host k e ≡ true → P k → P (e ∷ k))
    → (g : List Entry) → IsLegal host g → is_repeat g ask ≡ true → P (kept host g)
once host ask P begins stays g legal h = since host ask was_taken P (λ reply taken. taken) begins stays g legal h
