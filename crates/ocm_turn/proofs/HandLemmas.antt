-- What a seat has in hand when the value was asked.
use Rattle.std.proofs.Common.{◌≡◌, ℕ, ◌+◌, List, [], ◌∷◌, refl, sym, ap, ◌∙◌, subst, arith, Option, Some, None}
use Rattle.std.specs.Prelude.{Result, Ok, Err, IfOk, IfErr}
use Rattle.atomic_table.specs.Table.{Me, rest}
use Rattle.ocm_entry.specs.declared.asks.Ask.{Ask}
use Rattle.ocm_entry.specs.declared.entries.Entry.{Entry}
use Rattle.ocm_entry.specs.declared.replies.Reply.{Reply}
use Rattle.ocm_turn.specs.declared.behind.Behind.{Behind}
use Rattle.ocm_turn.specs.declared.dated.Begun.{Begun}
use Rattle.ocm_turn.specs.declared.dated.Begun.TheVariants.{Replied, Apart, Busy}
use Rattle.ocm_turn.specs.declared.view.View.{View}
use Rattle.ocm_turn.specs.Begun.{IfReplied, IfApart, IfBusy}
use Rattle.ocm_turn.specs.Rule.{StandsBehind}
use Rattle.ocm_turn.specs.Steps.{HasInHand, StandsAt}
use Rattle.ocm_turn.proofs.ViewLemmas.{same_some}

module _ {W : Type 0} where
  -- what is said of a reply
  pub the_reply : (b : Begun W) (P : Reply → Type 0) (r : Reply) → b ≡ Replied r → IfReplied b P → P r
  the_reply b P r is p = subst (λ (z : Begun W). IfReplied z P) is p

  -- where there is no reply, nothing is said of it
  pub no_reply : (b : Begun W) (P : Reply → Type 0) → ((r : Reply) → b ≡ Replied r → ⊥) → IfReplied b P
  no_reply (Replied r) P n = absurd (n r refl)
  no_reply (Apart w) P n = tt
  no_reply (Busy a) P n = tt

  -- one fact for another
  pub if_apart : (b : Begun W) (P Q : W → Type 0) → ((w : W) → b ≡ Apart w → P w → Q w) → IfApart b P → IfApart b Q
  if_apart (Replied r) P Q f p = tt
  if_apart (Apart w) P Q f p = f w refl p
  if_apart (Busy a) P Q f p = tt

  pub if_busy : (b : Begun W) (P Q : Ask → Type 0) → ((a : Ask) → b ≡ Busy a → P a → Q a) → IfBusy b P → IfBusy b Q
  if_busy (Replied r) P Q f p = tt
  if_busy (Apart w) P Q f p = tt
  if_busy (Busy a) P Q f p = f a refl p

-- what is said of a reply
pub the_ok : (b : Result Reply Ask) (P : Reply → Type 0) (r : Reply) → b ≡ Ok r → IfOk b P → P r
the_ok b P r is p = subst (λ (z : Result Reply Ask). IfOk z P) is p

-- where there is no reply, nothing is said of it
pub no_ok : (b : Result Reply Ask) (P : Reply → Type 0) → ((r : Reply) → b ≡ Ok r → ⊥) → IfOk b P
no_ok (Ok r) P n = absurd (n r refl)
no_ok (Err a) P n = tt

-- one fact for two others
pub if_err : (b : Result Reply Ask) (P Q R : Ask → Type 0) → ((a : Ask) → P a → Q a → R a) → IfErr b P → IfErr b Q → IfErr b R
if_err (Ok r) P Q R f p q = tt
if_err (Err a) P Q R f p q = f a p q

module _ {T G : Type 0} (terms_of : T → G) (stands : T → List Entry → List Entry → Type 0) (came : T → List Entry → List Entry → List ℕ → Type 0) (legal : G → List Entry → List Entry → Type 0) where
  -- a value that has made one call more stands for one entry more
  abbrev pub More : (T → ℕ) → T → T → Entry → Type 0
  More moment old new e = (k l : List Entry) → stands old k l → legal (terms_of old) k l → stands new k (e ∷ l) × legal (terms_of old) k (e ∷ l) × ((moments : List ℕ) → came old k l moments → came new k (e ∷ l) (moment new ∷ moments))

  -- a value that has made none stands for the same
  abbrev pub Stays : T → T → Type 0
  Stays old new = (k l : List Entry) → stands old k l → legal (terms_of old) k l → stands new k l × ((moments : List ℕ) → came old k l moments → came new k l moments)

module _ {T G M : Type 0} (terms_of : T → G) (stands : T → List Entry → List Entry → Type 0) (came : T → List Entry → List Entry → List ℕ → Type 0) (legal : G → List Entry → List Entry → Type 0) (awaited_of : T → Option M) (moment : T → ℕ)
    (m : Me (Option (Behind T)) (View G M)) (h : List Entry) (ms : List ℕ) (a : Option M) (hand : HasInHand terms_of (StandsAt stands came) legal awaited_of m h ms a)
    (o : Option (Behind T)) (b : Behind T) (holds : m.1 ≡ (0, o) ∷ rest m.1) (is : o ≡ Some b) where
  -- the value that was found is the one that is known
  found : hand.0 ≡ b
  found = same_some hand.0 b (ap (λ (l : List (ℕ × Option (Behind T))). elim l as (λ _. Option (Behind T)) [ [] ↦ None | x ∷ xs ↦ x.1 ]) (sym hand.1 ∙ holds) ∙ is)

  stands_found : StandsBehind terms_of (StandsAt stands came) awaited_of (terms_of b.value) m.0.base h ms a b
  stands_found = subst (λ (z : Behind T). StandsBehind terms_of (StandsAt stands came) awaited_of (terms_of z.value) m.0.base h ms a z) found hand.3

  legal_found : legal (terms_of b.value) m.0.base h
  legal_found = subst (λ (z : Behind T). legal (terms_of z.value) m.0.base h) found hand.4

  terms_found : m.0.terms ≡ Some (terms_of b.value)
  terms_found = hand.2 ∙ ap (λ (z : Behind T). Some (terms_of z.value)) found

  nothing_else : (z : Behind T) → ◌≡◌ {A = List (ℕ × Option (Behind T))} ((0, Some z) ∷ rest m.1) ((0, Some z) ∷ [])
  nothing_else z = ap (λ (l : List (ℕ × Option (Behind T))). (0, Some z) ∷ rest l) hand.1

  pub awaits_found : awaited_of b.value ≡ a
  awaits_found = stands_found.awaits

  -- the value as it was
  pub hand_same : HasInHand terms_of (StandsAt stands came) legal awaited_of (m.0, (0, Some b) ∷ rest m.1) h ms a
  hand_same = (b, nothing_else b, terms_found, stands_found, legal_found)

  module _ (n : T) (awaits : Option M) (terms : terms_of n ≡ terms_of b.value) (waits : awaited_of n ≡ awaits) where
    -- the value when a call was over
    pub hand_more : (e : Entry) (now : T) → now ≡ n
        → More terms_of stands came legal moment b.value n e
        → HasInHand terms_of (StandsAt stands came) legal awaited_of (m.0, (0, Some (record { value = n; calls = b.calls + 1 })) ∷ rest m.1) (e ∷ h) (moment now ∷ ms) awaits
    hand_more e now now_is step =
        let y : Behind T = record { value = n; calls = b.calls + 1 } in
        let st = stands_found in
        let got = step m.0.base h st.stands_for.0 legal_found in
        let calls = st.calls in (
          y,
          nothing_else y,
          terms_found ∙ ap Some (sym terms),
          record {
            terms_are = refl;
            stands_for = (got.0, subst (λ (v : T). came n m.0.base (e ∷ h) (moment v ∷ ms)) (sym now_is) (got.2 ms st.stands_for.1));
            calls = omega (arith, calls);
            awaits = waits;
          },
          subst (λ (t : G). legal t m.0.base (e ∷ h)) (sym terms) got.1,
        )

    -- the value when no call was over
    pub hand_stays : Stays terms_of stands came legal b.value n
        → HasInHand terms_of (StandsAt stands came) legal awaited_of (m.0, (0, Some (record { value = n; calls = b.calls })) ∷ rest m.1) h ms awaits
    hand_stays step =
        let y : Behind T = record { value = n; calls = b.calls } in
        let st = stands_found in
        let got = step m.0.base h st.stands_for.0 legal_found in (
          y,
          nothing_else y,
          terms_found ∙ ap Some (sym terms),
          record { terms_are = refl; stands_for = (got.0, got.1 ms st.stands_for.1); calls = st.calls; awaits = waits },
          subst (λ (t : G). legal t m.0.base h) (sym terms) legal_found,
        )
