use Rattle.std.proofs.Common.{◌≡◌, ℕ, ◌∷◌, List, Bool, true, false, refl, sym, ap, ◌∙◌, subst, if◌then◌else◌, inl, inr, IsTrue}
use Rattle.ocm_entry.specs.declared.asks.Ask.{Ask}
use Rattle.ocm_entry.specs.declared.entries.Entry.{Entry}
use Rattle.ocm_entry.specs.declared.replies.Reply.{Reply}
use Rattle.ocm_rules.specs.Answers.{reply_in}
use Rattle.ocm_rules.specs.History.{IsLegal, answer, changes, changes_in, is_failure, kept}
use Rattle.ocm_rules.specs.Messages.{view_of}
use Rattle.ocm_rules.specs.State.{State, Stands, after, step, state_of, view_in}
use Rattle.ocm_rules.proofs.Kept.{failure-changes, kept-answered}
use Rattle.ocm_rules.proofs.States.{state_of-kept, view_of-state}
use Rattle.ocm_core.specs.Standing.{IsAfter}

-- what is read of the history is what is read of the lists
pub view-after : (st : State) (g : List Entry) → IsAfter st g → view_of st.host (kept st.host g) ≡ view_in st
view-after st g h = view_of-state st.host (kept st.host g) (kept-answered st.host g h.legal) ∙ ap view_in (sym h.lists)

-- and so is the reply
pub reply-after : (st : State) (g : List Entry) (ask : Ask) → IsAfter st g → reply_in (view_in st) ask ≡ answer st.host g ask
reply-after st g ask h = sym (ap (λ v. reply_in v ask) (view-after st g h))

-- and whether an entry changes something
pub changes-after : (st : State) (g : List Entry) (ask : Ask) (reply : Reply) → IsAfter st g → changes_in (view_in st) ask reply ≡ changes st.host (kept st.host g) (record { ask = ask; reply = reply })
changes-after st g ask reply h = sym (ap (λ v. changes_in v ask reply) (view-after st g h))

host-by : (st : State) (ask : Ask) (reply : Reply) (b : Bool) → (if b then step st ask reply else st).host ≡ st.host
host-by st ask reply true = refl
host-by st ask reply false = refl

-- the host stays
pub host-after : (st : State) (ask : Ask) (reply : Reply) → (after st ask reply).host ≡ st.host
host-after st ask reply = host-by st ask reply (changes_in (view_in st) ask reply)

-- the lists after one more entry are those of the history with it
pub lists-after : (st : State) (g : List Entry) (e : Entry) → IsAfter st g → Stands (after st e.ask e.reply) (e ∷ g)
lists-after st g e h =
    let P : List ℕ → Type 0 = λ host. after st e.ask e.reply ≡ state_of host (kept host (e ∷ g)) in
    subst P (sym (host-after st e.ask e.reply)) (ap (λ (lists : State). after lists e.ask e.reply) h.lists ∙ sym (state_of-kept st.host g e (kept-answered st.host g h.legal)))

-- an entry that the rules give
pub IsAfter-answered : (st : State) (g : List Entry) (ask : Ask) (reply : Reply) → IsAfter st g → reply ≡ reply_in (view_in st) ask → IsAfter (after st ask reply) (record { ask = ask; reply = reply } ∷ g)
IsAfter-answered st g ask reply h answered =
    let legal : IsLegal st.host (record { ask = ask; reply = reply } ∷ g) = (inl (answered ∙ reply-after st g ask h), h.legal) in
    record {
      lists = lists-after st g (record { ask = ask; reply = reply }) h;
      legal = subst (λ host. IsLegal host (record { ask = ask; reply = reply } ∷ g)) (sym (host-after st ask reply)) legal;
    }

-- an entry that tells that the server could not do it
pub IsAfter-failed : (st : State) (g : List Entry) (ask : Ask) (reply : Reply) → IsAfter st g → IsTrue (is_failure reply) → IsAfter st (record { ask = ask; reply = reply } ∷ g)
IsAfter-failed st g ask reply h failed =
    let stays : after st ask reply ≡ st = ap (λ b. if b then step st ask reply else st) (failure-changes (view_in st) ask reply failed) in
    record {
      lists = subst (λ (lists : State). Stands lists (record { ask = ask; reply = reply } ∷ g)) stays (lists-after st g (record { ask = ask; reply = reply }) h);
      legal = (inr failed, h.legal);
    }
