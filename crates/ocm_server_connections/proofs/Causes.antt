-- Why connections end.
use Rattle.std.proofs.Common.{◌≡◌, ◌≢◌, ℕ, ◌≤◌, ◌⊎◌, ◌<◌, List, Bool, true, false, if◌then◌else◌, Some, None, Result, Ok, Err, refl, sym, subst, inl, inr}
use Rattle.std.specs.Prelude.{IsTrue}
use Rattle.ocm_base.specs.Outside.{Rose}
use Rattle.ocm_entry.specs.declared.entries.Entry.{Entry}
use Rattle.ocm_http.specs.declared.messages.Message.{Message}
use Rattle.ocm_turn.specs.Moves.{Unspent}
use Rattle.ocm_turn.specs.Passes.{Known}
use Rattle.ocm_dav_pages.specs.declared.shapes.Page.{Page}
use Rattle.ocm_dav.specs.declared.configs.Config.{Config}
use Rattle.ocm_server_connections.specs.declared.endings.Ended.{Ended}
use Rattle.ocm_server_connections.specs.declared.endings.Ended.TheVariants as endings
use Rattle.ocm_server_connections.specs.declared.endings.Missed.{Missed}
use Rattle.ocm_server_connections.specs.declared.endings.Missed.TheVariants as misses
use Rattle.ocm_server_connections.specs.Talk.{Shown, cause_of, Stops, EndsWith, is_spent, is_last, closes, ending_after}
use Rattle.ocm_server_connections.specs.Parts.{State, Talked}

pub stops_cause : (shown : Shown) (place : ℕ) (bytes : List ℕ) (ended : Bool) (written : List ℕ) (ending : Ended) → Stops shown place bytes ended written ending → IsTrue (cause_of shown ending)
unfolding Stops
stops_cause shown place bytes ended written endings.Closed h = refl
stops_cause shown place bytes ended written endings.Cut h = refl
stops_cause shown place bytes ended written (endings.Bad at) h = refl
stops_cause shown place bytes ended written endings.WriteFault h = h.0.0
stops_cause shown place bytes ended written endings.ReadFault h = h.1
stops_cause shown place bytes ended written endings.NoMemory h = refl
stops_cause shown place bytes ended written endings.Quota h = absurd h
stops_cause shown place bytes ended written endings.Spent h = absurd h

some_same : {A : Type 0} (a b : A) → Some a ≡ Some b → a ≡ b
some_same a b e = cc

none_some : {A : Type 0} (a : A) → None ≡ Some a → ⊥
none_some a e = cc

after_cause : (shown : Shown) (last closing : Bool) (ending : Ended) → (if last then Some endings.Quota else if closing then Some endings.Closed else None) ≡ Some ending → IsTrue (cause_of shown ending)
after_cause shown true closing ending e = subst (λ (x : Ended). IsTrue (cause_of shown x)) (some_same endings.Quota ending e) refl
after_cause shown false true ending e = subst (λ (x : Ended). IsTrue (cause_of shown x)) (some_same endings.Closed ending e) refl
after_cause shown false false ending e = absurd (none_some ending e)

pub ends_cause : (shown : Shown) (number : ℕ) (message : Message) (answer : Result Page Missed) (written : List ℕ) (ending : Ended)
    → EndsWith shown.write_rose (ending_after number message) answer written ending → is_spent answer ≡ shown.spent → IsTrue (cause_of shown ending)
unfolding EndsWith ending_after
ends_cause shown number message (Ok page) written ending (inl h) spent = after_cause shown (is_last number) (closes message.head) ending h.0
ends_cause shown number message (Ok page) written ending (inr h) spent = subst (λ (x : Ended). IsTrue (cause_of shown x)) (sym h.0) h.1.0
ends_cause shown number message (Err misses.Spent) written ending h spent = subst (λ (x : Ended). IsTrue (cause_of shown x)) (sym h.0) (sym spent)
ends_cause shown number message (Err misses.NoMemory) written ending h spent = subst (λ (x : Ended). IsTrue (cause_of shown x)) (sym h.0) refl

drawn_of : {Terms : Type 0} (limit : ℕ) (old new : Known Terms) (calls : List Entry) → Unspent limit old new calls → (new.drawn ≡ old.drawn) ⊎ (new.drawn < limit)
drawn_of limit old new calls (inl h) = inl h.1
drawn_of limit old new calls (inr h) = inr h

module _ {Terms : Type 0} (config : Config) (limit : ℕ) (old new : State Terms) (ending : Ended) (talked : Talked config limit old new ending) where
  pub read_cause : ending ≡ endings.ReadFault → Rose old.sides.read_faults new.sides.read_faults
  read_cause e = talked.shows.read_rose (subst (λ (x : Ended). IsTrue (cause_of talked.shown x)) e talked.cause)

  pub write_cause : ending ≡ endings.WriteFault → Rose old.sides.write_faults new.sides.write_faults
  write_cause e = talked.shows.write_rose (subst (λ (x : Ended). IsTrue (cause_of talked.shown x)) e talked.cause)

  pub spent_cause : ending ≡ endings.Spent → limit ≤ new.pass.drawn
  spent_cause e = talked.shows.spent (subst (λ (x : Ended). IsTrue (cause_of talked.shown x)) e talked.cause)

  pub unspent_cause : ending ≢ endings.Spent → (new.pass.drawn ≡ old.pass.drawn) ⊎ (new.pass.drawn < limit)
  unspent_cause h = drawn_of limit old.pass new.pass talked.deeds.calls (talked.unspent h)
