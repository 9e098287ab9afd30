-- Connections one after another.
use Rattle.std.proofs.Common.{◌≡◌, ℕ, Bool, List, [], ◌∷◌, ◌++◌, true, false, Option, Some, None, Result, Ok, refl, sym, ap, subst, ◌∙◌}
use Rattle.std.specs.Prelude.{option_map, IfOk, IfSome, OnOk}
use Rattle.ocm_dav.specs.declared.configs.Config.{Config}
use Rattle.ocm_entry.specs.declared.entries.Entry.{Entry}
use Rattle.ocm_turn.specs.Moves.{Moved}
use Rattle.ocm_turn.proofs.MoveLemmas.{moved_nothing, moved_then}
use Rattle.ocm_server_connections.specs.Sides.{Sides}
use Rattle.ocm_server.specs.Doors.{Doorway, given, came_back, over}
use Rattle.ocm_server_rounds.specs.declared.pumped.Pumped.{Pumped}
use Rattle.ocm_server_rounds.specs.Rounds.{Hold, hold}
use Rattle.ocm_server.specs.Visits.{Behind, Desk, Visit, Visits, visited, left, Comes, Serves}

pub ok_of : {E A : Type 0} (P : Type 0) (r : Result A E) (a : A) → OnOk r P → r ≡ Ok a → P
ok_of {E} {A} P r a h e = subst (λ (x : Result A E). OnOk x P) e h

pub some_of : {E A : Type 0} (P : A → Type 0) (r : Result (Option A) E) (o : Option A) (a : A) → IfOk r (λ x. IfSome x P) → r ≡ Ok o → o ≡ Some a → P a
some_of {E} {A} P r o a h e f = subst (λ (x : Result (Option A) E). IfOk x (λ y. IfSome y P)) (e ∙ ap Ok f) h

pub none_of : {E A : Type 0} (P : Type 0) (r : Result (Option A) E) (o : Option A) → IfOk r (λ x. x ≡ None → P) → r ≡ Ok o → o ≡ None → P
none_of {E} {A} P r o h e f = subst (λ (x : Result (Option A) E). IfOk x (λ y. y ≡ None → P)) (e ∙ ap Ok f) h refl

same_told : {C : Type 0} (told : Option (Doorway C)) → told ≡ option_map (λ d. left false (visited [] d)) told
same_told (Some d) = refl
same_told None = refl

one_more : {C : Type 0} (told : Option (Doorway C)) (v : Visit C) (before : List (Visit C)) → option_map (came_back v.back v.ended) (option_map (given v.given) (option_map (λ d. left false (visited before d)) told)) ≡ option_map (λ d. left false (visited (v ∷ before) d)) told
one_more (Some d) v before = refl
one_more None v before = refl

ends_told : {C : Type 0} (told : Option (Doorway C)) (before : List (Visit C)) → option_map over (option_map (λ d. left false (visited before d)) told) ≡ option_map (λ d. left true (visited before d)) told
ends_told (Some d) before = refl
ends_told None before = refl

-- the same with a post that is of the same kind
pub comes_as : {C Terms : Type 0} (sides : C → Sides) (config : Config) (limit : ℕ) (now before : Bool) (conn : C) (told told' : Option (Doorway C)) (old new : Desk Terms)
    → now ≡ before → Comes sides config limit now conn told told' old new → Comes sides config limit before conn told told' old new
comes_as sides config limit now before conn told told' old new same m = subst (λ (delivers : Bool). Comes sides config limit delivers conn told told' old new) same m

module _ {C Terms : Type 0} (sides : C → Sides) (config : Config) (limit : ℕ) (delivers : Bool) where
  pub serves_nothing : (told : Option (Doorway C)) (d : Desk Terms) → Serves sides config limit delivers told told false d d
  serves_nothing told d = record { visits = []; door = same_told told; served = refl }

  pub serves_visit : (t0 t1 t2 t3 : Option (Doorway C)) (conn : C) (a b c : Desk Terms) → Serves sides config limit delivers t0 t1 false a b → t2 ≡ option_map (given conn) t1 → Comes sides config limit delivers conn t2 t3 b c → Serves sides config limit delivers t0 t3 false a c
  serves_visit t0 t1 t2 t3 conn a b c s g m =
      let v : Visit C = record { given = conn; back = m.back; ended = m.ended; pumped = m.pumped } in
      record {
        visits = v ∷ s.visits;
        door = m.came ∙ (ap (option_map (came_back m.back m.ended)) (g ∙ ap (option_map (given conn)) s.door) ∙ one_more t0 v s.visits);
        served = (b, s.served, m.visited);
      }

  pub serves_end : (t0 t1 t2 : Option (Doorway C)) (a b : Desk Terms) → Serves sides config limit delivers t0 t1 false a b → t2 ≡ option_map over t1 → Serves sides config limit delivers t0 t2 true a b
  serves_end t0 t1 t2 a b s e = record { visits = s.visits; door = e ∙ (ap (option_map over) s.door ∙ ends_told t0 s.visits); served = s.served }

  pub serves_fault : (t0 t1 t2 : Option (Doorway C)) (a b : Desk Terms) → Serves sides config limit delivers t0 t1 false a b → t2 ≡ t1 → Serves sides config limit delivers t0 t2 false a b
  serves_fault t0 t1 t2 a b s e = subst (λ (t : Option (Doorway C)). Serves sides config limit delivers t0 t false a b) (sym e) s

  -- what a worker does behind a connection moves the pass
  behind_moved : (pumped : Option Pumped) (a b : Hold Terms) → Behind limit delivers pumped a b → (calls : List Entry) × Moved a.pass b.pass calls
  behind_moved (Some pumped) a b made = (made.1.0, made.1.2.moved)
  behind_moved None a b made = ([], subst (λ (h : Hold Terms). Moved a.pass h.pass []) (sym made.1) (moved_nothing a.pass))

  -- visits move the pass
  pub visits_moved : (visits : List (Visit C)) (a b : Desk Terms) → Visits sides config limit delivers visits a b → (calls : List Entry) × Moved a.pass b.pass calls
  visits_moved [] a b e = ([], subst (λ (d : Desk Terms). Moved a.pass d.pass []) (sym e) (moved_nothing a.pass))
  visits_moved (v ∷ before) a c s =
      let b = s.0 in
      let m = visits_moved before a b s.1 in
      let talk = s.2.talked.does.calls in
      let round = behind_moved v.pumped (hold s.2.middle.pass s.2.middle.exchanges) (hold c.pass c.exchanges) s.2.behind in
      let first = moved_then a.pass b.pass s.2.middle.pass m.0 s.2.talked.deeds.calls m.1 talk in
      (round.0 ++ (s.2.talked.deeds.calls ++ m.0), moved_then a.pass s.2.middle.pass c.pass (s.2.talked.deeds.calls ++ m.0) round.0 first round.1)
