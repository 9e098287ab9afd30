-- An object served by workers, from what each step of it gives.
use Rattle.std.proofs.Common.{◌≡◌, ℕ, ◌<◌, ◌≤◌, List, [], ◌∷◌, length, map, get_or, Option, Some, None, sym, ap, subst, ◌∙◌}
use Rattle.std.specs.List.{AllByRecursion}
use Rattle.std.proofs.lemmas.List.Elements.{recursion_from_All}
use Rattle.rand_chacha.specs.ChaCha.{ChaCha}
use Rattle.ocm_entry.specs.declared.entries.Entry.{Entry}
use Rattle.ocm_dav.specs.declared.configs.Config.{Config}
use Rattle.ocm_turn.specs.declared.view.Call.{Call}
use Rattle.ocm_turn.specs.Calls.{StandIn, InOrder}
use Rattle.ocm_turn.specs.Passes.{Gate, Known, SameGround}
use Rattle.ocm_server_connections.specs.Sides.{Sides}
use Rattle.ocm_server.specs.Objects.{begun, drawn_of, gathered, mine_of, parts_of, Knows, Past, Service, Shift}
use Rattle.ocm_server.specs.Visits.{Work, Worked}
use Rattle.ocm_server.proofs.Sharing.{shares}
use Rattle.ocm_turn.proofs.AllCalls.{all_are_the_history}

orders_mapped : {W : Type 0} (mine : W → List Call) (workers : List W) → AllByRecursion (λ w. InOrder (mine w)) workers → AllByRecursion InOrder (map mine workers)
orders_mapped mine [] h = tt
orders_mapped mine (w ∷ workers) h = (h.0, orders_mapped mine workers h.1)

-- the calls of each worker stand in order
pub orders : {W : Type 0} (mine : W → List Call) (workers : List W) → ((i : ℕ) (d : W) → i < length workers → InOrder (mine (get_or workers i d))) → AllByRecursion InOrder (map mine workers)
orders mine workers each = orders_mapped mine workers (recursion_from_All (λ w. InOrder (mine w)) workers each)

pub order_of : {C Terms : Type 0} (sides : C → Sides) (config : Config) (gate : Gate) (old new : Work C Terms) → Worked sides config gate old new → InOrder (mine_of new.pass)
order_of {C} {Terms} sides config gate old new worked = subst (λ (p : Option (Known Terms)). InOrder (mine_of p)) (sym worked.has) worked.order

-- a worker has as many parts as it had
pub same_parts : {C Terms : Type 0} (sides : C → Sides) (config : Config) (gate : Gate) (old new : Work C Terms) → Worked sides config gate old new → parts_of new.pass ≡ parts_of old.pass
same_parts sides config gate old new worked = ap parts_of worked.has ∙ (worked.moved.1.parts ∙ sym (ap parts_of worked.had))

module _ {T Terms : Type 0} (terms_of : T → Terms) (stands : T → List Entry → List Entry → Type 0) (came : T → List Entry → List Entry → List ℕ → Type 0) (legal : Terms → List Entry → List Entry → Type 0) where
  pub service : (gate : Gate) (first last : Known Terms) (left : T) (calls own : ℕ) (IsEach : Past → List (List Call) → Type 0) (all : List (List Call)) (history : List Entry) (moments : List ℕ)
      → SameGround first last → first.mine ≡ [] → last.mine ≡ gathered first.mine all → IsEach (record { history = history; moments = moments }) all
      → stands left last.base history → came left last.base history moments → length moments ≡ length history → legal last.terms last.base history → terms_of left ≡ last.terms → calls ≡ length history
      → StandIn history last.mine → AllByRecursion InOrder all → InOrder last.mine → own ≡ length last.mine → length last.mine ≡ calls
      → Service terms_of stands came legal gate first left calls own IsEach
  service gate first last left calls own IsEach all history moments ground none mine each st by paired law same count stand orders order own_is whole =
      let e : last.mine ≡ gathered [] all = mine ∙ ap (λ (m : List Call). gathered m all) none in
      let in_history : StandIn history (gathered [] all) = subst (λ (m : List Call). StandIn history m) e stand in
      let in_order : InOrder (gathered [] all) = subst (λ (m : List Call). InOrder m) e order in
      record {
        history = history;
        moments = moments;
        all = all;
        each = each;
        shares = shares history all own in_history orders in_order (own_is ∙ ap length e);
        stands_for = subst (λ (b : List Entry). stands left b history) ground.base st;
        came_by = subst (λ (b : List Entry). came left b history moments) ground.base by;
        paired = paired;
        lawful = subst (λ (z : Terms × List Entry). legal z.0 z.1 history) (λ i. (ground.terms i, ground.base i)) law;
        same_terms = same ∙ ground.terms;
        counted = count;
        all_own = own_is ∙ whole;
        whole = all_are_the_history history (gathered [] all) in_history in_order (sym (ap length e) ∙ (whole ∙ count));
      }

module _ {C Terms : Type 0} (sides : C → Sides) (config : Config) (gate : Gate) (first : Known Terms) (draw : ChaCha) where
  pub shift : (old dealt served left : Work C Terms) (calls : List Call) (past : Past) → dealt ≡ begun old draw first → Worked sides config gate dealt served
      → left ≡ record served { pass = None } → calls ≡ mine_of served.pass → Knows served.pass past → drawn_of served.pass ≤ length past.history → Shift sides config gate first draw old left calls past
  shift old dealt served left calls past dealt_is worked left_is calls_is knows within =
      let ends : served ≡ record left { pass = Some worked.after } =
      (λ i. record served { pass = worked.has i }) ∙ ap (λ (w : Work C Terms). record w { pass = Some worked.after }) (sym left_is) in
      record {
        last = worked.after;
        worked = subst (λ (z : Work C Terms × Work C Terms). Worked sides config gate z.0 z.1) (λ i. (dealt_is i, ends i)) worked;
        calls_are = calls_is ∙ ap mine_of worked.has;
        knows = subst (λ (p : Option (Known Terms)). Knows p past) worked.has knows;
        within = subst (λ (p : Option (Known Terms)). drawn_of p ≤ length past.history) worked.has within;
        no_pass = ap (λ (w : Work C Terms). w.pass) left_is;
      }
