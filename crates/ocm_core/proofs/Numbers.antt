use Rattle.std.proofs.Common.{◌≡◌, ℕ, ◌+◌, ◌<◌, ◌∷◌, List, length, Bool, true, false, refl, sym, ap, ◌∙◌, subst, arith, add-one}
use Rattle.std.specs.Prelude.{Option, None, if◌then◌else◌, min}
use Rattle.ocm_entry.specs.declared.asks.Ask.{Ask}
use Rattle.ocm_entry.specs.declared.entries.Entry.{Entry}
use Rattle.ocm_entry.specs.declared.rows.Node.{Node}
use Rattle.ocm_entry.specs.declared.rows.Standing.{Standing}
use Rattle.ocm_law_origins.specs.Origins.{Origin, body_from, origins, origins_after}
use Rattle.ocm_rules.specs.Files.{Act, act_after, nodes, nodes_after}
use Rattle.ocm_rules.specs.History.{changes, kept}
use Rattle.ocm_rules.specs.State.{State, view_in}
use Rattle.ocm_rules.proofs.Kept.{kept-answered}
use Rattle.ocm_rules.proofs.States.{state_of-read}
use Rattle.ocm_tables.specs.declared.changes.TableChange.{TableChange}
use Rattle.ocm_tables.specs.declared.changes.TableChange.TheVariants as change
use Rattle.ocm_tables.specs.Changes.{changed, entries_after, file_act, is_kept}
use Rattle.ocm_tables.specs.Tables.{ServerLists}
use Rattle.ocm_plan.specs.Plans.{Plan, Plans, act_in}
use Rattle.ocm_core.specs.Standing.{IsAfter, IsCountOf, IsNumbered, body_of, body_with, standing_body}
use Rattle.ocm_core.proofs.Standing.{changes-after, host-after, view-after}

-- what stands by the lists is what stands after the history
nodes-after : (st : State) (g : List Entry) → IsAfter st g → st.nodes ≡ nodes st.host (kept st.host g)
nodes-after st g h = ap (λ (lists : State). lists.nodes) (h.lists ∙ state_of-read st.host (kept st.host g) (kept-answered st.host g h.legal))

-- what an ask does to files, by the lists, is what it does after the history
act-after : (st : State) (g : List Entry) (ask : Ask) → IsAfter st g → act_in (view_in st) ask ≡ act_after st.host (kept st.host g) ask
act-after st g ask h = sym (ap (λ v. act_in v ask) (view-after st g h))

-- a change that is not kept does nothing to files
unkept-act : (c : TableChange) → is_kept c ≡ false → file_act c ≡ None
unkept-act change.Nothing e = refl
unkept-act _ e = absurd (cc)

-- the numbers and the nodes once a change is made are those of a list of kept entries
record Grows (host : List ℕ) (k : List Entry) (c : TableChange) (entries : ℕ) (os : List Origin) (ns : List Node) : Type 0 where
  pub count : entries_after entries c ≡ length k
  pub places : origins_after (file_act c) (entries_after entries c) os ≡ origins host k
  pub standing : nodes_after (file_act c) ns ≡ nodes host k

counted-on : (entries : ℕ) (k : List Entry) (e : Entry) → entries ≡ length k → length k < 18446744073709551615 → min (entries + 1) 18446744073709551615 ≡ length k + 1
counted-on entries k e is few = omega arith

-- an entry that is kept, and one that is not
grows : (host : List ℕ) (k : List Entry) (e : Entry) (c : TableChange) (entries : ℕ) (os : List Origin) (ns : List Node)
    → entries ≡ length k → os ≡ origins host k → ns ≡ nodes host k → length k < 18446744073709551615
    → (is_kept c ≡ true → file_act c ≡ act_after host k e.ask)
    → (b : Bool) → is_kept c ≡ b → Grows host (if b then e ∷ k else k) c entries os ns
grows host k e c entries os ns count places standing few acts true is =
    let act : file_act c ≡ act_after host k e.ask = acts is in
    let next : entries_after entries c ≡ length k + 1 = ap (λ b. if b then min (entries + 1) 18446744073709551615 else entries) is ∙ counted-on entries k e count few in
    record {
      count = next ∙ add-one (length k);
      places = ap (λ (a : Option Act). origins_after a (entries_after entries c) os) act
          ∙ ap (λ n. origins_after (act_after host k e.ask) n os) next
          ∙ ap (origins_after (act_after host k e.ask) (length k + 1)) places;
      standing = ap (λ (a : Option Act). nodes_after a ns) act ∙ ap (nodes_after (act_after host k e.ask)) standing;
    }
grows host k e c entries os ns count places standing few acts false is =
    let act : file_act c ≡ None = unkept-act c is in
    record {
      count = ap (λ b. if b then min (entries + 1) 18446744073709551615 else entries) is ∙ count;
      places = ap (λ (a : Option Act). origins_after a (entries_after entries c) os) act ∙ places;
      standing = ap (λ (a : Option Act). nodes_after a ns) act ∙ standing;
    }

-- the numbers and the nodes once a planned change is made are those of the history with the entry
grows-planned : (lists : ServerLists) (g : List Entry) (ask : Ask) (plan : Plan) → IsAfter lists.state g → IsCountOf lists g → Plans lists.state ask plan
    → length (kept lists.state.host g) < 18446744073709551615
    → Grows lists.state.host (kept lists.state.host (record { ask = ask; reply = plan.reply } ∷ g)) plan.change lists.entries lists.origins lists.state.nodes
grows-planned lists g ask plan h counted plans few =
    let host : List ℕ = lists.state.host in
    grows host (kept host g) (record { ask = ask; reply = plan.reply }) plan.change lists.entries lists.origins lists.state.nodes
    counted.count counted.places (nodes-after lists.state g h) few
    (λ is. plans.files is ∙ act-after lists.state g ask h)
    (changes host (kept host g) (record { ask = ask; reply = plan.reply })) (plans.kept ∙ changes-after lists.state g ask plan.reply h)

-- what is found in the tables by its number, and what is found so by the plan
pub found-with : (lists : ServerLists) (plan : Plan) (number : ℕ) (c : TableChange) (found : Option Standing) → c ≡ plan.change
    → found ≡ body_from (nodes_after (file_act c) lists.state.nodes) (origins_after (file_act c) (entries_after lists.entries c) lists.origins) number
    → body_of found ≡ body_with lists plan number
found-with lists plan number c found is at =
    ap body_of at
    ∙ ap (λ (d : TableChange). body_of (body_from (nodes_after (file_act d) lists.state.nodes) (origins_after (file_act d) (entries_after lists.entries d) lists.origins) number)) is

-- where few entries are kept, few are counted
pub few-counted : (lists : ServerLists) (g : List Entry) → IsNumbered lists g → length (kept lists.state.host g) < 18446744073709551615 → lists.entries < 18446744073709551615
few-counted lists g numbered few = let counted = (numbered few).count in omega (arith, counted, few)

-- what is found by its number once the change is made is what stands after the history with the entry
pub body-after : (lists : ServerLists) (g : List Entry) (ask : Ask) (plan : Plan) (number : ℕ) → IsAfter lists.state g → IsNumbered lists g → Plans lists.state ask plan
    → length (kept lists.state.host g) < 18446744073709551615
    → body_with lists plan number ≡ standing_body lists.state.host (kept lists.state.host (record { ask = ask; reply = plan.reply } ∷ g)) number
body-after lists g ask plan number h numbered plans few =
    let grown = grows-planned lists g ask plan h (numbered few) plans few in
    ap (λ (ns : List Node). body_of (body_from ns (origins_after (file_act plan.change) (entries_after lists.entries plan.change) lists.origins) number)) grown.standing
    ∙ ap (λ (os : List Origin). body_of (body_from (nodes lists.state.host (kept lists.state.host (record { ask = ask; reply = plan.reply } ∷ g))) os number)) grown.places

-- where the history with one more entry is short, so is the one before
shorter : (k : List Entry) (e : Entry) (most : ℕ) (b : Bool) → length (if b then e ∷ k else k) < most → length k < most
shorter k e most true few = omega (arith, add-one (length k))
shorter k e most false few = few

-- once a planned change is made, the numbers are those of the history with the entry
pub numbered-after : (lists next : ServerLists) (g : List Entry) (ask : Ask) (plan : Plan) → IsAfter lists.state g → IsNumbered lists g → Plans lists.state ask plan
    → next.state ≡ changed lists.state plan.change plan.sent → next.entries ≡ entries_after lists.entries plan.change → next.origins ≡ origins_after (file_act plan.change) next.entries lists.origins
    → IsNumbered next (record { ask = ask; reply = plan.reply } ∷ g)
numbered-after lists next g ask plan h numbered plans state entries places =
    let same : next.state.host ≡ lists.state.host = ap (λ (st : State). st.host) (state ∙ plans.change) ∙ host-after lists.state ask plan.reply in
    let e : Entry = record { ask = ask; reply = plan.reply } in
    let P : List ℕ → Type 0 = λ host. length (kept host (e ∷ g)) < 18446744073709551615 → (next.entries ≡ length (kept host (e ∷ g))) × (next.origins ≡ origins host (kept host (e ∷ g))) in
    let host : List ℕ = lists.state.host in
    let here : P host = λ few.
    let before : length (kept host g) < 18446744073709551615 = shorter (kept host g) e 18446744073709551615 (changes host (kept host g) e) few in
    let grown = grows-planned lists g ask plan h (numbered before) plans before in
    (entries ∙ grown.count, places ∙ ap (λ n. origins_after (file_act plan.change) n lists.origins) entries ∙ grown.places) in
    let there : P next.state.host = subst P (sym same) here in
    λ few. record { count = (there few).0; places = (there few).1 }

-- an entry that changes nothing leaves the numbers
pub numbered-same : (lists : ServerLists) (g : List Entry) (e : Entry) → IsNumbered lists g → kept lists.state.host (e ∷ g) ≡ kept lists.state.host g → IsNumbered lists (e ∷ g)
numbered-same lists g e numbered same =
    let P : List Entry → Type 0 = λ k. length k < 18446744073709551615 → (lists.entries ≡ length k) × (lists.origins ≡ origins lists.state.host k) in
    let here : P (kept lists.state.host g) = λ few. ((numbered few).count, (numbered few).places) in
    let there : P (kept lists.state.host (e ∷ g)) = subst P (sym same) here in
    λ few. record { count = (there few).0; places = (there few).1 }

-- what is found by its number is what stands after each history of these lists with the planned entry
abbrev pub TellsBody : Plan → ℕ → Option (List ℕ) → ServerLists → Type 0
TellsBody plan number found lists =
    (g : List Entry) (ask : Ask) → IsAfter lists.state g → IsNumbered lists g → Plans lists.state ask plan → length (kept lists.state.host g) < 18446744073709551615
    → found ≡ standing_body lists.state.host (kept lists.state.host (record { ask = ask; reply = plan.reply } ∷ g)) number

pub tells-body : (lists : ServerLists) (plan : Plan) (number : ℕ) (found : Option (List ℕ)) → (lists.entries < 18446744073709551615 → found ≡ body_with lists plan number) → TellsBody plan number found lists
tells-body lists plan number found by_lists = λ g ask h numbered plans few. by_lists (few-counted lists g numbered few) ∙ body-after lists g ask plan number h numbered plans few
