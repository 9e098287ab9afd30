use Rattle.std.proofs.Common.{◌≡◌, ℕ, List, [], true, false, refl, sym, ap, ◌∙◌, subst}
use Rattle.std.specs.Prelude.{Option, Some, None, Result, IfOk, option_map}
use Rattle.ocm_path.specs.Paths.{Segments}
use Rattle.ocm_entry.specs.declared.asks.Ask.{Ask}
use Rattle.ocm_entry.specs.declared.asks.Ask.TheVariants as asks
use Rattle.ocm_entry.specs.declared.asks.Method.{Method}
use Rattle.ocm_entry.specs.declared.asks.Method.TheVariants as methods
use Rattle.ocm_entry.specs.declared.refusals.Why.{Why}
use Rattle.ocm_entry.specs.declared.refusals.Why.TheVariants.{NotPermitted}
use Rattle.ocm_entry.specs.declared.replies.Reply.{Reply}
use Rattle.ocm_entry.specs.declared.replies.Reply.TheVariants as replies
use Rattle.ocm_entry.specs.declared.rows.Grant.{Grant}
use Rattle.ocm_entry.specs.declared.rows.Node.{Node}
use Rattle.ocm_entry.specs.declared.rows.Place.{Place}
use Rattle.ocm_entry.specs.declared.rows.Standing.{Standing}
use Rattle.ocm_entry.specs.declared.rows.Standing.TheVariants.{Collection, File}
use Rattle.ocm_rules.specs.Answers.{dav_reply, method_reply, put_done, refused, reply_in}
use Rattle.ocm_rules.specs.Files.{Act, Gone, Placed, below, nodes_after, with_node}
use Rattle.ocm_rules.specs.Holders.{permits, root_among}
use Rattle.ocm_rules.specs.History.{changes_in}
use Rattle.ocm_rules.specs.State.{State, step, view_in}
use Rattle.ocm_rules.specs.Views.{View, grant_in}
use Rattle.ocm_tables.specs.declared.changes.TableChange.{TableChange}
use Rattle.ocm_tables.specs.declared.changes.TableChange.TheVariants as changes
use Rattle.ocm_tables.specs.Changes.{Fits, changed, file_act, is_kept}
use Rattle.ocm_rules_steps.proofs.FileSteps.{put-step, mkcol-step, delete-step, root-granted}
use Rattle.ocm_rules_steps.proofs.Rows.{none-sent}
use Rattle.ocm_plan.specs.Plans.{Plan, Plans, act_in}
use Rattle.ocm_plan_dav.specs.Requests.{PlansMethod}
use Rattle.ocm_plan_dav.proofs.Rows.{first, if_ok-each}

-- the reply to a method by one who may do it
pub method-answered : (v : View) (secret : List ℕ) (method : Method) (path : Segments) (body : List ℕ) (grant : Grant) (place : Place)
    → grant_in v secret ≡ Some grant → permits grant.rights method ≡ true → place ≡ below grant.root path → method_reply v method place path body ≡ reply_in v (asks.Dav secret method path body)
method-answered v secret method path body grant place granted may at =
    ap (λ (p : Place). method_reply v method p path body) at
    ∙ first (permits grant.rights method) (method_reply v method (below grant.root path) path body) (refused NotPermitted) may
    ∙ ap (λ (g : Option Grant). dav_reply v g method path body) (sym granted)

-- what is known of a plan that was made for a refusal, for a reply that changes nothing, for a reply that makes a change
abbrev pub PlansRefusal : State → Why → Plan → Type 0
PlansRefusal st why plan = (ask : Ask) → refused why ≡ reply_in (view_in st) ask → Plans st ask plan

abbrev pub PlansReply : State → Reply → Plan → Type 0
PlansReply st reply plan = (ask : Ask) → reply ≡ reply_in (view_in st) ask → changes_in (view_in st) ask reply ≡ false → Plans st ask plan

abbrev pub PlansChange : State → Reply → TableChange → Plan → Type 0
PlansChange st reply change plan =
    (ask : Ask) → reply ≡ reply_in (view_in st) ask → changes_in (view_in st) ask reply ≡ true → is_kept change ≡ true → changed st change [] ≡ step st ask reply → Fits st change → file_act change ≡ act_in (view_in st) ask → Plans st ask plan

-- the plan of a refusal
pub refuses : (st : State) (method : Method) (place : Place) (path : Segments) (body : List ℕ) (why : Why) (plan : Plan) → refused why ≡ method_reply (view_in st) method place path body
    → PlansRefusal st why plan → PlansMethod st method place path body plan
refuses st method place path body why plan answered plans =
    λ secret grant granted may at. plans (asks.Dav secret method path body) (answered ∙ method-answered (view_in st) secret method path body grant place granted may at)

-- the plan of a reply that changes nothing
pub tells : (st : State) (method : Method) (place : Place) (path : Segments) (body : List ℕ) (reply : Reply) (plan : Plan) → reply ≡ method_reply (view_in st) method place path body
    → ((secret : List ℕ) → changes_in (view_in st) (asks.Dav secret method path body) reply ≡ false)
    → PlansReply st reply plan → PlansMethod st method place path body plan
tells st method place path body reply plan answered nothing plans =
    λ secret grant granted may at. plans (asks.Dav secret method path body) (answered ∙ method-answered (view_in st) secret method path body grant place granted may at) (nothing secret)

-- the plan of a reply that makes a change
makes : (st : State) (method : Method) (place : Place) (path : Segments) (body : List ℕ) (reply : Reply) (change : TableChange) (plan : Plan) → reply ≡ method_reply (view_in st) method place path body
    → ((secret : List ℕ) → changes_in (view_in st) (asks.Dav secret method path body) reply ≡ true)
    → is_kept change ≡ true
    → ((secret : List ℕ) (grant : Grant) → grant_in (view_in st) secret ≡ Some grant → place ≡ below grant.root path → changed st change [] ≡ step st (asks.Dav secret method path body) reply)
    → Fits st change
    → ((secret : List ℕ) (grant : Grant) → grant_in (view_in st) secret ≡ Some grant → place ≡ below grant.root path → file_act change ≡ act_in (view_in st) (asks.Dav secret method path body))
    → PlansChange st reply change plan → PlansMethod st method place path body plan
makes st method place path body reply change plan answered writes kept steps fits acts plans =
    λ secret grant granted may at. plans (asks.Dav secret method path body) (answered ∙ method-answered (view_in st) secret method path body grant place granted may at) (writes secret) kept (steps secret grant granted at) fits (acts secret grant granted at)

-- ---- changes

-- what an ask about files does, once the root of what is granted is known
pub act-granted : (st : State) (secret : List ℕ) (act : Place → Act) (grant : Grant) → grant_in (view_in st) secret ≡ Some grant → option_map act (root_among st.users (view_in st).shares secret) ≡ Some (act grant.root)
act-granted st secret act grant granted = ap (option_map act) (root-granted st secret grant granted)

-- what is done to files where a node is put
placed-acts : (node : Node) (place there : Place) (standing : Standing) → (let n : Node = record { place = place; standing = standing } in node ≡ n) → place ≡ there → file_act (changes.Put node) ≡ Some (Placed there standing)
placed-acts node place there standing is at = ap (λ (n : Node). Some (Placed n.place n.standing)) is ∙ ap (λ (p : Place). Some (Placed p standing)) at

-- a node that is put
placed : (st : State) (node : Node) (place there : Place) (standing : Standing) → (let n : Node = record { place = place; standing = standing } in node ≡ n) → place ≡ there
    → (let s : State = record st { nodes = nodes_after (Some (Placed there standing)) st.nodes } in changed st (changes.Put node) [] ≡ s)
placed st node place there standing is at =
    none-sent (let r : State = record st { nodes = with_node st.nodes node } in r)
    ∙ ap (λ (n : Node). let r : State = record st { nodes = with_node st.nodes n } in r) is
    ∙ ap (λ (p : Place). let r : State = record st { nodes = nodes_after (Some (Placed p standing)) st.nodes } in r) at

put-writes : (v : View) (secret : List ℕ) (path : Segments) (body : List ℕ) (here : Option Standing) → changes_in v (asks.Dav secret methods.Put path body) (put_done here) ≡ true
put-writes v secret path body None = refl
put-writes v secret path body (Some standing) = refl

-- the plan of a file that is put
pub puts : (st : State) (place : Place) (path : Segments) (body : List ℕ) (here : Option Standing) (reply : Reply) (node : Node) (plan : Plan)
    → reply ≡ put_done here → put_done here ≡ method_reply (view_in st) methods.Put place path body
    → (let n : Node = record { place = place; standing = File body } in node ≡ n) → Fits st (changes.Put node)
    → PlansChange st reply (changes.Put node) plan → PlansMethod st methods.Put place path body plan
puts st place path body here reply node plan done answered is fits plans =
    makes st methods.Put place path body reply (changes.Put node) plan (done ∙ answered)
    (λ secret. ap (changes_in (view_in st) (asks.Dav secret methods.Put path body)) done ∙ put-writes (view_in st) secret path body here) refl
    (λ secret grant granted at. placed st node place (below grant.root path) (File body) is at ∙ sym (put-step st secret path body reply grant granted)) fits
    (λ secret grant granted at. placed-acts node place (below grant.root path) (File body) is at ∙ sym (act-granted st secret (λ files. Placed (below files path) (File body)) grant granted)) plans

-- the plan of a collection that is made
pub creates : (st : State) (place : Place) (path : Segments) (body : List ℕ) (node : Node) (plan : Plan) → replies.Created ≡ method_reply (view_in st) methods.Mkcol place path body
    → (let n : Node = record { place = place; standing = Collection } in node ≡ n) → Fits st (changes.Put node)
    → PlansChange st replies.Created (changes.Put node) plan → PlansMethod st methods.Mkcol place path body plan
creates st place path body node plan answered is fits plans =
    makes st methods.Mkcol place path body replies.Created (changes.Put node) plan answered (λ secret. refl) refl
    (λ secret grant granted at. placed st node place (below grant.root path) Collection is at ∙ sym (mkcol-step st secret path body replies.Created grant granted)) fits
    (λ secret grant granted at. placed-acts node place (below grant.root path) Collection is at ∙ sym (act-granted st secret (λ files. Placed (below files path) Collection) grant granted)) plans

-- a place that is cleared
gone : (st : State) (place there : Place) → place ≡ there
    → (let s : State = record st { nodes = nodes_after (Some (Gone there)) st.nodes } in changed st (changes.Remove place) [] ≡ s)
gone st place there at =
    none-sent (let r : State = record st { nodes = nodes_after (Some (Gone place)) st.nodes } in r)
    ∙ ap (λ (p : Place). let r : State = record st { nodes = nodes_after (Some (Gone p)) st.nodes } in r) at

-- the plan of what is deleted
pub removes : (st : State) (place : Place) (path : Segments) (body : List ℕ) (plan : Plan) → replies.Removed ≡ method_reply (view_in st) methods.Delete place path body
    → PlansChange st replies.Removed (changes.Remove place) plan → PlansMethod st methods.Delete place path body plan
removes st place path body plan answered plans =
    makes st methods.Delete place path body replies.Removed (changes.Remove place) plan answered (λ secret. refl) refl
    (λ secret grant granted at. gone st place (below grant.root path) at ∙ sym (delete-step st secret path body replies.Removed grant granted)) tt
    (λ secret grant granted at. ap (λ (p : Place). Some (Gone p)) at ∙ sym (act-granted st secret (λ files. Gone (below files path)) grant granted)) plans

-- the plans that are known for a method, at a method that is this one
pub for_method : {F : Type 0} (st : State) (method known : Method) (place : Place) (path : Segments) (body : List ℕ) (r : Result Plan F) (P : Plan → Type 0) → method ≡ known
    → ((plan : Plan) → P plan → PlansMethod st known place path body plan) → IfOk r P → IfOk r (λ plan. PlansMethod st method place path body plan)
for_method st method known place path body r P is each h =
    let Q : Method → Type 0 = λ m. IfOk r (λ plan. PlansMethod st m place path body plan) in
    subst Q (sym is) (if_ok-each r P (λ plan. PlansMethod st known place path body plan) each h)
