use Rattle.std.proofs.Common.{◌≡◌, ℕ, List, [], ◌++◌, Bool, true, false, Option, Some, None, refl, ap, ◌∙◌, if◌then◌else◌, option_map}
use Rattle.ocm_path.specs.Paths.{Segments}
use Rattle.ocm_types.specs.declared.rights.Rights.{Rights}
use Rattle.ocm_entry.specs.declared.asks.Ask.TheVariants as asks
use Rattle.ocm_entry.specs.declared.asks.Method.TheVariants.{Put, Delete, Mkcol}
use Rattle.ocm_entry.specs.declared.replies.Reply.{Reply}
use Rattle.ocm_entry.specs.declared.rows.Grant.{Grant}
use Rattle.ocm_entry.specs.declared.rows.Place.{Place}
use Rattle.ocm_entry.specs.declared.rows.Standing.TheVariants.{Collection, File}
use Rattle.ocm_rules.specs.Files.{Act, Carried, Gone, Placed, below, nodes_after}
use Rattle.ocm_rules.specs.Holders.{Holder, Nobody, Account, Guest, grant_of, holder_among, root_among, root_of}
use Rattle.ocm_rules.specs.Views.{effective_in, grant_in, is_live_in}
use Rattle.ocm_rules.specs.State.{State, step, view_in}
use Rattle.ocm_rules_steps.proofs.Rows.{step-added, none-sent}

some_same : {X : Type 0} {x y : X} → Some x ≡ Some y → x ≡ y
some_same e = cc

guest_root : (b : Bool) (given grant : Grant) → (if b then Some given else None) ≡ Some grant → Some given.root ≡ Some grant.root
guest_root true given grant e = ap (λ (g : Grant). Some g.root) (some_same e)
guest_root false given grant e = absurd (cc)

-- one who may do something has the files at the root of what is granted
pub root_of-granted : (live : ℕ → Bool) (rights : ℕ → Rights) (holder : Holder) (grant : Grant) → grant_of live rights holder ≡ Some grant → root_of holder ≡ Some grant.root
root_of-granted live rights Nobody grant e = absurd (cc)
root_of-granted live rights (Account number) grant e = let same = some_same e in ap (λ (g : Grant). Some g.root) same
root_of-granted live rights (Guest i share) grant e = guest_root (live i) (record { root = record { user = share.owner; path = share.root }; rights = rights i }) grant e

-- the root of the holder of a secret
pub root-granted : (st : State) (secret : List ℕ) (grant : Grant) → grant_in (view_in st) secret ≡ Some grant → root_among st.users (view_in st).shares secret ≡ Some grant.root
root-granted st secret grant e = root_of-granted (is_live_in (view_in st)) (effective_in (view_in st)) (holder_among st.users (view_in st).shares secret) grant e

-- a step of an ask about files does this at the root of what is granted
acts : (st : State) (act : Place → Act) (root : Option Place) (at : Place) → root ≡ Some at
    → (let r : State = record st { nodes = nodes_after (option_map act root) st.nodes; sent = st.sent ++ [] } in let s : State = record st { nodes = nodes_after (Some (act at)) st.nodes } in r ≡ s)
acts st act root at e =
    ap (λ (o : Option Place). let r : State = record st { nodes = nodes_after (option_map act o) st.nodes; sent = st.sent ++ [] } in r) e
    ∙ none-sent (let r : State = record st { nodes = nodes_after (Some (act at)) st.nodes } in r)

pub put-step : (st : State) (secret : List ℕ) (path : Segments) (body : List ℕ) (reply : Reply) (grant : Grant) → grant_in (view_in st) secret ≡ Some grant
    → (let r : State = record st { nodes = nodes_after (Some (Placed (below grant.root path) (File body))) st.nodes } in step st (asks.Dav secret Put path body) reply ≡ r)
put-step st secret path body reply grant granted =
    step-added st (asks.Dav secret Put path body) reply refl refl refl refl
    ∙ acts st (λ files. Placed (below files path) (File body)) (root_among st.users (view_in st).shares secret) grant.root (root-granted st secret grant granted)

pub mkcol-step : (st : State) (secret : List ℕ) (path : Segments) (body : List ℕ) (reply : Reply) (grant : Grant) → grant_in (view_in st) secret ≡ Some grant
    → (let r : State = record st { nodes = nodes_after (Some (Placed (below grant.root path) Collection)) st.nodes } in step st (asks.Dav secret Mkcol path body) reply ≡ r)
mkcol-step st secret path body reply grant granted =
    step-added st (asks.Dav secret Mkcol path body) reply refl refl refl refl
    ∙ acts st (λ files. Placed (below files path) Collection) (root_among st.users (view_in st).shares secret) grant.root (root-granted st secret grant granted)

pub delete-step : (st : State) (secret : List ℕ) (path : Segments) (body : List ℕ) (reply : Reply) (grant : Grant) → grant_in (view_in st) secret ≡ Some grant
    → (let r : State = record st { nodes = nodes_after (Some (Gone (below grant.root path))) st.nodes } in step st (asks.Dav secret Delete path body) reply ≡ r)
delete-step st secret path body reply grant granted =
    step-added st (asks.Dav secret Delete path body) reply refl refl refl refl
    ∙ acts st (λ files. Gone (below files path)) (root_among st.users (view_in st).shares secret) grant.root (root-granted st secret grant granted)

pub carry-step : (st : State) (secret : List ℕ) (from to : Segments) (moving overwrite : Bool) (reply : Reply) (grant : Grant) → grant_in (view_in st) secret ≡ Some grant
    → (let r : State = record st { nodes = nodes_after (Some (Carried (below grant.root from) (below grant.root to) moving)) st.nodes } in step st (asks.Carry secret from to moving overwrite) reply ≡ r)
carry-step st secret from to moving overwrite reply grant granted =
    step-added st (asks.Carry secret from to moving overwrite) reply refl refl refl refl
    ∙ acts st (λ files. Carried (below files from) (below files to) moving) (root_among st.users (view_in st).shares secret) grant.root (root-granted st secret grant granted)
