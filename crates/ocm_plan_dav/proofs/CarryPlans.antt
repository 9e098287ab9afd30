use Rattle.std.proofs.Common.{◌≡◌, ℕ, List, [], ◌∷◌, ◌++◌, Bool, true, false, not, ◌&&◌, refl, sym, ap, ◌∙◌, subst, arith, if◌then◌else◌}
use Rattle.std.specs.Prelude.{Option, Some, None, is_some, IfSome}
use Rattle.std.specs.Option.{IsSomeAnd}
use Rattle.std.proofs.lemmas.Bool.Decides.{nat_tests}
use Rattle.ocm_path.specs.Paths.{Segments, is_root}
use Rattle.ocm_types.specs.declared.phases.Which.{Which}
use Rattle.ocm_entry.specs.declared.asks.Ask.TheVariants as asks
use Rattle.ocm_entry.specs.declared.refusals.Why.{Why}
use Rattle.ocm_entry.specs.declared.refusals.Why.TheVariants.{NotPermitted, RootStays, NotFound, ParentMissing, SamePlace, Occupied}
use Rattle.ocm_entry.specs.declared.replies.Reply.{Reply}
use Rattle.ocm_entry.specs.declared.rows.Grant.{Grant}
use Rattle.ocm_entry.specs.declared.rows.Node.{Node}
use Rattle.ocm_entry.specs.declared.rows.Place.{Place}
use Rattle.ocm_entry.specs.declared.rows.Standing.{Standing}
use Rattle.ocm_entry.specs.declared.rows.Standing.TheVariants.{Collection}
use Rattle.ocm_rules.specs.Answers.{carried_reply, carries_root, carry_reply, is_collection, limited, put_done, refused, reply_in, unless_limited}
use Rattle.ocm_rules.specs.Files.{Carried, below, copies, limit_of_carry, nodes_after, overlap, parent_of}
use Rattle.ocm_rules.specs.Holders.{permits_carry}
use Rattle.ocm_rules.specs.History.{changes_in}
use Rattle.ocm_rules.specs.State.{State, node_at, view_in}
use Rattle.ocm_rules.specs.Views.{View, grant_in}
use Rattle.ocm_rules.proofs.Places.{above-from}
use Rattle.ocm_tree.specs.Carries.{CarryLists}
use Rattle.ocm_tables.specs.declared.changes.TableChange.TheVariants as changes
use Rattle.ocm_tables.specs.Changes.{Fits, changed, file_act}
use Rattle.ocm_rules_steps.proofs.FileSteps.{carry-step}
use Rattle.ocm_rules_steps.proofs.Rows.{none-sent}
use Rattle.ocm_plan.specs.Plans.{Plan}
use Rattle.ocm_plan_dav.specs.Requests.{PlansCarry}
use Rattle.ocm_plan_dav.proofs.Rows.{next}
use Rattle.ocm_plan_dav.proofs.Methods.{PlansChange, PlansRefusal, act-granted}

-- ---- places

before-nothing : (path rest : Segments) → is_root path ≡ true → rest ≡ path ++ rest
before-nothing [] rest root = refl
before-nothing (s ∷ path) rest root = let more : is_root (s ∷ path) ≡ false = grind (arith, nat_tests) in absurd (cc)

root-overlaps : (from to : Place) → from.user ≡ to.user → is_root from.path ≡ true → overlap from to ≡ true
root-overlaps from to user root = let above = above-from from to to.path user (before-nothing from.path to.path root) in rw above refl

-- what overlaps no place of the same user lies below the user's root
pub apart-below : (from to : Place) → from.user ≡ to.user → overlap from to ≡ false → is_root from.path ≡ false
apart-below from to user apart = by_test (is_root from.path) refl
  where
    by_test : (b : Bool) → is_root from.path ≡ b → b ≡ false
    by_test true e = let met = root-overlaps from to user e in absurd (cc)
    by_test false e = refl

-- what stands below the users' roots
pub stands-below : (st : State) (place : Place) → is_root place.path ≡ false → node_at st.nodes place ≡ (view_in st).stands place
stands-below st place off = next (is_root place.path) (Some Collection) (node_at st.nodes place) off

-- ---- the rows of the table

abbrev rows : Bool → Bool → Bool → Option Which → Reply → Reply
rows same inside occupied limit reply =
    if same then refused SamePlace else (if not inside then refused ParentMissing else (if occupied then refused Occupied else unless_limited limit reply))

row-same : (same inside occupied : Bool) (limit : Option Which) (reply : Reply) → same ≡ true → refused SamePlace ≡ rows same inside occupied limit reply
row-same same inside occupied limit reply e = rw e refl

row-orphan : (same inside occupied : Bool) (limit : Option Which) (reply : Reply) → same ≡ false → inside ≡ false → refused ParentMissing ≡ rows same inside occupied limit reply
row-orphan same inside occupied limit reply e f = rw (e, f) refl

row-occupied : (same inside occupied : Bool) (limit : Option Which) (reply : Reply) → same ≡ false → inside ≡ true → occupied ≡ true → refused Occupied ≡ rows same inside occupied limit reply
row-occupied same inside occupied limit reply e f g = rw (e, f, g) refl

row-limited : (same inside occupied : Bool) (limit : Option Which) (reply : Reply) (which : Which) → same ≡ false → inside ≡ true → occupied ≡ false → limit ≡ Some which → limited which ≡ rows same inside occupied limit reply
row-limited same inside occupied limit reply which e f g h = rw (e, f, g, h) refl

row-reply : (same inside occupied : Bool) (limit : Option Which) (reply : Reply) → same ≡ false → inside ≡ true → occupied ≡ false → limit ≡ None → reply ≡ rows same inside occupied limit reply
row-reply same inside occupied limit reply e f g h = rw (e, f, g, h) refl

-- whether something stands at the second place that is not to be overwritten
abbrev pub is_occupied : View → Place → Bool → Bool
is_occupied v to overwrite = is_some (v.stands to) && not overwrite

pub carry-none : (v : View) (from to : Place) (moving overwrite : Bool) (here : Option Standing) → is_some here ≡ false → refused NotFound ≡ carried_reply v from to moving overwrite here
carry-none v from to moving overwrite None absent = refl
carry-none v from to moving overwrite (Some standing) absent = absurd (cc)

pub carry-same : (v : View) (from to : Place) (moving overwrite : Bool) (here : Option Standing) → is_some here ≡ true → overlap from to ≡ true → refused SamePlace ≡ carried_reply v from to moving overwrite here
carry-same v from to moving overwrite None there same = absurd (cc)
carry-same v from to moving overwrite (Some standing) there same =
    row-same (overlap from to) (is_collection (v.stands (parent_of to))) (is_occupied v to overwrite) (limit_of_carry v.nodes from to moving standing) (put_done (v.stands to)) same

pub carry-orphan : (v : View) (from to : Place) (moving overwrite : Bool) (here : Option Standing) → is_some here ≡ true → overlap from to ≡ false → is_collection (v.stands (parent_of to)) ≡ false
    → refused ParentMissing ≡ carried_reply v from to moving overwrite here
carry-orphan v from to moving overwrite None there apart orphan = absurd (cc)
carry-orphan v from to moving overwrite (Some standing) there apart orphan =
    row-orphan (overlap from to) (is_collection (v.stands (parent_of to))) (is_occupied v to overwrite) (limit_of_carry v.nodes from to moving standing) (put_done (v.stands to)) apart orphan

pub carry-occupied : (v : View) (from to : Place) (moving overwrite : Bool) (here : Option Standing) → is_some here ≡ true → overlap from to ≡ false → is_collection (v.stands (parent_of to)) ≡ true → is_occupied v to overwrite ≡ true
    → refused Occupied ≡ carried_reply v from to moving overwrite here
carry-occupied v from to moving overwrite None there apart inside occupied = absurd (cc)
carry-occupied v from to moving overwrite (Some standing) there apart inside occupied =
    row-occupied (overlap from to) (is_collection (v.stands (parent_of to))) (is_occupied v to overwrite) (limit_of_carry v.nodes from to moving standing) (put_done (v.stands to)) apart inside occupied

-- the limit of what stands at the first place
abbrev pub IsLimit : View → Place → Place → Bool → Option Which → Option Standing → Type 0
IsLimit v from to moving limit here = IfSome here (λ standing. limit ≡ limit_of_carry v.nodes from to moving standing)

pub carry-limited : (v : View) (from to : Place) (moving overwrite : Bool) (here : Option Standing) (limit : Option Which) (which : Which)
    → is_some here ≡ true → overlap from to ≡ false → is_collection (v.stands (parent_of to)) ≡ true → is_occupied v to overwrite ≡ false → IsLimit v from to moving limit here → limit ≡ Some which
    → limited which ≡ carried_reply v from to moving overwrite here
carry-limited v from to moving overwrite None limit which there apart inside free is passed = absurd (cc)
carry-limited v from to moving overwrite (Some standing) limit which there apart inside free is passed =
    row-limited (overlap from to) (is_collection (v.stands (parent_of to))) (is_occupied v to overwrite) (limit_of_carry v.nodes from to moving standing) (put_done (v.stands to)) which apart inside free (sym is ∙ passed)

-- no limit is passed by what stands at the first place
abbrev pub IsWithin : View → Place → Place → Bool → Option Standing → Type 0
IsWithin v from to moving here = IsSomeAnd here (λ standing. limit_of_carry v.nodes from to moving standing ≡ None)

pub limit-within : (v : View) (from to : Place) (moving : Bool) (here : Option Standing) (limit : Option Which) → is_some here ≡ true → IsLimit v from to moving limit here → limit ≡ None → IsWithin v from to moving here
limit-within v from to moving None limit there is none = absurd (cc)
limit-within v from to moving (Some standing) limit there is none = sym is ∙ none

pub carry-reply : (v : View) (from to : Place) (moving overwrite : Bool) (here : Option Standing)
    → overlap from to ≡ false → is_collection (v.stands (parent_of to)) ≡ true → is_occupied v to overwrite ≡ false → IsWithin v from to moving here
    → put_done (v.stands to) ≡ carried_reply v from to moving overwrite here
carry-reply v from to moving overwrite None apart inside free within = absurd within
carry-reply v from to moving overwrite (Some standing) apart inside free within =
    row-reply (overlap from to) (is_collection (v.stands (parent_of to))) (is_occupied v to overwrite) (limit_of_carry v.nodes from to moving standing) (put_done (v.stands to)) apart inside free within

-- ---- plans

-- the reply to a copy or move by one who may do it
pub carry-answered : (v : View) (secret : List ℕ) (source target : Segments) (moving overwrite : Bool) (grant : Grant) (from to : Place)
    → grant_in v secret ≡ Some grant → permits_carry grant.rights moving ≡ true → carries_root source target moving ≡ false → from ≡ below grant.root source → to ≡ below grant.root target
    → carried_reply v from to moving overwrite (v.stands from) ≡ reply_in v (asks.Carry secret source target moving overwrite)
carry-answered v secret source target moving overwrite grant from to granted may off at_from at_to =
    let here = below grant.root source in
    let there = below grant.root target in
    let reply = carried_reply v here there moving overwrite (v.stands here) in
    ap (λ (p : Place). carried_reply v p to moving overwrite (v.stands p)) at_from
    ∙ ap (λ (p : Place). carried_reply v here p moving overwrite (v.stands here)) at_to
    ∙ next (carries_root source target moving) (refused RootStays) reply off
    ∙ next (not (permits_carry grant.rights moving)) (refused NotPermitted) (if carries_root source target moving then refused RootStays else reply) (ap not may)
    ∙ ap (λ (g : Option Grant). carry_reply v g source target moving overwrite) (sym granted)

-- the plan of a refusal
pub carry-refuses : (st : State) (from to : Place) (moving overwrite : Bool) (why : Why) (plan : Plan) → refused why ≡ carried_reply (view_in st) from to moving overwrite ((view_in st).stands from)
    → PlansRefusal st why plan → PlansCarry st from to moving overwrite plan
carry-refuses st from to moving overwrite why plan answered plans =
    λ secret grant source target granted may off at_from at_to.
    plans (asks.Carry secret source target moving overwrite) (answered ∙ carry-answered (view_in st) secret source target moving overwrite grant from to granted may off at_from at_to)

-- a planned copy or move
abbrev pub carry_of : List Node → Place → Place → Bool → CarryLists
carry_of nodes from to moving = record { from = from; to = to; moving = moving; nodes = copies from to nodes }

carry-fits : (st : State) (from to : Place) (moving : Bool) (carry : CarryLists) → carry ≡ carry_of st.nodes from to moving → IsWithin (view_in st) from to moving (node_at st.nodes from) → Fits st (changes.Carry carry)
carry-fits st from to moving carry is within = let P : CarryLists → Type 0 = λ c. Fits st (changes.Carry c) in subst P (sym is) (refl, within)

carried : (st : State) (from to here there : Place) (moving : Bool) (carry : CarryLists) → carry ≡ carry_of st.nodes from to moving → from ≡ here → to ≡ there
    → (let s : State = record st { nodes = nodes_after (Some (Carried here there moving)) st.nodes } in changed st (changes.Carry carry) [] ≡ s)
carried st from to here there moving carry is at_from at_to =
    none-sent (let r : State = record st { nodes = nodes_after (Some (Carried carry.from carry.to carry.moving)) st.nodes } in r)
    ∙ ap (λ (c : CarryLists). let r : State = record st { nodes = nodes_after (Some (Carried c.from c.to c.moving)) st.nodes } in r) is
    ∙ ap (λ (p : Place). let r : State = record st { nodes = nodes_after (Some (Carried p to moving)) st.nodes } in r) at_from
    ∙ ap (λ (p : Place). let r : State = record st { nodes = nodes_after (Some (Carried here p moving)) st.nodes } in r) at_to

carry-changes : (v : View) (secret : List ℕ) (source target : Segments) (moving overwrite : Bool) (here : Option Standing) → changes_in v (asks.Carry secret source target moving overwrite) (put_done here) ≡ true
carry-changes v secret source target moving overwrite None = refl
carry-changes v secret source target moving overwrite (Some standing) = refl

-- what a copy or move does to files
carried-acts : (st : State) (from to here there : Place) (moving : Bool) (carry : CarryLists) → carry ≡ carry_of st.nodes from to moving → from ≡ here → to ≡ there → file_act (changes.Carry carry) ≡ Some (Carried here there moving)
carried-acts st from to here there moving carry is at_from at_to =
    ap (λ (c : CarryLists). Some (Carried c.from c.to c.moving)) is ∙ ap (λ (p : Place). Some (Carried p to moving)) at_from ∙ ap (λ (p : Place). Some (Carried here p moving)) at_to

-- the plan of a copy or move
pub carries : (st : State) (from to : Place) (moving overwrite : Bool) (reply : Reply) (carry : CarryLists) (plan : Plan)
    → is_root from.path ≡ false → overlap from to ≡ false → is_collection ((view_in st).stands (parent_of to)) ≡ true → is_occupied (view_in st) to overwrite ≡ false → IsWithin (view_in st) from to moving (node_at st.nodes from)
    → reply ≡ put_done ((view_in st).stands to) → carry ≡ carry_of st.nodes from to moving → PlansChange st reply (changes.Carry carry) plan → PlansCarry st from to moving overwrite plan
carries st from to moving overwrite reply carry plan off apart inside free within done is plans =
    let v = view_in st in
    let answered : reply ≡ carried_reply v from to moving overwrite (v.stands from) =
    done ∙ carry-reply v from to moving overwrite (node_at st.nodes from) apart inside free within ∙ ap (λ (here : Option Standing). carried_reply v from to moving overwrite here) (stands-below st from off) in
    λ secret grant source target granted may kept at_from at_to.
    plans (asks.Carry secret source target moving overwrite)
    (answered ∙ carry-answered v secret source target moving overwrite grant from to granted may kept at_from at_to)
    (ap (changes_in v (asks.Carry secret source target moving overwrite)) done ∙ carry-changes v secret source target moving overwrite (v.stands to))
    refl
    (carried st from to (below grant.root source) (below grant.root target) moving carry is at_from at_to ∙ sym (carry-step st secret source target moving overwrite reply grant granted))
    (carry-fits st from to moving carry is within)
    (carried-acts st from to (below grant.root source) (below grant.root target) moving carry is at_from at_to ∙ sym (act-granted st secret (λ files. Carried (below files source) (below files target) moving) grant granted))
