-- What stands after a legal history stands below the users' roots.
use Rattle.std.proofs.Common.{◌≡◌, ℕ, List, [], ◌∷◌, ◌++◌, Bool, true, false, refl, sym, ap, ◌∙◌, subst}
use Rattle.std.specs.Prelude.{Option, Some, None, not, ◌&&◌, ◌||◌, is_some, if◌then◌else◌, option_map}
use Rattle.std.proofs.lemmas.Bool.Decides.{nat_tests}
use Rattle.std.proofs.Common.{arith}
use Rattle.ocm_path.specs.Paths.{Segments, is_root}
use Rattle.ocm_types.specs.declared.phases.Which.{Which}
use Rattle.ocm_entry.specs.declared.asks.Ask.{Ask}
use Rattle.ocm_entry.specs.declared.asks.Ask.TheVariants as asks
use Rattle.ocm_entry.specs.declared.asks.Method.TheVariants as methods
use Rattle.ocm_entry.specs.declared.replies.Reply.{Reply}
use Rattle.ocm_entry.specs.declared.refusals.Why.TheVariants.{NotPermitted, RootStays}
use Rattle.ocm_entry.specs.declared.entries.Entry.{Entry}
use Rattle.ocm_entry.specs.declared.rows.Grant.{Grant}
use Rattle.ocm_entry.specs.declared.rows.Place.{Place}
use Rattle.ocm_entry.specs.declared.rows.Standing.{Standing}
use Rattle.ocm_entry.specs.declared.rows.Standing.TheVariants.{Collection, File}
use Rattle.ocm_rules.specs.Answers.{refused, put_reply, mkcol_reply, method_reply, dav_reply, carry_reply, carried_reply, carries_root, has_bytes, reply_in}
use Rattle.ocm_rules.specs.Files.{Act, Carried, Placed, act_by, below, limit_of, nodes, parent_of, with_roots}
use Rattle.ocm_rules.specs.Holders.{holder_among, permits, permits_carry, root_among}
use Rattle.ocm_rules.specs.History.{IsAnswered, changes_in}
use Rattle.ocm_rules.specs.Messages.{view_of}
use Rattle.ocm_rules.specs.Views.{View, effective_in, grant_in, is_live_in}
use Rattle.ocm_rules.proofs.Lists.{not_both}
use Rattle.ocm_rules_steps.proofs.FileSteps.{root_of-granted}
use Rattle.ocm_law_alike.proofs.Taken.{IsRootless}
use Rattle.ocm_law_alike.proofs.Limits.{IsBelowRoots, rootless-after}

-- at each root a collection stands
HasRoots : View → Type 0
HasRoots v = (place : Place) → is_root place.path ≡ true → v.stands place ≡ Some Collection

root-of : (v : View) (secret : List ℕ) (grant : Grant) → grant_in v secret ≡ Some grant → root_among v.users v.shares secret ≡ Some grant.root
root-of v secret grant e = root_of-granted (is_live_in v) (effective_in v) (holder_among v.users v.shares secret) grant e

pub longer-root : (front path : Segments) → is_root path ≡ false → is_root (front ++ path) ≡ false
longer-root [] path h = h
longer-root (s ∷ front) path h = grind (arith, nat_tests)

-- ---- PUT and MKCOL

put-off : (v : View) (secret : List ℕ) (path : Segments) (body : List ℕ) → HasRoots v
    → changes_in v (asks.Dav secret methods.Put path body) (reply_in v (asks.Dav secret methods.Put path body)) ≡ true
    → IsBelowRoots (act_by (root_among v.users v.shares) (asks.Dav secret methods.Put path body))
unfolding HasRoots
put-off v secret path body roots h = by_grant (grant_in v secret) refl h
  where
    Changes : Reply → Type 0
    Changes reply = changes_in v (asks.Dav secret methods.Put path body) reply ≡ true

    at_root : (place : Place) (at_parent : Option Standing) (limit : Option Which) → (b : Bool) → is_root place.path ≡ b → Changes (put_reply (v.stands place) at_parent limit) → b ≡ false
    at_root place at_parent limit true e k = absurd (let none : Changes (put_reply (Some Collection) at_parent limit) = subst (λ o. Changes (put_reply o at_parent limit)) (roots place e) k in cc)
    at_root place at_parent limit false e k = refl

    by_grant : (grant : Option Grant) → grant_in v secret ≡ grant → Changes (dav_reply v grant methods.Put path body)
        → IsBelowRoots (act_by (root_among v.users v.shares) (asks.Dav secret methods.Put path body))
    by_grant None e k = absurd (cc)
    by_grant (Some grant) e k = by_right (permits grant.rights methods.Put) k
      where
        by_right : (b : Bool) → Changes (if b then method_reply v methods.Put (below grant.root path) path body else refused NotPermitted)
            → IsBelowRoots (act_by (root_among v.users v.shares) (asks.Dav secret methods.Put path body))
        by_right true g =
            let place : Place = below grant.root path in
            rw (root-of v secret grant e) (at_root place (v.stands (parent_of place)) (limit_of v.nodes (record { place = place; standing = File body })) (is_root place.path) refl g)
        by_right false g = absurd (cc)

mkcol-off : (v : View) (secret : List ℕ) (path : Segments) (body : List ℕ) → HasRoots v
    → changes_in v (asks.Dav secret methods.Mkcol path body) (reply_in v (asks.Dav secret methods.Mkcol path body)) ≡ true
    → IsBelowRoots (act_by (root_among v.users v.shares) (asks.Dav secret methods.Mkcol path body))
unfolding HasRoots
mkcol-off v secret path body roots h = by_grant (grant_in v secret) refl h
  where
    Changes : Reply → Type 0
    Changes reply = changes_in v (asks.Dav secret methods.Mkcol path body) reply ≡ true

    at_root : (place : Place) (at_parent : Option Standing) (limit : Option Which) → (b : Bool) → is_root place.path ≡ b → Changes (mkcol_reply (v.stands place) at_parent (has_bytes body) limit) → b ≡ false
    at_root place at_parent limit true e k = absurd (let none : Changes (mkcol_reply (Some Collection) at_parent (has_bytes body) limit) = subst (λ o. Changes (mkcol_reply o at_parent (has_bytes body) limit)) (roots place e) k in cc)
    at_root place at_parent limit false e k = refl

    by_grant : (grant : Option Grant) → grant_in v secret ≡ grant → Changes (dav_reply v grant methods.Mkcol path body)
        → IsBelowRoots (act_by (root_among v.users v.shares) (asks.Dav secret methods.Mkcol path body))
    by_grant None e k = absurd (cc)
    by_grant (Some grant) e k = by_right (permits grant.rights methods.Mkcol) k
      where
        by_right : (b : Bool) → Changes (if b then method_reply v methods.Mkcol (below grant.root path) path body else refused NotPermitted)
            → IsBelowRoots (act_by (root_among v.users v.shares) (asks.Dav secret methods.Mkcol path body))
        by_right true g =
            let place : Place = below grant.root path in
            rw (root-of v secret grant e) (at_root place (v.stands (parent_of place)) (limit_of v.nodes (record { place = place; standing = Collection })) (is_root place.path) refl g)
        by_right false g = absurd (cc)

-- ---- COPY and MOVE

parts-false : (b c : Bool) → (b || c) ≡ false → b ≡ false
parts-false true c h = absurd (cc)
parts-false false c h = refl

carry-off : (v : View) (secret : List ℕ) (from to : Segments) (moving overwrite : Bool)
    → changes_in v (asks.Carry secret from to moving overwrite) (reply_in v (asks.Carry secret from to moving overwrite)) ≡ true
    → IsBelowRoots (act_by (root_among v.users v.shares) (asks.Carry secret from to moving overwrite))
carry-off v secret from to moving overwrite h = by_grant (grant_in v secret) refl h
  where
    Changes : Reply → Type 0
    Changes reply = changes_in v (asks.Carry secret from to moving overwrite) reply ≡ true

    by_grant : (grant : Option Grant) → grant_in v secret ≡ grant → Changes (carry_reply v grant from to moving overwrite)
        → IsBelowRoots (act_by (root_among v.users v.shares) (asks.Carry secret from to moving overwrite))
    by_grant None e k = absurd (cc)
    by_grant (Some grant) e k = by_tests (permits_carry grant.rights moving) (carries_root from to moving) refl k
      where
        rest : Reply
        rest = carried_reply v (below grant.root from) (below grant.root to) moving overwrite (v.stands (below grant.root from))

        by_tests : (b c : Bool) → carries_root from to moving ≡ c → Changes (if not b then refused NotPermitted else (if c then refused RootStays else rest))
            → IsBelowRoots (act_by (root_among v.users v.shares) (asks.Carry secret from to moving overwrite))
        by_tests false c f g = absurd (cc)
        by_tests true true f g = absurd (cc)
        by_tests true false f g = rw (root-of v secret grant e) (longer-root grant.root.path to (parts-false (is_root to) (moving && is_root from) f))

-- ---- all asks

anywhere : (o : Option Place) (path : Segments) → IsBelowRoots (option_map (λ files. Act.Gone (below files path)) o)
anywhere None path = tt
anywhere (Some place) path = tt

-- what changes something is done below the roots
act-off : (v : View) (ask : Ask) → HasRoots v → changes_in v ask (reply_in v ask) ≡ true → IsBelowRoots (act_by (root_among v.users v.shares) ask)
act-off v (asks.Dav secret methods.Put path body) roots h = put-off v secret path body roots h
act-off v (asks.Dav secret methods.Mkcol path body) roots h = mkcol-off v secret path body roots h
act-off v (asks.Dav secret methods.Delete path body) roots h = anywhere (root_among v.users v.shares secret) path
act-off v (asks.Carry secret from to moving overwrite) roots h = carry-off v secret from to moving overwrite h
act-off v (asks.Dav secret methods.Get path body) roots h = tt
act-off v (asks.Dav secret methods.Head path body) roots h = tt
act-off v (asks.Dav secret methods.List0 path body) roots h = tt
act-off v (asks.Dav secret methods.List1 path body) roots h = tt
act-off v (asks.AddUser name fresh) roots h = tt
act-off v (asks.Local key cmd) roots h = tt
act-off v (asks.Offer offer) roots h = tt
act-off v (asks.Notice notice fresh) roots h = tt
act-off v asks.Due roots h = tt
act-off v (asks.Settle number status id) roots h = tt
act-off v (asks.Tick clock) roots h = tt

pub rootless-nodes : (host : List ℕ) (g : List Entry) → IsAnswered host g → IsRootless (nodes host g)
unfolding HasRoots
rootless-nodes host [] h = record { none = λ place root. refl }
rootless-nodes host (e ∷ before) h =
    let v : View = view_of host before in
    let changed : changes_in v e.ask (reply_in v e.ask) ≡ true = subst (λ reply. changes_in v e.ask reply ≡ true) h.0 h.1 in
    rootless-after (act_by (root_among v.users v.shares) e.ask) (nodes host before) (act-off v e.ask (λ place root. rw root refl) changed) (rootless-nodes host before h.2)
