-- What changes something has a spelling, where it is proper.
use Rattle.std.proofs.Common.{◌≡◌, ℕ, List, [], ◌∷◌, length, Bool, true, false, refl, Option, Some, None}
use Rattle.std.specs.Prelude.{if◌then◌else◌, not, nat_lt, nat_le, is_some}
use Rattle.std.proofs.lemmas.Bool.{and_from, le-leb, ltb-false}
use Rattle.ocm_path.specs.Paths.{Segments}
use Rattle.ocm_types.specs.declared.phases.Which.{Which}
use Rattle.ocm_types.specs.declared.phases.Which.TheVariants.{FileSize, AllFiles, Nodes, Children}
use Rattle.ocm_entry.specs.declared.asks.Ask.{Ask}
use Rattle.ocm_entry.specs.declared.asks.Ask.TheVariants as asks
use Rattle.ocm_entry.specs.declared.asks.Cmd.{Cmd}
use Rattle.ocm_entry.specs.declared.asks.Cmd.TheVariants as commands
use Rattle.ocm_entry.specs.declared.asks.Method.{Method}
use Rattle.ocm_entry.specs.declared.asks.Method.TheVariants as methods
use Rattle.ocm_entry.specs.declared.refusals.Why.TheVariants as whys
use Rattle.ocm_entry.specs.declared.replies.Reply.{Reply}
use Rattle.ocm_entry.specs.declared.replies.Reply.TheVariants as replies
use Rattle.ocm_entry.specs.declared.rows.Grant.{Grant}
use Rattle.ocm_entry.specs.declared.rows.Place.{Place}
use Rattle.ocm_entry.specs.declared.rows.Node.{Node}
use Rattle.ocm_entry.specs.declared.rows.Standing.{Standing}
use Rattle.ocm_entry.specs.declared.rows.Standing.TheVariants.{Collection, File}
use Rattle.ocm_entry.specs.Proper.{is_short, is_body_of, is_proper}
use Rattle.ocm_entry_bytes.specs.Spells.{command_has_spelling, has_spelling}
use Rattle.ocm_rules.specs.Users.{user_of_key}
use Rattle.ocm_rules.specs.Holders.{permits}
use Rattle.ocm_rules.specs.Files.{below, parent_of, with_node, total_size, child_count, limit_of}
use Rattle.ocm_rules.specs.History.{changes_in, writes}
use Rattle.ocm_rules.specs.Views.{View, grant_in}
use Rattle.ocm_rules.specs.Answers.{refused, unless_limited, put_done, is_collection, put_reply, mkcol_reply, method_reply, dav_reply, local_reply, reply_in}
use Rattle.ocm_rules.proofs.Lists.{both_pass}

-- ---- requests for files

-- a method that reads changes nothing
reads-nothing : (v : View) (secret : List ℕ) (method : Method) (path : Segments) (body : List ℕ) → writes method ≡ false → (reply : Reply) → changes_in v (asks.Dav secret method path body) reply ≡ true → ⊥
reads-nothing v secret method path body reads replies.Created h = cc
reads-nothing v secret method path body reads replies.Replaced h = cc
reads-nothing v secret method path body reads replies.Removed h = cc
reads-nothing v secret method path body reads _ h = cc

-- a file that was put passes no limit
put-unlimited : (v : View) (secret : List ℕ) (path : Segments) (body : List ℕ) (here at_parent : Option Standing) (limit : Option Which)
    → changes_in v (asks.Dav secret methods.Put path body) (put_reply here at_parent limit) ≡ true → limit ≡ None
put-unlimited v secret path body here at_parent limit h = by_tests (is_collection here) (not (is_collection at_parent)) limit h
  where
    by_tests : (a b : Bool) (o : Option Which)
        → changes_in v (asks.Dav secret methods.Put path body) (if a then refused whys.NotAllowed else (if b then refused whys.ParentMissing else unless_limited o (put_done here))) ≡ true → o ≡ None
    by_tests true b o g = absurd (cc)
    by_tests false true o g = absurd (cc)
    by_tests false false None g = refl
    by_tests false false (Some which) g = absurd (cc)

-- so it has no more bytes than a file may have
first-limit : (b : Bool) (rest : Option Which) → (if b then Some FileSize else rest) ≡ None → b ≡ false
first-limit true rest h = absurd (cc)
first-limit false rest h = refl

-- the limits that are tested behind the first
abbrev other_limits : List Node → Node → Option Which
other_limits nodes node =
    if nat_lt 268435456 (total_size nodes) then Some AllFiles
    else (if nat_lt 65536 (length nodes) then Some Nodes
    else (if nat_lt 4096 (child_count nodes (parent_of node.place)) then Some Children else None))

put-size : (v : View) (secret : List ℕ) (path : Segments) (body : List ℕ) (o : Option Grant) → changes_in v (asks.Dav secret methods.Put path body) (dav_reply v o methods.Put path body) ≡ true → nat_le (length body) 1048576 ≡ true
put-size v secret path body None h = absurd (cc)
put-size v secret path body (Some grant) h = by_right (permits grant.rights methods.Put) h
  where
    by_right : (b : Bool) → changes_in v (asks.Dav secret methods.Put path body) (if b then method_reply v methods.Put (below grant.root path) path body else refused whys.NotPermitted) ≡ true → nat_le (length body) 1048576 ≡ true
    by_right true g =
        let place : Place = below grant.root path in
        let here : Node = record { place = place; standing = File body } in
        let none : limit_of v.nodes here ≡ None = put-unlimited v secret path body (v.stands place) (v.stands (parent_of place)) (limit_of v.nodes here) g in
        let small : nat_lt 1048576 (length body) ≡ false = first-limit (nat_lt 1048576 (length body)) (other_limits (with_node v.nodes here) here) none in
        le-leb (length body) 1048576 (ltb-false 1048576 (length body) small)
    by_right false g = absurd (cc)

-- a collection that was made had no body
mkcol-bare : (v : View) (secret : List ℕ) (path : Segments) (body : List ℕ) (here at_parent : Option Standing) (has_body : Bool) (limit : Option Which)
    → changes_in v (asks.Dav secret methods.Mkcol path body) (mkcol_reply here at_parent has_body limit) ≡ true → has_body ≡ false
mkcol-bare v secret path body here at_parent has_body limit h = by_tests (is_some here) (not (is_collection at_parent)) has_body h
  where
    by_tests : (a b c : Bool)
        → changes_in v (asks.Dav secret methods.Mkcol path body) (if a then refused whys.NotAllowed else (if b then refused whys.ParentMissing else (if c then refused whys.BodyRefused else unless_limited limit replies.Created))) ≡ true → c ≡ false
    by_tests true b c g = absurd (cc)
    by_tests false true c g = absurd (cc)
    by_tests false false true g = absurd (cc)
    by_tests false false false g = refl

mkcol-size : (v : View) (secret : List ℕ) (path : Segments) (body : List ℕ) (o : Option Grant) → changes_in v (asks.Dav secret methods.Mkcol path body) (dav_reply v o methods.Mkcol path body) ≡ true → nat_le (length body) 0 ≡ true
mkcol-size v secret path [] o h = refl
mkcol-size v secret path (b ∷ bytes) None h = absurd (cc)
mkcol-size v secret path (b ∷ bytes) (Some grant) h = by_right (permits grant.rights methods.Mkcol) h
  where
    by_right : (c : Bool) → changes_in v (asks.Dav secret methods.Mkcol path (b ∷ bytes)) (if c then method_reply v methods.Mkcol (below grant.root path) path (b ∷ bytes) else refused whys.NotPermitted) ≡ true → nat_le (length (b ∷ bytes)) 0 ≡ true
    by_right true g =
        let place : Place = below grant.root path in
        let bare : true ≡ false = mkcol-bare v secret path (b ∷ bytes) (v.stands place) (v.stands (parent_of place)) true (limit_of v.nodes (record { place = place; standing = Collection })) g in
        absurd (cc)
    by_right false g = absurd (cc)

-- what is deleted has no body
delete-size : (path : Segments) (body : List ℕ) → is_body_of methods.Delete body ≡ true → nat_le (length body) 0 ≡ true
delete-size path [] h = refl
delete-size path (b ∷ bytes) h = absurd (cc)

-- ---- commands

-- listing changes nothing
lists-nothing : (v : View) (key : List ℕ) (user : Option ℕ) → changes_in v (asks.Local key commands.List) (local_reply v user commands.List) ≡ true → ⊥
lists-nothing v key None h = cc
lists-nothing v key (Some user) h = cc

command-spelled : (v : View) (key : List ℕ) (cmd : Cmd) → is_proper (asks.Local key cmd) ≡ true → changes_in v (asks.Local key cmd) (local_reply v (user_of_key v.users key) cmd) ≡ true → command_has_spelling cmd ≡ true
command-spelled v key (commands.Share path with perms fresh) proper ch = proper
command-spelled v key commands.List proper ch = absurd (lists-nothing v key (user_of_key v.users key) ch)
command-spelled v key _ proper ch = refl

-- ---- all asks

dav-spelled : (v : View) (secret : List ℕ) (method : Method) (path : Segments) (body : List ℕ) → is_proper (asks.Dav secret method path body) ≡ true → changes_in v (asks.Dav secret method path body) (dav_reply v (grant_in v secret) method path body) ≡ true
    → has_spelling (asks.Dav secret method path body) ≡ true
dav-spelled v secret methods.Put path body proper ch =
    and_from _ _ (both_pass (is_body_of methods.Put body) (is_short path) proper).1 (put-size v secret path body (grant_in v secret) ch)
dav-spelled v secret methods.Mkcol path body proper ch =
    and_from _ _ (both_pass (is_body_of methods.Mkcol body) (is_short path) proper).1 (mkcol-size v secret path body (grant_in v secret) ch)
dav-spelled v secret methods.Delete path body proper ch =
    let parts = both_pass (is_body_of methods.Delete body) (is_short path) proper in
    and_from _ _ parts.1 (delete-size path body parts.0)
dav-spelled v secret methods.Get path body proper ch = absurd (reads-nothing v secret methods.Get path body refl _ ch)
dav-spelled v secret methods.Head path body proper ch = absurd (reads-nothing v secret methods.Head path body refl _ ch)
dav-spelled v secret methods.List0 path body proper ch = absurd (reads-nothing v secret methods.List0 path body refl _ ch)
dav-spelled v secret methods.List1 path body proper ch = absurd (reads-nothing v secret methods.List1 path body refl _ ch)

-- a proper ask whose answer changes something has a spelling
pub changes-spelled : (v : View) (ask : Ask) → is_proper ask ≡ true → changes_in v ask (reply_in v ask) ≡ true → has_spelling ask ≡ true
changes-spelled v (asks.Local key cmd) proper ch = command-spelled v key cmd proper ch
changes-spelled v (asks.Dav secret method path body) proper ch = dav-spelled v secret method path body proper ch
changes-spelled v asks.Due proper ch = absurd (cc)
changes-spelled v (asks.Carry secret from to moving overwrite) proper ch = proper
changes-spelled v _ proper ch = refl
