use Rattle.std.proofs.Common.{Bor, ◌≡◌, ℕ, List, ◌∷◌, Bool, true, false, refl, sym, ap, ◌∙◌, if◌then◌else◌}
use Rattle.std.specs.Prelude.{Option, Some, None, is_some, option_copied, Result, Ok, Err, IfOk}
use Rattle.ocm_path.specs.Paths.{Segments}
use Rattle.ocm_types.specs.declared.phases.Which.{Which}
use Rattle.ocm_entry.specs.declared.listings.DavItem.{DavItem}
use Rattle.ocm_entry.specs.declared.replies.Reply.TheVariants as replies
use Rattle.ocm_entry.specs.declared.refusals.Why.TheVariants.{NotFound, NotAllowed, ParentMissing, BodyRefused}
use Rattle.ocm_entry.specs.declared.rows.Standing.{Standing}
use Rattle.ocm_entry.specs.declared.rows.Standing.TheVariants.{Collection, File}
use Rattle.ocm_rules.specs.Answers.{refused, limited, is_collection, get_reply, put_done, put_reply, mkcol_reply, delete_reply, list_reply, item}

-- ---- a row of a table of refusals: the first that holds decides

pub first : {X : Type 0} (b : Bool) (x y : X) → b ≡ true → x ≡ (if b then x else y)
first true x y e = refl
first false x y e = absurd (cc)

pub next : {X : Type 0} (b : Bool) (x y : X) → b ≡ false → y ≡ (if b then x else y)
next true x y e = absurd (cc)
next false x y e = refl

-- ---- PUT

pub put-onto : (here at_parent : Option Standing) (limit : Option Which) → is_collection here ≡ true → refused NotAllowed ≡ put_reply here at_parent limit
put-onto here at_parent limit onto = rw onto refl

pub put-orphan : (here at_parent : Option Standing) (limit : Option Which) → is_collection here ≡ false → is_collection at_parent ≡ false → refused ParentMissing ≡ put_reply here at_parent limit
put-orphan here at_parent limit file orphan = rw (file, orphan) refl

pub put-limited : (here at_parent : Option Standing) (limit : Option Which) (which : Which) → is_collection here ≡ false → is_collection at_parent ≡ true → limit ≡ Some which → limited which ≡ put_reply here at_parent limit
put-limited here at_parent limit which file inside passed = rw (file, inside, passed) refl

pub put-made : (here at_parent : Option Standing) (limit : Option Which) → is_collection here ≡ false → is_collection at_parent ≡ true → limit ≡ None → put_done here ≡ put_reply here at_parent limit
put-made here at_parent limit file inside within = rw (file, inside, within) refl

-- ---- MKCOL

pub mkcol-onto : (here at_parent : Option Standing) (has_body : Bool) (limit : Option Which) → is_some here ≡ true → refused NotAllowed ≡ mkcol_reply here at_parent has_body limit
mkcol-onto here at_parent has_body limit onto = rw onto refl

pub mkcol-orphan : (here at_parent : Option Standing) (has_body : Bool) (limit : Option Which) → is_some here ≡ false → is_collection at_parent ≡ false → refused ParentMissing ≡ mkcol_reply here at_parent has_body limit
mkcol-orphan here at_parent has_body limit free orphan = rw (free, orphan) refl

pub mkcol-body : (here at_parent : Option Standing) (has_body : Bool) (limit : Option Which) → is_some here ≡ false → is_collection at_parent ≡ true → has_body ≡ true → refused BodyRefused ≡ mkcol_reply here at_parent has_body limit
mkcol-body here at_parent has_body limit free inside body = rw (free, inside, body) refl

pub mkcol-limited : (here at_parent : Option Standing) (has_body : Bool) (limit : Option Which) (which : Which) → is_some here ≡ false → is_collection at_parent ≡ true → has_body ≡ false → limit ≡ Some which → limited which ≡ mkcol_reply here at_parent has_body limit
mkcol-limited here at_parent has_body limit which free inside body passed = rw (free, inside, body, passed) refl

pub mkcol-made : (here at_parent : Option Standing) (has_body : Bool) (limit : Option Which) → is_some here ≡ false → is_collection at_parent ≡ true → has_body ≡ false → limit ≡ None → replies.Created ≡ mkcol_reply here at_parent has_body limit
mkcol-made here at_parent has_body limit free inside body within = rw (free, inside, body, within) refl

-- ---- DELETE

pub delete-none : (here : Option Standing) → is_some here ≡ false → refused NotFound ≡ delete_reply here
delete-none None absent = refl
delete-none (Some standing) absent = absurd (cc)

pub delete-made : (here : Option Standing) → is_some here ≡ true → replies.Removed ≡ delete_reply here
delete-made None there = absurd (cc)
delete-made (Some standing) there = refl

-- ---- what is lent

pub some-copied : {X : Type 0} (lent : Option (Bor X)) → is_some lent ≡ is_some (option_copied lent)
some-copied None = refl
some-copied (Some x) = refl

pub get-none : (lent : Option (Bor Standing)) (here : Option Standing) → lent ≡ None → option_copied lent ≡ here → refused NotFound ≡ get_reply here
get-none lent here absent stood = ap (λ (l : Option (Bor Standing)). get_reply (option_copied l)) (sym absent) ∙ ap get_reply stood

pub get-collection : (lent : Option (Bor Standing)) (at : Bor Standing) (here : Option Standing) → lent ≡ Some at → at.now ≡ Collection → option_copied lent ≡ here → refused NotAllowed ≡ get_reply here
get-collection lent at here there is stood =
    ap (λ (s : Standing). get_reply (Some s)) (sym is) ∙ ap (λ (l : Option (Bor Standing)). get_reply (option_copied l)) (sym there) ∙ ap get_reply stood

pub get-file : (lent : Option (Bor Standing)) (at : Bor Standing) (here : Option Standing) (body : List ℕ) → lent ≡ Some at → at.now ≡ File body → option_copied lent ≡ here → replies.File body ≡ get_reply here
get-file lent at here body there is stood =
    ap (λ (s : Standing). get_reply (Some s)) (sym is) ∙ ap (λ (l : Option (Bor Standing)). get_reply (option_copied l)) (sym there) ∙ ap get_reply stood

pub list-none : (inside : List DavItem) (path : Segments) (lent : Option (Bor Standing)) (here : Option Standing) → lent ≡ None → option_copied lent ≡ here → refused NotFound ≡ list_reply inside path here
list-none inside path lent here absent stood = ap (λ (l : Option (Bor Standing)). list_reply inside path (option_copied l)) (sym absent) ∙ ap (list_reply inside path) stood

pub list-items : (inside : List DavItem) (path : Segments) (lent : Option (Bor Standing)) (at : Bor Standing) (here : Option Standing) → lent ≡ Some at → option_copied lent ≡ here
    → replies.Items (item path at.now ∷ inside) ≡ list_reply inside path here
list-items inside path lent at here there stood = ap (λ (l : Option (Bor Standing)). list_reply inside path (option_copied l)) (sym there) ∙ ap (list_reply inside path) stood

pub if_ok-each : {X F : Type 0} (r : Result X F) (P Q : X → Type 0) → ((x : X) → P x → Q x) → IfOk r P → IfOk r Q
if_ok-each (Ok x) P Q each h = each x h
if_ok-each (Err e) P Q each h = tt
