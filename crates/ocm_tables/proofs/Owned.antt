use Rattle.std.proofs.Common.{◌≡◌, ℕ, zero, suc, ◌+◌, List, [], ◌∷◌, ◌++◌, Bool, true, false, ◌&&◌, Option, Some, None, refl, sym, ◌∙◌, subst, is_some, nat_eq, if◌then◌else◌, slice_get, map, IfSome, IsSome, IsTrue, Bor, option_copied}
use Rattle.std.specs.List.{list_all}
use Rattle.std.proofs.lemmas.List.Folds.{list_all-append}
use Rattle.ocm_entry.specs.Proper.{is_short}
use Rattle.ocm_entry.specs.declared.rows.User.{User}
use Rattle.ocm_entry.specs.declared.rows.Share.{Share}
use Rattle.ocm_rules.specs.declared.rows.ShareRow.{ShareRow}
use Rattle.ocm_rules.specs.Numbers.{at_number}
use Rattle.ocm_rules.specs.State.{map_numbered, changed_at, new_share_row}
use Rattle.ocm_tables.specs.Tables.{is_owned}

all-numbered : {X : Type 0} (p : X → Bool) (f : ℕ → X → X) (k : ℕ) (xs : List X) → ((j : ℕ) (x : X) → p (f j x) ≡ p x) → list_all p (map_numbered f k xs) ≡ list_all p xs
all-numbered p f k [] same = refl
all-numbered p f k (x ∷ xs) same = let first = same k x in let rest = all-numbered p f (k + 1) xs same in rw (first, rest) refl

branch-same : {X : Type 0} (p : X → Bool) (c : X → X) (b : Bool) (x : X) → p (c x) ≡ p x → p (if b then c x else x) ≡ p x
branch-same p c true x e = e
branch-same p c false x e = refl

-- where one item is changed in what a test doesn't read, all pass as before
pub all-changed : {X : Type 0} (p : X → Bool) (n : ℕ) (c : X → X) (xs : List X) → ((x : X) → p (c x) ≡ p x) → list_all p (changed_at n c xs) ≡ list_all p xs
all-changed p n c xs same = all-numbered p (λ j x. if nat_eq n j then c x else x) 1 xs (λ j x. branch-same p c (nat_eq n j) x (same x))

both-true : (a b : Bool) → a ≡ true → b ≡ true → (a && b) ≡ true
both-true true true e f = refl
both-true true false e f = absurd (cc)
both-true false b e f = absurd (cc)

first-true : (a b : Bool) → (a && b) ≡ true → (a ≡ true) × (b ≡ true)
first-true true true e = (refl, refl)
first-true true false e = absurd (cc)
first-true false b e = absurd (cc)

-- one more at the end that passes
pub all-push : {X : Type 0} (p : X → Bool) (xs : List X) (x : X) → list_all p xs ≡ true → p x ≡ true → list_all p (xs ++ x ∷ []) ≡ true
all-push p xs x all one = list_all-append p xs (x ∷ []) ∙ both-true (list_all p xs) (list_all p (x ∷ [])) all (both-true (p x) true one refl)

all-get : {X : Type 0} (p : X → Bool) (xs : List X) (i : ℕ) (x : X) → list_all p xs ≡ true → slice_get xs i ≡ Some x → p x ≡ true
all-get p [] i x all at = absurd (cc)
all-get p (y ∷ ys) zero x all at = let same : y ≡ x = cc in rw (← same) (first-true (p y) (list_all p ys) all).0
all-get p (y ∷ ys) (suc i) x all at = all-get p ys i x (first-true (p y) (list_all p ys) all).1 at

-- the one of a number passes where all do
pub all-at : {X : Type 0} (p : X → Bool) (xs : List X) (n : ℕ) (x : X) → list_all p xs ≡ true → at_number xs n ≡ Some x → p x ≡ true
all-at p xs zero x all at = absurd (cc)
all-at p xs (suc i) x all at = all-get p xs i x all at

get-longer : {X : Type 0} (xs ys : List X) (i : ℕ) → is_some (slice_get xs i) ≡ true → is_some (slice_get (xs ++ ys) i) ≡ true
get-longer [] ys i e = absurd (cc)
get-longer (x ∷ xs) ys zero e = refl
get-longer (x ∷ xs) ys (suc i) e = get-longer xs ys i e

at-longer : {X : Type 0} (xs ys : List X) (n : ℕ) → is_some (at_number xs n) ≡ true → is_some (at_number (xs ++ ys) n) ≡ true
at-longer xs ys zero e = absurd (cc)
at-longer xs ys (suc i) e = get-longer xs ys i e

-- shares belong to users when there are more users
pub owned-users : (users : List User) (user : User) (rows : List ShareRow) → list_all (is_owned users) rows ≡ true → list_all (is_owned (users ++ user ∷ [])) rows ≡ true
owned-users users user [] all = refl
owned-users users user (row ∷ rows) all =
    let parts = first-true (is_owned users row) (list_all (is_owned users) rows) all in
    let own = first-true (is_short row.share.root) (is_some (at_number users row.share.owner)) parts.0 in
    let more = at-longer users (user ∷ []) row.share.owner own.1 in
    both-true (is_owned (users ++ user ∷ []) row) (list_all (is_owned (users ++ user ∷ [])) rows) (both-true (is_short row.share.root) (is_some (at_number (users ++ user ∷ []) row.share.owner)) own.0 more) (owned-users users user rows parts.1)

-- a new share of a user, with a short root, is one more that belongs to a user
pub owned-share : (users : List User) (rows : List ShareRow) (share : Share) → list_all (is_owned users) rows ≡ true → is_short share.root ≡ true → is_some (at_number users share.owner) ≡ true → list_all (is_owned users) (rows ++ new_share_row share ∷ []) ≡ true
owned-share users rows share all short owner = all-push (is_owned users) rows (new_share_row share) all (both-true (is_short share.root) (is_some (at_number users share.owner)) short owner)

short-get : (users : List User) (rows : List ShareRow) (i : ℕ) → list_all (is_owned users) rows ≡ true → IfSome (slice_get (map (λ (row : ShareRow). row.share) rows) i) (λ (share : Share). IsTrue (is_short share.root))
short-get users [] i all = tt
short-get users (row ∷ rows) zero all = (first-true (is_short row.share.root) (is_some (at_number users row.share.owner)) (first-true (is_owned users row) (list_all (is_owned users) rows) all).0).0
short-get users (row ∷ rows) (suc i) all = short-get users rows i (first-true (is_owned users row) (list_all (is_owned users) rows) all).1

-- the root of the share of a number is short
pub short-at : (users : List User) (rows : List ShareRow) (n : ℕ) → list_all (is_owned users) rows ≡ true → IfSome (at_number (map (λ (row : ShareRow). row.share) rows) n) (λ (share : Share). IsTrue (is_short share.root))
short-at users rows zero all = tt
short-at users rows (suc i) all = short-get users rows i all

owner-get : (users : List User) (rows : List ShareRow) (i : ℕ) → list_all (is_owned users) rows ≡ true → IfSome (slice_get (map (λ (row : ShareRow). row.share) rows) i) (λ (share : Share). IsSome (at_number users share.owner))
owner-get users [] i all = tt
owner-get users (row ∷ rows) zero all = (first-true (is_short row.share.root) (is_some (at_number users row.share.owner)) (first-true (is_owned users row) (list_all (is_owned users) rows) all).0).1
owner-get users (row ∷ rows) (suc i) all = owner-get users rows i (first-true (is_owned users row) (list_all (is_owned users) rows) all).1

-- the share of a number has an owner
pub owner-at : (users : List User) (rows : List ShareRow) (n : ℕ) → list_all (is_owned users) rows ≡ true → IfSome (at_number (map (λ (row : ShareRow). row.share) rows) n) (λ (share : Share). IsSome (at_number users share.owner))
owner-at users rows zero all = tt
owner-at users rows (suc i) all = owner-get users rows i all

-- what holds of the share of a number holds of it where it is lent
pub each_lent : (P : Share → Type 0) (lent : Option (Bor Share)) (found : Option Share) → option_copied lent ≡ found → IfSome found P → IfSome lent (λ share. P share.now)
each_lent P None found e h = tt
each_lent P (Some share) found e h = let Q : Option Share → Type 0 = λ o. IfSome o P in subst Q (sym e) h
