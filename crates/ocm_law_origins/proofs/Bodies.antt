use Rattle.std.proofs.Common.{◌≡◌, ℕ, ◌+◌, List, [], ◌∷◌, ◌++◌, length, Bool, true, false, refl, sym, ap, ◌∙◌}
use Rattle.std.specs.Prelude.{Option, Some, None, is_some, option_map, ◌||◌, if◌then◌else◌}
use Rattle.std.specs.List.{All, AllByRecursion, AllZip, list_any}
use Rattle.std.proofs.lemmas.Bool.{eqb-true}
use Rattle.std.proofs.lemmas.List.Elements.{All-from_recursion}
use Rattle.ocm_path.specs.Paths.{Segments}
use Rattle.ocm_entry.specs.declared.asks.Ask.TheVariants.{Dav}
use Rattle.ocm_entry.specs.declared.asks.Method.TheVariants.{Put}
use Rattle.ocm_entry.specs.declared.entries.Entry.{Entry}
use Rattle.ocm_entry.specs.declared.rows.Place.{Place}
use Rattle.ocm_entry.specs.declared.rows.Node.{Node}
use Rattle.ocm_entry.specs.declared.rows.Standing.{Standing}
use Rattle.ocm_entry.specs.declared.rows.Standing.TheVariants.{File}
use Rattle.ocm_rules.specs.Files.{Placed, act_by, below, same_place, nodes}
use Rattle.ocm_rules.specs.Holders.{root_among}
use Rattle.ocm_rules.specs.Lean.{still_stands}
use Rattle.ocm_rules.specs.Shares.{made}
use Rattle.ocm_rules.specs.State.{node_at, EachOnce}
use Rattle.ocm_rules.specs.Users.{users}
use Rattle.ocm_rules.proofs.Once.{once-nodes}
use Rattle.ocm_rules.proofs.Places.{same_place-refl, same_place-equal}
use Rattle.ocm_law_origins.specs.Origins.{Origin, is_from, origins, put_of, put_by, HaveSamePlaces, IsOriginOf, body_from, body_beside}
use Rattle.ocm_law_origins.proofs.Beside.{AllBeside, Anyhow, places-beside, beside-places}
use Rattle.ocm_law_origins.proofs.Histories.{put-at, origins-places, origins-put, origins-still}

-- ---- nodes are found by their places

-- each of these nodes is the one that is found at its place among all
abbrev AreFound : List Node → List Node → Type 0
AreFound all ns = AllByRecursion (λ (n : Node). node_at all n.place ≡ Some n.standing) ns

found-more : (n : Node) (all ns : List Node) → node_at all n.place ≡ None → AreFound all ns → AreFound (n ∷ all) ns
found-more n all [] absent h = tt
found-more n all (m ∷ ns) absent h = (by_test (same_place n.place m.place) refl, found-more n all ns absent h.1)
  where
    by_test : (b : Bool) → same_place n.place m.place ≡ b → (if b then Some n.standing else node_at all m.place) ≡ Some m.standing
    by_test true e =
        let none : node_at all m.place ≡ None = ap (node_at all) (sym (same_place-equal n.place m.place e)) ∙ absent in
        let some : node_at all m.place ≡ Some m.standing = h.0 in
        absurd (cc)
    by_test false e = h.0

found-all : (ns : List Node) → EachOnce ns → AreFound ns ns
found-all [] once = tt
found-all (n ∷ ns) once =
    ((let same : same_place n.place n.place ≡ true = same_place-refl n.place in rw same refl), found-more n ns ns once.0 (found-all ns once.1))

-- ---- what stands by a number

found-beside : (all : List Node) (os : List Origin) (ns : List Node) (k : ℕ) → AllBeside Anyhow os ns → AreFound all ns → body_from all os k ≡ body_beside ns os k
found-beside all [] [] k h found = refl
found-beside all [] (n ∷ ns) k h found = refl
found-beside all (o ∷ os) [] k h found = absurd h
found-beside all (o ∷ os) (n ∷ ns) k h found = by_test (found-beside all os ns k h.1 found.1) (is_from k o)
  where
    by_test : body_from all os k ≡ body_beside ns os k
        → (b : Bool) → (if b then node_at all o.place else body_from all os k) ≡ (if b then Some n.standing else body_beside ns os k)
    by_test rest true = ap (node_at all) h.0.0 ∙ found.0
    by_test rest false = rest

pub body-beside : (os : List Origin) (ns : List Node) (k : ℕ) → HaveSamePlaces os ns → EachOnce ns → body_from ns os k ≡ body_beside ns os k
body-beside os ns k same once = found-beside ns os ns k (beside-places os ns same) (found-all ns once)

-- what stands beside a number is what its entry put
beside-put : (put : ℕ → Option Standing) (os : List Origin) (ns : List Node) (k : ℕ) → AllZip (IsOriginOf put) os ns
    → body_beside ns os k ≡ (if list_any (is_from k) os then put k else None)
beside-put put [] [] k h = refl
beside-put put [] (n ∷ ns) k h = refl
beside-put put (o ∷ os) [] k h = absurd h
beside-put put (o ∷ os) (n ∷ ns) k h = by_test (beside-put put os ns k h.1) (is_from k o) refl
  where
    nothing : Option Standing
    nothing = None

    by_test : body_beside ns os k ≡ (if list_any (is_from k) os then put k else nothing)
        → (b : Bool) → is_from k o ≡ b → (if b then Some n.standing else body_beside ns os k) ≡ (if b || list_any (is_from k) os then put k else nothing)
    by_test rest true e = sym h.0.1 ∙ ap put (eqb-true o.number k e)
    by_test rest false e = rest

-- what stands by a number is what its entry put
pub body-was_put : (put : ℕ → Option Standing) (os : List Origin) (ns : List Node) (k : ℕ) → AllZip (IsOriginOf put) os ns → EachOnce ns
    → body_from ns os k ≡ (if list_any (is_from k) os then put k else None)
body-was_put put os ns k h once = body-beside os ns k (places-beside (λ j standing. put j ≡ Some standing) os ns h) once ∙ beside-put put os ns k h

-- something stands beside a number that an origin has
beside-some : (put : ℕ → Option Standing) (os : List Origin) (ns : List Node) (k : ℕ) → AllZip (IsOriginOf put) os ns → is_some (body_beside ns os k) ≡ list_any (is_from k) os
beside-some put [] [] k h = refl
beside-some put [] (n ∷ ns) k h = refl
beside-some put (o ∷ os) [] k h = absurd h
beside-some put (o ∷ os) (n ∷ ns) k h = by_test (beside-some put os ns k h.1) (is_from k o)
  where
    by_test : is_some (body_beside ns os k) ≡ list_any (is_from k) os
        → (b : Bool) → is_some (if b then Some n.standing else body_beside ns os k) ≡ (b || list_any (is_from k) os)
    by_test rest true = refl
    by_test rest false = rest

-- ---- of histories

all-at-their-places : (put : ℕ → Option Standing) (all : List Node) (os : List Origin) (ns : List Node) → AllZip (IsOriginOf put) os ns → AreFound all ns
    → AllByRecursion (λ (o : Origin). node_at all o.place ≡ put o.number) os
all-at-their-places put all [] ns h found = tt
all-at-their-places put all (o ∷ os) [] h found = absurd h
all-at-their-places put all (o ∷ os) (n ∷ ns) h found =
    (ap (node_at all) h.0.0 ∙ found.0 ∙ sym h.0.1, all-at-their-places put all os ns h.1 found.1)

pub origins-at_their_places : (host : List ℕ) (g : List Entry) → All (λ (o : Origin). node_at (nodes host g) o.place ≡ put_by host g o.number) (origins host g)
origins-at_their_places host g =
    All-from_recursion (λ (o : Origin). node_at (nodes host g) o.place ≡ put_by host g o.number) (origins host g)
    (all-at-their-places (put_by host g) (nodes host g) (origins host g) (nodes host g) (origins-put host g) (found-all (nodes host g) (once-nodes host g)))

body-of_history : (host : List ℕ) (g : List Entry) (k : ℕ) → body_from (nodes host g) (origins host g) k ≡ body_beside (nodes host g) (origins host g) k
body-of_history host g k = body-beside (origins host g) (nodes host g) k (origins-places host g) (once-nodes host g)

pub body-found : (host : List ℕ) (g : List Entry) (k : ℕ) → is_some (body_from (nodes host g) (origins host g) k) ≡ still_stands host g k
body-found host g k =
    ap (λ o. is_some o) (body-of_history host g k) ∙ beside-some (put_by host g) (origins host g) (nodes host g) k (origins-put host g) ∙ sym (origins-still host g k)

-- what an entry put, where that stands or not
abbrev put_where : List ℕ → List Entry → ℕ → Bool → Option Standing
put_where host g k stands = if stands then put_by host g k else None

body-put : (host : List ℕ) (g : List Entry) (k : ℕ) → body_from (nodes host g) (origins host g) k ≡ put_where host g k (still_stands host g k)
body-put host g k =
    body-was_put (put_by host g) (origins host g) (nodes host g) k (origins-put host g) (once-nodes host g) ∙ ap (put_where host g k) (sym (origins-still host g k))

pub body-stands : (host : List ℕ) (g : List Entry) (k : ℕ) → still_stands host g k ≡ true → body_from (nodes host g) (origins host g) k ≡ put_by host g k
body-stands host g k stands = body-put host g k ∙ ap (put_where host g k) stands

pub body-gone : (host : List ℕ) (g : List Entry) (k : ℕ) → still_stands host g k ≡ false → body_from (nodes host g) (origins host g) k ≡ None
body-gone host g k gone = body-put host g k ∙ ap (put_where host g k) gone

-- what a PUT puts, where it puts anything
put-put : (root : List ℕ → Option Place) (secret : List ℕ) (path : Segments) (body : List ℕ) → is_some (put_of (act_by root (Dav secret Put path body))) ≡ true
    → put_of (act_by root (Dav secret Put path body)) ≡ Some (File body)
put-put root secret path body = by_root (root secret)
  where
    by_root : (o : Option Place) → is_some (put_of (option_map (λ files. Placed (below files path) (File body)) o)) ≡ true
        → put_of (option_map (λ files. Placed (below files path) (File body)) o) ≡ Some (File body)
    by_root None h = absurd (cc)
    by_root (Some files) h = refl

pub body-put_by_entry : (host : List ℕ) (later before : List Entry) (e : Entry) (secret body : List ℕ) (path : Segments) → e.ask ≡ Dav secret Put path body
    → still_stands host (later ++ e ∷ before) (length before + 1) ≡ true
    → body_from (nodes host (later ++ e ∷ before)) (origins host (later ++ e ∷ before)) (length before + 1) ≡ Some (File body)
body-put_by_entry host later before e secret body path is stands =
    told ∙ put-put root secret path body (sym (ap (λ o. is_some o) told) ∙ body-found host g k ∙ stands)
  where
    g : List Entry
    g = later ++ e ∷ before

    k : ℕ
    k = length before + 1

    root : List ℕ → Option Place
    root = root_among (users before) (made host before)

    told : body_from (nodes host g) (origins host g) k ≡ put_of (act_by root (Dav secret Put path body))
    told = body-stands host g k stands ∙ put-at host later before e ∙ ap (λ ask. put_of (act_by root ask)) is
