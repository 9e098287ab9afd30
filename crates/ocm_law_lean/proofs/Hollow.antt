use Rattle.std.proofs.Common.{◌≡◌, ℕ, ◌+◌, List, [], ◌∷◌, ◌++◌, length, map, Bool, true, false, refl, sym, ap, ◌∙◌}
use Rattle.std.specs.Prelude.{Option, Some, None, ◌&&◌, not, if◌then◌else◌, filter, option_map}
use Rattle.std.proofs.lemmas.List.{map-append}
use Rattle.ocm_entry.specs.declared.asks.Ask.{Ask}
use Rattle.ocm_entry.specs.declared.asks.Ask.TheVariants as asks
use Rattle.ocm_entry.specs.declared.asks.Method.TheVariants as methods
use Rattle.ocm_entry.specs.declared.entries.Entry.{Entry}
use Rattle.ocm_entry.specs.declared.rows.Place.{Place}
use Rattle.ocm_entry.specs.declared.rows.Node.{Node}
use Rattle.ocm_entry.specs.declared.rows.Standing.{Standing}
use Rattle.ocm_entry.specs.declared.rows.Standing.TheVariants.{Collection, File}
use Rattle.ocm_rules.specs.Users.{users}
use Rattle.ocm_rules.specs.Shares.{made}
use Rattle.ocm_rules.specs.Holders.{root_among}
use Rattle.ocm_rules.specs.Files.{Act, Placed, Gone, Carried, act_by, act_after, below, same_place, is_at_or_above, moved, with_node, copies, nodes_after, nodes}
use Rattle.ocm_rules.specs.Lean.{emptied_unless}
use Rattle.ocm_entry.specs.Ticks.{is_tick}
use Rattle.ocm_rules.specs.State.{node_at, EachOnce}
use Rattle.ocm_rules.proofs.Lists.{not_both}
use Rattle.ocm_rules.proofs.Places.{same_place-Decides, same_place-refl, same_place-equal, moved-there}
use Rattle.ocm_rules.proofs.Nodes.{by_place, copies-one}
use Rattle.ocm_rules.proofs.Once.{once-nodes}
use Rattle.ocm_law_lean.proofs.Thin.{kept_ask, thin_cons, thin, of_tick}
use Rattle.ocm_law_lean.proofs.Readings.{thin-act}

-- ---- files without their bytes

-- what stands, without its bytes unless they are kept
abbrev pub hollow_standing : Bool → Standing → Standing
hollow_standing keeps Collection = Collection
hollow_standing keeps (File body) = File (if keeps then body else [])

-- a node, without its bytes unless they are kept at its place
abbrev pub hollow : (Place → Bool) → Node → Node
hollow keep n = record { place = n.place; standing = hollow_standing (keep n.place) n.standing }

-- what is done, where bytes are not kept
abbrev pub hollow_act : Bool → Option Act → Option Act
hollow_act keeps None = None
hollow_act keeps (Some (Placed there standing)) = Some (Placed there (hollow_standing keeps standing))
hollow_act keeps (Some (Gone there)) = Some (Gone there)
hollow_act keeps (Some (Carried from to moving)) = Some (Carried from to moving)

-- where bytes are kept after this was done, which keeps what it puts or not
abbrev pub kept_after : Option Act → Bool → (Place → Bool) → Place → Bool
kept_after None keeps older place = older place
kept_after (Some (Placed there standing)) keeps older place = if same_place there place then keeps else older place
kept_after (Some (Gone there)) keeps older place = older place
kept_after (Some (Carried from to moving)) keeps older place = if is_at_or_above to place then older (moved to from place) else older place

-- where bytes are kept, of a list whose entries keep theirs by their numbers
abbrev pub kept_at : List ℕ → (ℕ → Bool) → List Entry → Place → Bool
kept_at host keep [] place = true
kept_at host keep (e ∷ before) place = kept_after (act_after host before e.ask) (keep (length before + 1)) (kept_at host keep before) place

pub hollow_standing-kept : (standing : Standing) → hollow_standing true standing ≡ standing
hollow_standing-kept Collection = refl
hollow_standing-kept (File body) = refl

hollow_act-kept : (act : Option Act) → hollow_act true act ≡ act
hollow_act-kept None = refl
hollow_act-kept (Some (Placed there standing)) = ap (λ s. Some (Placed there s)) (hollow_standing-kept standing)
hollow_act-kept (Some (Gone there)) = refl
hollow_act-kept (Some (Carried from to moving)) = refl

-- what an emptied ask does
pub act-hollow : (root : List ℕ → Option Place) (keeps : Bool) (ask : Ask) → act_by root (kept_ask keeps ask) ≡ hollow_act keeps (act_by root ask)
act-hollow root true ask = sym (hollow_act-kept (act_by root ask))
act-hollow root false (asks.Dav secret methods.Put path body) = by_root (root secret)
  where
    by_root : (o : Option Place) → option_map (λ files. Placed (below files path) (File [])) o ≡ hollow_act false (option_map (λ files. Placed (below files path) (File body)) o)
    by_root None = refl
    by_root (Some files) = refl
act-hollow root false (asks.Dav secret methods.Mkcol path body) = by_root (root secret)
  where
    by_root : (o : Option Place) → option_map (λ files. Placed (below files path) Collection) o ≡ hollow_act false (option_map (λ files. Placed (below files path) Collection) o)
    by_root None = refl
    by_root (Some files) = refl
act-hollow root false (asks.Dav secret methods.Delete path body) = by_root (root secret)
  where
    by_root : (o : Option Place) → option_map (λ files. Gone (below files path)) o ≡ hollow_act false (option_map (λ files. Gone (below files path)) o)
    by_root None = refl
    by_root (Some files) = refl
act-hollow root false (asks.Carry secret from to moving overwrite) = by_root (root secret)
  where
    by_root : (o : Option Place) → option_map (λ files. Carried (below files from) (below files to) moving) o ≡ hollow_act false (option_map (λ files. Carried (below files from) (below files to) moving) o)
    by_root None = refl
    by_root (Some files) = refl
act-hollow root false _ = refl

-- ---- places

same_place-turned : (a b : Place) → same_place a b ≡ false → same_place b a ≡ false
same_place-turned a b h = cases (same_place b a) refl
  where
    cases : (c : Bool) → same_place b a ≡ c → c ≡ false
    cases true k = absurd (not_both (same_place a b) ((same_place-Decides a b).1 (sym (same_place-equal b a k))) h)
    cases false k = refl

-- where nothing stands, no node of the list stands, neither the first nor those behind it
none-cons : (n : Node) (ns : List Node) (place : Place) → node_at (n ∷ ns) place ≡ None → (same_place n.place place ≡ false) × (node_at ns place ≡ None)
none-cons n ns place h = cases (same_place n.place place) refl h
  where
    cases : (b : Bool) → same_place n.place place ≡ b → (if b then Some n.standing else node_at ns place) ≡ None → (same_place n.place place ≡ false) × (node_at ns place ≡ None)
    cases true k g = absurd (cc)
    cases false k g = (k, g)

-- the first of what is copied
abbrev carried_node : Place → Place → Node → Node
carried_node from to n = record { place = moved from to n.place; standing = n.standing }

-- where something stays, nothing is carried
stays-outside : (a b : Bool) → (not a && not b) ≡ true → a ≡ false
stays-outside true b h = absurd (cc)
stays-outside false b h = refl

-- ---- the same is done to hollow nodes

hollow-same : (p q : Place → Bool) (n : Node) → p n.place ≡ q n.place → hollow p n ≡ hollow q n
hollow-same p q n h = ap (λ b. record { place = n.place; standing = hollow_standing b n.standing }) h

hollow-filter : (test : Place → Bool) (p : Place → Bool) (ns : List Node) → filter (by_place test) (map (hollow p) ns) ≡ map (hollow p) (filter (by_place test) ns)
hollow-filter test p [] = refl
hollow-filter test p (n ∷ ns) = cases (hollow-filter test p ns) (test n.place)
  where
    cases : filter (by_place test) (map (hollow p) ns) ≡ map (hollow p) (filter (by_place test) ns)
        → (b : Bool) → (if b then hollow p n ∷ filter (by_place test) (map (hollow p) ns) else filter (by_place test) (map (hollow p) ns)) ≡ map (hollow p) (if b then n ∷ filter (by_place test) ns else filter (by_place test) ns)
    cases rest true = ap (λ l. hollow p n ∷ l) rest
    cases rest false = rest

hollow-alike : (test : Place → Bool) (p q : Place → Bool) (ns : List Node) → ((place : Place) → test place ≡ true → p place ≡ q place) → map (hollow p) (filter (by_place test) ns) ≡ map (hollow q) (filter (by_place test) ns)
hollow-alike test p q [] h = refl
hollow-alike test p q (n ∷ ns) h = cases (hollow-alike test p q ns h) (test n.place) refl
  where
    cases : map (hollow p) (filter (by_place test) ns) ≡ map (hollow q) (filter (by_place test) ns)
        → (b : Bool) → test n.place ≡ b → map (hollow p) (if b then n ∷ filter (by_place test) ns else filter (by_place test) ns) ≡ map (hollow q) (if b then n ∷ filter (by_place test) ns else filter (by_place test) ns)
    cases rest true k = let first = hollow-same p q n (h n.place k) in ap (λ x. x ∷ map (hollow p) (filter (by_place test) ns)) first ∙ ap (λ l. hollow q n ∷ l) rest
    cases rest false k = rest

-- nodes stay as they are where only another place is kept otherwise
hollow-elsewhere : (there : Place) (keeps : Bool) (p : Place → Bool) (ns : List Node) → node_at ns there ≡ None → map (hollow p) ns ≡ map (hollow (λ place. if same_place there place then keeps else p place)) ns
hollow-elsewhere there keeps p [] h = refl
hollow-elsewhere there keeps p (n ∷ ns) h = both (none-cons n ns there h) (λ k. hollow-elsewhere there keeps p ns k)
  where
    q : Place → Bool
    q place = if same_place there place then keeps else p place

    both : (same_place n.place there ≡ false) × (node_at ns there ≡ None) → (node_at ns there ≡ None → map (hollow p) ns ≡ map (hollow q) ns) → map (hollow p) (n ∷ ns) ≡ map (hollow q) (n ∷ ns)
    both r rest =
        let other = same_place-turned n.place there r.0 in
        let first : hollow p n ≡ hollow q n = hollow-same p q n (rw other refl) in
        ap (λ x. x ∷ map (hollow p) ns) first ∙ ap (λ l. hollow q n ∷ l) (rest r.1)

pub hollow-with_node : (there : Place) (standing : Standing) (keeps : Bool) (p : Place → Bool) (ns : List Node) → EachOnce ns
    → with_node (map (hollow p) ns) (record { place = there; standing = hollow_standing keeps standing }) ≡ map (hollow (λ place. if same_place there place then keeps else p place)) (with_node ns (record { place = there; standing = standing }))
hollow-with_node there standing keeps p [] u =
    let here : same_place there there ≡ true = same_place-refl there in rw here refl
hollow-with_node there standing keeps p (other ∷ others) u = cases (hollow-with_node there standing keeps p others u.1) (same_place other.place there) refl
  where
    q : Place → Bool
    q place = if same_place there place then keeps else p place

    node : Node
    node = record { place = there; standing = standing }

    put : Node
    put = record { place = there; standing = hollow_standing keeps standing }

    here : q there ≡ keeps
    here = let same : same_place there there ≡ true = same_place-refl there in rw same refl

    cases : with_node (map (hollow p) others) put ≡ map (hollow q) (with_node others node)
        → (b : Bool) → same_place other.place there ≡ b → (if b then put ∷ map (hollow p) others else hollow p other ∷ with_node (map (hollow p) others) put) ≡ map (hollow q) (if b then node ∷ others else other ∷ with_node others node)
    cases rest true h =
        let none : node_at others there ≡ None = ap (λ place. node_at others place) (sym (same_place-equal other.place there h)) ∙ u.0 in
        ap (λ b. (let x : Node = record { place = there; standing = hollow_standing b standing } in x) ∷ map (hollow p) others) (sym here)
        ∙ ap (λ l. hollow q node ∷ l) (hollow-elsewhere there keeps p others none)
    cases rest false h =
        let apart = same_place-turned other.place there h in
        let first : hollow p other ≡ hollow q other = hollow-same p q other (rw apart refl) in
        ap (λ x. x ∷ with_node (map (hollow p) others) put) first ∙ ap (λ l. hollow q other ∷ l) rest

pub hollow-copies : (from to : Place) (p : Place → Bool) (ns : List Node) → copies from to (map (hollow p) ns) ≡ map (hollow (λ place. if is_at_or_above to place then p (moved to from place) else p place)) (copies from to ns)
hollow-copies from to p [] = refl
hollow-copies from to p (n ∷ ns) =
    copies-one from to (hollow p n) (map (hollow p) ns) (is_at_or_above from n.place) refl
    ∙ cases (hollow-copies from to p ns) (is_at_or_above from n.place) refl
    ∙ ap (λ l. map (hollow q) l) (sym (copies-one from to n ns (is_at_or_above from n.place) refl))
  where
    q : Place → Bool
    q place = if is_at_or_above to place then p (moved to from place) else p place

    same : is_at_or_above from n.place ≡ true → p n.place ≡ q (moved from to n.place)
    same inside =
        let r = moved-there from to n.place (moved from to n.place) inside (same_place-refl (moved from to n.place)) in
        let to_it : is_at_or_above to (moved from to n.place) ≡ true = r.0 in
        ap p (sym r.1) ∙ ap (λ b. if b then p (moved to from (moved from to n.place)) else p (moved from to n.place)) (sym to_it)

    cases : copies from to (map (hollow p) ns) ≡ map (hollow q) (copies from to ns)
        → (b : Bool) → is_at_or_above from n.place ≡ b → (if b then carried_node from to (hollow p n) ∷ copies from to (map (hollow p) ns) else copies from to (map (hollow p) ns))
        ≡ map (hollow q) (if b then carried_node from to n ∷ copies from to ns else copies from to ns)
    cases rest true h =
        ap (λ b. (let x : Node = record { place = moved from to n.place; standing = hollow_standing b n.standing } in x) ∷ copies from to (map (hollow p) ns)) (same h)
        ∙ ap (λ l. hollow q (carried_node from to n) ∷ l) rest
    cases rest false h = rest

pub hollow-after : (act : Option Act) (keeps : Bool) (p : Place → Bool) (ns : List Node) → EachOnce ns → nodes_after (hollow_act keeps act) (map (hollow p) ns) ≡ map (hollow (kept_after act keeps p)) (nodes_after act ns)
hollow-after None keeps p ns u = refl
hollow-after (Some (Placed there standing)) keeps p ns u = hollow-with_node there standing keeps p ns u
hollow-after (Some (Gone there)) keeps p ns u = hollow-filter (λ place. not (is_at_or_above there place)) p ns
hollow-after (Some (Carried from to moving)) keeps p ns u =
    ap (λ l. l ++ copies from to (map (hollow p) ns)) (hollow-filter test p ns ∙ hollow-alike test p q ns outside)
    ∙ ap (λ l. map (hollow q) (filter (by_place test) ns) ++ l) (hollow-copies from to p ns)
    ∙ sym (map-append (hollow q) (filter (by_place test) ns) (copies from to ns))
  where
    q : Place → Bool
    q place = if is_at_or_above to place then p (moved to from place) else p place

    test : Place → Bool
    test place = not (is_at_or_above to place) && not (moving && is_at_or_above from place)

    outside : (place : Place) → test place ≡ true → p place ≡ q place
    outside place h = let out : is_at_or_above to place ≡ false = stays-outside (is_at_or_above to place) (moving && is_at_or_above from place) h in rw out refl

-- ---- the nodes of a thin list

pub thin-nodes : (host : List ℕ) (keep : ℕ → Bool) (first : Bool) (l : List Entry) → nodes host (thin keep first l) ≡ map (hollow (kept_at host keep l)) (nodes host l)
thin-nodes host keep first [] = refl
thin-nodes host keep first (e ∷ before) = cases (thin-nodes host keep (is_tick e.ask) before) first (is_tick e.ask) refl
  where
    keeps : Bool
    keeps = keep (length before + 1)

    rest : List Entry
    rest = thin keep (is_tick e.ask) before

    act : Option Act
    act = act_after host before e.ask

    Older : Type 0
    Older = nodes host rest ≡ map (hollow (kept_at host keep before)) (nodes host before)

    after : Option Act → List Node
    after a = map (hollow (kept_after a keeps (kept_at host keep before))) (nodes_after a (nodes host before))

    stays_in : Older → nodes host (emptied_unless keeps e ∷ rest) ≡ after act
    stays_in older =
        ap (λ a. nodes_after a (nodes host rest)) (thin-act host keep (is_tick e.ask) before (kept_ask keeps e.ask) ∙ act-hollow (root_among (users before) (made host before)) keeps e.ask)
        ∙ ap (λ ns. nodes_after (hollow_act keeps act) ns) older
        ∙ hollow-after act keeps (kept_at host keep before) (nodes host before) (once-nodes host before)

    cases : Older → (f b : Bool) → is_tick e.ask ≡ b → nodes host (thin_cons (f && b) (emptied_unless keeps e) rest) ≡ after act
    cases older true true is = older ∙ ap after (sym (of_tick (λ a. act_by (root_among (users before) (made host before)) a ≡ None) (λ clock. refl) e.ask is))
    cases older true false is = stays_in older
    cases older false b is = stays_in older
