use Rattle.std.proofs.Common.{◌≡◌, ℕ, ◌+◌, ◌≤◌, List, [], ◌∷◌, ◌++◌, length, map, Bool, true, false, refl, sym, ap, ◌∙◌, subst, arith}
use Rattle.std.specs.Prelude.{Option, Some, None, ◌&&◌, ◌||◌, not, if◌then◌else◌, filter, is_some}
use Rattle.std.specs.List.{list_any}
use Rattle.std.proofs.lemmas.List.Folds.{list_any-append}
use Rattle.ocm_entry.specs.declared.entries.Entry.{Entry}
use Rattle.ocm_entry.specs.declared.rows.Place.{Place}
use Rattle.ocm_entry.specs.declared.rows.Node.{Node}
use Rattle.ocm_entry.specs.declared.rows.Standing.{Standing}
use Rattle.ocm_rules.specs.Files.{Act, Placed, Gone, Carried, act_after, same_place, is_at_or_above, moved, nodes, stands_after, left_at, at, with_roots}
use Rattle.ocm_rules.specs.Lean.{stays_at, placed_at, places_after, places_of, are_somewhere, still_stands, leaned}
use Rattle.ocm_rules.specs.Messages.{view_of}
use Rattle.ocm_rules.specs.State.{node_at}
use Rattle.ocm_rules.proofs.Lists.{not_both}
use Rattle.ocm_rules.proofs.Places.{same_place-Decides, same_place-refl, same_place-equal, moved-back}
use Rattle.ocm_rules.proofs.Nodes.{left_at-nodes}
use Rattle.ocm_rules.proofs.States.{stands-rows}
use Rattle.ocm_law_lean.proofs.Thin.{thin, thin-among}
use Rattle.ocm_law_lean.proofs.Further.{places-older, places-last}
use Rattle.ocm_law_lean.proofs.Views.{with_files, thin-view}
use Rattle.ocm_law_lean.proofs.Hollow.{hollow, hollow_standing, hollow_standing-kept, kept_after, kept_at, thin-nodes}

-- ---- places among places

among-filter : (place : Place) (test : Place → Bool) → test place ≡ true → (ps : List Place) → list_any (same_place place) ps ≡ true → list_any (same_place place) (filter test ps) ≡ true
among-filter place test holds [] h = h
among-filter place test holds (x ∷ ps) h = cases (same_place place x) refl (test x) refl (λ k. among-filter place test holds ps k) h
  where
    cases : (a : Bool) → same_place place x ≡ a → (b : Bool) → test x ≡ b → (list_any (same_place place) ps ≡ true → list_any (same_place place) (filter test ps) ≡ true)
        → (a || list_any (same_place place) ps) ≡ true → list_any (same_place place) (if b then x ∷ filter test ps else filter test ps) ≡ true
    cases true ha true hb rest k = rw ha refl
    cases true ha false hb rest k = absurd (not_both (test x) (ap test (sym (same_place-equal place x ha)) ∙ holds) hb)
    cases false ha true hb rest k = rw ha (rest k)
    cases false ha false hb rest k = rest k

among-map : (f : Place → Place) (place : Place) (ps : List Place) → list_any (same_place place) ps ≡ true → list_any (same_place (f place)) (map f ps) ≡ true
among-map f place [] h = h
among-map f place (x ∷ ps) h = cases (same_place place x) refl (λ k. among-map f place ps k) h
  where
    cases : (a : Bool) → same_place place x ≡ a → (list_any (same_place place) ps ≡ true → list_any (same_place (f place)) (map f ps) ≡ true)
        → (a || list_any (same_place place) ps) ≡ true → (same_place (f place) (f x) || list_any (same_place (f place)) (map f ps)) ≡ true
    cases true ha rest k = let first : same_place (f place) (f x) ≡ true = (same_place-Decides (f place) (f x)).1 (ap f (same_place-equal place x ha)) in rw first refl
    cases false ha rest k = either (same_place (f place) (f x)) (rest k)
      where
        either : (b : Bool) → list_any (same_place (f place)) (map f ps) ≡ true → (b || list_any (same_place (f place)) (map f ps)) ≡ true
        either true r = refl
        either false r = r

among-left : (place : Place) (xs ys : List Place) → list_any (same_place place) xs ≡ true → list_any (same_place place) (xs ++ ys) ≡ true
among-left place xs ys h = list_any-append (same_place place) xs ys ∙ rw h refl

among-right : (place : Place) (xs ys : List Place) → list_any (same_place place) ys ≡ true → list_any (same_place place) (xs ++ ys) ≡ true
among-right place xs ys h = list_any-append (same_place place) xs ys ∙ cases (list_any (same_place place) xs)
  where
    cases : (b : Bool) → (b || list_any (same_place place) ys) ≡ true
    cases true = refl
    cases false = h

among-somewhere : (place : Place) (ps : List Place) → list_any (same_place place) ps ≡ true → are_somewhere ps ≡ true
among-somewhere place [] h = h
among-somewhere place (p ∷ ps) h = refl

-- ---- where bytes come from

-- what stands at a place was put by an entry whose bytes still stand there
abbrev pub Origin : List ℕ → (ℕ → Bool) → List Entry → Place → Type 0
Origin host keep l place = (k : ℕ) × (k ≤ length l) × (kept_at host keep l place ≡ keep k) × (list_any (same_place place) (places_of host l k) ≡ true)

pub origin : (host : List ℕ) (keep : ℕ → Bool) (l : List Entry) (place : Place) → is_some (left_at host l place) ≡ true → Origin host keep l place
origin host keep [] place h = absurd (cc)
origin host keep (e ∷ before) place h = cases (λ q k. origin host keep before q k) (act_after host before e.ask) refl h
  where
    keeps : Bool
    keeps = keep (length before + 1)

    Older : Type 0
    Older = (q : Place) → is_some (left_at host before q) ≡ true → Origin host keep before q

    later : (act : Option Act) → act_after host before e.ask ≡ act → (k : ℕ) → k ≤ length before → kept_after act keeps (kept_at host keep before) place ≡ keep k
        → list_any (same_place place) (places_after act (places_of host before k)) ≡ true → Origin host keep (e ∷ before) place
    later act is k le same among = (
      k,
      omega arith,
      ap (λ a. kept_after a keeps (kept_at host keep before) place) is ∙ same,
      ap (list_any (same_place place)) (places-older host e before k le ∙ ap (λ a. places_after a (places_of host before k)) is) ∙ among,
    )

    put : (there : Place) (standing : Standing) → act_after host before e.ask ≡ Some (Placed there standing) → same_place there place ≡ true → Origin host keep (e ∷ before) place
    put there standing is s =
        let turned : same_place place there ≡ true = (same_place-Decides place there).1 (sym (same_place-equal there place s)) in
        let here : kept_after (Some (Placed there standing)) keeps (kept_at host keep before) place ≡ keeps = rw s refl in
        let among : list_any (same_place place) (there ∷ []) ≡ true = rw turned refl in (
          length before + 1,
          omega arith,
          ap (λ a. kept_after a keeps (kept_at host keep before) place) is ∙ here,
          ap (list_any (same_place place)) (places-last host e before ∙ ap placed_at is) ∙ among,
        )

    not_placed : (there : Place) (standing : Standing) → same_place there place ≡ false → (r : Origin host keep before place) → act_after host before e.ask ≡ Some (Placed there standing) → Origin host keep (e ∷ before) place
    not_placed there standing s r is =
        let passes : not (same_place there place) ≡ true = rw s refl in
        let same : kept_after (Some (Placed there standing)) keeps (kept_at host keep before) place ≡ kept_at host keep before place = rw s refl in
        later (Some (Placed there standing)) is r.0 r.1 (same ∙ r.2) (among-filter place (λ q. not (same_place there q)) passes (places_of host before r.0) r.3)

    not_gone : (there : Place) → is_at_or_above there place ≡ false → (r : Origin host keep before place) → act_after host before e.ask ≡ Some (Gone there) → Origin host keep (e ∷ before) place
    not_gone there s r is =
        let passes : not (is_at_or_above there place) ≡ true = rw s refl in
        later (Some (Gone there)) is r.0 r.1 r.2 (among-filter place (λ q. not (is_at_or_above there q)) passes (places_of host before r.0) r.3)

    stayed : (from to : Place) (moving : Bool) → is_at_or_above to place ≡ false → (moving && is_at_or_above from place) ≡ false → (r : Origin host keep before place) → act_after host before e.ask ≡ Some (Carried from to moving) → Origin host keep (e ∷ before) place
    stayed from to moving out left r is =
        let passes : stays_at from to moving place ≡ true = rw (out, left) refl in
        let same : kept_after (Some (Carried from to moving)) keeps (kept_at host keep before) place ≡ kept_at host keep before place = rw out refl in
        later (Some (Carried from to moving)) is r.0 r.1 (same ∙ r.2)
        (among-left place (filter (stays_at from to moving) (places_of host before r.0)) (map (moved from to) (filter (is_at_or_above from) (places_of host before r.0)))
        (among-filter place (stays_at from to moving) passes (places_of host before r.0) r.3))

    carried : (from to : Place) (moving : Bool) → is_at_or_above to place ≡ true → (r : Origin host keep before (moved to from place)) → act_after host before e.ask ≡ Some (Carried from to moving) → Origin host keep (e ∷ before) place
    carried from to moving inside r is =
        let old : Place = moved to from place in
        let back = moved-back from to old place inside (same_place-refl old) in
        let ps = places_of host before r.0 in
        let same : kept_after (Some (Carried from to moving)) keeps (kept_at host keep before) place ≡ kept_at host keep before old = rw inside refl in
        let there : list_any (same_place (moved from to old)) (map (moved from to) (filter (is_at_or_above from) ps)) ≡ true =
        among-map (moved from to) old (filter (is_at_or_above from) ps) (among-filter old (is_at_or_above from) back.0 ps r.3) in
        let P : Place → Type 0 = λ q. list_any (same_place q) (map (moved from to) (filter (is_at_or_above from) ps)) ≡ true in
        later (Some (Carried from to moving)) is r.0 r.1 (same ∙ r.2)
        (among-right place (filter (stays_at from to moving) ps) (map (moved from to) (filter (is_at_or_above from) ps)) (subst P (same_place-equal (moved from to old) place back.1) there))

    cases : Older → (act : Option Act) → act_after host before e.ask ≡ act → is_some (stands_after act (left_at host before) place) ≡ true → Origin host keep (e ∷ before) place
    cases older None is k = let r = older place k in later None is r.0 r.1 r.2 r.3
    cases older (Some (Placed there standing)) is k = by_test (same_place there place) refl k
      where
        by_test : (b : Bool) → same_place there place ≡ b → is_some (if b then Some standing else left_at host before place) ≡ true → Origin host keep (e ∷ before) place
        by_test true s g = put there standing is s
        by_test false s g = not_placed there standing s (older place g) is
    cases older (Some (Gone there)) is k = by_test (is_at_or_above there place) refl k
      where
        nothing : Option Standing
        nothing = None

        by_test : (b : Bool) → is_at_or_above there place ≡ b → is_some (if b then nothing else left_at host before place) ≡ true → Origin host keep (e ∷ before) place
        by_test true s g = absurd (cc)
        by_test false s g = not_gone there s (older place g) is
    cases older (Some (Carried from to moving)) is k = by_tests (is_at_or_above to place) refl (moving && is_at_or_above from place) refl k
      where
        nothing : Option Standing
        nothing = None

        by_tests : (b : Bool) → is_at_or_above to place ≡ b → (c : Bool) → (moving && is_at_or_above from place) ≡ c
            → is_some (if b then left_at host before (moved to from place) else (if c then nothing else left_at host before place)) ≡ true → Origin host keep (e ∷ before) place
        by_tests true s c t g = carried from to moving s (older (moved to from place) g) is
        by_tests false s true t g = absurd (cc)
        by_tests false s false t g = stayed from to moving s t (older place g) is

-- ---- what stands is kept

-- nodes whose bytes are kept wherever something stands are whole
whole : (p : Place → Bool) (ns : List Node) → ((place : Place) → is_some (node_at ns place) ≡ true → p place ≡ true) → map (hollow p) ns ≡ ns
whole p [] h = refl
whole p (n ∷ ns) h =
    ap (λ x. x ∷ map (hollow p) ns) first ∙ ap (λ l. n ∷ l) (whole p ns (λ place k. h place (behind (same_place n.place place) place k)))
  where
    behind : (b : Bool) (place : Place) → is_some (node_at ns place) ≡ true → is_some (if b then Some n.standing else node_at ns place) ≡ true
    behind true place k = refl
    behind false place k = k

    here : is_some (node_at (n ∷ ns) n.place) ≡ true
    here = let same : same_place n.place n.place ≡ true = same_place-refl n.place in rw same refl

    first : hollow p n ≡ n
    first =
        ap (λ b. record { place = n.place; standing = hollow_standing b n.standing }) (h n.place here)
        ∙ ap (λ s. record { place = n.place; standing = s }) (hollow_standing-kept n.standing)

-- the nodes are those of the lean list
pub leaned-nodes : (host : List ℕ) (g : List Entry) → nodes host (leaned host g) ≡ nodes host g
leaned-nodes host g =
    ap (λ l. nodes host l) (thin-among host g false g)
    ∙ thin-nodes host (still_stands host g) false g
    ∙ whole (kept_at host (still_stands host g) g) (nodes host g) kept_there
  where
    kept_there : (place : Place) → is_some (node_at (nodes host g) place) ≡ true → kept_at host (still_stands host g) g place ≡ true
    kept_there place h =
        let r = origin host (still_stands host g) g place (ap (λ o. is_some o) (left_at-nodes host g place) ∙ h) in
        r.2 ∙ among-somewhere place (places_of host g r.0) r.3

pub leaned-at : (host : List ℕ) (g : List Entry) (place : Place) → at host (leaned host g) place ≡ at host g place
leaned-at host g place =
    stands-rows host (leaned host g) place
    ∙ ap (λ ns. with_roots (node_at ns) place) (leaned-nodes host g)
    ∙ sym (stands-rows host g place)

-- all is read alike of the lean list
pub leaned-view : (host : List ℕ) (g : List Entry) → view_of host (leaned host g) ≡ view_of host g
leaned-view host g =
    ap (λ l. view_of host l) (thin-among host g false g)
    ∙ thin-view host (still_stands host g) g
    ∙ ap (λ ns. with_files (view_of host g) (at host now) ns) same_nodes
    ∙ (let same : at host now ≡ at host g = λ i place. same_at place i in ap (λ s. with_files (view_of host g) s (nodes host g)) same)
  where
    now : List Entry
    now = thin (still_stands host g) false g

    same_nodes : nodes host now ≡ nodes host g
    same_nodes = ap (λ l. nodes host l) (sym (thin-among host g false g)) ∙ leaned-nodes host g

    same_at : (place : Place) → at host now place ≡ at host g place
    same_at place = ap (λ l. at host l place) (sym (thin-among host g false g)) ∙ leaned-at host g place
