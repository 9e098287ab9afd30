use Rattle.std.proofs.Common.{◌≡◌, ℕ, ◌+◌, ◌≤◌, List, [], ◌∷◌, length, Bool, true, false, refl, sym, ap, ◌∙◌, arith}
use Rattle.std.specs.Prelude.{Option, Some, None, ◌&&◌, nat_eq, option_map}
use Rattle.std.proofs.lemmas.Bool.{ne_eqb, eq-eqb}
use Rattle.ocm_path.specs.Paths.{Segments}
use Rattle.ocm_entry.specs.declared.asks.Ask.{Ask}
use Rattle.ocm_entry.specs.declared.asks.Ask.TheVariants as asks
use Rattle.ocm_entry.specs.declared.asks.Method.TheVariants as methods
use Rattle.ocm_entry.specs.declared.entries.Entry.{Entry}
use Rattle.ocm_entry.specs.declared.rows.Place.{Place}
use Rattle.ocm_entry.specs.declared.rows.Standing.TheVariants.{File}
use Rattle.ocm_rules.specs.Users.{users}
use Rattle.ocm_rules.specs.Shares.{made}
use Rattle.ocm_rules.specs.Holders.{root_among}
use Rattle.ocm_rules.specs.Files.{Act, Placed, Gone, Carried, act_by, act_after, below}
use Rattle.ocm_rules.specs.Lean.{emptied_unless, without_body, placed_at, places_after, places_of, are_somewhere, still_stands, leaned}
use Rattle.ocm_entry.specs.Ticks.{is_tick}
use Rattle.ocm_law_lean.proofs.Thin.{kept_ask, thin_cons, thin, same_kept, of_tick, thin-among, is_tick-kept}
use Rattle.ocm_law_lean.proofs.Readings.{thin-act}

-- ---- what is done to places

abbrev placed : (List ℕ → Option Place) → Ask → List Place
placed root ask = placed_at (act_by root ask)

abbrev after_places : (List ℕ → Option Place) → List Place → Ask → List Place
after_places root ps ask = places_after (act_by root ask) ps

placed-kept : (root : List ℕ → Option Place) (keeps : Bool) (ask : Ask) → placed root (kept_ask keeps ask) ≡ placed root ask
placed-kept root keeps ask = same_kept (placed root) (λ secret path body. by_root path body (root secret)) keeps ask
  where
    by_root : (path : Segments) (body : List ℕ) (o : Option Place) → placed_at (option_map (λ files. Placed (below files path) (File [])) o) ≡ placed_at (option_map (λ files. Placed (below files path) (File body)) o)
    by_root path body None = refl
    by_root path body (Some files) = refl

after-kept : (root : List ℕ → Option Place) (ps : List Place) (keeps : Bool) (ask : Ask) → after_places root ps (kept_ask keeps ask) ≡ after_places root ps ask
after-kept root ps keeps ask = same_kept (after_places root ps) (λ secret path body. by_root path body (root secret)) keeps ask
  where
    by_root : (path : Segments) (body : List ℕ) (o : Option Place) → places_after (option_map (λ files. Placed (below files path) (File [])) o) ps ≡ places_after (option_map (λ files. Placed (below files path) (File body)) o) ps
    by_root path body None = refl
    by_root path body (Some files) = refl

-- what stands nowhere stands nowhere later
nowhere-stays : (act : Option Act) → places_after act [] ≡ []
nowhere-stays None = refl
nowhere-stays (Some (Placed there standing)) = refl
nowhere-stays (Some (Gone there)) = refl
nowhere-stays (Some (Carried from to moving)) = refl

-- places of an older entry, and of the last
pub places-older : (host : List ℕ) (e : Entry) (l : List Entry) (k : ℕ) → k ≤ length l → places_of host (e ∷ l) k ≡ places_after (act_after host l e.ask) (places_of host l k)
places-older host e l k le = let other : nat_eq k (length l + 1) ≡ false = ne_eqb k (length l + 1) (λ e. absurd (omega arith)) in rw other refl

pub places-last : (host : List ℕ) (e : Entry) (l : List Entry) → places_of host (e ∷ l) (length l + 1) ≡ placed_at (act_after host l e.ask)
places-last host e l = let same : nat_eq (length l + 1) (length l + 1) ≡ true = eq-eqb (length l + 1) (length l + 1) refl in rw same refl

-- ---- entries of a thin list and of the list, by their numbers

-- the values of each entry that stays are the same by its number in the thin list and in the list
abbrev pub Agree : {X : Type 0} → (ℕ → X) → (ℕ → X) → (ℕ → Bool) → Bool → List Entry → Type 0
Agree a b keep first [] = Unit {0}
Agree a b keep first (e ∷ before) =
    (((first && is_tick e.ask) ≡ false → a (length (thin keep (is_tick e.ask) before) + 1) ≡ b (length before + 1)) × Agree a b keep (is_tick e.ask) before)

-- a thin list with one entry more is no shorter
thin-longer : (keep : ℕ → Bool) (first : Bool) (e : Entry) (before : List Entry) → length (thin keep (is_tick e.ask) before) ≤ length (thin keep first (e ∷ before))
thin-longer keep first e before = cases (first && is_tick e.ask)
  where
    rest : List Entry
    rest = thin keep (is_tick e.ask) before

    cases : (b : Bool) → length rest ≤ length (thin_cons b (emptied_unless (keep (length before + 1)) e) rest)
    cases true = omega arith
    cases false = omega arith

thin-next : (keep : ℕ → Bool) (first : Bool) (e : Entry) (before : List Entry) → (first && is_tick e.ask) ≡ false → length (thin keep (is_tick e.ask) before) + 1 ≤ length (thin keep first (e ∷ before))
thin-next keep first e before stays = cases (first && is_tick e.ask) stays
  where
    rest : List Entry
    rest = thin keep (is_tick e.ask) before

    cases : (b : Bool) → b ≡ false → length rest + 1 ≤ length (thin_cons b (emptied_unless (keep (length before + 1)) e) rest)
    cases true h = absurd (cc)
    cases false h = omega arith

-- what is got from values that agree agrees
pub agree-map : {X Y : Type 0} (f : X → Y) (a b : ℕ → X) (c d : ℕ → Y) (keep : ℕ → Bool) (first : Bool) (l : List Entry)
    → ((k : ℕ) → k ≤ length (thin keep first l) → c k ≡ f (a k)) → ((k : ℕ) → k ≤ length l → d k ≡ f (b k)) → Agree a b keep first l → Agree c d keep first l
agree-map f a b c d keep first [] left right agree = tt
agree-map f a b c d keep first (e ∷ before) left right agree = (
  (λ stays. left (length (thin keep (is_tick e.ask) before) + 1) (thin-next keep first e before stays) ∙ ap f (agree.0 stays) ∙ sym (right (length before + 1) (omega arith))),
  agree-map f a b c d keep (is_tick e.ask) before
      (λ k le. left k (let longer = thin-longer keep first e before in omega arith))
      (λ k le. right k (omega arith)) agree.1,
)

-- the places of an entry are the same by its number in the thin list and in the list
pub agree-places : (host : List ℕ) (keep : ℕ → Bool) (first : Bool) (l : List Entry) → Agree (places_of host (thin keep first l)) (places_of host l) keep first l
agree-places host keep first [] = tt
agree-places host keep first (e ∷ before) = cases (agree-places host keep (is_tick e.ask) before) first (is_tick e.ask) refl
  where
    keeps : Bool
    keeps = keep (length before + 1)

    rest : List Entry
    rest = thin keep (is_tick e.ask) before

    root : List ℕ → Option Place
    root = root_among (users before) (made host before)

    done_by : List Place → List Place
    done_by ps = places_after (act_after host before e.ask) ps

    whole : (k : ℕ) → k ≤ length before → places_of host (e ∷ before) k ≡ done_by (places_of host before k)
    whole k le = places-older host e before k le

    older_thin : (k : ℕ) → k ≤ length rest → places_of host (emptied_unless keeps e ∷ rest) k ≡ done_by (places_of host rest k)
    older_thin k le =
        places-older host (emptied_unless keeps e) rest k le
        ∙ ap (λ act. places_after act (places_of host rest k)) (thin-act host keep (is_tick e.ask) before (kept_ask keeps e.ask))
        ∙ after-kept root (places_of host rest k) keeps e.ask

    last_thin : places_of host (emptied_unless keeps e ∷ rest) (length rest + 1) ≡ places_of host (e ∷ before) (length before + 1)
    last_thin =
        places-last host (emptied_unless keeps e) rest
        ∙ ap placed_at (thin-act host keep (is_tick e.ask) before (kept_ask keeps e.ask))
        ∙ placed-kept root keeps e.ask
        ∙ sym (places-last host e before)

    Goal : Bool → Bool → Type 0
    Goal f b = (((f && b) ≡ false → places_of host (thin_cons (f && b) (emptied_unless keeps e) rest) (length rest + 1) ≡ places_of host (e ∷ before) (length before + 1))
        × Agree (places_of host (thin_cons (f && b) (emptied_unless keeps e) rest)) (places_of host (e ∷ before)) keep (is_tick e.ask) before)

    stays : Agree (places_of host rest) (places_of host before) keep (is_tick e.ask) before → Agree (places_of host (emptied_unless keeps e ∷ rest)) (places_of host (e ∷ before)) keep (is_tick e.ask) before
    stays older = agree-map done_by (places_of host rest) (places_of host before) (places_of host (emptied_unless keeps e ∷ rest)) (places_of host (e ∷ before)) keep (is_tick e.ask) before older_thin whole older

    cases : Agree (places_of host rest) (places_of host before) keep (is_tick e.ask) before → (f b : Bool) → is_tick e.ask ≡ b → Goal f b
    cases older true true is =
        let nothing : act_after host before e.ask ≡ None = of_tick (λ a. act_by root a ≡ None) (λ clock. refl) e.ask is in (
          (λ never. absurd (cc)),
          agree-map (λ ps. ps) (places_of host rest) (places_of host before) (places_of host rest) (places_of host (e ∷ before)) keep (is_tick e.ask) before (λ k le. refl)
              (λ k le. whole k le ∙ ap (λ act. places_after act (places_of host before k)) nothing) older,
        )
    cases older true false is = ((λ h. last_thin), stays older)
    cases older false b is = ((λ h. last_thin), stays older)

-- ---- thin lists of thin lists

-- an entry emptied twice
twice : (a b : Bool) (e : Entry) → (b ≡ true → a ≡ true) → emptied_unless b (emptied_unless a e) ≡ emptied_unless b e
twice true b e later = refl
twice false true e later = let never = later refl in absurd (cc)
twice false false e later = ap (λ a. record { ask = a; reply = e.reply }) (again e.ask)
  where
    again : (ask : Ask) → without_body (without_body ask) ≡ without_body ask
    again ask = same_kept2 ask
      where
        same_kept2 : (ask : Ask) → without_body (without_body ask) ≡ without_body ask
        same_kept2 (asks.Dav secret methods.Put path body) = refl
        same_kept2 _ = refl

-- a thin list of a thin list is a thin list of the list, where it keeps the same entries' bodies, and none that is gone already
pub thin-thin : (keep keep_thin keep_whole : ℕ → Bool) (first second : Bool) (l : List Entry) → (first ≡ true → second ≡ true)
    → ((k : ℕ) → k ≤ length l → keep_whole k ≡ true → keep k ≡ true) → Agree keep_thin keep_whole keep first l
    → thin keep_thin second (thin keep first l) ≡ thin keep_whole second l
thin-thin keep keep_thin keep_whole first second [] follows fewer agree = refl
thin-thin keep keep_thin keep_whole first second (e ∷ before) follows fewer agree =
    cases (λ again. thin-thin keep keep_thin keep_whole (is_tick e.ask) (is_tick e.ask) before again (λ k le. fewer k (omega arith)) agree.1)
    first second (is_tick e.ask) refl follows agree.0
  where
    keeps : Bool
    keeps = keep (length before + 1)

    rest : List Entry
    rest = thin keep (is_tick e.ask) before

    Again : Type 0
    Again = (is_tick e.ask ≡ true → is_tick e.ask ≡ true) → thin keep_thin (is_tick e.ask) rest ≡ thin keep_whole (is_tick e.ask) before

    Goal : Bool → Bool → Bool → Type 0
    Goal f s b = thin keep_thin s (thin_cons (f && b) (emptied_unless keeps e) rest) ≡ thin_cons (s && b) (emptied_unless (keep_whole (length before + 1)) e) (thin keep_whole (is_tick e.ask) before)

    stays : Again → (s b : Bool) → is_tick e.ask ≡ b → keep_thin (length rest + 1) ≡ keep_whole (length before + 1)
        → thin keep_thin s (emptied_unless keeps e ∷ rest) ≡ thin_cons (s && b) (emptied_unless (keep_whole (length before + 1)) e) (thin keep_whole (is_tick e.ask) before)
    stays older s b is same =
        ap (λ t. thin_cons (s && t) (emptied_unless (keep_thin (length rest + 1)) (emptied_unless keeps e)) (thin keep_thin t rest)) (is_tick-kept keeps e.ask)
        ∙ ap (λ t. thin_cons (s && is_tick e.ask) (emptied_unless (keep_thin (length rest + 1)) (emptied_unless keeps e)) t) (older (λ h. h))
        ∙ ap (λ t. thin_cons (s && is_tick e.ask) (emptied_unless t (emptied_unless keeps e)) (thin keep_whole (is_tick e.ask) before)) same
        ∙ ap (λ t. thin_cons (s && is_tick e.ask) t (thin keep_whole (is_tick e.ask) before)) (twice keeps (keep_whole (length before + 1)) e (fewer (length before + 1) (omega arith)))
        ∙ ap (λ t. thin_cons (s && t) (emptied_unless (keep_whole (length before + 1)) e) (thin keep_whole (is_tick e.ask) before)) is

    cases : Again → (f s b : Bool) → is_tick e.ask ≡ b → (f ≡ true → s ≡ true) → ((f && b) ≡ false → keep_thin (length rest + 1) ≡ keep_whole (length before + 1)) → Goal f s b
    cases older true true true is follow same = ap (λ t. thin keep_thin t rest) (sym is) ∙ older (λ h. h)
    cases older true false true is follow same = let never = follow refl in absurd (cc)
    cases older true s false is follow same = stays older s false is (same refl)
    cases older false s b is follow same = stays older s b is (same refl)

-- ---- one entry more

abbrev stands_later : Option Act → List Place → Bool
stands_later act ps = are_somewhere (places_after act ps)

stands_later-before : (act : Option Act) (ps : List Place) → stands_later act ps ≡ true → are_somewhere ps ≡ true
stands_later-before act [] h = let never : false ≡ true = sym (ap are_somewhere (nowhere-stays act)) ∙ h in absurd (cc)
stands_later-before act (p ∷ ps) h = refl

-- the lean list decides what is lean with one entry more
pub leaned-step : (host : List ℕ) (e : Entry) (g : List Entry) → leaned host (e ∷ leaned host g) ≡ leaned host (e ∷ g)
leaned-step host e g =
    ap (λ l. leaned host (e ∷ l)) (thin-among host g false g)
    ∙ thin-among host (e ∷ now) false (e ∷ now)
    ∙ ap (λ b. emptied_unless b e ∷ thin (still_stands host (e ∷ now)) (is_tick e.ask) now) last_same
    ∙ ap (λ l. emptied_unless (still_stands host (e ∷ g) (length g + 1)) e ∷ l) rest_same
    ∙ sym (thin-among host (e ∷ g) false (e ∷ g))
  where
    keep : ℕ → Bool
    keep = still_stands host g

    now : List Entry
    now = thin keep false g

    act : Option Act
    act = act_after host g e.ask

    act_same : act_after host now e.ask ≡ act
    act_same = thin-act host keep false g e.ask

    last_same : still_stands host (e ∷ now) (length now + 1) ≡ still_stands host (e ∷ g) (length g + 1)
    last_same = ap are_somewhere (places-last host e now ∙ ap placed_at act_same ∙ sym (places-last host e g))

    agree : Agree (still_stands host (e ∷ now)) (still_stands host (e ∷ g)) keep false g
    agree = agree-map (stands_later act) (places_of host now) (places_of host g) (still_stands host (e ∷ now)) (still_stands host (e ∷ g)) keep false g
        (λ k le. ap are_somewhere (places-older host e now k le ∙ ap (λ a. places_after a (places_of host now k)) act_same))
        (λ k le. ap are_somewhere (places-older host e g k le)) (agree-places host keep false g)

    fewer : (k : ℕ) → k ≤ length g → still_stands host (e ∷ g) k ≡ true → keep k ≡ true
    fewer k le h = stands_later-before act (places_of host g k) (sym (ap are_somewhere (places-older host e g k le)) ∙ h)

    rest_same : thin (still_stands host (e ∷ now)) (is_tick e.ask) now ≡ thin (still_stands host (e ∷ g)) (is_tick e.ask) g
    rest_same = thin-thin keep (still_stands host (e ∷ now)) (still_stands host (e ∷ g)) false (is_tick e.ask) g (λ h. absurd (cc)) fewer agree

-- a lean list is lean
pub leaned-leaned : (host : List ℕ) (g : List Entry) → leaned host (leaned host g) ≡ leaned host g
leaned-leaned host g =
    ap (λ l. leaned host l) (thin-among host g false g)
    ∙ thin-among host now false now
    ∙ thin-thin keep (still_stands host now) keep false false g (λ h. h) (λ k le h. h) agree
    ∙ sym (thin-among host g false g)
  where
    keep : ℕ → Bool
    keep = still_stands host g

    now : List Entry
    now = thin keep false g

    agree : Agree (still_stands host now) keep keep false g
    agree = agree-map are_somewhere (places_of host now) (places_of host g) (still_stands host now) keep keep false g (λ k le. refl) (λ k le. refl) (agree-places host keep false g)
