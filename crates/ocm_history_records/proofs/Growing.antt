-- With one entry more the records of asks take at most its record more.
use Rattle.std.proofs.Common.{◌≡◌, ℕ, ◌+◌, ◌≤◌, List, [], ◌∷◌, ◌++◌, length, Bool, true, false, refl, sym, ap, ◌∙◌, append_assoc, arith, Option, Some, None}
use Rattle.std.specs.Prelude.{if◌then◌else◌, ◌&&◌, nat_eq}
use Rattle.std.proofs.lemmas.Bool.Decides.{nat_tests}
use Rattle.std.proofs.lemmas.List.{length-append}
use Rattle.ocm_path.specs.Paths.{path_text}
use Rattle.ocm_entry.specs.declared.asks.Ask.{Ask}
use Rattle.ocm_entry.specs.declared.asks.Ask.TheVariants as asks
use Rattle.ocm_entry.specs.declared.asks.Method.TheVariants as methods
use Rattle.ocm_entry.specs.declared.entries.Entry.{Entry}
use Rattle.ocm_entry.specs.declared.rows.Place.{Place}
use Rattle.ocm_entry_bytes.specs.Spells.{counted, spelling, text}
use Rattle.ocm_rules.specs.Files.{Act, Placed, Gone, Carried, act_after}
use Rattle.ocm_rules.specs.History.{kept}
use Rattle.ocm_rules.specs.Lean.{are_somewhere, emptied_among, lean, placed_at, places_after, places_of, still_stands, without_body, without_passed_ticks}
use Rattle.ocm_entry.specs.Ticks.{is_tick}
use Rattle.ocm_law_lean.proofs.Thin.{kept_ask, is_tick-kept}
use Rattle.ocm_law_sessions.specs.Sessions.{heard, would_change}
use Rattle.ocm_law_sessions.specs.Written.{asks_size}
use Rattle.ocm_law_sessions.proofs.Replying.{kept-changed}
use Rattle.ocm_history_records.proofs.Fields.{counted-long}

-- ---- what no longer stands does not come back

places-none : (act : Option Act) → places_after act [] ≡ []
places-none None = refl
places-none (Some (Placed there standing)) = refl
places-none (Some (Gone there)) = refl
places-none (Some (Carried from to moving)) = refl

-- what stood nowhere stands nowhere after one entry more
gone-later : (host : List ℕ) (e : Entry) (k : List Entry) (n : ℕ) → n ≤ length k → still_stands host k n ≡ false → still_stands host (e ∷ k) n ≡ false
gone-later host e k n old gone =
    ap (λ b. are_somewhere (if b then placed_at act else places_after act (places_of host k n))) other
    ∙ by_places (places_of host k n) gone
  where
    act : Option Act
    act = act_after host k e.ask

    other : nat_eq n (length k + 1) ≡ false
    other = grind (arith, nat_tests)

    by_places : (ps : List Place) → are_somewhere ps ≡ false → are_somewhere (places_after act ps) ≡ false
    by_places [] h = ap are_somewhere (places-none act)
    by_places (p ∷ ps) h = absurd (cc)

-- ---- emptied spellings are not longer

put-shorter : (front body : List ℕ) → length (front ++ counted []) ≤ length (front ++ counted body)
put-shorter front body =
    let bare = length-append front (counted []) in
    let full = length-append front (counted body) in
    let four = counted-long [] in
    let more = counted-long body in
    omega arith

emptied-shorter : (ask : Ask) → length (spelling (without_body ask)) ≤ length (spelling ask)
emptied-shorter (asks.Dav secret methods.Put path body) = put-shorter (5 ∷ 1 ∷ text secret ++ text (path_text path)) body
emptied-shorter _ = omega arith

-- a body that stands no longer than another makes no longer spelling
kept-shorter : (now before : Bool) (ask : Ask) → (before ≡ false → now ≡ false) → length (spelling (kept_ask now ask)) ≤ length (spelling (kept_ask before ask))
kept-shorter true true ask h = omega arith
kept-shorter true false ask h = let never : true ≡ false = h refl in absurd (cc)
kept-shorter false true ask h = emptied-shorter ask
kept-shorter false false ask h = omega arith

kept-longest : (now : Bool) (ask : Ask) → length (spelling (kept_ask now ask)) ≤ length (spelling ask)
kept-longest true ask = omega arith
kept-longest false ask = emptied-shorter ask

-- ---- sizes

-- the size with the record of an ask
abbrev with_size : Bool → ℕ → ℕ → ℕ
with_size tick older len = if tick then older else older + (13 + len)

sizes-below : (b c : Bool) (x y m n : ℕ) → b ≡ c → x ≤ y → m ≤ n → with_size b x m ≤ with_size c y n
sizes-below true true x y m n same less fewer = less
sizes-below true false x y m n same less fewer = absurd (cc)
sizes-below false true x y m n same less fewer = absurd (cc)
sizes-below false false x y m n same less fewer = omega arith

-- of the first entries of a list, the records take no more after one entry more
size-later : (host : List ℕ) (e : Entry) (later l k : List Entry) → later ++ l ≡ k → asks_size (emptied_among host (e ∷ k) l) ≤ asks_size (emptied_among host k l)
size-later host e later [] k is = omega arith
size-later host e later (x ∷ before) k is =
    sizes-below (is_tick (kept_ask now x.ask)) (is_tick (kept_ask then_ x.ask)) (asks_size (emptied_among host (e ∷ k) before)) (asks_size (emptied_among host k before))
    (length (spelling (kept_ask now x.ask))) (length (spelling (kept_ask then_ x.ask)))
    (is_tick-kept now x.ask ∙ sym (is_tick-kept then_ x.ask))
    (size-later host e (later ++ x ∷ []) before k (append_assoc later (x ∷ []) before ∙ is))
    (kept-shorter now then_ x.ask (gone-later host e k (length before + 1) old))
  where
    now : Bool
    now = still_stands host (e ∷ k) (length before + 1)

    then_ : Bool
    then_ = still_stands host k (length before + 1)

    old : length before + 1 ≤ length k
    old = let both = length-append later (x ∷ before) in let len = ap length is in omega arith

-- passed ticks take nothing
size-passed : (tick_follows : Bool) (l : List Entry) → asks_size (without_passed_ticks tick_follows l) ≡ asks_size l
size-passed tick_follows [] = refl
size-passed tick_follows (e ∷ before) = cases (size-passed (is_tick e.ask) before) tick_follows (is_tick e.ask) refl
  where
    rest : List Entry
    rest = without_passed_ticks (is_tick e.ask) before

    len : ℕ
    len = length (spelling e.ask)

    stays : asks_size rest ≡ asks_size before → asks_size (e ∷ rest) ≡ with_size (is_tick e.ask) (asks_size before) len
    stays older = ap (λ n. with_size (is_tick e.ask) n len) older

    cases : asks_size rest ≡ asks_size before → (follows b : Bool) → is_tick e.ask ≡ b → asks_size (if follows && b then rest else e ∷ rest) ≡ with_size b (asks_size before) len
    cases older true true is = older
    cases older true false is = stays older ∙ ap (λ b. with_size b (asks_size before) len) is
    cases older false b is = stays older ∙ ap (λ b. with_size b (asks_size before) len) is

pub asks_size-lean : (host : List ℕ) (g : List Entry) → asks_size (lean host g) ≡ asks_size (emptied_among host (kept host g) (kept host g))
asks_size-lean host g = size-passed false (emptied_among host (kept host g) (kept host g))

-- with one entry more there is at most its record more
pub size-grows : (host : List ℕ) (g : List Entry) (ask : Ask) → would_change host g ask ≡ true
    → asks_size (lean host (heard host g ask ∷ g)) ≤ asks_size (lean host g) + (if is_tick ask then 0 else 13 + length (spelling ask))
size-grows host g ask changes =
    let with_it = asks_size-lean host (heard host g ask ∷ g) ∙ ap (λ k. asks_size (emptied_among host k k)) (kept-changed host g ask changes) in
    let without_it = asks_size-lean host g in
    let grown = grows (kept host g) (heard host g ask) in
    omega arith
  where
    behind : (b : Bool) (n m : ℕ) → with_size b n m ≡ n + (if b then 0 else 13 + m)
    behind true n m = omega arith
    behind false n m = refl

    grows : (k : List Entry) (e : Entry) → asks_size (emptied_among host (e ∷ k) (e ∷ k)) ≤ asks_size (emptied_among host k k) + (if is_tick e.ask then 0 else 13 + length (spelling e.ask))
    grows k e =
        let stands : Bool = still_stands host (e ∷ k) (length k + 1) in
        let below = sizes-below (is_tick (kept_ask stands e.ask)) (is_tick e.ask) (asks_size (emptied_among host (e ∷ k) k)) (asks_size (emptied_among host k k))
        (length (spelling (kept_ask stands e.ask))) (length (spelling e.ask)) (is_tick-kept stands e.ask) (size-later host e [] k k refl) (kept-longest stands e.ask) in
        let sum = behind (is_tick e.ask) (asks_size (emptied_among host k k)) (length (spelling e.ask)) in
        omega arith
