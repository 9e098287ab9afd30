-- What is kept in memory makes the records of the lean list.
use Rattle.std.proofs.Common.{◌≡◌, ℕ, ◌+◌, List, [], ◌∷◌, ◌++◌, length, Bool, true, false, refl, sym, ap, ◌∙◌, append_assoc, arith, Option, Some, None}
use Rattle.std.specs.Prelude.{if◌then◌else◌, unwrap_or}
use Rattle.std.specs.Option.{option_or}
use Rattle.std.proofs.lemmas.List.{length-append}
use Rattle.ocm_path.specs.Paths.{Segments}
use Rattle.ocm_entry.specs.declared.asks.Ask.{Ask}
use Rattle.ocm_entry.specs.declared.asks.Ask.TheVariants as asks
use Rattle.ocm_entry.specs.declared.asks.Method.TheVariants as methods
use Rattle.ocm_entry.specs.declared.entries.Entry.{Entry}
use Rattle.ocm_entry_bytes.specs.Spells.{counted, eight_bytes}
use Rattle.ocm_rules.specs.History.{kept}
use Rattle.ocm_rules.specs.Lean.{emptied_among, emptied_unless, lean, still_stands, without_body}
use Rattle.ocm_entry.specs.Ticks.{is_tick}
use Rattle.ocm_rules.specs.Shares.{clock_of, moment}
use Rattle.ocm_law_lean.proofs.Thin.{kept_ask, is_tick-kept, same_kept}
use Rattle.ocm_law_sessions.specs.Sessions.{heard, would_change}
use Rattle.ocm_law_sessions.specs.Written.{ask_records, record_of, records_of, stamp}
use Rattle.ocm_law_sessions.proofs.Entries.{clocks}
use Rattle.ocm_law_sessions.proofs.Passing.{lean-records}
use Rattle.ocm_law_sessions.proofs.Replying.{kept-changed}
use Rattle.ocm_history_records.specs.declared.kept.KeptRecord.{KeptRecord}
use Rattle.ocm_history_records.specs.Kept.{is_tick_record, kept_at, kept_of, kept_records, lean_asks, lean_text, lean_texts, put_front}

-- ---- lists of what is kept

pub length-kept_records : (k : List Entry) → length (kept_records k) ≡ length k
length-kept_records [] = refl
length-kept_records (e ∷ before) =
    let older = length-kept_records before in
    let both = length-append (kept_records before) (kept_at (moment (e ∷ before)) e.ask ∷ []) in
    omega arith

pub lean_asks-append : (bodies : ℕ → Option (List ℕ)) (number next : ℕ) (xs ys : List KeptRecord) → next ≡ number + length xs
    → lean_asks bodies number (xs ++ ys) ≡ lean_asks bodies number xs ++ lean_asks bodies next ys
lean_asks-append bodies number next [] ys is = let same : number ≡ next = omega arith in ap (λ n. lean_asks bodies n ys) same
lean_asks-append bodies number next (r ∷ rs) ys is = by_tick (lean_asks-append bodies (number + 1) next rs ys (omega arith)) (is_tick_record r)
  where
    by_tick : lean_asks bodies (number + 1) (rs ++ ys) ≡ lean_asks bodies (number + 1) rs ++ lean_asks bodies next ys
        → (b : Bool)
        → (if b then lean_asks bodies (number + 1) (rs ++ ys) else lean_text r (bodies number) ∷ lean_asks bodies (number + 1) (rs ++ ys))
        ≡ (if b then lean_asks bodies (number + 1) rs else lean_text r (bodies number) ∷ lean_asks bodies (number + 1) rs) ++ lean_asks bodies next ys
    by_tick rest true = rest
    by_tick rest false = ap (λ ts. lean_text r (bodies number) ∷ ts) rest

-- ---- moments

clocks-emptied : (host : List ℕ) (g l : List Entry) → clocks (emptied_among host g l) ≡ clocks l
clocks-emptied host g [] = refl
clocks-emptied host g (e ∷ before) =
    ap (λ o. option_or o (clocks (emptied_among host g before))) (same_kept clock_of (λ secret path body. refl) (still_stands host g (length before + 1)) e.ask)
    ∙ ap (λ o. option_or (clock_of e.ask) o) (clocks-emptied host g before)

-- emptying keeps the moment
pub moment-emptied : (host : List ℕ) (g l : List Entry) → moment (emptied_among host g l) ≡ moment l
moment-emptied host g l = ap (λ o. unwrap_or o 0) (clocks-emptied host g l)

-- ---- one record

-- the spelling of a PUT is its front, and behind it the body
pub put-text : (clock : ℕ) (secret : List ℕ) (path : Segments) (body : List ℕ)
    → (eight_bytes clock ++ put_front secret path) ++ counted body ≡ stamp clock (asks.Dav secret methods.Put path body)
put-text clock secret path body = append_assoc (eight_bytes clock) (put_front secret path) (counted body)

-- the body of a PUT, where it stands
abbrev pub body_if : Bool → List ℕ → Option (List ℕ)
body_if stands body = if stands then Some body else None

kept_ask-other : (stands : Bool) (ask : Ask) → without_body ask ≡ ask → ask ≡ kept_ask stands ask
kept_ask-other true ask same = refl
kept_ask-other false ask same = sym same

-- the record of what is kept is that of the ask, without its body unless it stands
text-kept : (clock : ℕ) (ask : Ask) (stands : Bool) (standing : Option (List ℕ))
    → ((secret : List ℕ) (path : Segments) (body : List ℕ) → ask ≡ asks.Dav secret methods.Put path body → standing ≡ body_if stands body)
    → lean_text (kept_at clock ask) standing ≡ stamp clock (kept_ask stands ask)
text-kept clock (asks.Dav secret methods.Put path body) stands standing h =
    ap (λ o. (eight_bytes clock ++ put_front secret path) ++ counted (unwrap_or o [])) (h secret path body refl) ∙ by_test stands
  where
    by_test : (b : Bool) → (eight_bytes clock ++ put_front secret path) ++ counted (unwrap_or (body_if b body) []) ≡ stamp clock (kept_ask b (asks.Dav secret methods.Put path body))
    by_test true = put-text clock secret path body
    by_test false = put-text clock secret path []
text-kept clock ask stands standing h = ap (λ a. stamp clock a) (kept_ask-other stands ask refl)

-- by these numbers of its entries stand the bodies of a list that still stand
abbrev pub AreStanding : List ℕ → List Entry → (ℕ → Option (List ℕ)) → Type 0
AreStanding host k bodies = (later before : List Entry) (e : Entry) (secret : List ℕ) (path : Segments) (body : List ℕ) → later ++ e ∷ before ≡ k → e.ask ≡ asks.Dav secret methods.Put path body
    → bodies (length before + 1) ≡ body_if (still_stands host k (length before + 1)) body

-- the record of an entry of a list, without its body unless that stands
one-text : (host : List ℕ) (bodies : ℕ → Option (List ℕ)) (later before k : List Entry) (e : Entry) → AreStanding host k bodies → later ++ e ∷ before ≡ k
    → lean_text (kept_at (moment (e ∷ before)) e.ask) (bodies (length before + 1))
    ≡ record_of 2 (emptied_among host k before) (emptied_unless (still_stands host k (length before + 1)) e)
unfolding record_of
one-text host bodies later before k e are is =
    text-kept (moment (e ∷ before)) e.ask (still_stands host k (length before + 1)) (bodies (length before + 1)) (λ secret path body put. are later before e secret path body is put)
    ∙ ap (λ n. stamp n (kept_ask (still_stands host k (length before + 1)) e.ask)) (sym (moments (still_stands host k (length before + 1))))
  where
    moments : (stands : Bool) → moment (emptied_unless stands e ∷ emptied_among host k before) ≡ moment (e ∷ before)
    moments stands =
        ap (λ o. unwrap_or (option_or o (clocks (emptied_among host k before))) 0) (same_kept clock_of (λ secret path body. refl) stands e.ask)
        ∙ ap (λ o. unwrap_or (option_or (clock_of e.ask) o) 0) (clocks-emptied host k before)

-- ---- all records

pub is_tick-record : (clock : ℕ) (ask : Ask) → is_tick_record (kept_at clock ask) ≡ is_tick ask
is_tick-record clock (asks.Tick next) = refl
is_tick-record clock (asks.Dav secret methods.Put path body) = refl
is_tick-record clock _ = refl

-- what the records of asks are with one more
abbrev pub with_record : Bool → List (List ℕ) → List ℕ → List (List ℕ)
with_record tick older r = if tick then older else older ++ r ∷ []

pub with-one : (bodies : ℕ → Option (List ℕ)) (number : ℕ) (older : List (List ℕ)) (r : KeptRecord)
    → older ++ lean_asks bodies number (r ∷ []) ≡ with_record (is_tick_record r) older (lean_text r (bodies number))
with-one bodies number older r = by_tick (is_tick_record r)
  where
    none : List (List ℕ)
    none = []

    whole : (xs : List (List ℕ)) → xs ++ none ≡ xs
    whole [] = refl
    whole (x ∷ xs) = ap (λ l. x ∷ l) (whole xs)

    by_tick : (b : Bool) → older ++ (if b then none else lean_text r (bodies number) ∷ none) ≡ with_record b older (lean_text r (bodies number))
    by_tick true = whole older
    by_tick false = refl

-- of the first entries of a list, the records that no ticks have
pub asks-emptied : (host : List ℕ) (bodies : ℕ → Option (List ℕ)) (later l k : List Entry) → AreStanding host k bodies → later ++ l ≡ k
    → lean_asks bodies 1 (kept_records l) ≡ ask_records (emptied_among host k l)
asks-emptied host bodies later [] k are is = refl
asks-emptied host bodies later (e ∷ before) k are is =
    lean_asks-append bodies 1 (length before + 1) (kept_records before) (newest ∷ []) (let len = length-kept_records before in omega arith)
    ∙ with-one bodies (length before + 1) (lean_asks bodies 1 (kept_records before)) newest
    ∙ ap (λ b. with_record b (lean_asks bodies 1 (kept_records before)) (lean_text newest (bodies (length before + 1)))) ticks
    ∙ ap (λ rs. with_record (is_tick (kept_ask stands e.ask)) rs (lean_text newest (bodies (length before + 1)))) (asks-emptied host bodies (later ++ e ∷ []) before k are (append_assoc later (e ∷ []) before ∙ is))
    ∙ ap (λ r. with_record (is_tick (kept_ask stands e.ask)) (ask_records (emptied_among host k before)) r) (one-text host bodies later before k e are is)
  where
    newest : KeptRecord
    newest = kept_at (moment (e ∷ before)) e.ask

    stands : Bool
    stands = still_stands host k (length before + 1)

    ticks : is_tick_record newest ≡ is_tick (kept_ask stands e.ask)
    ticks = is_tick-record (moment (e ∷ before)) e.ask ∙ sym (is_tick-kept stands e.ask)

-- the records of the lean list with one entry more
pub texts-emptied : (host : List ℕ) (g : List Entry) (ask : Ask) (bodies : ℕ → Option (List ℕ)) → AreStanding host (heard host g ask ∷ kept host g) bodies → would_change host g ask ≡ true
    → lean_texts bodies (kept_records (kept host g)) (kept_of host g ask) ≡ records_of (lean host (heard host g ask ∷ g))
texts-emptied host g ask bodies are changes =
    ap (λ rs. rs ++ lean_text (kept_of host g ask) (bodies (length (kept_records (kept host g)) + 1)) ∷ []) (asks-emptied host bodies (newest ∷ []) (kept host g) (newest ∷ kept host g) are refl)
    ∙ ap (λ n. ask_records (emptied_among host (newest ∷ kept host g) (kept host g)) ++ lean_text (kept_of host g ask) (bodies (n + 1)) ∷ []) (length-kept_records (kept host g))
    ∙ ap (λ r. ask_records (emptied_among host (newest ∷ kept host g) (kept host g)) ++ r ∷ []) (one-text host bodies [] (kept host g) (newest ∷ kept host g) newest are refl)
    ∙ ap (λ k. records_of (emptied_among host k k)) (sym (kept-changed host g ask changes))
    ∙ sym (lean-records host (newest ∷ g))
  where
    newest : Entry
    newest = heard host g ask
