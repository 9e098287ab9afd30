-- What is written of an ask that changes something, and how the records that are kept grow by it.
use Rattle.std.proofs.Common.{◌≡◌, ◌==◌, ℕ, ◌+◌, ◌≤◌, List, [], ◌∷◌, ◌++◌, length, min, Bool, true, false, refl, sym, ap, ◌∙◌, subst, arith, Option, Some, None}
use Rattle.std.specs.Prelude.{if◌then◌else◌, count_by, not, unwrap_or}
use Rattle.std.specs.Option.{option_or}
use Rattle.std.proofs.lemmas.List.{length-append}
use Rattle.ocm_entry.specs.declared.asks.Ask.{Ask}
use Rattle.ocm_entry.specs.declared.entries.Entry.{Entry}
use Rattle.ocm_entry_bytes.specs.Spells.{Fits, eight_bytes, spelling}
use Rattle.ocm_journal_image.specs.Layout.{AreRecords, blocks_size}
use Rattle.ocm_rules.specs.History.{kept}
use Rattle.ocm_rules.specs.Lean.{count, emptied_among, lean}
use Rattle.ocm_entry.specs.Ticks.{is_tick}
use Rattle.ocm_rules.specs.Shares.{moment}
use Rattle.ocm_rules.proofs.Lists.{count_by-cons}
use Rattle.ocm_law_sessions.specs.Sessions.{heard, would_change}
use Rattle.ocm_law_sessions.specs.Written.{IsSpelled, asks_size, record_of, stamp}
use Rattle.ocm_law_sessions.proofs.Entries.{clocks}
use Rattle.ocm_law_sessions.proofs.Replying.{kept-changed}
use Rattle.ocm_law_sessions.proofs.Sizes.{asks-size, records-lengths}
use Rattle.ocm_law_sessions.proofs.Spelling.{lean-spelled}
use Rattle.ocm_history_records.specs.declared.drafts.Draft.{Draft}
use Rattle.ocm_history_records.specs.Drafts.{IsDraft}
use Rattle.ocm_history_records.specs.Kept.{IsBound, is_tick_record, kept_at, kept_of, kept_records, lean_asks, lean_texts}
use Rattle.ocm_history_records.proofs.Fields.{eight-long, stamp-other}
use Rattle.ocm_history_records.proofs.Growing.{asks_size-lean, size-grows}
use Rattle.ocm_history_records.proofs.Leaning.{AreStanding, asks-emptied, is_tick-record, texts-emptied}

-- ---- drafts

-- the moment at an ask is its clock, or else the one so far
pub moment-with : (o : Option ℕ) (k : List Entry) → unwrap_or (option_or o (clocks k)) 0 ≡ unwrap_or o (moment k)
moment-with None k = refl
moment-with (Some clock) k = refl

pub draft-of : (host : List ℕ) (form : ℕ) (g : List Entry) (ask : Ask) (clock : ℕ) (draft : Draft) → clock ≡ moment (heard host g ask ∷ kept host g)
    → draft.written ≡ (if form == 1 then spelling ask else stamp clock ask) → draft.newest ≡ kept_at clock ask → draft.size ≡ 5 + length (stamp clock ask) → IsDraft host form g ask draft
unfolding record_of
draft-of host form g ask clock draft is written newest size = record {
  text = written ∙ ap (λ n. if form == 1 then spelling ask else stamp n ask) is;
  memory = newest ∙ ap (λ n. kept_at n ask) is;
  size = size ∙ ap (λ n. 5 + length (stamp n ask)) is;
}

-- the size of a draft's record in form 2
draft-size : (host : List ℕ) (form : ℕ) (g : List Entry) (ask : Ask) (draft : Draft) → IsDraft host form g ask draft → is_tick ask ≡ false → draft.size ≡ 13 + length (spelling ask)
unfolding record_of
draft-size host form g ask draft drafted other =
    let m : ℕ = moment (heard host g ask ∷ kept host g) in
    let eight = eight-long m in
    let both = length-append (eight_bytes m) (spelling ask) in
    let size = drafted.size ∙ ap (λ t. 5 + length t) (stamp-other m ask other) in
    omega arith

-- the bound with a draft's record is one on the lean list with its entry
pub most-drafted : (host : List ℕ) (form : ℕ) (g : List Entry) (ask : Ask) (draft : Draft) (size most : ℕ) → would_change host g ask ≡ true → IsDraft host form g ask draft → IsBound size (asks_size (lean host g))
    → most ≡ min (size + (if is_tick_record draft.newest then 0 else draft.size)) 18446744073709551615 → IsBound most (asks_size (lean host (heard host g ask ∷ g)))
most-drafted host form g ask draft size most changes drafted bound is = by_tick (is_tick ask) refl
  where
    grows : asks_size (lean host (heard host g ask ∷ g)) ≤ asks_size (lean host g) + (if is_tick ask then 0 else 13 + length (spelling ask))
    grows = size-grows host g ask changes

    tick : is_tick_record draft.newest ≡ is_tick ask
    tick = ap is_tick_record drafted.memory ∙ is_tick-record _ ask

    by_tick : (b : Bool) → is_tick ask ≡ b → IsBound most (asks_size (lean host (heard host g ask ∷ g)))
    by_tick true e =
        let more = rw e at grows in
        let sum = rw (tick ∙ e) at is in
        omega (arith, bound, more, sum)
    by_tick false e =
        let more = rw e at grows in
        let sum = rw (tick ∙ e) at is in
        let len = draft-size host form g ask draft drafted e in
        omega (arith, bound, more, sum, len)

-- ---- one entry more

-- of no tick there is one more, unless it is one
pub count-grows : (host : List ℕ) (g : List Entry) (ask : Ask) → would_change host g ask ≡ true → count host g + (if is_tick_record (kept_of host g ask) then 0 else 1) ≡ count host (heard host g ask ∷ g)
count-grows host g ask changes =
    ap (λ b. count host g + (if b then 0 else 1)) (is_tick-record (moment (newest ∷ kept host g)) ask)
    ∙ one_more (is_tick ask) (count host g)
    ∙ sym (count_by-cons is_counted newest (kept host g))
    ∙ ap (λ k. count_by is_counted k) (sym (kept-changed host g ask changes))
  where
    newest : Entry
    newest = heard host g ask

    is_counted : Entry → Bool
    is_counted e = not (is_tick e.ask)

    one_more : (b : Bool) (n : ℕ) → n + (if b then 0 else 1) ≡ (if not b then n + 1 else n)
    one_more true n = omega arith
    one_more false n = refl

-- each still has a spelling
pub spelled-more : (host : List ℕ) (g : List Entry) (ask : Ask) → would_change host g ask ≡ true → Fits ask → IsSpelled (kept host g) → IsSpelled (kept host (heard host g ask ∷ g))
spelled-more host g ask changes fits spelled = subst IsSpelled (sym (kept-changed host g ask changes)) (fits, spelled)

-- the records of the lean list with it are ones that a journal takes
pub texts-lengths : (host : List ℕ) (g : List Entry) (ask : Ask) (bodies : ℕ → Option (List ℕ)) → AreStanding host (heard host g ask ∷ kept host g) bodies → would_change host g ask ≡ true
    → Fits ask → IsSpelled (kept host g) → AreRecords (lean_texts bodies (kept_records (kept host g)) (kept_of host g ask))
texts-lengths host g ask bodies are changes fits spelled =
    let with_it : List Entry = heard host g ask ∷ g in
    subst AreRecords (sym (texts-emptied host g ask bodies are changes)) (records-lengths (lean host with_it) (lean-spelled host with_it (spelled-more host g ask changes fits spelled)))

-- the size of those that are of no tick
pub asks-sized : (host : List ℕ) (g : List Entry) (ask : Ask) (bodies : ℕ → Option (List ℕ)) → AreStanding host (heard host g ask ∷ kept host g) bodies → would_change host g ask ≡ true
    → blocks_size (lean_asks bodies 1 (kept_records (kept host g) ++ kept_of host g ask ∷ [])) ≡ asks_size (lean host (heard host g ask ∷ g))
asks-sized host g ask bodies are changes =
    let k : List Entry = heard host g ask ∷ kept host g in
    ap blocks_size (asks-emptied host bodies [] k k are refl)
    ∙ asks-size (emptied_among host k k)
    ∙ ap (λ l. asks_size (emptied_among host l l)) (sym (kept-changed host g ask changes))
    ∙ sym (asks_size-lean host (heard host g ask ∷ g))
