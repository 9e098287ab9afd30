-- How the memory of a server goes over to a further history.
use Rattle.std.proofs.Common.{◌≡◌, ℕ, ◌+◌, ◌<◌, List, [], ◌∷◌, ◌++◌, length, min, true, false, sym, ap, ◌∙◌, subst, arith, Option}
use Rattle.std.specs.Prelude.{if◌then◌else◌, count_by, not}
use Rattle.ocm_entry.specs.declared.asks.Ask.{Ask}
use Rattle.ocm_entry.specs.declared.entries.Entry.{Entry}
use Rattle.ocm_entry.specs.declared.replies.Reply.{Reply}
use Rattle.ocm_entry.specs.Proper.{is_proper}
use Rattle.ocm_entry_bytes.specs.Spells.{Fits, has_spelling}
use Rattle.ocm_journal_image.specs.Layout.{AreRecords, blocks_size}
use Rattle.ocm_rules.specs.History.{changes, changes_in, is_failure, kept}
use Rattle.ocm_rules.specs.Lean.{count, lean, leaned}
use Rattle.ocm_entry.specs.Ticks.{is_tick}
use Rattle.ocm_rules.specs.State.{State, after, step, view_in}
use Rattle.ocm_law_sessions.specs.Sessions.{heard, would_change}
use Rattle.ocm_law_sessions.specs.Written.{IsSpelled, asks_size, records_of}
use Rattle.ocm_law_sessions.proofs.Keeping.{changes-spelled}
use Rattle.ocm_law_sessions.proofs.Replying.{kept-changed, kept-failure, kept-unchanged}
use Rattle.ocm_tables.specs.Changes.{is_kept}
use Rattle.ocm_plan.specs.Plans.{Plan, Plans}
use Rattle.ocm_core.specs.Standing.{IsAfter, IsNumbered}
use Rattle.ocm_core.proofs.Numbers.{numbered-same}
use Rattle.ocm_law_origins.specs.Origins.{origins}
use Rattle.ocm_core.proofs.Standing.{IsAfter-answered, IsAfter-failed, changes-after, reply-after}
use Rattle.ocm_core.specs.Standing.{standing_body}
use Rattle.ocm_history_records.specs.declared.drafts.Draft.{Draft}
use Rattle.ocm_history_records.specs.declared.kept.KeptRecord.{KeptRecord}
use Rattle.ocm_history_records.specs.Kept.{IsBound, asked_size, is_tick_record, kept_of, kept_records, lean_asks, lean_text, lean_texts}
use Rattle.ocm_history_records.proofs.Counting.{size-behind}
use Rattle.ocm_history_records.proofs.Drafting.{asks-sized, count-grows, most-drafted, spelled-more, texts-lengths}
use Rattle.ocm_history_records.proofs.Leaning.{length-kept_records}
use Rattle.ocm_history.specs.declared.histories.History.{History}
use Rattle.ocm_history.specs.Changes.{IsChange, told}
use Rattle.ocm_history.specs.Histories.{IsOf, SameMemory, home_of}
use Rattle.ocm_history.specs.Kept.{bodies_with}
use Rattle.ocm_history.proofs.Leaning.{bodies-stand, texts-lean}

-- ---- plans

-- what is planned is the answer
pub told-heard : (st : State) (g : List Entry) (ask : Ask) (plan : Plan) → IsAfter st g → Plans st ask plan → told ask plan.reply ≡ heard st.host g ask
told-heard st g ask plan after plans = let own : Reply → Entry = λ r. told ask r in ap own (plans.reply ∙ reply-after st g ask after)

-- and it changes something exactly where the ask would
pub would-plan : (st : State) (g : List Entry) (ask : Ask) (plan : Plan) → IsAfter st g → Plans st ask plan → would_change st.host g ask ≡ is_kept plan.change
would-plan st g ask plan after plans =
    ap (λ e. changes st.host (kept st.host g) e) (sym (told-heard st g ask plan after plans)) ∙ sym (changes-after st g ask plan.reply after) ∙ sym plans.kept

-- so it has a spelling
pub plan-spelled : (st : State) (ask : Ask) (plan : Plan) → Plans st ask plan → is_kept plan.change ≡ true → is_proper ask ≡ true → has_spelling ask ≡ true
plan-spelled st ask plan plans changes proper =
    changes-spelled (view_in st) ask proper (ap (changes_in (view_in st) ask) (sym plans.reply) ∙ sym plans.kept ∙ changes)

-- ---- the same memory

pub same-of : (old new : History) (g : List Entry) → SameMemory old new → IsOf old g → IsOf new g
same-of old new g same memory = record {
  lists = subst (λ st. IsAfter st g) (sym same.lists) memory.lists;
  numbered = λ few. (let numbers = memory.numbered (subst (λ (st : State). length (kept st.host g) < 18446744073709551615) same.lists few) in record {
    count = same.entries ∙ numbers.count ∙ ap (λ (st : State). length (kept st.host g)) (sym same.lists);
    places = same.origins ∙ numbers.places ∙ ap (λ (st : State). origins st.host (kept st.host g)) (sym same.lists);
  });
  records = same.records ∙ memory.records ∙ ap (λ (st : State). kept_records (kept st.host g)) (sym same.lists);
  asks = same.asks ∙ memory.asks ∙ ap (λ (st : State). count st.host g) (sym same.lists);
  size = let P : State → Type 0 = λ st. IsBound new.records.size (asks_size (lean st.host g)) in
      subst P (sym same.lists) (subst (λ n. IsBound n (asks_size (lean (home_of old) g))) (sym same.size) memory.size);
  spelled = let P : State → Type 0 = λ st. IsSpelled (kept st.host g) in subst P (sym same.lists) memory.spelled;
}

-- ---- a change is made

-- the memory with one entry more
grown-of : (old new : History) (g : List Entry) (ask : Ask) → IsOf old g → would_change (home_of old) g ask ≡ true → Fits ask
    → IsAfter new.core.state (heard (home_of old) g ask ∷ g) → IsNumbered new.core (heard (home_of old) g ask ∷ g) → home_of new ≡ home_of old
    → new.records.items ≡ old.records.items ++ kept_of (home_of old) g ask ∷ [] → new.records.asks ≡ old.records.asks + (if is_tick_record (kept_of (home_of old) g ask) then 0 else 1)
    → IsBound new.records.size (asks_size (lean (home_of old) (heard (home_of old) g ask ∷ g))) → IsOf new (heard (home_of old) g ask ∷ g)
grown-of old new g ask memory changes fits after numbered home items asks size = record {
  lists = after;
  numbered = numbered;
  records = items ∙ ap (λ rs. rs ++ kept_of host g ask ∷ []) memory.records ∙ ap kept_records (sym grown) ∙ ap (λ h. kept_records (kept h (newest ∷ g))) (sym home);
  asks = asks ∙ ap (λ n. n + (if is_tick_record (kept_of host g ask) then 0 else 1)) memory.asks ∙ count-grows host g ask changes ∙ ap (λ h. count h (newest ∷ g)) (sym home);
  size = subst (λ h. IsBound new.records.size (asks_size (lean h (newest ∷ g)))) (sym home) size;
  spelled = subst (λ h. IsSpelled (kept h (newest ∷ g))) (sym home) (spelled-more host g ask changes fits memory.spelled);
}
  where
    host : List ℕ
    host = home_of old

    newest : Entry
    newest = heard host g ask

    grown : kept host (newest ∷ g) ≡ newest ∷ kept host g
    grown = kept-changed host g ask changes

-- what is planned and drafted, and made
pub made-of : (old new : History) (g : List Entry) (ask : Ask) (plan : Plan) (form : ℕ) (draft : Draft) (newest : KeptRecord) (size : ℕ) (reply : Reply)
    → IsChange old g ask plan form draft → newest ≡ draft.newest → IsBound size (asks_size (lean (home_of old) (heard (home_of old) g ask ∷ g))) → reply ≡ plan.reply
    → IsAfter new.core.state (told ask reply ∷ g) → IsNumbered new.core (told ask reply ∷ g) → home_of new ≡ home_of old
    → new.records.items ≡ old.records.items ++ newest ∷ [] → new.records.asks ≡ old.records.asks + (if is_tick_record newest then 0 else 1) → new.records.size ≡ size
    → IsOf new (told ask reply ∷ g)
made-of old new g ask plan form draft newest size reply change is bound replied after numbered home items asks sized =
    subst P (sym entry)
    (grown-of old new g ask change.memory (would-plan old.core.state g ask plan change.memory.lists change.plans ∙ change.changes) change.spelled
    (subst (λ e. IsAfter new.core.state (e ∷ g)) entry after) (subst (λ e. IsNumbered new.core (e ∷ g)) entry numbered) home
    (items ∙ ap (λ r. old.records.items ++ r ∷ []) kept_is)
    (asks ∙ ap (λ r. old.records.asks + (if is_tick_record r then 0 else 1)) kept_is)
    (subst (λ n. IsBound n (asks_size (lean (home_of old) (heard (home_of old) g ask ∷ g)))) (sym sized) bound))
  where
    P : Entry → Type 0
    P e = IsOf new (e ∷ g)

    entry : told ask reply ≡ heard (home_of old) g ask
    entry = let own : Reply → Entry = λ r. told ask r in ap own replied ∙ told-heard old.core.state g ask plan change.memory.lists change.plans

    kept_is : newest ≡ kept_of (home_of old) g ask
    kept_is = is ∙ change.drafted.memory

-- ---- what a change takes

abbrev pub with_change : History → List Entry → Ask → List Entry
with_change history g ask = heard (home_of history) g ask ∷ g

pub change-would : (history : History) (g : List Entry) (ask : Ask) (plan : Plan) (form : ℕ) (draft : Draft) → IsChange history g ask plan form draft → would_change (home_of history) g ask ≡ true
change-would history g ask plan form draft change = would-plan history.core.state g ask plan change.memory.lists change.plans ∙ change.changes

-- there are as many records as entries that are kept
few-kept : (history : History) (g : List Entry) → IsOf history g → length history.records.items < 18446744073709551615 → length (kept (home_of history) g) < 18446744073709551615
few-kept history g memory few = let same = ap length memory.records ∙ length-kept_records (kept (home_of history) g) in omega arith

-- the body that stands by a number once what is planned is made
pub body-with : (history : History) (g : List Entry) (ask : Ask) (plan : Plan) (form : ℕ) (draft : Draft) (number : ℕ) (found : Option (List ℕ)) → length history.records.items < 18446744073709551615
    → ((l : List Entry) (asked : Ask) → IsAfter history.core.state l → IsNumbered history.core l → Plans history.core.state asked plan → length (kept (home_of history) l) < 18446744073709551615
    → found ≡ standing_body (home_of history) (kept (home_of history) (told asked plan.reply ∷ l)) number)
    → IsChange history g ask plan form draft → found ≡ bodies_with (home_of history) g ask number
body-with history g ask plan form draft number found few stands change =
    stands g ask change.memory.lists change.memory.numbered change.plans (few-kept history g change.memory few)
    ∙ ap (λ e. standing_body (home_of history) (kept (home_of history) (e ∷ g)) number) (told-heard history.core.state g ask plan change.memory.lists change.plans)
    ∙ ap (λ k. standing_body (home_of history) k number) (kept-changed (home_of history) g ask (change-would history g ask plan form draft change))

-- the bound with a draft's record is one on the lean list with its entry
pub most-bound : (history : History) (g : List Entry) (ask : Ask) (plan : Plan) (form : ℕ) (draft : Draft) (most : ℕ) → IsChange history g ask plan form draft
    → most ≡ min (history.records.size + (if is_tick_record draft.newest then 0 else draft.size)) 18446744073709551615 → IsBound most (asks_size (lean (home_of history) (with_change history g ask)))
most-bound history g ask plan form draft most change is =
    most-drafted (home_of history) form g ask draft history.records.size most (change-would history g ask plan form draft change) change.drafted change.memory.size is

-- the records of the lean list with a change
pub change-texts : (history : History) (g : List Entry) (ask : Ask) (plan : Plan) (form : ℕ) (draft : Draft) (newest : KeptRecord) → IsChange history g ask plan form draft → newest ≡ draft.newest
    → lean_texts (bodies_with (home_of history) g ask) history.records.items newest ≡ records_of (lean (home_of history) (with_change history g ask))
change-texts history g ask plan form draft newest change is =
    ap (λ r. lean_texts (bodies_with (home_of history) g ask) history.records.items r) (is ∙ change.drafted.memory)
    ∙ ap (λ rs. lean_texts (bodies_with (home_of history) g ask) rs (kept_of (home_of history) g ask)) change.memory.records
    ∙ texts-lean (home_of history) g ask (change-would history g ask plan form draft change)

-- ... are ones that a journal takes
pub change-lengths : (history : History) (g : List Entry) (ask : Ask) (plan : Plan) (form : ℕ) (draft : Draft) (newest : KeptRecord) → IsChange history g ask plan form draft → newest ≡ draft.newest
    → AreRecords (lean_texts (bodies_with (home_of history) g ask) history.records.items newest)
change-lengths history g ask plan form draft newest change is =
    subst (λ r. AreRecords (lean_texts bodies history.records.items r)) (sym (is ∙ change.drafted.memory))
    (subst (λ rs. AreRecords (lean_texts bodies rs (kept_of host g ask))) (sym change.memory.records)
    (texts-lengths host g ask bodies (bodies-stand host (heard host g ask ∷ kept host g)) (change-would history g ask plan form draft change) change.spelled change.memory.spelled))
  where
    host : List ℕ
    host = home_of history

    bodies : ℕ → Option (List ℕ)
    bodies = bodies_with host g ask

-- the size of those that are of no tick
pub change-size : (history : History) (g : List Entry) (ask : Ask) (plan : Plan) (form : ℕ) (draft : Draft) (newest : KeptRecord) → IsChange history g ask plan form draft → newest ≡ draft.newest
    → blocks_size (lean_asks (bodies_with (home_of history) g ask) 1 (history.records.items ++ newest ∷ [])) ≡ asks_size (lean (home_of history) (with_change history g ask))
change-size history g ask plan form draft newest change is =
    ap (λ r. blocks_size (lean_asks bodies 1 (history.records.items ++ r ∷ []))) (is ∙ change.drafted.memory)
    ∙ ap (λ rs. blocks_size (lean_asks bodies 1 (rs ++ kept_of host g ask ∷ []))) change.memory.records
    ∙ asks-sized host g ask bodies (bodies-stand host (heard host g ask ∷ kept host g)) (change-would history g ask plan form draft change)
  where
    host : List ℕ
    host = home_of history

    bodies : ℕ → Option (List ℕ)
    bodies = bodies_with host g ask

-- ---- an ask that changes nothing

-- the memory stands for the history with an answer that changes nothing
pub unchanged-of : (history : History) (g : List Entry) (ask : Ask) (plan : Plan) → IsOf history g → Plans history.core.state ask plan → is_kept plan.change ≡ false → IsOf history (told ask plan.reply ∷ g)
unchanged-of history g ask plan memory plans unchanged = record {
  lists = subst (λ st. IsAfter st (e ∷ g)) stays (IsAfter-answered history.core.state g ask plan.reply memory.lists plans.reply);
  numbered = numbered-same history.core g e memory.numbered same;
  records = memory.records ∙ ap kept_records (sym same);
  asks = memory.asks ∙ ap (λ k. count_by (λ (x : Entry). not (is_tick x.ask)) k) (sym same);
  size = subst (λ k. IsBound history.records.size (asks_size (leaned host k))) (sym same) memory.size;
  spelled = subst IsSpelled (sym same) memory.spelled;
}
  where
    host : List ℕ
    host = home_of history

    e : Entry
    e = told ask plan.reply

    would : would_change host g ask ≡ false
    would = would-plan history.core.state g ask plan memory.lists plans ∙ unchanged

    same : kept host (e ∷ g) ≡ kept host g
    same = ap (λ x. kept host (x ∷ g)) (told-heard history.core.state g ask plan memory.lists plans) ∙ kept-unchanged host g ask would

    stays : after history.core.state ask plan.reply ≡ history.core.state
    stays = ap (λ b. if b then step history.core.state ask plan.reply else history.core.state) (sym plans.kept ∙ unchanged)

-- or with a reply that tells that the server could not do it
pub failed-of : (history : History) (g : List Entry) (ask : Ask) (reply : Reply) → IsOf history g → is_failure reply ≡ true → IsOf history (told ask reply ∷ g)
failed-of history g ask reply memory failed = record {
  lists = IsAfter-failed history.core.state g ask reply memory.lists failed;
  numbered = numbered-same history.core g (told ask reply) memory.numbered same;
  records = memory.records ∙ ap kept_records (sym same);
  asks = memory.asks ∙ ap (λ k. count_by (λ (x : Entry). not (is_tick x.ask)) k) (sym same);
  size = subst (λ k. IsBound history.records.size (asks_size (leaned host k))) (sym same) memory.size;
  spelled = subst IsSpelled (sym same) memory.spelled;
}
  where
    host : List ℕ
    host = home_of history

    same : kept host (told ask reply ∷ g) ≡ kept host g
    same = kept-failure host g (told ask reply) failed

-- the size with the newest record is that of the lean list
pub size-done : (history : History) (g : List Entry) (ask : Ask) (plan : Plan) (form : ℕ) (draft : Draft) (newest : KeptRecord) (rs : List KeptRecord) (size added next : ℕ)
    → IsChange history g ask plan form draft → newest ≡ draft.newest → rs ≡ history.records.items
    → size ≡ min (blocks_size (lean_asks (bodies_with (home_of history) g ask) 1 rs)) 18446744073709551615
    → added ≡ min (asked_size newest (5 + length (lean_text newest (bodies_with (home_of history) g ask (length rs + 1))))) 18446744073709551615
    → next ≡ min (size + added) 18446744073709551615
    → next ≡ min (asks_size (lean (home_of history) (with_change history g ask))) 18446744073709551615
size-done history g ask plan form draft newest rs size added next change is all so_far one sum =
    size-behind (bodies_with (home_of history) g ask) rs newest size added next so_far one sum
    ∙ ap (λ xs. min (blocks_size (lean_asks (bodies_with (home_of history) g ask) 1 (xs ++ newest ∷ []))) 18446744073709551615) all
    ∙ ap (λ n. min n 18446744073709551615) (change-size history g ask plan form draft newest change is)

-- and so with the records themselves
pub records-done : (history : History) (g : List Entry) (ask : Ask) (plan : Plan) (form : ℕ) (draft : Draft) (newest : KeptRecord) (rs : List KeptRecord) (texts : List (List ℕ))
    → IsChange history g ask plan form draft → newest ≡ draft.newest → rs ≡ history.records.items
    → texts ≡ lean_asks (bodies_with (home_of history) g ask) 1 rs
    → texts ++ lean_text newest (bodies_with (home_of history) g ask (length rs + 1)) ∷ [] ≡ records_of (lean (home_of history) (with_change history g ask))
records-done history g ask plan form draft newest rs texts change is all so_far =
    ap (λ ts. ts ++ lean_text newest (bodies_with (home_of history) g ask (length rs + 1)) ∷ []) so_far
    ∙ ap (λ xs. lean_texts (bodies_with (home_of history) g ask) xs newest) all
    ∙ change-texts history g ask plan form draft newest change is
