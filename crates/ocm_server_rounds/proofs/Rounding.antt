-- Messages delivered one after another.
use Rattle.std.proofs.Common.{◌≡◌, ℕ, ◌+◌, ◌<◌, ◌≤◌, Bool, true, false, List, [], ◌∷◌, ◌++◌, length, get_or, drop, add-one, Option, Result, Ok, Err, refl, sym, ap, subst, ◌∙◌, append_assoc, append-nil, arith}
use Rattle.std.proofs.Math.Seq.{drop-cons}
use Rattle.std.proofs.lemmas.List.{drop_all}
use Rattle.ocm_types.specs.declared.letters.Numbered.{Numbered}
use Rattle.ocm_entry.specs.declared.asks.Ask.TheVariants as asks
use Rattle.ocm_entry.specs.declared.entries.Entry.{Entry}
use Rattle.ocm_entry.specs.declared.replies.Reply.{Reply}
use Rattle.ocm_entry.specs.declared.replies.Reply.TheVariants as replies
use Rattle.ocm_pump.specs.declared.deliveries.Answered.{Answered}
use Rattle.ocm_pump.specs.declared.exchanges.Exchange.{Exchange}
use Rattle.ocm_pump.specs.declared.faults.PumpFault.{PumpFault}
use Rattle.ocm_pump.specs.declared.faults.PumpFault.TheVariants as faults
use Rattle.ocm_pump.specs.Delivery.{Delivers}
use Rattle.ocm_pump.specs.Exchanges.{AddsSome}
use Rattle.ocm_pump.proofs.Additions.{adds_none, adds_more}
use Rattle.ocm_turn.specs.Calls.{entry}
use Rattle.ocm_turn.specs.Moves.{Moved}
use Rattle.ocm_turn.specs.Passes.{Known}
use Rattle.ocm_turn.proofs.MoveLemmas.{moved_nothing, moved_then}
use Rattle.ocm_server_rounds.specs.declared.pumped.Pumped.{Pumped}
use Rattle.ocm_server_rounds.specs.declared.pumped.RoundEnd.{RoundEnd}
use Rattle.ocm_server_rounds.specs.declared.pumped.RoundEnd.TheVariants.{Whole, Spent, NoMemory}
use Rattle.ocm_server_rounds.specs.Rounds as rounds
use Rattle.ocm_server_rounds.specs.Rounds.{counted, is_no_memory, is_whole, end_after, end_by, settlement, Tries, one_if, Deliveries, messages_of, Round, Hold, hold, Does, Tried, Delivered, Rounded, Settling, Settles, Answers}

whole_is : (end : RoundEnd) → is_whole end ≡ true → end ≡ Whole
whole_is Whole e = refl
whole_is Spent e = absurd (cc)
whole_is NoMemory e = absurd (cc)

pub no_memory_is : (reply : Reply) → is_no_memory reply ≡ true → reply ≡ replies.NoMemory
no_memory_is replies.NoMemory e = refl
no_memory_is _ e = absurd (cc)

-- a saturated count with one more
pub counted_more : (count n more new : ℕ) → count ≡ counted n → new ≡ counted (count + more) → new ≡ counted (n + more)
counted_more count n more new e f = omega (arith, e, f)

tries_of : (message : Numbered) (added : List Exchange) (answered : Answered) (calls : List Entry) (settled : Bool) (end : RoundEnd)
    → Delivers message added (Ok answered) → Settling message answered calls settled end → Tries message calls added settled end
tries_of message added answered calls settled end delivers rounds.limit_reached = rounds.unsettled added answered delivers
tries_of message added answered calls settled end delivers (rounds.replied reply) = rounds.was_settled added answered reply delivers

pub not_spent_by : (fault : PumpFault) → end_by fault ≡ Spent → ⊥
not_spent_by faults.NoMemory e = cc
not_spent_by faults.DialFault e = cc
not_spent_by faults.NoDiscovery e = cc
not_spent_by (faults.BadReply place) e = cc

-- the message at a place, and those behind it
from_place : (messages : List Numbered) (i : ℕ) (message : Numbered) → i < length messages → message ≡ get_or messages i message → drop i messages ≡ message ∷ drop (i + 1) messages
from_place messages i message at is = let c = drop-cons messages i message at in c ∙ (λ k. sym is k ∷ drop (sym (add-one i) k) messages)

module _ {Terms : Type 0} where
  pub does_nothing : (a : Hold Terms) → Does a a [] []
  does_nothing a = record { moved = moved_nothing a.pass; adds = adds_none a.exchanges }

  pub does_then : (a b c : Hold Terms) (x y : List Entry) (p q : List Exchange) → Does a b x p → Does b c y q → Does a c (y ++ x) (q ++ p)
  does_then a b c x y p q d e = record {
    moved = moved_then a.pass b.pass c.pass x y d.moved e.moved;
    adds = adds_more a.exchanges b.exchanges c.exchanges p q d.adds e.adds;
  }

  -- ---- one message

  pub limit_reached : (message : Numbered) (answered : Answered) (old new : Known Terms) → Moved old new [] → Settles message answered old new false Spent
  limit_reached message answered old new moved = ([], moved, rounds.limit_reached)

  pub replied : (message : Numbered) (answered : Answered) (old new : Known Terms) (reply : Reply) (end : RoundEnd)
      → Moved old new (entry (settlement message answered) reply ∷ []) → end ≡ end_after reply → Settles message answered old new true end
  replied message answered old new reply end moved is =
      (entry (settlement message answered) reply ∷ [], moved, subst (λ (e : RoundEnd). Settling message answered (entry (settlement message answered) reply ∷ []) true e) (sym is) (rounds.replied reply))

  -- a message that was answered
  pub tried_settled : (message : Numbered) (answered : Answered) (old new : Known Terms) (told told' : Option (List Exchange)) (r : Result Answered PumpFault) (settled : Bool) (end : RoundEnd)
      → AddsSome told told' (λ added. Delivers message added r) → r ≡ Ok answered → Settles message answered old new settled end
      → Tried message (hold old told) (hold new told') settled end
  tried_settled message answered old new told told' r settled end adds is settles =
      let delivers = subst (λ (x : Result Answered PumpFault). Delivers message adds.0 x) is adds.2 in
      (settles.0, adds.0, record { moved = settles.1; adds = adds.1 }, tries_of message adds.0 answered settles.0 settled end delivers settles.2)

  -- a message that was not
  pub tried_unanswered : (message : Numbered) (old : Known Terms) (told told' : Option (List Exchange)) (r : Result Answered PumpFault) (fault : PumpFault) (end : RoundEnd)
      → AddsSome told told' (λ added. Delivers message added r) → r ≡ Err fault → end ≡ end_by fault
      → Tried message (hold old told) (hold old told') false end
  tried_unanswered message old told told' r fault end adds is end_is =
      let delivers = subst (λ (x : Result Answered PumpFault). Delivers message adds.0 x) is adds.2 in
      ([], adds.0, record { moved = moved_nothing old; adds = adds.1 }, subst (λ (e : RoundEnd). Tries message [] adds.0 false e) (sym end_is) (rounds.unanswered adds.0 fault delivers))

  -- a message to which no answer came so far
  pub tried_waiting : (message : Numbered) (old : Known Terms) (told told' : Option (List Exchange)) → told' ≡ told → Tried message (hold old told) (hold old told') false Whole
  tried_waiting message old told told' same =
      ([], [], record { moved = moved_nothing old; adds = same ∙ adds_none told }, rounds.waits)

  -- ---- messages in a row

  -- some messages were delivered, and whatever comes of the others comes of all of them with this before it
  pub record Leads (messages rest : List Numbered) (old new : Hold Terms) (answered : ℕ) : Type 0 where
    pub calls : List Entry
    pub added : List Exchange
    pub settled : ℕ
    pub does : Does old new calls added
    pub count : answered ≡ counted settled
    pub leads : (later : List Entry) (more : List Exchange) (others : ℕ) (end : RoundEnd)
        → Deliveries rest later more others end → Deliveries messages (later ++ calls) (more ++ added) (settled + others) end

  pub leads_nothing : (messages : List Numbered) (a : Hold Terms) (answered : ℕ) → answered ≡ 0 → Leads messages messages a a answered
  leads_nothing messages a answered none = record {
    calls = [];
    added = [];
    settled = 0;
    does = does_nothing a;
    count = omega (arith, none);
    leads = λ later more others end d.
        subst (λ (z : List Entry × List Exchange × ℕ). Deliveries messages z.0 z.1 z.2 end)
        (λ i. (sym (append-nil later) i, sym (append-nil more) i, (let e : others ≡ 0 + others = omega arith in e) i)) d;
  }

  pub leads_one : (messages : List Numbered) (message : Numbered) (rest : List Numbered) (a b c : Hold Terms) (answered count : ℕ) (settled : Bool) (end : RoundEnd)
      → Leads messages (message ∷ rest) a b answered → Tried message b c settled end → is_whole end ≡ true → count ≡ counted (answered + one_if settled)
      → Leads messages rest a c count
  leads_one messages message rest a b c answered count settled end l t whole is =
      let tries : Tries message t.0 t.1 settled Whole = subst (λ (e : RoundEnd). Tries message t.0 t.1 settled e) (whole_is end whole) t.3 in
      record {
        calls = t.0 ++ l.calls;
        added = t.1 ++ l.added;
        settled = l.settled + one_if settled;
        does = does_then a b c l.calls t.0 l.added t.1 l.does t.2;
        count = counted_more answered l.settled (one_if settled) count l.count is;
        leads = λ later more others end' d.
            let all = l.leads (later ++ t.0) (more ++ t.1) (one_if settled + others) end' (rounds.next message rest t.0 later t.1 more settled others end' tries d) in
            subst (λ (z : List Entry × List Exchange × ℕ). Deliveries messages z.0 z.1 z.2 end')
            (λ i. (append_assoc later t.0 l.calls i, append_assoc more t.1 l.added i, (let e : l.settled + (one_if settled + others) ≡ (l.settled + one_if settled) + others = omega arith in e) i)) all;
      }

  pub leads_stop : (messages : List Numbered) (message : Numbered) (rest : List Numbered) (a b c : Hold Terms) (answered count : ℕ) (settled : Bool) (end : RoundEnd)
      → Leads messages (message ∷ rest) a b answered → Tried message b c settled end → is_whole end ≡ false → count ≡ counted (answered + one_if settled)
      → (n : ℕ) × (count ≡ counted n) × Delivered messages a c n end
  leads_stop messages message rest a b c answered count settled end l t not_whole is = (
    l.settled + one_if settled,
    counted_more answered l.settled (one_if settled) count l.count is,
    (
      t.0 ++ l.calls,
      t.1 ++ l.added,
      does_then a b c l.calls t.0 l.added t.1 l.does t.2,
      l.leads t.0 t.1 (one_if settled) end (rounds.stopped message rest t.0 t.1 settled end t.3 not_whole),
    ),
  )

  pub leads_end : (messages : List Numbered) (a b : Hold Terms) (answered : ℕ) → Leads messages [] a b answered → (n : ℕ) × (answered ≡ counted n) × Delivered messages a b n Whole
  leads_end messages a b answered l =
      let all : Deliveries messages l.calls l.added l.settled Whole = subst (λ (n : ℕ). Deliveries messages l.calls l.added n Whole) (let e : l.settled + 0 ≡ l.settled = omega arith in e) (l.leads [] [] 0 Whole rounds.done) in
      (l.settled, l.count, (l.calls, l.added, l.does, all))

  -- the loop
  pub leads_on : (messages : List Numbered) (message : Numbered) (i : ℕ) (a b c : Hold Terms) (answered count : ℕ) (settled : Bool) (end : RoundEnd)
      → i < length messages → message ≡ get_or messages i message
      → Leads messages (drop i messages) a b answered → Tried message b c settled end → is_whole end ≡ true → count ≡ counted (answered + one_if settled)
      → Leads messages (drop (i + 1) messages) a c count
  leads_on messages message i a b c answered count settled end at is l t whole count_is =
      leads_one messages message (drop (i + 1) messages) a b c answered count settled end (subst (λ (rest : List Numbered). Leads messages rest a b answered) (from_place messages i message at is) l) t whole count_is

  pub leads_off : (messages : List Numbered) (message : Numbered) (i : ℕ) (a b c : Hold Terms) (answered count : ℕ) (settled : Bool) (end : RoundEnd)
      → i < length messages → message ≡ get_or messages i message
      → Leads messages (drop i messages) a b answered → Tried message b c settled end → is_whole end ≡ false → count ≡ counted (answered + one_if settled)
      → (n : ℕ) × (count ≡ counted n) × Delivered messages a c n end
  leads_off messages message i a b c answered count settled end at is l t not_whole count_is =
      leads_stop messages message (drop (i + 1) messages) a b c answered count settled end (subst (λ (rest : List Numbered). Leads messages rest a b answered) (from_place messages i message at is) l) t not_whole count_is

  pub leads_all : (messages : List Numbered) (i : ℕ) (a b : Hold Terms) (answered : ℕ) → length messages ≤ i → Leads messages (drop i messages) a b answered
      → (n : ℕ) × (answered ≡ counted n) × Delivered messages a b n Whole
  leads_all messages i a b answered past l = leads_end messages a b answered (subst (λ (rest : List Numbered). Leads messages rest a b answered) (drop_all i messages past) l)

  -- ---- the round

  pub answers_none : (reply : Reply) (a : Hold Terms) → is_no_memory reply ≡ true → Answers reply a a (record { tried = 0; answered = 0; end = NoMemory })
  answers_none reply a none = (
    [],
    [],
    does_nothing a,
    subst (λ (r : Reply). Round (entry asks.Due r ∷ []) [] (record { tried = 0; answered = 0; end = NoMemory })) (sym (no_memory_is reply none)) rounds.unread,
  )

  pub answers_due : (reply : Reply) (messages : List Numbered) (a b : Hold Terms) (tried answered : ℕ) (end : RoundEnd)
      → is_no_memory reply ≡ false → messages ≡ messages_of reply → tried ≡ counted (length messages)
      → ((n : ℕ) × (answered ≡ counted n) × Delivered messages a b n end)
      → Answers reply a b (record { tried = tried; answered = answered; end = end })
  answers_due reply messages a b tried answered end some is tried_is d =
      let all : Deliveries (messages_of reply) d.2.0 d.2.1 d.0 end = subst (λ (m : List Numbered). Deliveries m d.2.0 d.2.1 d.0 end) is d.2.3 in
      let round = rounds.due reply d.2.0 d.2.1 d.0 end some all in
      let count : tried ≡ counted (length (messages_of reply)) = tried_is ∙ ap (λ (m : List Numbered). counted (length m)) is in (
        d.2.0,
        d.2.1,
        d.2.2,
        subst (λ (p : Pumped). Round (d.2.0 ++ entry asks.Due reply ∷ []) d.2.1 p) (λ i. record { tried = sym count i; answered = sym d.1 i; end = end }) round,
      )

  pub rounded_answers : (reply : Reply) (old middle new : Known Terms) (told told' : Option (List Exchange)) (pumped : Pumped)
      → Moved old middle (entry asks.Due reply ∷ []) → Answers reply (hold middle told) (hold new told') pumped → Rounded (hold old told) (hold new told') pumped
  rounded_answers reply old middle new told told' pumped moved a = (
    a.0 ++ entry asks.Due reply ∷ [],
    a.1,
    record { moved = moved_then old middle new (entry asks.Due reply ∷ []) a.0 moved a.2.moved; adds = a.2.adds },
    a.3,
  )

  pub rounded_refused : (old new : Known Terms) (told : Option (List Exchange)) → Moved old new [] → Rounded (hold old told) (hold new told) (record { tried = 0; answered = 0; end = Spent })
  rounded_refused old new told moved = ([], [], record { moved = moved; adds = adds_none told }, rounds.refused)

-- a round that stops is not whole
pub not_whole : (end : RoundEnd) → is_whole end ≡ false → end ≡ Whole → ⊥
not_whole end stops e = let w : is_whole Whole ≡ false = subst (λ (x : RoundEnd). is_whole x ≡ false) e stops in cc

-- a round that goes on did not reach the limit
pub not_spent_whole : (end : RoundEnd) → is_whole end ≡ true → end ≡ Spent → ⊥
not_spent_whole end whole e = let w : is_whole Spent ≡ true = subst (λ (x : RoundEnd). is_whole x ≡ true) e whole in cc
