use Rattle.std.proofs.Common.{◌≡◌, ◌≢◌, ℕ, ◌+◌, ◌<◌, ◌≤◌, ◌-◌, get_or, List, Bool, true, false, cond, Option, Some, None, refl, sym, ap, subst, ◌∙◌, arith, ◌⊎◌, ⊎_elim}
use Rattle.std.specs.Prelude.{nat_eq, not, ◌&&◌, option_map, is_some, IsSome}
use Rattle.std.specs.Option.{option_map_or}
use Rattle.std.specs.List.Sorted.{IsNonDecreasing}
use Rattle.std.proofs.lemmas.Bool.{false≢true}
use Rattle.std.proofs.lemmas.Bool.Decides.{nat_tests}
use Rattle.ocm_rules.specs.declared.rows.SentRow.{SentRow}
use Rattle.ocm_rules.specs.declared.rows.Subject.{Subject}
use Rattle.ocm_rules.specs.Numbers.{at_number}
use Rattle.ocm_rules.specs.State.{changed_at}
use Rattle.ocm_rules.specs.Messages.{change_count}
use Rattle.ocm_rules.specs.Settlements.{same_subject}
use Rattle.ocm_outgoing.specs.declared.rows.Sent.{Sent}
use Rattle.ocm_outgoing.specs.declared.rows.Thread.{Thread}
use Rattle.ocm_outgoing.specs.Lists.{messages, message_at, settled_row}
use Rattle.ocm_outgoing.specs.Threads.{about, waiting, next_of, marked, begins_at, begins, moved, times, AreFronts, IsChain, IsFound, IsReached, IsWalk, ThreadIs, same_key, Threads, IsOutbox, thread_of, row_of, rows_of}
use Rattle.ocm_outgoing.proofs.Changed.{at_number-changed, length-changed, at_one, rows_of-marked, map-numbered, same-numbered, changed-same, number_within}
use Rattle.ocm_outgoing.proofs.Chains.{ThreadIs-same, ThreadIs-moved, IsFirst-kept, IsReached-step}
use Rattle.ocm_outgoing.proofs.Reading.{about-row, waiting-row, next_of-row, fewer, waits-about, at_number-index}
use Rattle.ocm_outgoing.proofs.Found.{message_at-rows}
use Rattle.ocm_outgoing.proofs.Subjects.{key-same, key-refl, subject-refl, about-other}

marked-cond : {B : Type 0} (f : Sent → B) (b : Bool) (row : Sent) → ((row : Sent) → f (marked row) ≡ f row) → f (cond b (marked row) row) ≡ f row
marked-cond f true row same = same row
marked-cond f false row same = refl

marked-read : {B : Type 0} (f : Sent → B) (d : B) (m k : ℕ) (found : Option Sent) → ((row : Sent) → f (marked row) ≡ f row) → option_map_or f (option_map (at_one m marked k) found) d ≡ option_map_or f found d
marked-read f d m k None same = refl
marked-read f d m k (Some row) same = marked-cond f (nat_eq m k) row same

-- what is read of the rows that does not read the marks
pub read-marked : {B : Type 0} (f : Sent → B) (d : B) (m : ℕ) (rows : List Sent) (k : ℕ) → ((row : Sent) → f (marked row) ≡ f row) → option_map_or f (at_number (changed_at m marked rows) k) d ≡ option_map_or f (at_number rows k) d
read-marked f d m rows k same = ap (λ found. option_map_or f found d) (at_number-changed m marked rows k) ∙ marked-read f d m k (at_number rows k) same

pub about-marked : (m : ℕ) (rows : List Sent) (s : Subject) (k : ℕ) → about (changed_at m marked rows) s k ≡ about rows s k
about-marked m rows s k = read-marked (λ (row : Sent). same_subject row.subject s) false m rows k (λ row. refl)

pub next-marked : (m : ℕ) (rows : List Sent) (k : ℕ) → next_of (changed_at m marked rows) k ≡ next_of rows k
next-marked m rows k = read-marked (λ (row : Sent). row.next) 0 m rows k (λ row. refl)

never : (b : Bool) → (b && false) ≡ false
never true = refl
never false = refl

empty : (b : Bool) → false ≡ cond b false false
empty true = refl
empty false = refl

waits-cond : (b : Bool) (s : Subject) (row : Sent) → (same_subject (cond b (marked row) row).subject s && not (cond b (marked row) row).settled) ≡ cond b false (same_subject row.subject s && not row.settled)
waits-cond true s row = never (same_subject row.subject s)
waits-cond false s row = refl

waits-found : (b : Bool) (s : Subject) (found : Option Sent) → option_map_or (λ (row : Sent). same_subject row.subject s && not row.settled) (option_map (λ row. cond b (marked row) row) found) false ≡ cond b false (option_map_or (λ (row : Sent). same_subject row.subject s && not row.settled) found false)
waits-found b s None = empty b
waits-found b s (Some row) = waits-cond b s row

pub waiting-marked : (m : ℕ) (rows : List Sent) (s : Subject) (k : ℕ) → waiting (changed_at m marked rows) s k ≡ cond (nat_eq m k) false (waiting rows s k)
waiting-marked m rows s k = ap (λ found. option_map_or (λ (row : Sent). same_subject row.subject s && not row.settled) found false) (at_number-changed m marked rows k) ∙ waits-found (nat_eq m k) s (at_number rows k)

none-cond : (b c : Bool) → (b ≡ true → c ≡ false) → cond b false c ≡ c
none-cond true c h = sym (h refl)
none-cond false c h = refl

-- another thing's thread stays
pub marked-other : (m : ℕ) (rows : List Sent) (s : Subject) (found : Option Thread) → waiting rows s m ≡ false → ThreadIs (about rows s) (waiting rows s) (next_of rows) found → ThreadIs (about (changed_at m marked rows) s) (waiting (changed_at m marked rows) s) (next_of (changed_at m marked rows)) found
marked-other m rows s found idle is =
    ThreadIs-same (about rows s) (about (changed_at m marked rows) s) (waiting rows s) (waiting (changed_at m marked rows) s) (next_of rows) (next_of (changed_at m marked rows))
    (about-marked m rows s)
    (λ k. waiting-marked m rows s k ∙ none-cond (nat_eq m k) (waiting rows s k) (λ e. let is : k ≡ m = grind (arith, nat_tests) in ap (waiting rows s) is ∙ idle))
    (λ k there. next-marked m rows k)
    found is

-- the thread of what was settled, where that was not its first
pub marked-later : (m : ℕ) (rows : List Sent) (s : Subject) (t : Thread) → t.first ≢ m → ThreadIs (about rows s) (waiting rows s) (next_of rows) (Some t) → ThreadIs (about (changed_at m marked rows) s) (waiting (changed_at m marked rows) s) (next_of (changed_at m marked rows)) (Some t)
marked-later m rows s t ne is = (
  (ThreadIs-same (about rows s) (about (changed_at m marked rows) s) (waiting rows s) (waiting rows s) (next_of rows) (next_of (changed_at m marked rows)) (about-marked m rows s) (λ k. refl) (λ k there. next-marked m rows k) (Some t) is).0,
  IsFirst-kept (waiting rows s) (waiting (changed_at m marked rows) s) t.first m (waiting-marked m rows s) ne is.1,
)

-- the links of a thread after a mark
chain-marked : (m : ℕ) (rows : List Sent) (s : Subject) (t : Thread) → ThreadIs (about rows s) (waiting rows s) (next_of rows) (Some t) → IsChain (about (changed_at m marked rows) s) (next_of (changed_at m marked rows)) t
chain-marked m rows s t is = (ThreadIs-same (about rows s) (about (changed_at m marked rows) s) (waiting rows s) (waiting rows s) (next_of rows) (next_of (changed_at m marked rows)) (about-marked m rows s) (λ k. refl) (λ k there. next-marked m rows k) (Some t) is).0

-- where the first was settled a walk begins at what is linked to it
pub walk-begins : (m : ℕ) (rows : List Sent) (row : Sent) (s : Subject) (t : Thread) → at_number rows m ≡ Some row → t.first ≡ m → ThreadIs (about rows s) (waiting rows s) (next_of rows) (Some t) → IsWalk (changed_at m marked rows) s t row.next
walk-begins m rows row s t there first is = record {
  chain = chain-marked m rows s t is;
  reached = let P : ℕ → Type 0 = λ j. IsReached (about (changed_at m marked rows) s) (waiting (changed_at m marked rows) s) t.first j in
      subst P (next-marked m rows m ∙ next_of-row rows m row there)
      (IsReached-step (about (changed_at m marked rows) s) (waiting (changed_at m marked rows) s) (next_of (changed_at m marked rows)) t m (chain-marked m rows s t is) (fewer (changed_at m marked rows) s) (omega (arith, first)) (about-marked m rows s m ∙ here) none);
}
  where
    cases : (k m : ℕ) → k ≤ m → (k < m) ⊎ (nat_eq m k ≡ true)
    cases k m h = grind (arith, nat_tests)

    here : about rows s m ≡ true
    here = sym (ap (about rows s) first) ∙ waits-about t.first is.1.waits
      where
        waits-about : (k : ℕ) → waiting rows s k ≡ true → about rows s k ≡ true
        waits-about k e = by (about rows s k) refl
          where
            by : (b : Bool) → about rows s k ≡ b → b ≡ true
            by true f = refl
            by false f = absurd (false≢true (sym (fewer rows s k f) ∙ e))

    none : (k : ℕ) → k ≤ m → waiting (changed_at m marked rows) s k ≡ false
    none k h = waiting-marked m rows s k ∙ ⊎_elim
        (λ low. ap (λ b. cond (nat_eq m k) false b) (is.1.before k (omega (arith, low, first))) ∙ sym (empty (nat_eq m k)))
        (λ e. ap (λ b. cond b false (waiting rows s k)) e) (cases k m h)

-- what was settled is what its thread is about
abbrev pub IsThreadedBy : List Sent → (Subject → Option Thread) → Type 0
IsThreadedBy rows found = (s : Subject) → ThreadIs (about rows s) (waiting rows s) (next_of rows) (found s)

waits-here : (rows : List Sent) (m : ℕ) (row : Sent) → at_number rows m ≡ Some row → row.settled ≡ false → waiting rows row.subject m ≡ true
waits-here rows m row there unsettled = waiting-row rows row.subject m row there ∙ rw (subject-refl row.subject, unsettled) refl

idle-other : (rows : List Sent) (m : ℕ) (row : Sent) (s : Subject) → at_number rows m ≡ Some row → same_key row.subject s ≡ false → waiting rows s m ≡ false
idle-other rows m row s there apart = fewer rows s m (about-other rows row.subject s m apart (about-row rows row.subject m row there ∙ subject-refl row.subject))

-- a message that waits has a thread
pub thread-there : (rows : List Sent) (m : ℕ) (row : Sent) (found : Option Thread) → at_number rows m ≡ Some row → row.settled ≡ false → ThreadIs (about rows row.subject) (waiting rows row.subject) (next_of rows) found → (t : Thread) × (found ≡ Some t)
thread-there rows m row None there unsettled idle = absurd (false≢true (sym (idle m) ∙ waits-here rows m row there unsettled))
thread-there rows m row (Some t) there unsettled is = (t, refl)

-- the threads where what was settled is not the first of its thread
pub marked-kept : (m : ℕ) (rows : List Sent) (row : Sent) (found : Subject → Option Thread) → at_number rows m ≡ Some row → begins_at (found row.subject) m ≡ false → IsThreadedBy rows found → IsThreadedBy (changed_at m marked rows) found
marked-kept m rows row found there later is s = by (same_key row.subject s) refl
  where
    same-later : (o : Option Thread) → begins_at o m ≡ false → (s : Subject) → ThreadIs (about rows s) (waiting rows s) (next_of rows) o → ThreadIs (about (changed_at m marked rows) s) (waiting (changed_at m marked rows) s) (next_of (changed_at m marked rows)) o
    same-later None e s idle = marked-other m rows s None (idle m) idle
    same-later (Some t) e s thread = let ne : t.first ≢ m = grind (arith, nat_tests) in marked-later m rows s t ne thread

    by : (b : Bool) → same_key row.subject s ≡ b → ThreadIs (about (changed_at m marked rows) s) (waiting (changed_at m marked rows) s) (next_of (changed_at m marked rows)) (found s)
    by true same = same-later (found s) (ap (λ s. begins_at (found s) m) (sym (key-same row.subject s same)) ∙ later) s (is s)
    by false apart = marked-other m rows s (found s) (idle-other rows m row s there apart) (is s)

-- the threads where what was settled is the first of its thread
pub marked-moved : (m : ℕ) (rows : List Sent) (row : Sent) (old new : Subject → Option Thread) (t : Thread) (first : Option ℕ) → at_number rows m ≡ Some row → old row.subject ≡ Some t → t.first ≡ m → ((s : Subject) (t : Thread) → IsWalk (changed_at m marked rows) s t row.next → IsFound (waiting (changed_at m marked rows) s) t.first first) → ((s : Subject) → new s ≡ cond (same_key row.subject s) (moved first (old row.subject)) (old s)) → IsThreadedBy rows old → IsThreadedBy (changed_at m marked rows) new
marked-moved m rows row old new t first there held begins finds updates is s = by (same_key row.subject s) refl
  where
    here : ThreadIs (about rows row.subject) (waiting rows row.subject) (next_of rows) (Some t)
    here = subst (ThreadIs (about rows row.subject) (waiting rows row.subject) (next_of rows)) held (is row.subject)

    cond-at : {B : Type 0} (b : Bool) (x y : B) → b ≡ true → cond b x y ≡ x
    cond-at true x y e = refl
    cond-at false x y e = absurd (false≢true e)

    cond-off : {B : Type 0} (b : Bool) (x y : B) → b ≡ false → cond b x y ≡ y
    cond-off true x y e = absurd (false≢true (sym e))
    cond-off false x y e = refl

    begun : ThreadIs (about (changed_at m marked rows) row.subject) (waiting (changed_at m marked rows) row.subject) (next_of (changed_at m marked rows)) (moved first (Some t))
    begun = ThreadIs-moved (about (changed_at m marked rows) row.subject) (waiting (changed_at m marked rows) row.subject) (next_of (changed_at m marked rows)) t first (chain-marked m rows row.subject t here) (finds row.subject t (walk-begins m rows row row.subject t there begins here))

    by : (b : Bool) → same_key row.subject s ≡ b → ThreadIs (about (changed_at m marked rows) s) (waiting (changed_at m marked rows) s) (next_of (changed_at m marked rows)) (new s)
    by true same =
        let P : Subject → Type 0 = λ s. ThreadIs (about (changed_at m marked rows) s) (waiting (changed_at m marked rows) s) (next_of (changed_at m marked rows)) (new s) in
        let now : new row.subject ≡ moved first (Some t) = updates row.subject ∙ (cond-at (same_key row.subject row.subject) _ _ (key-refl row.subject) ∙ ap (moved first) held) in
        subst P (key-same row.subject s same) (rw now begun)
    by false apart =
        let now : new s ≡ old s = updates s ∙ cond-off (same_key row.subject s) _ _ apart in
        rw now (marked-other m rows s (old s) (idle-other rows m row s there apart) (is s))

message-settled : (b : Bool) (row : SentRow) → (cond b (settled_row row) row).message ≡ row.message
message-settled true row = refl
message-settled false row = refl

-- the messages stay
messages-settled : (m : ℕ) (sent : List SentRow) → messages (changed_at m settled_row sent) ≡ messages sent
messages-settled m sent = map-numbered (λ (row : SentRow). row.message) (at_one m settled_row) (λ j message. message) (λ j row. message-settled (nat_eq m j) row) 1 sent ∙ same-numbered 1 (messages sent)

-- an outbox after a mark, where its threads are right
pub marked-outbox : (m : ℕ) (rows : List Sent) (old new : Threads) (fronts after : List ℕ) (changes : ℕ) → IsOutbox rows old fronts changes → IsThreadedBy (changed_at m marked rows) (thread_of new) → AreFronts (begins (changed_at m marked rows) (thread_of new)) after → IsOutbox (changed_at m marked rows) new after changes
marked-outbox m rows old new fronts after changes was threaded begun = record {
  few = omega (arith, was.few, length-changed m marked rows);
  numbers = λ i. read-marked (λ (row : Sent). nat_eq row.numbered.number i) true m rows i (λ row. refl) ∙ was.numbers i;
  counted = was.counted ∙ sym (ap change_count (ap messages (rows_of-marked m rows) ∙ messages-settled m (rows_of rows)));
  threaded = threaded;
  begun = begun;
}

marked-settled : (row : Sent) → row.settled ≡ true → marked row ≡ row
marked-settled row e = ap (λ settled. record { numbered = row.numbered; subject = row.subject; settled = settled; next = row.next }) (sym e)

only-one : (row other : Sent) → Some row ≡ Some other → row.settled ≡ true → other.settled ≡ true
only-one row other e settled = let same : row ≡ other = cc in subst (λ (row : Sent). row.settled ≡ true) same settled

-- to settle what is settled changes nothing
pub settled-same : (m : ℕ) (rows : List Sent) (row : Sent) → at_number rows m ≡ Some row → row.settled ≡ true → rows_of rows ≡ changed_at m settled_row (rows_of rows)
settled-same m rows row there settled =
    ap rows_of (sym (changed-same m marked rows (λ other e. marked-settled other (only-one row other (sym there ∙ e) settled)))) ∙ rows_of-marked m rows

some-mapped : {X Y : Type 0} (f : X → Y) (o : Option X) → IsSome (option_map f o) → is_some o ≡ true
some-mapped f None h = absurd (false≢true h)
some-mapped f (Some x) h = refl

-- a condition that there is one
pub is-there : {X : Type 0} (o : Option X) (x : X) → o ≡ Some x → IsSome o
is-there o x e = subst IsSome (sym e) refl

-- the row of a message that is there
pub row-there : (rows : List Sent) (m : ℕ) (d row : Sent) → IsSome (message_at (rows_of rows) m) → row ≡ get_or rows (m - 1) d → at_number rows m ≡ Some row
row-there rows m d row there is =
    let found = some-mapped (λ (row : Sent). (row_of row).message) (at_number rows m) (subst IsSome (message_at-rows rows m) there) in
    let within = number_within rows m found in
    at_number-index rows m d row within.0 within.1 is

begins-first : (found : Option Thread) (t : Thread) (m : ℕ) → found ≡ Some t → begins_at found m ≡ true → t.first ≡ m
begins-first found t m e begins =
    let at : nat_eq t.first m ≡ true = subst (λ (o : Option Thread). begins_at o m ≡ true) e begins in
    grind (arith, nat_tests)

-- where what was settled is the first of its thread a walk can begin
pub walk-ready : (m : ℕ) (rows : List Sent) (row : Sent) (found : Option Thread) → at_number rows m ≡ Some row → row.settled ≡ false → begins_at found m ≡ true → ThreadIs (about rows row.subject) (waiting rows row.subject) (next_of rows) found → (s : Subject) × (t : Thread) × IsWalk (changed_at m marked rows) s t row.next
walk-ready m rows row found there unsettled begins is =
    let held = thread-there rows m row found there unsettled is in
    (row.subject, held.0, walk-begins m rows row row.subject held.0 there (begins-first found held.0 m held.1 begins) (subst (ThreadIs (about rows row.subject) (waiting rows row.subject) (next_of rows)) held.1 is))

-- ---- the numbers at which threads begin

refute : (b : Bool) → (b ≡ true → false ≡ true) → b ≡ false
refute true h = absurd (false≢true (h refl))
refute false h = refl

plus-swap : (a b : ℕ) → a + b ≡ b + a
plus-swap a b = omega arith

nat-swap : (i j : ℕ) → nat_eq i j ≡ nat_eq j i
nat-swap i j = grind (arith, nat_tests)

both-none : (a b : Bool) (n : ℕ) → a ≡ b → n ≡ 0 → (c : Bool) → c ≡ false → cond a 1 0 + cond c 1 0 ≡ cond b 1 0 + n
both-none a b n e none c off = rw (e, none, off) refl

-- a thread of which the first is another now begins there, and no longer where it began
goes-on : (k m : ℕ) (t : Thread) (first : Option ℕ) → t.first ≡ m → cond (begins_at (moved first (Some t)) k) 1 0 + cond (nat_eq k m) 1 0 ≡ cond (begins_at (Some t) k) 1 0 + option_map_or (λ j. cond (nat_eq k j) 1 0) first 0
goes-on k m t None begins = plus-swap 0 (cond (nat_eq k m) 1 0) ∙ ap (λ b. cond b 1 0 + 0) (nat-swap k m ∙ ap (λ i. nat_eq i k) (sym begins))
goes-on k m t (Some j) begins =
    ap (λ b. cond b 1 0 + cond (nat_eq k m) 1 0) (nat-swap j k)
    ∙ (plus-swap (cond (nat_eq k j) 1 0) (cond (nat_eq k m) 1 0) ∙ ap (λ b. cond b 1 0 + cond (nat_eq k j) 1 0) (nat-swap k m ∙ ap (λ i. nat_eq i k) (sym begins)))

cancels : (a b c x y : ℕ) → a + x ≡ c + y → b + x ≡ c + y → a ≡ b
cancels a b c x y e f = omega (arith, e, f)

-- the numbers at which threads begin, where the first of one was settled
moved-fronts : (m : ℕ) (rows : List Sent) (row : Sent) (old new : Subject → Option Thread) (t : Thread) (first : Option ℕ) (fronts after : List ℕ) → at_number rows m ≡ Some row → old row.subject ≡ Some t → t.first ≡ m → ((j : ℕ) → first ≡ Some j → about rows row.subject j ≡ true) → ((s : Subject) → new s ≡ cond (same_key row.subject s) (moved first (old row.subject)) (old s)) → AreFronts (begins rows old) fronts → ((k : ℕ) → times k after + cond (nat_eq k m) 1 0 ≡ times k fronts + option_map_or (λ j. cond (nat_eq k j) 1 0) first 0) → IsNonDecreasing after → AreFronts (begins (changed_at m marked rows) new) after
moved-fronts m rows row old new t first fronts after there held first_is found updates begun more rising = record {
  once = λ k. cancels (times k after) (cond (begins_now k) 1 0) (times k fronts) (cond (nat_eq k m) 1 0) (option_map_or (λ j. cond (nat_eq k j) 1 0) first 0) (more k) (counted k);
  rising = rising;
}
  where
    begins_now : ℕ → Bool
    begins_now k = begins (changed_at m marked rows) new k

    same-nat : (i j : ℕ) → nat_eq i j ≡ true → i ≡ j
    same-nat i j e = grind (arith, nat_tests)

    off-m : (k : ℕ) → about rows row.subject k ≡ false → nat_eq k m ≡ false
    off-m k off = refute (nat_eq k m) (λ same. sym off ∙ (ap (about rows row.subject) (same-nat k m same) ∙ (about-row rows row.subject m row there ∙ subject-refl row.subject)))

    off-first : (k : ℕ) → about rows row.subject k ≡ false → (o : Option ℕ) → ((j : ℕ) → o ≡ Some j → about rows row.subject j ≡ true) → option_map_or (λ j. cond {A = ℕ} (nat_eq k j) 1 0) o 0 ≡ 0
    off-first k off None found = refl
    off-first k off (Some j) found = ap (λ b. cond {A = ℕ} b 1 0) (refute (nat_eq k j) (λ same. sym off ∙ (ap (about rows row.subject) (same-nat k j same) ∙ found j refl)))

    moved-here : (k : ℕ) (other : Sent) → row.subject ≡ other.subject → cond (begins_at (new other.subject) k) 1 0 + cond (nat_eq k m) 1 0 ≡ cond (begins_at (old other.subject) k) 1 0 + option_map_or (λ j. cond (nat_eq k j) 1 0) first 0
    moved-here k other same =
        let now : new other.subject ≡ moved first (Some t) = ap new (sym same) ∙ (updates row.subject ∙ (cond-key row.subject ∙ ap (moved first) held)) in
        let was : old other.subject ≡ Some t = ap old (sym same) ∙ held in
        ap (λ o. cond (begins_at o k) 1 0 + cond (nat_eq k m) 1 0) now ∙ (goes-on k m t first first_is ∙ ap (λ o. cond (begins_at o k) 1 0 + option_map_or (λ j. cond (nat_eq k j) 1 0) first 0) (sym was))
      where
        cond-key : (s : Subject) → cond (same_key s s) (moved first (old s)) (old s) ≡ moved first (old s)
        cond-key s = ap (λ b. cond b (moved first (old s)) (old s)) (key-refl s)

    apart-here : (k : ℕ) (other : Sent) → at_number rows k ≡ Some other → same_key row.subject other.subject ≡ false → cond (begins_at (new other.subject) k) 1 0 + cond (nat_eq k m) 1 0 ≡ cond (begins_at (old other.subject) k) 1 0 + option_map_or (λ j. cond (nat_eq k j) 1 0) first 0
    apart-here k other at apart =
        let is : about rows other.subject k ≡ true = about-row rows other.subject k other at ∙ subject-refl other.subject in
        let off : about rows row.subject k ≡ false = refute (about rows row.subject k) (λ on. sym (about-other rows row.subject other.subject k apart on) ∙ is) in
        let kept : new other.subject ≡ old other.subject = updates other.subject ∙ ap (λ b. cond b (moved first (old row.subject)) (old other.subject)) apart in
        both-none (begins_at (new other.subject) k) (begins_at (old other.subject) k) (option_map_or (λ j. cond (nat_eq k j) 1 0) first 0) (ap (λ o. begins_at o k) kept) (off-first k off first found) (nat_eq k m) (off-m k off)

    counted-row : (k : ℕ) (here : Option Sent) → at_number rows k ≡ here → cond (option_map_or (λ (row : Sent). begins_at (new row.subject) k) here false) 1 0 + cond (nat_eq k m) 1 0 ≡ cond (option_map_or (λ (row : Sent). begins_at (old row.subject) k) here false) 1 0 + option_map_or (λ j. cond (nat_eq k j) 1 0) first 0
    counted-row k None at =
        let off : about rows row.subject k ≡ false = ap (λ here. option_map_or (λ (other : Sent). same_subject other.subject row.subject) here false) at in
        both-none false false (option_map_or (λ j. cond (nat_eq k j) 1 0) first 0) refl (off-first k off first found) (nat_eq k m) (off-m k off)
    counted-row k (Some other) at = by (same_key row.subject other.subject) refl
      where
        by : (b : Bool) → same_key row.subject other.subject ≡ b → cond (begins_at (new other.subject) k) 1 0 + cond (nat_eq k m) 1 0 ≡ cond (begins_at (old other.subject) k) 1 0 + option_map_or (λ j. cond (nat_eq k j) 1 0) first 0
        by true same = moved-here k other (key-same row.subject other.subject same)
        by false apart = apart-here k other at apart

    counted : (k : ℕ) → cond (begins_now k) 1 0 + cond (nat_eq k m) 1 0 ≡ times k fronts + option_map_or (λ j. cond (nat_eq k j) 1 0) first 0
    counted k =
        ap (λ b. cond b 1 0 + cond (nat_eq k m) 1 0) (read-marked (λ (row : Sent). begins_at (new row.subject) k) false m rows k (λ row. refl))
        ∙ (counted-row k (at_number rows k) refl ∙ ap (λ n. n + option_map_or (λ j. cond (nat_eq k j) 1 0) first 0) (sym (begun.once k)))

-- the numbers at which threads begin, where a later one of a thread was settled
kept-fronts : (m : ℕ) (rows : List Sent) (found : Subject → Option Thread) (fronts : List ℕ) → AreFronts (begins rows found) fronts → AreFronts (begins (changed_at m marked rows) found) fronts
kept-fronts m rows found fronts begun = record {
  once = λ k. begun.once k ∙ ap (λ b. cond b 1 0) (sym (read-marked (λ (row : Sent). begins_at (found row.subject) k) false m rows k (λ row. refl)));
  rising = begun.rising;
}

-- the number at which a thread begins is among them
pub front-there : (m : ℕ) (rows : List Sent) (row : Sent) (threads : Threads) (fronts : List ℕ) (changes : ℕ) → IsOutbox rows threads fronts changes → at_number rows m ≡ Some row → begins_at (thread_of threads row.subject) m ≡ true → 0 < times m fronts
front-there m rows row threads fronts changes is there at_first =
    let here : begins rows (thread_of threads) m ≡ true = ap (λ found. option_map_or (λ (row : Sent). begins_at (thread_of threads row.subject) m) found false) there ∙ at_first in
    let once : times m fronts ≡ 1 = is.begun.once m ∙ ap (λ b. cond b 1 0) here in
    omega (arith, once)

-- an outbox where what was settled is the first of its thread
pub settled-first : (m : ℕ) (rows : List Sent) (row : Sent) (old new : Threads) (fronts after : List ℕ) (changes : ℕ) (first : Option ℕ) → IsOutbox rows old fronts changes → at_number rows m ≡ Some row → row.settled ≡ false → begins_at (thread_of old row.subject) m ≡ true → ((s : Subject) (t : Thread) → IsWalk (changed_at m marked rows) s t row.next → IsFound (waiting (changed_at m marked rows) s) t.first first) → ((s : Subject) → thread_of new s ≡ cond (same_key row.subject s) (moved first (thread_of old row.subject)) (thread_of old s)) → ((k : ℕ) → times k after + cond (nat_eq k m) 1 0 ≡ times k fronts + option_map_or (λ j. cond (nat_eq k j) 1 0) first 0) → IsNonDecreasing after → IsOutbox (changed_at m marked rows) new after changes
settled-first m rows row old new fronts after changes first was there unsettled begins finds updates more rising =
    marked-outbox m rows old new fronts after changes was (marked-moved m rows row (thread_of old) (thread_of new) held.0 first there held.1 begun finds updates was.threaded)
    (moved-fronts m rows row (thread_of old) (thread_of new) held.0 first fronts after there held.1 begun about-first updates was.begun more rising)
  where
    held : (t : Thread) × (thread_of old row.subject ≡ Some t)
    held = thread-there rows m row (thread_of old row.subject) there unsettled (was.threaded row.subject)

    begun : held.0.first ≡ m
    begun = begins-first (thread_of old row.subject) held.0 m held.1 begins

    about-first : (j : ℕ) → first ≡ Some j → about rows row.subject j ≡ true
    about-first j e =
        let here = subst (ThreadIs (about rows row.subject) (waiting rows row.subject) (next_of rows)) held.1 (was.threaded row.subject) in
        let found = subst (IsFound (waiting (changed_at m marked rows) row.subject) held.0.first) e (finds row.subject held.0 (walk-begins m rows row row.subject held.0 there begun here)) in
        sym (about-marked m rows row.subject j) ∙ waits-about (changed_at m marked rows) row.subject j found.0.waits

-- an outbox where what was settled is a later one of its thread
pub settled-later : (m : ℕ) (rows : List Sent) (row : Sent) (threads : Threads) (fronts : List ℕ) (changes : ℕ) → IsOutbox rows threads fronts changes → at_number rows m ≡ Some row → begins_at (thread_of threads row.subject) m ≡ false → IsOutbox (changed_at m marked rows) threads fronts changes
settled-later m rows row threads fronts changes was there later = marked-outbox m rows threads threads fronts fronts changes was (marked-kept m rows row (thread_of threads) there later was.threaded) (kept-fronts m rows (thread_of threads) fronts was.begun)
