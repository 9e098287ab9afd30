use Rattle.std.proofs.Common.{◌≡◌, ◌≢◌, ℕ, zero, suc, ◌+◌, ◌-◌, ◌<◌, ◌≤◌, List, [], ◌∷◌, ◌++◌, length, get_or, Bool, true, false, cond, Option, Some, None, refl, sym, ap, subst, ◌∙◌, arith, ◌⊎◌, ⊎_elim}
use Rattle.std.specs.Prelude.{nat_eq, not, ◌&&◌, is_some, IfSome, option_map, option_to_list, filter_map}
use Rattle.std.specs.Option.{option_map_or}
use Rattle.std.proofs.lemmas.Bool.{false≢true}
use Rattle.std.proofs.lemmas.Bool.Decides.{nat_tests}
use Rattle.std.proofs.lemmas.Option.{slice_get-get_or}
use Rattle.std.proofs.lemmas.List.Elements.{filter_map-append}
use Rattle.ocm_rules.specs.declared.rows.Message.{Message}
use Rattle.ocm_rules.specs.declared.rows.Subject.{Subject}
use Rattle.ocm_rules.specs.Numbers.{at_number}
use Rattle.ocm_rules.specs.Settlements.{same_subject}
use Rattle.ocm_outgoing.specs.declared.rows.Sent.{Sent}
use Rattle.ocm_outgoing.specs.declared.rows.Thread.{Thread}
use Rattle.ocm_outgoing.specs.Lists.{message_at}
use Rattle.ocm_outgoing.specs.Threads.{row_of, rows_of, about, waiting, next_of, IsFirst, IsReached, IsWalk, at_numbers}
use Rattle.ocm_outgoing.proofs.Found.{message_at-rows}
use Rattle.ocm_outgoing.proofs.Changed.{number_within}
use Rattle.ocm_outgoing.proofs.Chains.{IsReached-step}

-- the one of a number is the one before its place
pub at_number-index : {X : Type 0} (xs : List X) (i : ℕ) (d x : X) → 0 < i → i ≤ length xs → x ≡ get_or xs (i - 1) d → at_number xs i ≡ Some x
at_number-index xs zero d x low high is = absurd (omega arith)
at_number-index xs (suc k) d x low high is =
    let same : suc k - 1 ≡ k = omega arith in
    slice_get-get_or xs k d (omega arith) ∙ ap Some (sym (rw same at is))

-- a number past the end has nothing
pub at_number-past : {X : Type 0} (xs : List X) (i : ℕ) → length xs < i → at_number xs i ≡ None
at_number-past xs zero h = absurd (omega arith)
at_number-past [] (suc i) h = refl
at_number-past (y ∷ ys) (suc zero) h = absurd (omega arith)
at_number-past (y ∷ ys) (suc (suc i)) h = at_number-past ys (suc i) (omega arith)

fewer-row : (s : Subject) (found : Option Sent) → option_map_or (λ (row : Sent). same_subject row.subject s) found false ≡ false → option_map_or (λ (row : Sent). same_subject row.subject s && not row.settled) found false ≡ false
fewer-row s None e = refl
fewer-row s (Some row) e = rw e refl

-- what is not about this does not wait
pub fewer : (rows : List Sent) (s : Subject) (k : ℕ) → about rows s k ≡ false → waiting rows s k ≡ false
fewer rows s k = fewer-row s (at_number rows k)

either : (b : Bool) → (b ≡ false → false ≡ true) → b ≡ true
either true h = refl
either false h = absurd (false≢true (h refl))

-- what waits about this is about this
pub waits-about : (rows : List Sent) (s : Subject) (k : ℕ) → waiting rows s k ≡ true → about rows s k ≡ true
waits-about rows s k waits = either (about rows s k) (λ off. sym (fewer rows s k off) ∙ waits)

there-row : (s : Subject) (found : Option Sent) → option_map_or (λ (row : Sent). same_subject row.subject s) found false ≡ true → is_some found ≡ true
there-row s None e = absurd (false≢true e)
there-row s (Some row) e = refl

-- what is about something is there
pub about-there : (rows : List Sent) (s : Subject) (k : ℕ) → about rows s k ≡ true → is_some (at_number rows k) ≡ true
about-there rows s k = there-row s (at_number rows k)

-- a number of what is about something is within the rows
pub about-within : (rows : List Sent) (s : Subject) (k : ℕ) → about rows s k ≡ true → (0 < k) × (k ≤ length rows)
about-within rows s k e = number_within rows k (about-there rows s k e)

-- nothing past the end is about anything
pub about-past : (rows : List Sent) (s : Subject) (k : ℕ) → length rows < k → about rows s k ≡ false
about-past rows s k h = ap (λ found. option_map_or (λ (row : Sent). same_subject row.subject s) found false) (at_number-past rows k h)

pub about-row : (rows : List Sent) (s : Subject) (k : ℕ) (row : Sent) → at_number rows k ≡ Some row → about rows s k ≡ same_subject row.subject s
about-row rows s k row e = ap (λ found. option_map_or (λ (row : Sent). same_subject row.subject s) found false) e

pub waiting-row : (rows : List Sent) (s : Subject) (k : ℕ) (row : Sent) → at_number rows k ≡ Some row → waiting rows s k ≡ (same_subject row.subject s && not row.settled)
waiting-row rows s k row e = ap (λ found. option_map_or (λ (row : Sent). same_subject row.subject s && not row.settled) found false) e

pub next_of-row : (rows : List Sent) (k : ℕ) (row : Sent) → at_number rows k ≡ Some row → next_of rows k ≡ row.next
next_of-row rows k row e = ap (λ found. option_map_or (λ (row : Sent). row.next) found 0) e

settled-waits : (b settled : Bool) → settled ≡ true → (b && not settled) ≡ false
settled-waits true settled e = rw e refl
settled-waits false settled e = refl

unsettled-waits : (b settled : Bool) → b ≡ true → settled ≡ false → (b && not settled) ≡ true
unsettled-waits b settled e f = rw (e, f) refl

-- the number that a walk has come to is within the rows
pub walk-within : (rows : List Sent) (s : Subject) (t : Thread) (i : ℕ) → i ≢ 0 → IsWalk rows s t i → (0 < i) × (i ≤ length rows)
walk-within rows s t i h walk = about-within rows s i (walk.reached.same h)

-- a walk goes on from a settled row
pub walk-on : (rows : List Sent) (s : Subject) (t : Thread) (i : ℕ) (row : Sent) → at_number rows i ≡ Some row → i ≢ 0 → row.settled ≡ true → IsWalk rows s t i → IsWalk rows s t row.next
walk-on rows s t i row e h settled walk = record {
  chain = walk.chain;
  reached = subst (IsReached (about rows s) (waiting rows s) t.first) (next_of-row rows i row e)
      (IsReached-step (about rows s) (waiting rows s) (next_of rows) t i walk.chain (fewer rows s) (walk.reached.beyond h) (walk.reached.same h) none);
}
  where
    here : waiting rows s i ≡ false
    here = waiting-row rows s i row e ∙ settled-waits (same_subject row.subject s) row.settled settled

    cases : (k i : ℕ) → k ≤ i → (k < i) ⊎ (k ≡ i)
    cases k i h = grind (arith, nat_tests)

    none : (k : ℕ) → k ≤ i → waiting rows s k ≡ false
    none k low = ⊎_elim (walk.reached.before h k) (λ is. ap (waiting rows s) is ∙ here) (cases k i low)

-- a walk goes up
pub walk-up : (rows : List Sent) (s : Subject) (t : Thread) (i : ℕ) (row : Sent) → at_number rows i ≡ Some row → i ≢ 0 → IsWalk rows s t i → row.next ≢ 0 → i < row.next
walk-up rows s t i row e h walk =
    let link = walk.chain.links i (walk.reached.beyond h) (walk.reached.same h) in
    let P : ℕ → Type 0 = λ next. next ≢ 0 → i < next in
    subst P (next_of-row rows i row e) link.after

-- a walk ends at a row that is not settled
pub walk-found : (rows : List Sent) (s : Subject) (t : Thread) (i : ℕ) (row : Sent) → at_number rows i ≡ Some row → i ≢ 0 → row.settled ≡ false → IsWalk rows s t i → IsFirst (waiting rows s) i × (t.first ≤ i)
walk-found rows s t i row e h settled walk = (
  record {
    waits = waiting-row rows s i row e ∙ unsettled-waits (same_subject row.subject s) row.settled (sym (about-row rows s i row e) ∙ walk.reached.same h) settled;
    before = walk.reached.before h;
  },
  walk.reached.beyond h,
)

-- how far a walk has to go at most
abbrev pub left : ℕ → ℕ → ℕ
left len i = cond (nat_eq i 0) 0 (len + 1 - i)

pub left-less : (len i j : ℕ) → i ≢ 0 → i ≤ len → (j ≢ 0 → i < j) → left len j < left len i
left-less len i zero h low up =
    let other : nat_eq i 0 ≡ false = grind (arith, nat_tests) in
    rw other (omega arith)
left-less len i (suc j) h low up =
    let other : nat_eq i 0 ≡ false = grind (arith, nat_tests) in
    let later : nat_eq (suc j) 0 ≡ false = grind (arith, nat_tests) in
    let more : i < suc j = up (omega arith) in
    rw (other, later) (omega arith)

-- what holds of the message of a row holds of the one of its number
pub message-holds : (P : Message → Type 0) (rows : List Sent) (m : ℕ) (row : Sent) → at_number rows m ≡ Some row → P (row_of row).message → IfSome (message_at (rows_of rows) m) P
message-holds P rows m row e p =
    let Q : Option Message → Type 0 = λ found. IfSome found P in
    subst Q (sym (message_at-rows rows m ∙ ap (option_map (λ (row : Sent). (row_of row).message)) e)) p

one-more : {X Y : Type 0} (f : X → Option Y) (x : X) → filter_map f (x ∷ []) ≡ option_to_list (f x)
one-more {X} {Y} f x = by (f x) refl
  where
    by : (o : Option Y) → f x ≡ o → filter_map f (x ∷ []) ≡ option_to_list (f x)
    by None e = rw e refl
    by (Some y) e = rw e refl

-- one number more
pub at_numbers-push : (rows : List Sent) (ns : List ℕ) (n : ℕ) → at_numbers rows (ns ++ n ∷ []) ≡ at_numbers rows ns ++ option_to_list (option_map (λ (row : Sent). row.numbered) (at_number rows n))
at_numbers-push rows ns n = filter_map-append (λ n. option_map (λ (row : Sent). row.numbered) (at_number rows n)) ns (n ∷ []) ∙ ap (λ last. at_numbers rows ns ++ last) (one-more (λ n. option_map (λ (row : Sent). row.numbered) (at_number rows n)) n)
