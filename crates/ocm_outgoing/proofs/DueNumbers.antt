use Rattle.std.proofs.Common.{◌≡◌, ◌≢◌, ℕ, zero, suc, ◌+◌, ◌<◌, ◌≤◌, List, [], ◌∷◌, length, Bool, true, false, Option, Some, None, refl, sym, ap, ◌∙◌, arith, ◌⊎◌, ⊎_elim, inl, inr, is_some}
use Rattle.std.specs.Prelude.{nat_eq, nat_lt, not, ◌&&◌, ◌||◌, slice_get, option_map}
use Rattle.std.specs.List.{list_any}
use Rattle.std.specs.Option.{option_map_or}
use Rattle.std.proofs.lemmas.Bool.{false≢true}
use Rattle.std.proofs.lemmas.Bool.Decides.{nat_tests}
use Rattle.ocm_types.specs.declared.letters.Numbered.{Numbered}
use Rattle.ocm_rules.specs.declared.rows.Message.{Message}
use Rattle.ocm_rules.specs.declared.rows.Subject.{Subject}
use Rattle.ocm_rules.specs.Numbers.{at_number}
use Rattle.ocm_rules.specs.Settlements.{same_subject}
use Rattle.ocm_rules.specs.Messages.{numbered_from, as_sent, is_due, holds_back}
use Rattle.ocm_outgoing.specs.declared.rows.Sent.{Sent}
use Rattle.ocm_outgoing.specs.declared.rows.Thread.{Thread}
use Rattle.ocm_outgoing.specs.Lists.{messages, message_at, is_settled, due_in}
use Rattle.ocm_outgoing.specs.Threads.{about, waiting, next_of, begins_at, begins, thread_of, Threads, ThreadIs, IsOutbox, row_of, rows_of, at_numbers}
use Rattle.ocm_outgoing.proofs.Found.{at_number-map, message_at-rows, numbered_found}
use Rattle.ocm_outgoing.proofs.Reading.{waiting-row, about-there, fewer, at_number-past}
use Rattle.ocm_outgoing.proofs.Counts.{lists-counted, rises}
use Rattle.ocm_outgoing.proofs.Due.{Agrees, selected, weaker}
use Rattle.ocm_outgoing.proofs.Subjects.{subject-refl}

agrees-from : (p : ℕ × Message → Bool) (flag : ℕ → Bool) (get : ℕ → Option Numbered) (n : ℕ) (ms : List Message) → ((k j : ℕ) (m : Message) → j ≡ n + k → slice_get ms k ≡ Some m → (p (j, m) ≡ flag j) × (get j ≡ Some (as_sent (j, m)))) → ((k : ℕ) → n + length ms ≤ k → flag k ≡ false) → Agrees p flag get n ms
agrees-from p flag get n [] each past = λ k h. past k (omega (arith, h))
agrees-from p flag get n (m ∷ ms) each past =
    let here = each 0 n m (omega arith) refl in
    (here.0, here.1, agrees-from p flag get (n + 1) ms (λ k j m e there. each (suc k) j m (omega (arith, e)) there) (λ k h. past k (omega (arith, h))))

or-true : (b : Bool) → (b || true) ≡ true
or-true true = refl
or-true false = refl

any-true : (q : ℕ × Message → Bool) (n : ℕ) (ms : List Message) (k i : ℕ) (m : Message) → i ≡ n + k → slice_get ms k ≡ Some m → q (i, m) ≡ true → list_any q (numbered_from n ms) ≡ true
any-true q n [] zero i m e there is = absurd (cc)
any-true q n [] (suc k) i m e there is = absurd (cc)
any-true q n (x ∷ ms) zero i m e there is =
    let same : n ≡ i = omega arith in
    let it : x ≡ m = cc in
    let here : q (n, x) ≡ true = ap (λ (n : ℕ). q (n, x)) same ∙ (ap (λ (x : Message). q (i, x)) it ∙ is) in
    rw here refl
any-true q n (x ∷ ms) (suc k) i m e there is = ap (λ b. q (n, x) || b) (any-true q (n + 1) ms k i m (omega arith) there is) ∙ or-true (q (n, x))

any-false : (q : ℕ × Message → Bool) (n : ℕ) (ms : List Message) → ((k i : ℕ) (m : Message) → i ≡ n + k → slice_get ms k ≡ Some m → q (i, m) ≡ false) → list_any q (numbered_from n ms) ≡ false
any-false q n [] each = refl
any-false q n (x ∷ ms) each = rw (each 0 n x (omega arith) refl) (any-false q (n + 1) ms (λ k i m e there. each (suc k) i m (omega (arith, e)) there))

settled-found : (found : Option Sent) (row : Sent) → found ≡ Some row → option_map_or (λ (row : Rattle.ocm_rules.specs.declared.rows.SentRow.SentRow). row.settled) (option_map row_of found) false ≡ row.settled
settled-found found row e = rw e refl

settled-row : (rows : List Sent) (j : ℕ) (row : Sent) → at_number rows j ≡ Some row → is_settled (rows_of rows) j ≡ row.settled
settled-row rows j row e = ap (λ found. option_map_or (λ (row : Rattle.ocm_rules.specs.declared.rows.SentRow.SentRow). row.settled) found false) (at_number-map row_of rows j) ∙ settled-found (at_number rows j) row e

row-of : (found : Option Sent) (m : Message) → option_map (λ (row : Sent). (row_of row).message) found ≡ Some m → (row : Sent) × (found ≡ Some row) × ((row_of row).message ≡ m)
row-of None m e = absurd (cc)
row-of (Some row) m e = (row, refl, cc)

message-row : (rows : List Sent) (j : ℕ) (m : Message) → message_at (rows_of rows) j ≡ Some m → (row : Sent) × (at_number rows j ≡ Some row) × ((row_of row).message ≡ m)
message-row rows j m e = row-of (at_number rows j) m (sym (message_at-rows rows j) ∙ e)

and-assoc : (a b c : Bool) → ((a && b) && c) ≡ (a && (b && c))
and-assoc true b c = refl
and-assoc false b c = refl

holds-row : (rows : List Sent) (j i : ℕ) (m other : Message) (row : Sent) → at_number rows i ≡ Some row → row.subject ≡ other.subject → holds_back (is_settled (rows_of rows)) (j, m) (i, other) ≡ (nat_lt i j && waiting rows m.subject i)
holds-row rows j i m other row there same =
    ap (λ (s : Subject). (nat_lt i j && same_subject s m.subject) && not (is_settled (rows_of rows) i)) (sym same)
    ∙ (ap (λ b. (nat_lt i j && same_subject row.subject m.subject) && not b) (settled-row rows i row there)
    ∙ (and-assoc (nat_lt i j) (same_subject row.subject m.subject) (not row.settled) ∙ ap (λ b. nat_lt i j && b) (sym (waiting-row rows m.subject i row there))))

holds-at : (rows : List Sent) (j i : ℕ) (m other : Message) → message_at (rows_of rows) i ≡ Some other → holds_back (is_settled (rows_of rows)) (j, m) (i, other) ≡ (nat_lt i j && waiting rows m.subject i)
holds-at rows j i m other there =
    let found = message-row rows i other there in
    holds-row rows j i m other found.0 found.1 (ap (λ (m : Message). m.subject) found.2)

settled-not-waiting : (b settled : Bool) → b ≡ true → (b && not settled) ≡ false → settled ≡ true
settled-not-waiting b true e f = refl
settled-not-waiting b false e f = absurd (false≢true (sym f ∙ rw e refl))

unsettled-waiting : (b settled : Bool) → (b && not settled) ≡ true → settled ≡ false
unsettled-waiting true true f = absurd (false≢true f)
unsettled-waiting true false f = refl
unsettled-waiting false settled f = absurd (false≢true f)

due-settled : (settled any : Bool) → settled ≡ true → (not settled && not any) ≡ false
due-settled settled any e = rw e refl

due-held : (settled any : Bool) → any ≡ true → (not settled && not any) ≡ false
due-held true any e = refl
due-held false any e = rw e refl

due-first : (settled any : Bool) → settled ≡ false → any ≡ false → (not settled && not any) ≡ true
due-first settled any e f = rw (e, f) refl

and-false : (a b : Bool) → (a ≡ true → b ≡ false) → (a && b) ≡ false
and-false true b h = h refl
and-false false b h = refl

and-true : (a b : Bool) → a ≡ true → b ≡ true → (a && b) ≡ true
and-true a b e f = rw (e, f) refl

lt-from : (i j : ℕ) → nat_lt i j ≡ true → i < j
lt-from i j e = grind (arith, nat_tests)

lt-to : (i j : ℕ) → i < j → nat_lt i j ≡ true
lt-to i j h = grind (arith, nat_tests)

due-by : (rows : List Sent) (j : ℕ) (m : Message) (row : Sent) (found : Option Thread) → at_number rows j ≡ Some row → row.subject ≡ m.subject → ThreadIs (about rows m.subject) (waiting rows m.subject) (next_of rows) found → is_due (is_settled (rows_of rows)) (numbered_from 1 (messages (rows_of rows))) (j, m) ≡ begins_at found j
due-by rows j m row None there same idle =
    let settled = settled-not-waiting (same_subject row.subject m.subject) row.settled (ap (λ s. same_subject s m.subject) same ∙ subject-refl m.subject) (sym (waiting-row rows m.subject j row there) ∙ idle j) in
    due-settled (is_settled (rows_of rows) j) (list_any (holds_back (is_settled (rows_of rows)) (j, m)) (numbered_from 1 (messages (rows_of rows)))) (settled-row rows j row there ∙ settled)
due-by rows j m row (Some t) there same is = ⊎_elim at_first (λ ne. ⊎_elim (gone ne) (held ne) (settled-cases row.settled)) (cases t.first j)
  where
    cases : (i j : ℕ) → (i ≡ j) ⊎ (i ≢ j)
    cases i j = grind (arith, nat_tests)

    settled-cases : (b : Bool) → (b ≡ true) ⊎ (b ≡ false)
    settled-cases true = inl refl
    settled-cases false = inr refl

    eq-true : (i j : ℕ) → i ≡ j → nat_eq i j ≡ true
    eq-true i j e = grind (arith, nat_tests)

    eq-false : (i j : ℕ) → i ≢ j → nat_eq i j ≡ false
    eq-false i j e = grind (arith, nat_tests)

    any : Bool
    any = list_any (holds_back (is_settled (rows_of rows)) (j, m)) (numbered_from 1 (messages (rows_of rows)))

    at_first : t.first ≡ j → is_due (is_settled (rows_of rows)) (numbered_from 1 (messages (rows_of rows))) (j, m) ≡ nat_eq t.first j
    at_first e =
        let waits : waiting rows m.subject j ≡ true = ap (waiting rows m.subject) (sym e) ∙ is.1.waits in
        let unsettled = unsettled-waiting (same_subject row.subject m.subject) row.settled (sym (waiting-row rows m.subject j row there) ∙ waits) in
        due-first (is_settled (rows_of rows) j) (list_any (holds_back (is_settled (rows_of rows)) (j, m)) (numbered_from 1 (messages (rows_of rows)))) (settled-row rows j row there ∙ unsettled)
        (any-false (holds_back (is_settled (rows_of rows)) (j, m)) 1 (messages (rows_of rows)) (λ k i other at got.
        let here : message_at (rows_of rows) i ≡ Some other = ap (message_at (rows_of rows)) at ∙ at-place k other got in
        holds-at rows j i m other here ∙ and-false (nat_lt i j) (waiting rows m.subject i) (λ low. is.1.before i (omega (arith, lt-from i j low, e)))))
        ∙ sym (eq-true t.first j e)
      where
        at-place : (k : ℕ) (other : Message) → slice_get (messages (rows_of rows)) k ≡ Some other → message_at (rows_of rows) (1 + k) ≡ Some other
        at-place k other got = let same : 1 + k ≡ suc k = omega arith in ap (message_at (rows_of rows)) same ∙ got

    gone : t.first ≢ j → row.settled ≡ true → is_due (is_settled (rows_of rows)) (numbered_from 1 (messages (rows_of rows))) (j, m) ≡ nat_eq t.first j
    gone ne settled = due-settled (is_settled (rows_of rows) j) (list_any (holds_back (is_settled (rows_of rows)) (j, m)) (numbered_from 1 (messages (rows_of rows)))) (settled-row rows j row there ∙ settled) ∙ sym (eq-false t.first j ne)

    held : t.first ≢ j → row.settled ≡ false → is_due (is_settled (rows_of rows)) (numbered_from 1 (messages (rows_of rows))) (j, m) ≡ nat_eq t.first j
    held ne unsettled = due-held (is_settled (rows_of rows) j) (list_any (holds_back (is_settled (rows_of rows)) (j, m)) (numbered_from 1 (messages (rows_of rows)))) (blocked t.first refl) ∙ sym (eq-false t.first j ne)
      where
        waits-j : waiting rows m.subject j ≡ true
        waits-j = waiting-row rows m.subject j row there ∙ rw (same, subject-refl m.subject, unsettled) refl

        not-below : j < t.first → ⊥
        not-below h = false≢true (sym (is.1.before j h) ∙ waits-j)

        earlier : t.first < j
        earlier = omega (arith, ne, not-below)

        waits-about : (k : ℕ) → waiting rows m.subject k ≡ true → about rows m.subject k ≡ true
        waits-about k e = ⊎_elim (λ yes_is. yes_is) (λ off. absurd (false≢true (sym (fewer rows m.subject k off) ∙ e))) (settled-cases (about rows m.subject k))

        there-first : (k : ℕ) (found : Option Sent) → at_number rows k ≡ found → is_some found ≡ true → (other : Sent) × (at_number rows k ≡ Some other)
        there-first k None e h = absurd (false≢true h)
        there-first k (Some other) e h = (other, e)

        blocked : (i : ℕ) → t.first ≡ i → list_any (holds_back (is_settled (rows_of rows)) (j, m)) (numbered_from 1 (messages (rows_of rows))) ≡ true
        blocked zero e = absurd (false≢true (sym (ap (waiting rows m.subject) e) ∙ is.1.waits))
        blocked (suc k) e =
            let waits : waiting rows m.subject (suc k) ≡ true = ap (waiting rows m.subject) (sym e) ∙ is.1.waits in
            let first = there-first (suc k) (at_number rows (suc k)) refl (about-there rows m.subject (suc k) (waits-about (suc k) waits)) in
            let here : message_at (rows_of rows) (suc k) ≡ Some (row_of first.0).message = message_at-rows rows (suc k) ∙ ap (option_map (λ (row : Sent). (row_of row).message)) first.1 in
            any-true (holds_back (is_settled (rows_of rows)) (j, m)) 1 (messages (rows_of rows)) k (suc k) (row_of first.0).message (omega arith) here
            (holds-at rows j (suc k) m (row_of first.0).message here ∙ and-true (nat_lt (suc k) j) (waiting rows m.subject (suc k)) (lt-to (suc k) j (omega (arith, earlier, e))) waits)

begins-past : (rows : List Sent) (found : Subject → Option Thread) (k : ℕ) → length rows < k → begins rows found k ≡ false
begins-past rows found k h = ap (λ there. option_map_or (λ (row : Sent). begins_at (found row.subject) k) there false) (at_number-past rows k h)

length-messages : (rows : List Sent) → length (messages (rows_of rows)) ≡ length rows
length-messages [] = refl
length-messages (row ∷ rows) = ap suc (length-messages rows)

-- the numbers at which the threads begin, in order, are those of what is due
pub due-numbers : (rows : List Sent) (threads : Threads) (fronts : List ℕ) (changes : ℕ) → IsOutbox rows threads fronts changes → at_numbers rows fronts ≡ due_in (rows_of rows)
due-numbers rows threads fronts changes is =
    selected (is_due (is_settled (rows_of rows)) (numbered_from 1 (messages (rows_of rows)))) (begins rows (thread_of threads)) (λ n. option_map (λ (row : Sent). row.numbered) (at_number rows n)) 1 (messages (rows_of rows)) fronts
    (agrees-from (is_due (is_settled (rows_of rows)) (numbered_from 1 (messages (rows_of rows)))) (begins rows (thread_of threads)) (λ n. option_map (λ (row : Sent). row.numbered) (at_number rows n)) 1 (messages (rows_of rows)) each past)
    (weaker (begins rows (thread_of threads)) 0 fronts refl (lists-counted (begins rows (thread_of threads)) 0 fronts (rises fronts is.begun.rising) (λ k h. is.begun.once k)))
  where
    past : (k : ℕ) → 1 + length (messages (rows_of rows)) ≤ k → begins rows (thread_of threads) k ≡ false
    past k h = begins-past rows (thread_of threads) k (omega (arith, h, length-messages rows))

    at-place : (k j : ℕ) (m : Message) → j ≡ 1 + k → slice_get (messages (rows_of rows)) k ≡ Some m → message_at (rows_of rows) j ≡ Some m
    at-place k j m e got = let same : j ≡ suc k = omega arith in ap (message_at (rows_of rows)) same ∙ got

    each : (k j : ℕ) (m : Message) → j ≡ 1 + k → slice_get (messages (rows_of rows)) k ≡ Some m → (is_due (is_settled (rows_of rows)) (numbered_from 1 (messages (rows_of rows))) (j, m) ≡ begins rows (thread_of threads) j) × (option_map (λ (row : Sent). row.numbered) (at_number rows j) ≡ Some (as_sent (j, m)))
    each k j m e got =
        let here = at-place k j m e got in
        let found = message-row rows j m here in
        let subject : found.0.subject ≡ m.subject = ap (λ (m : Message). m.subject) found.2 in (
          due-by rows j m found.0 (thread_of threads m.subject) found.1 subject (is.threaded m.subject)
              ∙ sym (ap (λ o. option_map_or (λ (row : Sent). begins_at (thread_of threads row.subject) j) o false) found.1 ∙ ap (λ (s : Subject). begins_at (thread_of threads s) j) subject),
          sym (numbered_found rows j is.numbers) ∙ ap (option_map (λ message. as_sent (j, message))) here,
        )
