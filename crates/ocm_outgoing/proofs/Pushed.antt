use Rattle.std.proofs.Common.{◌≡◌, ◌≢◌, ℕ, zero, suc, ◌+◌, ◌<◌, List, [], ◌∷◌, ◌++◌, length, Bool, true, false, cond, Option, Some, None, refl, sym, ap, subst, ◌∙◌, arith}
use Rattle.std.specs.Prelude.{nat_eq, slice_get, not, ◌&&◌, option_map, is_some, is_none}
use Rattle.std.specs.List.Sorted.{IsNonDecreasing}
use Rattle.std.specs.Option.{option_map_or}
use Rattle.std.proofs.lemmas.Bool.{false≢true}
use Rattle.std.proofs.lemmas.Bool.Decides.{nat_tests}
use Rattle.std.proofs.Common.{sum_by, length-append}
use Rattle.std.proofs.lemmas.Grind.{common_steps}
use Rattle.std.proofs.lemmas.List.{map-append}
use Rattle.ocm_rules.specs.declared.rows.Message.{Message}
use Rattle.ocm_rules.specs.declared.rows.SentRow.{SentRow}
use Rattle.ocm_rules.specs.Messages.{is_change, change_count}
use Rattle.ocm_rules.specs.declared.rows.Subject.{Subject}
use Rattle.ocm_rules.specs.Numbers.{at_number}
use Rattle.ocm_rules.specs.Settlements.{same_subject}
use Rattle.ocm_outgoing.specs.declared.rows.Sent.{Sent}
use Rattle.ocm_outgoing.specs.declared.rows.Thread.{Thread}
use Rattle.ocm_outgoing.specs.Threads.{about, waiting, next_of, linked, with_link, first_or, ThreadIs, same_key, HaveNumbers, Threads, IsOutbox, AreFronts, begins, begins_at, times, thread_of, row_of, rows_of}
use Rattle.ocm_outgoing.specs.Lists.{messages}
use Rattle.ocm_outgoing.proofs.Changed.{at_number-changed, length-changed, at_one, rows_of-linked}
use Rattle.ocm_outgoing.proofs.Chains.{GoesOn, ThreadIs-same, ThreadIs-push}
use Rattle.ocm_outgoing.proofs.Reading.{about-within, about-past, about-there, fewer, waits-about, at_number-past}
use Rattle.ocm_outgoing.proofs.Subjects.{key-same, key-refl, subject-refl, subject-other, about-other}

slice_get-push : {X : Type 0} (xs : List X) (x : X) (i : ℕ) → slice_get (xs ++ x ∷ []) i ≡ cond (nat_eq i (length xs)) (Some x) (slice_get xs i)
slice_get-push [] x zero = refl
slice_get-push [] x (suc i) = grind (arith, nat_tests)
slice_get-push (y ∷ ys) x zero = grind (arith, nat_tests)
slice_get-push (y ∷ ys) x (suc i) =
    let same : nat_eq i (length ys) ≡ nat_eq (suc i) (suc (length ys)) = grind (arith, nat_tests) in
    rw same at (slice_get-push ys x i)

-- the one of a number, in a list with one more at its end
pub at_number-push : {X : Type 0} (xs : List X) (x : X) (n i : ℕ) → n ≡ length xs + 1 → at_number (xs ++ x ∷ []) i ≡ cond (nat_eq i n) (Some x) (at_number xs i)
at_number-push xs x n zero e = grind (arith, nat_tests)
at_number-push xs x n (suc i) e =
    let same : nat_eq i (length xs) ≡ nat_eq (suc i) n = grind (arith, nat_tests) in
    rw same at (slice_get-push xs x i)

-- a row of a number after the last of a thread is linked on
abbrev relinked : Option Thread → ℕ → ℕ → Sent → Sent
relinked None n k row = row
relinked (Some t) n k row = at_one t.last (linked n) k row

same-option : {X : Type 0} (o : Option X) → o ≡ option_map (λ x. x) o
same-option None = refl
same-option (Some x) = refl

at-linked : (older : Option Thread) (n : ℕ) (rows : List Sent) (k : ℕ) → at_number (with_link older n rows) k ≡ option_map (relinked older n k) (at_number rows k)
at-linked None n rows k = same-option (at_number rows k)
at-linked (Some t) n rows k = at_number-changed t.last (linked n) rows k

-- linking keeps the length
pub length-linked : (older : Option Thread) (n : ℕ) (rows : List Sent) → length (with_link older n rows) ≡ length rows
length-linked None n rows = refl
length-linked (Some t) n rows = length-changed t.last (linked n) rows

-- the rows after a push
abbrev pub pushed : Option Thread → ℕ → List Sent → Sent → List Sent
pushed older n rows row = with_link older n rows ++ row ∷ []

read-cond : {B : Type 0} (f : Sent → B) (d : B) (b : Bool) (row : Sent) (o : Option Sent) → option_map_or f (cond b (Some row) o) d ≡ cond b (f row) (option_map_or f o d)
read-cond f d true row o = refl
read-cond f d false row o = refl

reads : {B : Type 0} (f : Sent → B) (d : B) (older : Option Thread) (n : ℕ) (rows : List Sent) (row : Sent) (k : ℕ) → n ≡ length rows + 1 → option_map_or f (at_number (pushed older n rows row) k) d ≡ cond (nat_eq k n) (f row) (option_map_or f (option_map (relinked older n k) (at_number rows k)) d)
reads f d older n rows row k e =
    ap (λ found. option_map_or f found d) (at_number-push (with_link older n rows) row n k (e ∙ ap (λ len. len + 1) (sym (length-linked older n rows))) ∙ ap (λ found. cond (nat_eq k n) (Some row) found) (at-linked older n rows k))
    ∙ read-cond f d (nat_eq k n) row (option_map (relinked older n k) (at_number rows k))

-- what a reading of rows says that does not read links
kept-cond : {B : Type 0} (f : Sent → B) (n : ℕ) (b : Bool) (row : Sent) → ((row : Sent) → f (linked n row) ≡ f row) → f (cond b (linked n row) row) ≡ f row
kept-cond f n true row same = same row
kept-cond f n false row same = refl

kept-row : {B : Type 0} (f : Sent → B) (older : Option Thread) (n k : ℕ) (row : Sent) → ((row : Sent) → f (linked n row) ≡ f row) → f (relinked older n k row) ≡ f row
kept-row f None n k row same = refl
kept-row f (Some t) n k row same = kept-cond f n (nat_eq t.last k) row same

kept-read : {B : Type 0} (f : Sent → B) (d : B) (older : Option Thread) (n k : ℕ) (found : Option Sent) → ((row : Sent) → f (linked n row) ≡ f row) → option_map_or f (option_map (relinked older n k) found) d ≡ option_map_or f found d
kept-read f d older n k None same = refl
kept-read f d older n k (Some row) same = kept-row f older n k row same

-- what is read after a push, where links are not read
pub read-pushed : {B : Type 0} (f : Sent → B) (d : B) (older : Option Thread) (n : ℕ) (rows : List Sent) (row : Sent) (k : ℕ) → n ≡ length rows + 1 → ((row : Sent) → f (linked n row) ≡ f row) → option_map_or f (at_number (pushed older n rows row) k) d ≡ cond (nat_eq k n) (f row) (option_map_or f (at_number rows k) d)
read-pushed f d older n rows row k e same = reads f d older n rows row k e ∙ ap (λ read. cond (nat_eq k n) (f row) read) (kept-read f d older n k (at_number rows k) same)

pub about-pushed : (older : Option Thread) (n : ℕ) (rows : List Sent) (row : Sent) (s : Subject) (k : ℕ) → n ≡ length rows + 1 → about (pushed older n rows row) s k ≡ cond (nat_eq k n) (same_subject row.subject s) (about rows s k)
about-pushed older n rows row s k e = read-pushed (λ (row : Sent). same_subject row.subject s) false older n rows row k e (λ row. refl)

pub waiting-pushed : (older : Option Thread) (n : ℕ) (rows : List Sent) (row : Sent) (s : Subject) (k : ℕ) → n ≡ length rows + 1 → waiting (pushed older n rows row) s k ≡ cond (nat_eq k n) (same_subject row.subject s && not row.settled) (waiting rows s k)
waiting-pushed older n rows row s k e = read-pushed (λ (row : Sent). same_subject row.subject s && not row.settled) false older n rows row k e (λ row. refl)

cond-at : {B : Type 0} (b : Bool) (x y : B) → b ≡ true → cond b x y ≡ x
cond-at true x y e = refl
cond-at false x y e = absurd (false≢true e)

cond-off : {B : Type 0} (b : Bool) (x y : B) → b ≡ false → cond b x y ≡ y
cond-off true x y e = absurd (false≢true (sym e))
cond-off false x y e = refl

nat-refl : (i : ℕ) → nat_eq i i ≡ true
nat-refl i = grind (arith, nat_tests)

nat-other : (i j : ℕ) → i ≢ j → nat_eq i j ≡ false
nat-other i j h = grind (arith, nat_tests)

next-new : (older : Option Thread) (n : ℕ) (rows : List Sent) (row : Sent) → n ≡ length rows + 1 → next_of (pushed older n rows row) n ≡ row.next
next-new older n rows row e = reads (λ (row : Sent). row.next) 0 older n rows row n e ∙ cond-at (nat_eq n n) _ _ (nat-refl n)

next-there : (t : Thread) (n : ℕ) (found : Option Sent) → is_some found ≡ true → option_map_or (λ (row : Sent). row.next) (option_map (at_one t.last (linked n) t.last) found) 0 ≡ n
next-there t n None e = absurd (false≢true e)
next-there t n (Some row) e = ap (λ (row : Sent). row.next) (cond-at (nat_eq t.last t.last) (linked n row) row (nat-refl t.last))

next-last : (t : Thread) (n : ℕ) (rows : List Sent) (row : Sent) → n ≡ length rows + 1 → is_some (at_number rows t.last) ≡ true → t.last ≢ n → next_of (pushed (Some t) n rows row) t.last ≡ n
next-last t n rows row e there ne = reads (λ (row : Sent). row.next) 0 (Some t) n rows row t.last e ∙ (cond-off (nat_eq t.last n) _ _ (nat-other t.last n ne) ∙ next-there t n (at_number rows t.last) there)

next-off : (t : Thread) (n k : ℕ) (found : Option Sent) → nat_eq t.last k ≡ false → option_map_or (λ (row : Sent). row.next) (option_map (at_one t.last (linked n) k) found) 0 ≡ option_map_or (λ (row : Sent). row.next) found 0
next-off t n k None e = refl
next-off t n k (Some row) e = ap (λ (row : Sent). row.next) (cond-off (nat_eq t.last k) (linked n row) row e)

next-kept : (older : Option Thread) (n : ℕ) (rows : List Sent) (row : Sent) (k : ℕ) → n ≡ length rows + 1 → k ≢ n → ((t : Thread) → older ≡ Some t → k ≢ t.last) → next_of (pushed older n rows row) k ≡ next_of rows k
next-kept None n rows row k e ne other = reads (λ (row : Sent). row.next) 0 None n rows row k e ∙ (cond-off (nat_eq k n) _ _ (nat-other k n ne) ∙ ap (λ found. option_map_or (λ (row : Sent). row.next) found 0) (sym (same-option (at_number rows k))))
next-kept (Some t) n rows row k e ne other = reads (λ (row : Sent). row.next) 0 (Some t) n rows row k e ∙ (cond-off (nat_eq k n) _ _ (nat-other k n ne) ∙ next-off t n k (at_number rows k) (nat-other t.last k (λ is. other t refl (sym is))))

-- an index after a push
abbrev IsThreaded : List Sent → (Subject → Option Thread) → Type 0
IsThreaded rows found = (s : Subject) → ThreadIs (about rows s) (waiting rows s) (next_of rows) (found s)

abbrev last-of : ℕ → Option Thread → ℕ
last-of d None = d
last-of d (Some t) = t.last

pushed-same : (rows : List Sent) (n : ℕ) (row : Sent) (older : Option Thread) → n ≡ length rows + 1 → row.settled ≡ false → row.next ≡ 0 → ThreadIs (about rows row.subject) (waiting rows row.subject) (next_of rows) older → ThreadIs (about (pushed older n rows row) row.subject) (waiting (pushed older n rows row) row.subject) (next_of (pushed older n rows row)) (Some (record { first = first_or n older; last = n }))
pushed-same rows n row older e unsettled ends is =
    ThreadIs-push n (about rows row.subject) (about (pushed older n rows row) row.subject) (waiting rows row.subject) (waiting (pushed older n rows row) row.subject) (next_of rows) (next_of (pushed older n rows row))
    (λ k. about-pushed older n rows row row.subject k e ∙ ap (λ b. cond (nat_eq k n) b (about rows row.subject k)) (subject-refl row.subject))
    (λ k. waiting-pushed older n rows row row.subject k e ∙ ap (λ b. cond (nat_eq k n) b (waiting rows row.subject k)) (rw (subject-refl row.subject, unsettled) refl))
    (λ k h. about-past rows row.subject k (omega arith))
    (fewer rows row.subject)
    (next-new older n rows row e ∙ ends)
    older
    (λ t was. on t was (subst (ThreadIs (about rows row.subject) (waiting rows row.subject) (next_of rows)) was is))
    is
  where
    on : (t : Thread) → older ≡ Some t → ThreadIs (about rows row.subject) (waiting rows row.subject) (next_of rows) (Some t) → GoesOn n (next_of rows) (next_of (pushed older n rows row)) t.last
    on t was thread =
        let within = about-within rows row.subject t.last thread.0.last in
        let ne : t.last ≢ n = omega (arith, within.1) in
        let P : Option Thread → Type 0 = λ o. next_of (pushed o n rows row) t.last ≡ n in (
          subst P (sym was) (next-last t n rows row e (about-there rows row.subject t.last thread.0.last) ne),
          λ k other new. next-kept older n rows row k e new (λ u is same. other (same ∙ ap (last-of n) (sym is ∙ was))),
        )

pushed-other : (rows : List Sent) (n : ℕ) (row : Sent) (older : Option Thread) (s : Subject) (found : Option Thread) → n ≡ length rows + 1 → same_key row.subject s ≡ false → ThreadIs (about rows row.subject) (waiting rows row.subject) (next_of rows) older → ThreadIs (about rows s) (waiting rows s) (next_of rows) found → ThreadIs (about (pushed older n rows row) s) (waiting (pushed older n rows row) s) (next_of (pushed older n rows row)) found
pushed-other rows n row older s found e apart before is =
    ThreadIs-same (about rows s) (about (pushed older n rows row) s) (waiting rows s) (waiting (pushed older n rows row) s) (next_of rows) (next_of (pushed older n rows row))
    (λ k. about-pushed older n rows row s k e ∙ (ap (λ b. cond (nat_eq k n) b (about rows s k)) (subject-other row.subject s apart) ∙ none k (about rows s k) (λ is. ap (about rows s) is ∙ about-past rows s n (omega arith))))
    (λ k. waiting-pushed older n rows row s k e ∙ (ap (λ b. cond (nat_eq k n) (b && not row.settled) (waiting rows s k)) (subject-other row.subject s apart) ∙ none k (waiting rows s k) (λ is. ap (waiting rows s) is ∙ fewer rows s n (about-past rows s n (omega arith)))))
    (λ k there. next-kept older n rows row k e (omega (arith, (about-within rows s k there).1)) (λ t was same. absurd (false≢true (sym (about-other rows row.subject s k apart (ap (about rows row.subject) same ∙ (subst (ThreadIs (about rows row.subject) (waiting rows row.subject) (next_of rows)) was before).0.last)) ∙ there))))
    found is
  where
    none-cond : (b c : Bool) → (b ≡ true → c ≡ false) → cond b false c ≡ c
    none-cond true c h = sym (h refl)
    none-cond false c h = refl

    none : (k : ℕ) (c : Bool) → (k ≡ n → c ≡ false) → cond (nat_eq k n) false c ≡ c
    none k c h = none-cond (nat_eq k n) c (λ is. h (grind (arith, nat_tests)))

-- the threads after a push
pub pushed-threads : (rows : List Sent) (n : ℕ) (row : Sent) (old new : Subject → Option Thread) → n ≡ length rows + 1 → row.settled ≡ false → row.next ≡ 0 → ((s : Subject) → new s ≡ cond (same_key row.subject s) (Some (record { first = first_or n (old row.subject); last = n })) (old s)) → IsThreaded rows old → IsThreaded (pushed (old row.subject) n rows row) new
pushed-threads rows n row old new e unsettled ends updates is s = by (same_key row.subject s) refl
  where
    rows_after : List Sent
    rows_after = pushed (old row.subject) n rows row

    by : (b : Bool) → same_key row.subject s ≡ b → ThreadIs (about rows_after s) (waiting rows_after s) (next_of rows_after) (new s)
    by true same =
        let P : Subject → Type 0 = λ s. ThreadIs (about rows_after s) (waiting rows_after s) (next_of rows_after) (new s) in
        let here : new row.subject ≡ Some (record { first = first_or n (old row.subject); last = n }) = updates row.subject ∙ cond-at (same_key row.subject row.subject) _ _ (key-refl row.subject) in
        subst P (key-same row.subject s same) (rw here (pushed-same rows n row (old row.subject) e unsettled ends (is row.subject)))
    by false apart =
        let here : new s ≡ old s = updates s ∙ cond-off (same_key row.subject s) _ _ apart in
        rw here (pushed-other rows n row (old row.subject) s (old s) e apart (is row.subject) (is s))

-- the numbers after a push
pub pushed-numbers : (rows : List Sent) (n : ℕ) (row : Sent) (older : Option Thread) → n ≡ length rows + 1 → row.numbered.number ≡ n → HaveNumbers rows → HaveNumbers (pushed older n rows row)
pushed-numbers rows n row older e is numbers i =
    read-pushed (λ (row : Sent). nat_eq row.numbered.number i) true older n rows row i e (λ row. refl) ∙ by (nat_eq i n) refl
  where
    by : (b : Bool) → nat_eq i n ≡ b → cond b (nat_eq row.numbered.number i) (option_map_or (λ (row : Sent). nat_eq row.numbered.number i) (at_number rows i) true) ≡ true
    by true same = grind (arith, nat_tests)
    by false other = numbers i

-- contracts see each row
pub length-rows : (rows : List Sent) → length (rows_of rows) ≡ length rows
length-rows [] = refl
length-rows (row ∷ rows) = ap suc (length-rows rows)

-- what contracts see after a push
pub rows_of-pushed : (older : Option Thread) (n : ℕ) (rows : List Sent) (row : Sent) → rows_of (pushed older n rows row) ≡ rows_of rows ++ row_of row ∷ []
rows_of-pushed older n rows row = map-append row_of (with_link older n rows) (row ∷ []) ∙ ap (λ front. front ++ row_of row ∷ []) (linked-rows older)
  where
    linked-rows : (older : Option Thread) → rows_of (with_link older n rows) ≡ rows_of rows
    linked-rows None = refl
    linked-rows (Some t) = rows_of-linked t.last n rows

counts-push : {X : Type 0} (f : X → ℕ) (xs : List X) (x : X) → sum_by f (xs ++ x ∷ []) ≡ sum_by f xs + f x
counts-push f xs x = grind (arith, common_steps)

-- how many tell changed permissions after a push
pub count-pushed : (sent : List SentRow) (row : SentRow) → change_count (messages (sent ++ row ∷ [])) ≡ change_count (messages sent) + cond (is_change row.message.letter) 1 0
count-pushed sent row = ap change_count (map-append (λ (row : SentRow). row.message) sent (row ∷ [])) ∙ counts-push (λ (m : Message). cond (is_change m.letter) 1 0) (messages sent) row.message

first-begins : (k n : ℕ) (older : Option Thread) → k ≢ n → begins_at (Some (record { first = first_or n older; last = n })) k ≡ begins_at older k
first-begins k n None other = nat-other n k (λ same. other (sym same))
first-begins k n (Some t) other = refl

none-begins : (n : ℕ) (older : Option Thread) → ((t : Thread) → older ≡ Some t → t.first < n) → begins_at (Some (record { first = first_or n older; last = n })) n ≡ is_none older
none-begins n None below = nat-refl n
none-begins n (Some t) below = let low = below t refl in nat-other t.first n (omega (arith, low))

-- the thread of one thing begins where it began, after a push of another number
still-begins : (k n : ℕ) (subject : Subject) (old new : Subject → Option Thread) → k ≢ n → ((s : Subject) → new s ≡ cond (same_key subject s) (Some (record { first = first_or n (old subject); last = n })) (old s)) → (s : Subject) → begins_at (new s) k ≡ begins_at (old s) k
still-begins k n subject old new other updates s = ap (λ o. begins_at o k) (updates s) ∙ by (same_key subject s) refl
  where
    by : (b : Bool) → same_key subject s ≡ b → begins_at (cond b (Some (record { first = first_or n (old subject); last = n })) (old s)) k ≡ begins_at (old s) k
    by true same = first-begins k n (old subject) other ∙ ap (λ (s : Subject). begins_at (old s) k) (key-same subject s same)
    by false apart = refl

same-begins : (k : ℕ) (old new : Subject → Option Thread) (found : Option Sent) → ((s : Subject) → begins_at (new s) k ≡ begins_at (old s) k) → option_map_or (λ (row : Sent). begins_at (new row.subject) k) found false ≡ option_map_or (λ (row : Sent). begins_at (old row.subject) k) found false
same-begins k old new None same = refl
same-begins k old new (Some row) same = same row.subject

-- at which numbers threads begin after a push: as before, and at the new one where no older thread goes on with it
begins-pushed : (rows : List Sent) (n : ℕ) (row : Sent) (old new : Subject → Option Thread) → n ≡ length rows + 1 → ((s : Subject) → new s ≡ cond (same_key row.subject s) (Some (record { first = first_or n (old row.subject); last = n })) (old s)) → IsThreaded rows old → (k : ℕ) → begins (pushed (old row.subject) n rows row) new k ≡ cond (nat_eq k n) (is_none (old row.subject)) (begins rows old k)
begins-pushed rows n row old new e updates is k =
    read-pushed (λ (row : Sent). begins_at (new row.subject) k) false (old row.subject) n rows row k e (λ row. refl) ∙ by (nat_eq k n) refl
  where
    below : (t : Thread) → old row.subject ≡ Some t → t.first < n
    below t was =
        let thread = subst (ThreadIs (about rows row.subject) (waiting rows row.subject) (next_of rows)) was (is row.subject) in
        let within = about-within rows row.subject t.first (waits-about rows row.subject t.first thread.1.waits) in
        omega (arith, within.1, e)

    here : begins_at (new row.subject) n ≡ is_none (old row.subject)
    here = ap (λ o. begins_at o n) (updates row.subject ∙ cond-at (same_key row.subject row.subject) _ _ (key-refl row.subject)) ∙ none-begins n (old row.subject) below

    by : (b : Bool) → nat_eq k n ≡ b → cond b (begins_at (new row.subject) k) (option_map_or (λ (row : Sent). begins_at (new row.subject) k) (at_number rows k) false) ≡ cond b (is_none (old row.subject)) (begins rows old k)
    by true same = let is_n : k ≡ n = grind (arith, nat_tests) in ap (begins_at (new row.subject)) is_n ∙ here
    by false other =
        let ne : k ≢ n = grind (arith, nat_tests) in
        same-begins k old new (at_number rows k) (still-begins k n row.subject old new ne updates)

-- the numbers at which threads begin after a push
pub pushed-fronts : (rows : List Sent) (n : ℕ) (row : Sent) (old new : Subject → Option Thread) (fronts after : List ℕ) → n ≡ length rows + 1 → ((s : Subject) → new s ≡ cond (same_key row.subject s) (Some (record { first = first_or n (old row.subject); last = n })) (old s)) → IsThreaded rows old → AreFronts (begins rows old) fronts → ((k : ℕ) → times k after ≡ times k fronts + cond (is_none (old row.subject)) (cond (nat_eq k n) 1 0) 0) → IsNonDecreasing after → AreFronts (begins (pushed (old row.subject) n rows row) new) after
pushed-fronts rows n row old new fronts after e updates is begun more rising = record {
  once = λ k. more k ∙ (ap (λ i. i + cond (is_none (old row.subject)) (cond (nat_eq k n) 1 0) 0) (begun.once k) ∙ (sums (nat_eq k n) (is_none (old row.subject)) (begins rows old k) (λ same. nothing k same) ∙ ap (λ b. cond b 1 0) (sym (begins-pushed rows n row old new e updates is k))));
  rising = rising;
}
  where
    sums : (here none was : Bool) → (here ≡ true → was ≡ false) → cond was 1 0 + cond none (cond here 1 0) 0 ≡ cond (cond here none was) 1 0
    sums true none true off = absurd (false≢true (sym (off refl)))
    sums true true false off = refl
    sums true false false off = refl
    sums false true true off = refl
    sums false true false off = refl
    sums false false true off = refl
    sums false false false off = refl

    nothing : (k : ℕ) → nat_eq k n ≡ true → begins rows old k ≡ false
    nothing k same = let past : length rows < k = grind (arith, nat_tests) in ap (λ found. option_map_or (λ (row : Sent). begins_at (old row.subject) k) found false) (at_number-past rows k past)

-- an outbox after a push
pub pushed-outbox : (rows : List Sent) (old new : Threads) (fronts after : List ℕ) (changes more n : ℕ) (row : Sent) → IsOutbox rows old fronts changes → length rows < 1048576 → n ≡ length rows + 1 → row.settled ≡ false → row.next ≡ 0 → row.numbered.number ≡ n → more ≡ cond (is_change row.numbered.letter) 1 0 → ((s : Subject) → thread_of new s ≡ cond (same_key row.subject s) (Some (record { first = first_or n (thread_of old row.subject); last = n })) (thread_of old s)) → ((k : ℕ) → times k after ≡ times k fronts + cond (is_none (thread_of old row.subject)) (cond (nat_eq k n) 1 0) 0) → IsNonDecreasing after → IsOutbox (pushed (thread_of old row.subject) n rows row) new after (changes + more)
pushed-outbox rows old new fronts after changes more n row was few e unsettled ends number adds updates begins_more rising = record {
  few = omega (arith, length-append (with_link (thread_of old row.subject) n rows) (row ∷ []), length-linked (thread_of old row.subject) n rows);
  numbers = pushed-numbers rows n row (thread_of old row.subject) e number was.numbers;
  counted = rw (rows_of-pushed (thread_of old row.subject) n rows row, count-pushed (rows_of rows) (row_of row), was.counted, adds) refl;
  threaded = pushed-threads rows n row (thread_of old) (thread_of new) e unsettled ends updates was.threaded;
  begun = pushed-fronts rows n row (thread_of old) (thread_of new) fronts after e updates was.threaded was.begun begins_more rising;
}
