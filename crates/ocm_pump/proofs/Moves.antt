-- A dial in memory goes on to its next reply.
use Rattle.std.proofs.Common.{◌≡◌, ℕ, zero, suc, ◌+◌, ◌≤◌, ◌<◌, min, List, [], ◌∷◌, ◌++◌, length, take, drop, reverse, Option, refl, sym, ap, ◌∙◌, ⊎_elim, arith}
use Rattle.std.specs.Prelude.{slice_get}
use Rattle.ocm_pump.specs.declared.exchanges.Came.{Came}
use Rattle.ocm_pump.specs.declared.exchanges.Exchange.{Exchange}
use Rattle.ocm_pump.specs.Exchanges.{exchanged}
use Rattle.ocm_pump.specs.Memory.{DialState, front_at, next_of, faults_after, after_exchange}
use Rattle.std.proofs.lemmas.List.{drop-drop, drop_all, take_all, length-take, length-take-le, reverse-append}
use Rattle.std.proofs.lemmas.Bool.{cases_lt}

abbrev state : List (Option (List ℕ)) → List Exchange → ℕ → Option (List Came) → DialState
state replies exchanges faults told = record { replies = replies; exchanges = exchanges; faults = faults; told = told }

-- the reply at a place is the first of those that are left there
pub first_left : {A : Type 0} → (place : ℕ) (xs : List A) → slice_get (drop place xs) 0 ≡ slice_get xs place
first_left zero xs = refl
first_left (suc n) [] = refl
first_left (suc n) (x ∷ xs) = first_left n xs

-- what is left behind it
pub later_left : {A : Type 0} → (place : ℕ) (xs : List A) → place ≤ length xs → drop (min (place + 1) (length xs)) xs ≡ drop 1 (drop place xs)
later_left place xs within =
    ⊎_elim
    (λ (inside : place < length xs). let e : min (place + 1) (length xs) ≡ place + 1 = omega arith in rw e (sym (drop-drop 1 place xs)))
    (λ (outside : length xs ≤ place).
    let e : min (place + 1) (length xs) ≡ length xs = omega arith in
    rw e (drop_all (length xs) xs (omega arith) ∙ sym (drop-drop 1 place xs ∙ drop_all (place + 1) xs (omega arith))))
    (cases_lt place (length xs))

-- a history with one more exchange
pub reverse-push : {A : Type 0} → (xs : List A) (x : A) → reverse (xs ++ x ∷ []) ≡ x ∷ reverse xs
reverse-push xs x = reverse-append xs (x ∷ [])

-- what comes back at a place is what comes back next
pub next_at : (replies : List (Option (List ℕ))) (place : ℕ) (kept : Option (Option (List ℕ))) (reply : Option (List ℕ))
    → kept ≡ slice_get replies place → reply ≡ front_at kept → next_of (drop place replies) ≡ reply
next_at replies place kept reply e f = ap front_at (first_left place replies ∙ sym e) ∙ sym f

-- the dial after an exchange
pub moved_on : (replies : List (Option (List ℕ))) (place : ℕ) (exchanges : List Exchange) (faults : ℕ) (told : Option (List Came)) (host request : List ℕ) (reply : Option (List ℕ)) (now : List Exchange) (end counted : ℕ)
    → place ≤ length replies → next_of (drop place replies) ≡ reply → now ≡ exchanges ++ exchanged host request reply → end ≡ min (place + 1) (length replies) → counted ≡ faults_after reply faults
    → state (drop end replies) (reverse now) counted told ≡ after_exchange (state (drop place replies) (reverse exchanges) faults told) host request
moved_on replies place exchanges faults told host request reply now end counted within next kept at count =
    let left : drop end replies ≡ drop 1 (drop place replies) = ap (λ (n : ℕ). drop n replies) at ∙ later_left place replies within in
    let more : reverse now ≡ exchanged host request (next_of (drop place replies)) ++ reverse exchanges =
    ap reverse kept ∙ reverse-push exchanges (record { host = host; request = request; reply = reply })
    ∙ ap (λ (r : Option (List ℕ)). exchanged host request r ++ reverse exchanges) (sym next) in
    let risen : counted ≡ faults_after (next_of (drop place replies)) faults = count ∙ ap (λ (r : Option (List ℕ)). faults_after r faults) (sym next) in
    ap (λ (l : List (Option (List ℕ))). state l (reverse now) counted told) left
    ∙ ap (λ (h : List Exchange). state (drop 1 (drop place replies)) h counted told) more
    ∙ ap (λ (n : ℕ). state (drop 1 (drop place replies)) (exchanged host request (next_of (drop place replies)) ++ reverse exchanges) n told) risen

-- ---- the front of bytes

pub front_whole : (n : ℕ) (bytes : List ℕ) → length bytes ≤ n → bytes ≡ take n bytes
front_whole n bytes short = sym (take_all n bytes short)

pub front_length : (n : ℕ) (bytes : List ℕ) → n < length bytes → n ≡ length (take n bytes)
front_length n bytes long = let within : n ≤ length bytes = omega arith in sym (length-take-le n bytes within)

pub front_within : (n : ℕ) (bytes : List ℕ) → length (take n bytes) ≤ n
front_within n bytes = rw (length-take n bytes) (omega arith)
