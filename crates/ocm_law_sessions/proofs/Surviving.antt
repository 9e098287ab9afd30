-- What holds of the list that the next session opens to.
use Rattle.std.proofs.Common.{◌≡◌, ℕ, List, [], ◌∷◌, ◌++◌, Bool, true, false, refl, sym, ap, ◌∙◌, subst, Option, Some, None}
use Rattle.std.specs.Prelude.{if◌then◌else◌, ◌⊎◌, option_and_then, option_map}
use Rattle.std.specs.Option.{option_or}
use mathlib.Core.Logic.{inl, inr}
use Rattle.ocm_entry.specs.declared.asks.Ask.{Ask}
use Rattle.ocm_entry.specs.declared.replies.Reply.TheVariants.{DiskFault}
use Rattle.ocm_entry.specs.declared.entries.Entry.{Entry}
use Rattle.ocm_entry.specs.declared.rows.Share.{Share}
use Rattle.ocm_rules.specs.Numbers.{at_number}
use Rattle.ocm_rules.specs.Shares.{made, is_live}
use Rattle.ocm_rules.specs.Lean.{leaned, lean}
use Rattle.ocm_rules.specs.History.{kept, IsLegal}
use Rattle.ocm_law_lean.proofs.Readings.{made-same, live-same}
use Rattle.ocm_law_grants.proofs.Permissions.{at_number-length}
use Rattle.ocm_law_grants.proofs.Revoked.{ended-stays}
use Rattle.ocm_law_grants.proofs.Holding.{made-kept}
use Rattle.ocm_law_sessions.specs.Sessions.{count_of, fault_in, heard, would_change}
use Rattle.ocm_law_sessions.specs.Crashes.{faulted, if_changing, unheard, HasLeanWith, IsNext}
use Rattle.ocm_law_sessions.proofs.Replying.{lean-failure, lean-heard}

-- ---- shares

-- the history with an ask that nobody heard of is legal
with_unheard-legal : (host : List ℕ) (g : List Entry) (ask : Ask) → IsLegal host g → IsLegal host (heard host g ask ∷ g)
with_unheard-legal host g ask legal = (inl refl, legal)

-- a share keeps its number and its row
pub next-made : (host : List ℕ) (k h : List Entry) (flight : Option Ask) (next : List Entry) (i : ℕ) (m : Share) → IsNext host k h flight next → at_number (made host (kept host (h ++ k))) i ≡ Some m → at_number (made host (kept host next)) i ≡ Some m
next-made host k h flight next i m comes is = by_case comes.1
  where
    g : List Entry
    g = h ++ k

    by_ask : (o : Option Ask) → HasLeanWith host g o next → at_number (made host (kept host next)) i ≡ Some m
    by_ask None with = absurd with
    by_ask (Some ask) with = ap (λ ms. at_number ms i) (made-same host next (heard host g ask ∷ g) with) ∙ made-kept host (heard host g ask ∷ []) g i m is

    by_case : (lean host next ≡ lean host g) ⊎ HasLeanWith host g (unheard host k h flight) next → at_number (made host (kept host next)) i ≡ Some m
    by_case (inl same) = ap (λ ms. at_number ms i) (made-same host next g same) ∙ is
    by_case (inr with) = by_ask (unheard host k h flight) with

-- a share that is not live stays so
pub next-ended : (host : List ℕ) (k h : List Entry) (flight : Option Ask) (next : List Entry) (i : ℕ) (m : Share) → IsLegal host (h ++ k) → IsNext host k h flight next
    → at_number (made host (kept host (h ++ k))) i ≡ Some m → is_live host (kept host (h ++ k)) i ≡ false → is_live host (kept host next) i ≡ false
next-ended host k h flight next i m legal comes is ended = by_case comes.1
  where
    g : List Entry
    g = h ++ k

    by_ask : (o : Option Ask) → HasLeanWith host g o next → is_live host (kept host next) i ≡ false
    by_ask None with = absurd with
    by_ask (Some ask) with =
        live-same host next (heard host g ask ∷ g) i with
        ∙ ended-stays host (heard host g ask ∷ []) g i (with_unheard-legal host g ask legal) (at_number-length (made host (kept host g)) i m is) ended

    by_case : (lean host next ≡ lean host g) ⊎ HasLeanWith host g (unheard host k h flight) next → is_live host (kept host next) i ≡ false
    by_case (inl same) = live-same host next g i same ∙ ended
    by_case (inr with) = by_ask (unheard host k h flight) with

-- ---- from call to call

-- what may follow where nothing is in flight may follow where something is
pub next-in_flight : (host : List ℕ) (k h : List Entry) (ask : Ask) (next : List Entry) → IsNext host k h None next → IsNext host k h (Some ask) next
next-in_flight host k h ask next (legal, inl same) = (legal, inl same)
next-in_flight host k h ask next (legal, inr with) = by_fault (faulted h) with
  where
    by_fault : (o : Option Ask) → HasLeanWith host (h ++ k) (option_or o (option_and_then (if_changing host (h ++ k)) None)) next
        → IsLegal host next × ((lean host next ≡ lean host (h ++ k)) ⊎ HasLeanWith host (h ++ k) (option_or o (if_changing host (h ++ k) ask)) next)
    by_fault None w = absurd w
    by_fault (Some old) w = (legal, inr w)

-- what has the lean list of one history with an ask has that of each with the same lean list
lean_with-same : (host : List ℕ) (g other : List Entry) (o : Option Ask) (next : List Entry) → lean host g ≡ lean host other → HasLeanWith host g o next → HasLeanWith host other o next
lean_with-same host g other None next same with = absurd with
lean_with-same host g other (Some ask) next same with = with ∙ lean-heard host g other ask same

-- a call that leaves what is kept, and tells no disk fault, leaves what may follow
pub next-idle : (host : List ℕ) (k h : List Entry) (e : Entry) (next : List Entry) → count_of e.reply ≡ None → kept host (e ∷ (h ++ k)) ≡ kept host (h ++ k) → IsNext host k h None next → IsNext host k (e ∷ h) None next
next-idle host k h e next none idle (legal, inl same) = (legal, inl (same ∙ sym (ap (λ l. leaned host l) idle)))
next-idle host k h e next none idle (legal, inr with) =
    let later : faulted (e ∷ h) ≡ faulted h = ap (λ o. option_or (option_map (λ (count : ℕ). e.ask) o) (faulted h)) none in
    let P : Option Ask → Type 0 = λ o. HasLeanWith host (e ∷ (h ++ k)) (option_or o (option_and_then (if_changing host (e ∷ (h ++ k))) None)) next in
    (legal, inr (subst P (sym later) (lean_with-same host (h ++ k) (e ∷ (h ++ k)) (unheard host k h None) next (sym (ap (λ l. leaned host l) idle)) with)))

-- the last fault has an ask only where it has a count
no_ask-by : (o : Option ℕ) (ask : Ask) (rest : Option ℕ) (asked : Option Ask) → (rest ≡ None → asked ≡ None) → option_or o rest ≡ None → option_or (option_map (λ (n : ℕ). ask) o) asked ≡ None
no_ask-by None ask rest asked older h = older h
no_ask-by (Some n) ask rest asked older h = absurd (cc)

unfaulted : (h : List Entry) → fault_in h ≡ None → faulted h ≡ None
unfaulted [] fine = refl
unfaulted (e ∷ h) fine = no_ask-by (count_of e.reply) e.ask (fault_in h) (faulted h) (λ rest. unfaulted h rest) fine

-- a legal list with the lean list of the history and a change in flight may follow
pub next-changed : (host : List ℕ) (k h : List Entry) (ask : Ask) (next : List Entry) → fault_in h ≡ None → would_change host (h ++ k) ask ≡ true → IsLegal host next
    → lean host next ≡ lean host (heard host (h ++ k) ask ∷ h ++ k) → IsNext host k h (Some ask) next
next-changed host k h ask next fine change legal with = (legal, inr (subst P (sym flies) with))
  where
    P : Option Ask → Type 0
    P o = HasLeanWith host (h ++ k) o next

    nothing : Option Ask
    nothing = None

    flies : unheard host k h (Some ask) ≡ Some ask
    flies = ap (λ o. option_or o (if_changing host (h ++ k) ask)) (unfaulted h fine) ∙ ap (λ b. if b then Some ask else nothing) change

-- where the disk failed at an ask, what could follow with it in flight may follow
pub next-faulted : (host : List ℕ) (k h : List Entry) (ask : Ask) (count : ℕ) (next : List Entry) → fault_in h ≡ None → IsNext host k h (Some ask) next
    → IsNext host k (record { ask = ask; reply = DiskFault count } ∷ h) None next
next-faulted host k h ask count next fine (legal, inl same) = (legal, inl (same ∙ sym (lean-failure host (h ++ k) (record { ask = ask; reply = DiskFault count }) refl)))
next-faulted host k h ask count next fine (legal, inr with) = (legal, inr (by_change (would_change host (h ++ k) ask) told))
  where
    g : List Entry
    g = h ++ k

    fault : Entry
    fault = record { ask = ask; reply = DiskFault count }

    told : HasLeanWith host g (if_changing host g ask) next
    told =
        let P : Option Ask → Type 0 = λ o. HasLeanWith host g (option_or o (if_changing host g ask)) next in
        subst P (unfaulted h fine) with

    by_change : (b : Bool) → HasLeanWith host g (if b then Some ask else None) next → lean host next ≡ lean host (heard host (fault ∷ g) ask ∷ fault ∷ g)
    by_change true w = w ∙ lean-heard host g (fault ∷ g) ask (sym (lean-failure host g fault refl))
    by_change false w = absurd w
