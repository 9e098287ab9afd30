-- A change is appended to the records that open to a list with the same lean list.
use Rattle.std.proofs.Common.{◌≡◌, ℕ, ◌==◌, List, [], ◌∷◌, ◌++◌, true, refl, sym, ap, ◌∙◌, subst, Option, Some, None}
use Rattle.std.specs.Prelude.{if◌then◌else◌, unwrap_or}
use Rattle.std.specs.Option.{option_or}
use Rattle.ocm_entry.specs.declared.asks.Ask.{Ask}
use Rattle.ocm_entry.specs.declared.entries.Entry.{Entry}
use Rattle.ocm_entry_bytes.specs.Spells.{spelling}
use Rattle.ocm_rules.specs.Shares.{clock_of, moment}
use Rattle.ocm_rules.specs.Lean.{lean}
use Rattle.ocm_rules.specs.History.{kept, answer_kept, changes}
use Rattle.ocm_law_sessions.specs.Readings.{goes_on, opened}
use Rattle.ocm_law_sessions.specs.Written.{stamp, record_of, IsSpelled}
use Rattle.ocm_law_sessions.specs.Sessions.{heard, would_change}
use Rattle.ocm_law_sessions.proofs.Entries.{answered-kept, clocks}
use Rattle.ocm_law_sessions.proofs.Opening.{opened-more, opened-answered}
use Rattle.ocm_law_sessions.proofs.Rereading.{entry-goes_on}
use Rattle.ocm_law_sessions.proofs.Replying.{view-same, heard-same, would_change-same}

-- the entry of a change is one after the list that was opened
pub change-opens : (host : List ℕ) (form : ℕ) (records : List (List ℕ)) (k g : List Entry) (ask : Ask) → opened host form records ≡ Some k → lean host k ≡ lean host g → would_change host g ask ≡ true → IsSpelled (heard host g ask ∷ k)
    → opened host form (records ++ record_of form k (heard host g ask) ∷ []) ≡ Some (heard host g ask ∷ k)
change-opens host form records k g ask opens same change fits =
    opened-more host form records (record_of form k (heard host g ask)) k opens
    ∙ subst P (heard-same host k g ask same) (entry-goes_on host form k (heard host k ask) (ap (λ l. answer_kept host l ask) whole) here) fits
  where
    whole : kept host k ≡ k
    whole = answered-kept host k (opened-answered host form records k opens)

    here : changes host k (heard host k ask) ≡ true
    here = ap (λ l. changes host l (heard host k ask)) (sym whole) ∙ would_change-same host k g ask same ∙ change

    P : Entry → Type 0
    P e = IsSpelled (e ∷ k) → goes_on host form k (record_of form k e) ≡ Some (e ∷ k)

-- the record of an entry is that after what is kept of the history
pub record-same : (host : List ℕ) (form : ℕ) (k g : List Entry) (e : Entry) → kept host k ≡ k → lean host k ≡ lean host g → record_of form k e ≡ record_of form (kept host g) e
unfolding record_of
record-same host form k g e whole same = ap (λ n. if form == 1 then spelling e.ask else stamp n e.ask) (by_clock (clock_of e.ask))
  where
    moments : moment k ≡ moment (kept host g)
    moments = ap (λ l. moment l) (sym whole) ∙ ap (λ v. v.moment) (view-same host k g same)

    by_clock : (o : Option ℕ) → unwrap_or (option_or o (clocks k)) 0 ≡ unwrap_or (option_or o (clocks (kept host g))) 0
    by_clock None = moments
    by_clock (Some clock) = refl
