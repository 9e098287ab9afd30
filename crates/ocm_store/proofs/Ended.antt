-- What has ended stays ended, whenever a crash comes.
use Rattle.std.proofs.Common.{◌≡◌, inl, inr, ℕ, List, [], ◌∷◌, ◌++◌, false, Option, Some, None, sym, subst, append_assoc}
use Rattle.ocm_entry.specs.declared.asks.Ask.{Ask}
use Rattle.ocm_entry.specs.declared.entries.Entry.{Entry}
use Rattle.ocm_entry.specs.declared.rows.Share.{Share}
use Rattle.ocm_law_grants.proofs.Holding.{made-kept}
use Rattle.ocm_law_grants.proofs.Permissions.{at_number-length}
use Rattle.ocm_law_grants.proofs.Revoked.{ended-stays}
use Rattle.ocm_law_sessions.proofs.Surviving.{next-ended}
use Rattle.ocm_rules.specs.History.{IsLegal, kept}
use Rattle.ocm_rules.specs.Numbers.{at_number}
use Rattle.ocm_rules.specs.Shares.{is_live, made}
use Rattle.ocm_store.specs.declared.terms.Terms.{Terms}
use Rattle.ocm_store.specs.Courses.{EndedStaysEnded}
use Rattle.ocm_store.specs.Opening.{IsImageIn}
use Rattle.ocm_store.specs.Stores.{LeavesNext}

-- what may follow some calls more, with an ask in flight or none, opens to a list in which it has ended
at_place : (terms : Terms) (k done before : List Entry) (flight : Option Ask) (c : List ℕ) (i : ℕ) (m : Share) → IsLegal terms.host (before ++ (done ++ k))
    → at_number (made terms.host (kept terms.host (done ++ k))) i ≡ Some m → is_live terms.host (kept terms.host (done ++ k)) i ≡ false
    → LeavesNext terms k (before ++ done) flight c → (next : List Entry) × IsImageIn terms.host terms.area next c × (is_live terms.host (kept terms.host next) i ≡ false)
at_place terms k done before flight c i m legal is ended (next, image, comes) =
    let host = terms.host in
    let same : before ++ (done ++ k) ≡ (before ++ done) ++ k = sym (append_assoc before done k) in
    let made_on = subst (λ (g : List Entry). at_number (made host (kept host g)) i ≡ Some m) same (made-kept host before (done ++ k) i m is) in
    let ended_on = subst (λ (g : List Entry). is_live host (kept host g) i ≡ false) same (ended-stays host before (done ++ k) i legal (at_number-length (made host (kept host (done ++ k))) i m is) ended) in
    (next, image, next-ended host k (before ++ done) flight next i m (subst (IsLegal host) same legal) comes made_on ended_on)

pub ended-stays-ended : EndedStaysEnded
ended-stays-ended terms k done [] c i m legal is ended left = at_place terms k done [] None c i m legal is ended left
ended-stays-ended terms k done (e ∷ before) c i m legal is ended (inl here) = at_place terms k done before (Some e.ask) c i m legal.1 is ended here
ended-stays-ended terms k done (e ∷ before) c i m legal is ended (inr earlier) = ended-stays-ended terms k done before c i m legal.1 is ended earlier
