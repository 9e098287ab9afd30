-- Lists of kept entries without the bodies of their PUTs and without the ticks that others follow at once: the status of a read
-- is decided by them.
use Rattle.std.proofs.Common.{◌≡◌, ℕ, List, [], ◌∷◌, Bool, true, false, refl, sym, ap, ◌∙◌, subst}
use Rattle.std.specs.Prelude.{Option, Some, None, if◌then◌else◌}
use Rattle.ocm_path.specs.Paths.{Segments}
use Rattle.ocm_entry.specs.declared.asks.Ask.{Ask}
use Rattle.ocm_entry.specs.declared.asks.Ask.TheVariants as asks
use Rattle.ocm_entry.specs.declared.asks.Method.{Method}
use Rattle.ocm_entry.specs.declared.asks.Method.TheVariants as methods
use Rattle.ocm_entry.specs.declared.entries.Entry.{Entry}
use Rattle.ocm_entry.specs.declared.listings.DavItem.{DavItem}
use Rattle.ocm_entry.specs.declared.refusals.Why.TheVariants.{NotPermitted}
use Rattle.ocm_entry.specs.declared.replies.Reply.{Reply}
use Rattle.ocm_entry.specs.declared.rows.Grant.{Grant}
use Rattle.ocm_entry.specs.declared.rows.Place.{Place}
use Rattle.ocm_entry.specs.declared.rows.Standing.{Standing}
use Rattle.ocm_entry.specs.declared.rows.Standing.TheVariants.{Collection, File}
use Rattle.ocm_rules.specs.Answers.{refused, get_reply, list_reply, items_in, method_reply, dav_reply, reply_in}
use Rattle.ocm_rules.specs.Files.{at, below}
use Rattle.ocm_rules.specs.History.{kept, answer_kept}
use Rattle.ocm_rules.specs.Holders.{permits}
use Rattle.ocm_rules.specs.Lean.{still_stands, lean}
use Rattle.ocm_entry.specs.Ticks.{is_tick}
use Rattle.ocm_rules.specs.Messages.{view_of}
use Rattle.ocm_rules.specs.Shares.{moment}
use Rattle.ocm_rules.specs.Views.{View, grant_in}
use Rattle.ocm_law_lean.proofs.Thin.{thin}
use Rattle.ocm_law_lean.proofs.Further.{Agree, thin-thin}
use Rattle.ocm_law_lean.proofs.Readings.{lean-thin, thin-moment}
use Rattle.ocm_law_lean.proofs.Hollow.{kept_at}
use Rattle.ocm_law_lean.proofs.Replies.{hollowed, Hollowed, hollow_view}
use Rattle.ocm_law_lean.proofs.Answered.{thin-hollowed, thin-hollow_view}
use Rattle.ocm_access_log.specs.Truth.{status_of}
use Rattle.ocm_law_logs.specs.Logged.{is_read}

-- ---- bare lists

-- no body is kept
abbrev pub no_body : ℕ → Bool
no_body number = false

-- a list without bodies and passed ticks, where a tick follows the first entry or not
abbrev pub bare : Bool → List Entry → List Entry
bare first l = thin no_body first l

agree : (keep : ℕ → Bool) (first : Bool) (l : List Entry) → Agree no_body no_body keep first l
agree keep first [] = tt
agree keep first (e ∷ before) = ((λ stays. refl), agree keep (is_tick e.ask) before)

-- the bare list of a thin list is that of the list
pub bare-thin : (keep : ℕ → Bool) (first second : Bool) (l : List Entry) → (first ≡ true → second ≡ true) → bare second (thin keep first l) ≡ bare second l
bare-thin keep first second l follows = thin-thin keep no_body no_body first second l follows (λ k le never. absurd (cc)) (agree keep first l)

pub bare-lean : (host : List ℕ) (g : List Entry) → bare false (lean host g) ≡ bare false (kept host g)
bare-lean host g = ap (λ l. bare false l) (lean-thin host g) ∙ bare-thin (still_stands host (kept host g)) false false (kept host g) (λ h. h)

-- histories with the same lean list have the same bare list
pub bare-same : (host : List ℕ) (g other : List Entry) → lean host g ≡ lean host other → bare false (kept host g) ≡ bare false (kept host other)
bare-same host g other same = sym (bare-lean host g) ∙ ap (λ l. bare false l) same ∙ bare-lean host other

-- and the same moment
pub moment-same : (l other : List Entry) → bare false l ≡ bare false other → moment l ≡ moment other
moment-same l other same = sym (thin-moment no_body l) ∙ ap moment same ∙ thin-moment no_body other

-- also where a tick follows
pub followed-same : (l other : List Entry) → bare false l ≡ bare false other → bare true l ≡ bare true other
followed-same l other same = sym (bare-thin no_body false true l (λ h. refl)) ∙ ap (λ x. bare true x) same ∙ bare-thin no_body false true other (λ h. refl)

-- ---- the status of a read

-- two replies have a status, and the same
abbrev pub Alike : Reply → Reply → Type 0
Alike a b = (status : ℕ) × (status_of a ≡ Some status) × (status_of b ≡ Some status)

got-alike : (keeps : Bool) (o : Option Standing) → Alike (get_reply (hollowed keeps o)) (get_reply o)
got-alike keeps None = (404, refl, refl)
got-alike keeps (Some Collection) = (405, refl, refl)
got-alike keeps (Some (File body)) = (200, refl, refl)

listed-alike : (keeps : Bool) (inside other : List DavItem) (path : Segments) (o : Option Standing) → Alike (list_reply inside path (hollowed keeps o)) (list_reply other path o)
listed-alike keeps inside other path None = (404, refl, refl)
listed-alike keeps inside other path (Some standing) = (207, refl, refl)

-- a read has the same status where files are hollow
hollow-alike : (v : View) (stands : Place → Option Standing) (p : Place → Bool) (ask : Ask) → Hollowed v stands p → is_read ask ≡ true → Alike (reply_in (hollow_view v stands p) ask) (reply_in v ask)
hollow-alike v stands p (asks.Dav secret method path body) files is = by_grant (grant_in v secret)
  where
    w : View
    w = hollow_view v stands p

    at_place : (m : Method) (place : Place) → is_read (asks.Dav secret m path body) ≡ true → Alike (method_reply w m place path body) (method_reply v m place path body)
    at_place methods.Get place read =
        let P : Option Standing → Type 0 = λ o. Alike (get_reply o) (get_reply (v.stands place)) in subst P (sym (files.0 place)) (got-alike (p place) (v.stands place))
    at_place methods.Head place read =
        let P : Option Standing → Type 0 = λ o. Alike (get_reply o) (get_reply (v.stands place)) in subst P (sym (files.0 place)) (got-alike (p place) (v.stands place))
    at_place methods.List0 place read =
        let P : Option Standing → Type 0 = λ o. Alike (list_reply [] path o) (list_reply [] path (v.stands place)) in
        subst P (sym (files.0 place)) (listed-alike (p place) [] [] path (v.stands place))
    at_place methods.List1 place read =
        let P : Option Standing → Type 0 = λ o. Alike (list_reply (items_in w.nodes place path) path o) (list_reply (items_in v.nodes place path) path (v.stands place)) in
        subst P (sym (files.0 place)) (listed-alike (p place) (items_in w.nodes place path) (items_in v.nodes place path) path (v.stands place))
    at_place _ place read = absurd (cc)

    by_grant : (o : Option Grant) → Alike (dav_reply w o method path body) (dav_reply v o method path body)
    by_grant None = (401, refl, refl)
    by_grant (Some grant) = by_right (permits grant.rights method)
      where
        by_right : (b : Bool) → Alike (if b then method_reply w method (below grant.root path) path body else refused NotPermitted) (if b then method_reply v method (below grant.root path) path body else refused NotPermitted)
        by_right true = at_place method (below grant.root path) is
        by_right false = (403, refl, refl)
hollow-alike v stands p _ files is = absurd (cc)

-- a read has the same status after the bare list
pub read-alike : (host : List ℕ) (l : List Entry) (ask : Ask) → is_read ask ≡ true → Alike (answer_kept host (bare false l) ask) (answer_kept host l ask)
read-alike host l ask is =
    let P : View → Type 0 = λ w. Alike (reply_in w ask) (answer_kept host l ask) in
    subst P (sym (thin-hollow_view host no_body l))
    (hollow-alike (view_of host l) (at host (bare false l)) (kept_at host no_body l) ask (thin-hollowed host no_body l) is)

-- so after lists with the same bare list
pub status-same : (host : List ℕ) (l other : List Entry) (ask : Ask) → is_read ask ≡ true → bare false l ≡ bare false other → status_of (answer_kept host l ask) ≡ status_of (answer_kept host other ask)
status-same host l other ask is same =
    let a = read-alike host l ask is in
    let b = read-alike host other ask is in
    a.2 ∙ sym a.1 ∙ ap (λ x. status_of (answer_kept host x ask)) same ∙ b.1 ∙ sym b.2
