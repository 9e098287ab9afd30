use Rattle.std.proofs.Common.{◌≡◌, ◌⊎◌, ◌∙◌, List, ℕ, sym, subst}
use Rattle.std.specs.Prelude.{IfOk}
use Rattle.ocm_disk.specs.Disk.{LeavesOnly}
use Rattle.ocm_journal_image.specs.Layout.{IsLabel}
use Rattle.ocm_journal.specs.Journals as journals
use Rattle.ocm_journal.specs.LiveAreas.{BeginsWith, HasLive, LiveArea}
use Rattle.ocm_journal.specs.Openings.{StaysAsItOpens, new_area, opening}
use Rattle.ocm_journal.specs.Openings as openings
use Rattle.ocm_law_sessions.specs.Readings.{refused_at}
use Rattle.ocm_store.specs.Opening.{IsNoDiskFault, IsOfArea, IsSaidBy, loading}
use Rattle.ocm_store.proofs.Opened.{IsLoaded, IsReplayed, all-back, all-kept, all-opened, all-said, host-label, of-area, opened-no_fault, replayed-all, replayed-no_fault, said-opening}
use Rattle.ocm_store.proofs.stores.Store.load.Given.{Over}
use Rattle.ocm_store.proofs.stores.Store.load.Goals as goal

pub load-requires-clause-label : goal.load-requires-clause-label
load-requires-clause-label g c =
    let same : c.as_bytes.result.now ≡ c.args.host = c.as_bytes.ensures.value ∙ c.as_str.ensures ∙ c.text.ensures.text in
    subst IsLabel (sym same) (host-label c.args.host c.text.ensures.canonical)

-- the journal has the host as its label
loaded : (g : Over) (c : goal.After-replay g) → IsLoaded g.D.Disk c.args.host (new_area c.args.limit) c.args.disk c.in-Ok.journal c.in-Ok.records
loaded g c =
    let same : c.as_bytes.result.now ≡ c.args.host = c.as_bytes.ensures.value ∙ c.as_str.ensures ∙ c.text.ensures.text in
    subst (λ (label : List ℕ). IsLoaded g.D.Disk label (new_area c.args.limit) c.args.disk c.in-Ok.journal c.in-Ok.records) same
    (record { reads = c.in-Ok.ensures.reads; holds = c.in-Ok.ensures.stands; made = c.in-Ok.ensures.made; same = c.in-Ok.ensures.same; stays = c.in-Ok.ensures.stays_ok; moments = c.in-Ok.ensures.moments_ok })

synced : (g : Over) (c : goal.After-replay g) → g.D.Disk.tells → g.D.Disk.passes c.args.disk 1
    → g.D.Disk.faithful (journals.disk_of c.in-Ok.journal) → (x : List ℕ) → g.D.Disk.may_leave (journals.disk_of c.in-Ok.journal) x → StaysAsItOpens c.args.host (new_area c.args.limit) (g.D.Disk.seen c.args.disk) x
synced g c tells one =
    let d = g.D.Disk in
    let same : c.as_bytes.result.now ≡ c.args.host = c.as_bytes.ensures.value ∙ c.as_str.ensures ∙ c.text.ensures.text in
    subst (λ (label : List ℕ). d.faithful (journals.disk_of c.in-Ok.journal) → (x : List ℕ) → d.may_leave (journals.disk_of c.in-Ok.journal) x → StaysAsItOpens label (new_area c.args.limit) (d.seen c.args.disk) x) same (c.in-Ok.ensures.synced_ok tells one)

replayed : (g : Over) (c : goal.After-replay g) → IfOk c.replay.result (IsReplayed g.D.Disk c.args.host c.in-Ok.journal c.in-Ok.records)
replayed g c = replayed-all g.D.Disk c.args.host c.in-Ok.journal c.in-Ok.records c.replay.result c.replay.ensures.host c.replay.ensures.journal c.replay.ensures.memory c.replay.ensures.goes

pub returns-in-Ok-clause-opened : goal.returns-in-Ok-clause-opened
returns-in-Ok-clause-opened g c = all-opened (loaded g c) g.met.D.Disk.reads_an_image c.replay.result (replayed g c)

pub returns-in-Ok-clause-says : goal.returns-in-Ok-clause-says
returns-in-Ok-clause-says g c = λ tells. all-said (loaded g c) tells c.replay.result c.replay.ensures.disk c.replay.ensures.refused

pub returns-in-Ok-clause-area : goal.returns-in-Ok-clause-area
returns-in-Ok-clause-area g c = λ tells. all-kept (loaded g c) (λ j. g.D.Disk.faithful (journals.disk_of j) → IsOfArea c.args.host (new_area c.args.limit) (journals.area_of j) (g.D.Disk.seen c.args.disk)) (of-area (loaded g c) tells) c.replay.result c.replay.ensures.journal

pub returns-in-Ok-clause-count : goal.returns-in-Ok-clause-count
returns-in-Ok-clause-count g c = all-kept (loaded g c) (λ j. g.D.Disk.count (journals.disk_of j) ≡ g.D.Disk.count c.args.disk) c.in-Ok.ensures.count c.replay.result c.replay.ensures.journal

pub returns-in-Ok-clause-passes : goal.returns-in-Ok-clause-passes
returns-in-Ok-clause-passes g c = λ pass. all-kept (loaded g c) (λ j. (n : ℕ) → g.D.Disk.passes (journals.disk_of j) n) (c.in-Ok.ensures.passes pass) c.replay.result c.replay.ensures.journal

pub returns-in-Ok-clause-unfailing : goal.returns-in-Ok-clause-unfailing
returns-in-Ok-clause-unfailing g c = λ pass. replayed-no_fault (refused_at c.args.host (journals.form_of c.in-Ok.journal) c.in-Ok.records) c.replay.result c.replay.ensures.refused

pub returns-in-Ok-clause-same_ok : goal.returns-in-Ok-clause-same_ok
returns-in-Ok-clause-same_ok g c = λ tells. all-kept (loaded g c) (λ j. g.D.Disk.faithful (journals.disk_of j) → StaysAsItOpens c.args.host (new_area c.args.limit) (g.D.Disk.seen c.args.disk) (g.D.Disk.seen (journals.disk_of j))) ((loaded g c).stays tells) c.replay.result c.replay.ensures.journal

pub returns-in-Ok-clause-same_err : goal.returns-in-Ok-clause-same_err
returns-in-Ok-clause-same_err g c = λ tells. all-back (loaded g c) (λ back. g.D.Disk.faithful back → StaysAsItOpens c.args.host (new_area c.args.limit) (g.D.Disk.seen c.args.disk) (g.D.Disk.seen back)) ((loaded g c).stays tells) c.replay.result c.replay.ensures.disk

pub returns-in-Ok-clause-moments_ok : goal.returns-in-Ok-clause-moments_ok
returns-in-Ok-clause-moments_ok g c = λ tells. all-kept (loaded g c) (λ j. g.D.Disk.faithful (journals.disk_of j) → LeavesOnly g.D.Disk.moment g.D.Disk.left_since c.args.disk (journals.disk_of j) (λ x. g.D.Disk.may_leave c.args.disk x ⊎ StaysAsItOpens c.args.host (new_area c.args.limit) (g.D.Disk.seen c.args.disk) x)) ((loaded g c).moments tells) c.replay.result c.replay.ensures.journal

pub returns-in-Ok-clause-moments_err : goal.returns-in-Ok-clause-moments_err
returns-in-Ok-clause-moments_err g c = λ tells. all-back (loaded g c) (λ back. g.D.Disk.faithful back → LeavesOnly g.D.Disk.moment g.D.Disk.left_since c.args.disk back (λ x. g.D.Disk.may_leave c.args.disk x ⊎ StaysAsItOpens c.args.host (new_area c.args.limit) (g.D.Disk.seen c.args.disk) x)) ((loaded g c).moments tells) c.replay.result c.replay.ensures.disk

pub returns-in-Err-clause-says : goal.returns-in-Err-clause-says
returns-in-Err-clause-says g c = λ tells faithful.
    let area = new_area c.args.limit in
    let seen : List ℕ = g.D.Disk.seen c.args.disk in
    let same : c.as_bytes.result.now ≡ c.args.host = c.as_bytes.ensures.value ∙ c.as_str.ensures ∙ c.text.ensures.text in
    subst (IsSaidBy (loading c.args.host area seen)) (sym c.from.ensures)
    (said-opening c.args.host area seen c.in-Err.fault (subst (λ (label : List ℕ). openings.IsSaidBy (opening label area seen) c.in-Err.fault) same (c.in-Err.ensures.says tells faithful)))

pub returns-in-Err-clause-unfailing : goal.returns-in-Err-clause-unfailing
returns-in-Err-clause-unfailing g c = λ pass. subst IsNoDiskFault (sym c.from.ensures) (opened-no_fault c.in-Err.fault (c.in-Err.ensures.unfailing pass))

pub returns-in-Err-clause-moments_err : goal.returns-in-Err-clause-moments_err
returns-in-Err-clause-moments_err g c = λ tells.
    let d = g.D.Disk in
    let area = new_area c.args.limit in
    let same : c.as_bytes.result.now ≡ c.args.host = c.as_bytes.ensures.value ∙ c.as_str.ensures ∙ c.text.ensures.text in
    subst (λ (label : List ℕ). d.faithful c.in-Err.disk → LeavesOnly d.moment d.left_since c.args.disk c.in-Err.disk (λ x. d.may_leave c.args.disk x ⊎ StaysAsItOpens label area (d.seen c.args.disk) x)) same (c.in-Err.ensures.moments_err tells)

pub returns-in-Err-clause-same_err : goal.returns-in-Err-clause-same_err
returns-in-Err-clause-same_err g c = λ tells.
    let d = g.D.Disk in
    let same : c.as_bytes.result.now ≡ c.args.host = c.as_bytes.ensures.value ∙ c.as_str.ensures ∙ c.text.ensures.text in
    subst (λ (label : List ℕ). d.faithful c.in-Err.disk → StaysAsItOpens label (new_area c.args.limit) (d.seen c.args.disk) (d.seen c.in-Err.disk)) same (c.in-Err.ensures.stays_err tells)

pub returns-in-Ok-clause-synced_ok : goal.returns-in-Ok-clause-synced_ok
returns-in-Ok-clause-synced_ok g c = λ tells one. all-kept (loaded g c) (λ j. g.D.Disk.faithful (journals.disk_of j) → (x : List ℕ) → g.D.Disk.may_leave (journals.disk_of j) x → StaysAsItOpens c.args.host (new_area c.args.limit) (g.D.Disk.seen c.args.disk) x)
    (synced g c tells one) c.replay.result c.replay.ensures.journal

pub returns-in-Ok-clause-synced_err : goal.returns-in-Ok-clause-synced_err
returns-in-Ok-clause-synced_err g c = λ tells one. all-back (loaded g c) (λ back. g.D.Disk.faithful back → (x : List ℕ) → g.D.Disk.may_leave back x → StaysAsItOpens c.args.host (new_area c.args.limit) (g.D.Disk.seen c.args.disk) x)
    (synced g c tells one) c.replay.result c.replay.ensures.disk

pub returns-in-Err-clause-synced_err : goal.returns-in-Err-clause-synced_err
returns-in-Err-clause-synced_err g c = λ tells one.
    let d = g.D.Disk in
    let same : c.as_bytes.result.now ≡ c.args.host = c.as_bytes.ensures.value ∙ c.as_str.ensures ∙ c.text.ensures.text in
    subst (λ (label : List ℕ). d.faithful c.in-Err.disk → (x : List ℕ) → d.may_leave c.in-Err.disk x → StaysAsItOpens label (new_area c.args.limit) (d.seen c.args.disk) x) same (c.in-Err.ensures.synced_err tells one)

pub returns-in-Ok-clause-begins : goal.returns-in-Ok-clause-begins
returns-in-Ok-clause-begins g c = λ tells.
    let d = g.D.Disk in
    let same : c.as_bytes.result.now ≡ c.args.host = c.as_bytes.ensures.value ∙ c.as_str.ensures ∙ c.text.ensures.text in
    all-kept (loaded g c) (λ j. d.faithful (journals.disk_of j) → (live : LiveArea) → BeginsWith c.args.host (new_area c.args.limit) (d.seen c.args.disk) live → HasLive d c.args.host live j)
    (subst (λ (label : List ℕ). d.faithful (journals.disk_of c.in-Ok.journal) → (live : LiveArea) → BeginsWith label (new_area c.args.limit) (d.seen c.args.disk) live → HasLive d label live c.in-Ok.journal) same (c.in-Ok.ensures.begins tells))
    c.replay.result c.replay.ensures.journal
