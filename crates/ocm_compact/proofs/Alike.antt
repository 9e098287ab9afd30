-- What two replays have in common decides all answers.
use Rattle.std.proofs.Common.{◌≡◌, ℕ, List, sym, ap, ◌∙◌, subst}
use Rattle.ocm_entry.specs.declared.entries.Entry.{Entry}
use Rattle.ocm_entry.specs.declared.rows.Place.{Place}
use Rattle.ocm_rules.specs.History.{IsAnswered, IsLegal, kept}
use Rattle.ocm_rules.specs.Shares.{moment}
use Rattle.ocm_rules.specs.State.{State, node_at, state_of}
use Rattle.ocm_rules.specs.Views.{View}
use Rattle.ocm_rules.proofs.Kept.{kept-answered}
use Rattle.ocm_core.proofs.Standing.{view-after}
use Rattle.ocm_law_alike.specs.Alike.{AnswersAlike, AreAlike}
use Rattle.ocm_law_alike.specs.Others.{others}
use Rattle.ocm_law_alike.proofs.Going.{AnswersAlike-from}
use Rattle.ocm_law_alike.proofs.Rebuilt.{others-decide}
use Rattle.ocm_compact.specs.declared.replays.Replay.{Replay}
use Rattle.ocm_compact.specs.Replays.{IsReplayOf, home_of}
use Rattle.ocm_compact.proofs.Texts.{texts-same}

-- the list of a replay has the answers of the rules
answered : (replay : Replay) (k : List Entry) → IsReplayOf replay k → IsAnswered (home_of replay) k
answered replay k h = subst (IsAnswered (home_of replay)) h.all_kept (kept-answered (home_of replay) k h.lists.legal)

stands-whole : (replay : Replay) (k : List Entry) → IsReplayOf replay k → replay.core.state ≡ state_of (home_of replay) k
stands-whole replay k h = h.lists.lists ∙ ap (state_of (home_of replay)) h.all_kept

moment-of : (replay : Replay) (k : List Entry) → IsReplayOf replay k → moment k ≡ replay.core.state.moment
moment-of replay k h = ap moment (sym h.all_kept) ∙ ap (λ (v : View). v.moment) (view-after replay.core.state k h.lists)

-- the same records, the same moment and the same at each place make all lists alike
pub alike-from : (one other : Replay) (k l : List Entry) → IsReplayOf one k → IsReplayOf other l → home_of one ≡ home_of other → one.others ≡ other.others
    → one.core.state.moment ≡ other.core.state.moment → ((place : Place) → node_at one.core.state.nodes place ≡ node_at other.core.state.nodes place)
    → AreAlike one.core.state other.core.state
alike-from one other k l h j home texts at files =
    let host : List ℕ = home_of one in
    let first : one.core.state ≡ state_of host k = stands-whole one k h in
    let second : other.core.state ≡ state_of host l = stands-whole other l j ∙ ap (λ home. state_of home l) (sym home) in
    let also : IsAnswered host l = subst (λ home. IsAnswered home l) (sym home) (answered other l j) in
    let same : others k ≡ others l = texts-same (others k) (others l) h.fit j.fit (sym h.texts ∙ texts ∙ j.texts) in
    let moments : moment k ≡ moment l = moment-of one k h ∙ at ∙ sym (moment-of other l j) in
    let places : (place : Place) → node_at (state_of host k).nodes place ≡ node_at (state_of host l).nodes place =
    λ place. ap (λ (st : State). node_at st.nodes place) (sym first) ∙ files place ∙ ap (λ (st : State). node_at st.nodes place) second in
    let whole : AreAlike (state_of host k) (state_of host l) = others-decide host k l (answered one k h) also same moments places in
    subst (λ st. AreAlike st other.core.state) (sym first) (subst (AreAlike (state_of host k)) (sym second) whole)

-- and so all answers
pub answers-from : (host : List ℕ) (one other : Replay) (k l : List Entry) → home_of one ≡ host → home_of other ≡ host → IsReplayOf one k → IsReplayOf other l → AreAlike one.core.state other.core.state
    → AnswersAlike host k l
answers-from host one other k l home also h j alike =
    let first : one.core.state ≡ state_of host (kept host k) = h.lists.lists ∙ ap (λ home. state_of home (kept home k)) home in
    let second : other.core.state ≡ state_of host (kept host l) = j.lists.lists ∙ ap (λ home. state_of home (kept home l)) also in
    AnswersAlike-from host k l (subst (λ home. IsLegal home k) home h.lists.legal) (subst (λ home. IsLegal home l) also j.lists.legal)
    (subst (λ st. AreAlike st (state_of host (kept host l))) first (subst (AreAlike one.core.state) second alike))
