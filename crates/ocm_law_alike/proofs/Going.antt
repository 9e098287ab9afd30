-- Histories that are alike go on alike.
use Rattle.std.proofs.Common.{◌≡◌, ℕ, List, [], ◌∷◌, ◌++◌, Bool, true, false, refl, sym, ap, ◌∙◌, subst}
use Rattle.std.specs.Prelude.{Option, Some, None, if◌then◌else◌, ◌⊎◌, IsTrue}
use mathlib.Core.Logic.{inl, inr}
use Rattle.ocm_entry.specs.declared.asks.Ask.{Ask}
use Rattle.ocm_entry.specs.declared.replies.Reply.{Reply}
use Rattle.ocm_entry.specs.declared.entries.Entry.{Entry}
use Rattle.ocm_entry.specs.declared.rows.Place.{Place}
use Rattle.ocm_entry.specs.declared.rows.Node.{Node}
use Rattle.ocm_rules.specs.Answers.{reply_in}
use Rattle.ocm_rules.specs.Files.{act_by, nodes, with_roots}
use Rattle.ocm_rules.specs.Holders.{root_among}
use Rattle.ocm_rules.specs.History.{IsAnswered, IsGiven, IsLegal, answer, changes_in, is_failure, kept}
use Rattle.ocm_rules.specs.State.{EachOnce, State, after, node_at, state_of, step, view_in}
use Rattle.ocm_rules.proofs.Kept.{kept-answered}
use Rattle.ocm_rules.proofs.Once.{once-nodes}
use Rattle.ocm_rules.proofs.States.{answer-state, state_of-kept, state_of-read}
use Rattle.ocm_law_alike.specs.Alike.{AnswersAlike, AreAlike, IsAlike}
use Rattle.ocm_law_alike.proofs.Taken.{IsRootless, StandAlike}
use Rattle.ocm_law_alike.proofs.Limits.{same-after}
use Rattle.ocm_law_alike.proofs.Replies.{reply-order, with_order}
use Rattle.ocm_law_alike.proofs.Rootless.{rootless-nodes}

-- ---- lists

abbrev with_nodes : State → List Node → State
with_nodes st ns = record st { nodes = ns }

-- lists that are alike differ in the order of their nodes alone
other-is : (one other : State) → AreAlike one other → other ≡ with_nodes one other.nodes
other-is one other h = λ i. record {
  host = sym h.host i;
  moment = sym h.moment i;
  users = sym h.users i;
  shares = sym h.shares i;
  limits = sym h.limits i;
  nodes = other.nodes;
  received = sym h.received i;
  requests = sym h.requests i;
  sent = sym h.sent i;
}

-- what stands, stands once and below the roots
record IsSound (st : State) : Type 0 where
  once : EachOnce st.nodes
  rootless : IsRootless st.nodes

view-order : (one : State) (ns : List Node) → ((place : Place) → node_at ns place ≡ node_at one.nodes place) → view_in (with_nodes one ns) ≡ with_order (view_in one) ns
view-order one ns same = λ i. record (view_in one) { stands = with_roots (λ place. same place i); nodes = ns }

stand-alike : (one other : State) → IsSound one → IsSound other → AreAlike one other → StandAlike other.nodes one.nodes
stand-alike one other s t h = record { once = t.once; apart = s.once; rootless = s.rootless; same = λ place. sym (h.files place) }

view-alike : (one other : State) → AreAlike one other → view_in other ≡ with_order (view_in one) other.nodes
view-alike one other h = ap view_in (other-is one other h) ∙ view-order one other.nodes (λ place. sym (h.files place))

reply-alike : (one other : State) (ask : Ask) → IsSound one → IsSound other → AreAlike one other → reply_in (view_in other) ask ≡ reply_in (view_in one) ask
reply-alike one other ask s t h =
    ap (λ v. reply_in v ask) (view-alike one other h)
    ∙ reply-order (view_in one) other.nodes ask (λ place root. rw root refl) (stand-alike one other s t h)

changes-alike : (one other : State) (ask : Ask) (reply : Reply) → AreAlike one other → changes_in (view_in other) ask reply ≡ changes_in (view_in one) ask reply
changes-alike one other ask reply h = ap (λ v. changes_in v ask reply) (view-alike one other h)

step-order : (one : State) (ns : List Node) (ask : Ask) (reply : Reply) → ((place : Place) → node_at one.nodes place ≡ node_at ns place) → AreAlike (step one ask reply) (step (with_nodes one ns) ask reply)
step-order one ns ask reply same = record {
  host = refl;
  moment = refl;
  users = refl;
  shares = refl;
  limits = refl;
  files = same-after (act_by (root_among one.users (view_in one).shares) ask) one.nodes ns same;
  received = refl;
  requests = refl;
  sent = refl;
}

step-alike : (one other : State) (ask : Ask) (reply : Reply) → AreAlike one other → AreAlike (step one ask reply) (step other ask reply)
step-alike one other ask reply h = subst (λ st. AreAlike (step one ask reply) (step st ask reply)) (sym (other-is one other h)) (step-order one other.nodes ask reply h.files)

after-alike : (one other : State) (ask : Ask) (reply : Reply) → AreAlike one other → AreAlike (after one ask reply) (after other ask reply)
after-alike one other ask reply h = by_tests (changes_in (view_in one) ask reply) (changes_in (view_in other) ask reply) (changes-alike one other ask reply h)
  where
    by_tests : (b c : Bool) → c ≡ b → AreAlike (if b then step one ask reply else one) (if c then step other ask reply else other)
    by_tests true true e = step-alike one other ask reply h
    by_tests true false e = absurd (cc)
    by_tests false true e = absurd (cc)
    by_tests false false e = h

-- ---- histories

sound : (host : List ℕ) (g : List Entry) → IsLegal host g → IsSound (state_of host (kept host g))
sound host g legal =
    let answered = kept-answered host g legal in
    let same : nodes host (kept host g) ≡ (state_of host (kept host g)).nodes = sym (ap (λ (st : State). st.nodes) (state_of-read host (kept host g) answered)) in
    record { once = subst EachOnce same (once-nodes host (kept host g)); rootless = subst IsRootless same (rootless-nodes host (kept host g) answered) }

pub answers-alike : (host : List ℕ) (g other : List Entry) (ask : Ask) → IsLegal host g → IsLegal host other → IsAlike host g other → answer host other ask ≡ answer host g ask
answers-alike host g other ask legal also h =
    answer-state host (kept host other) ask (kept-answered host other also)
    ∙ reply-alike (state_of host (kept host g)) (state_of host (kept host other)) ask (sound host g legal) (sound host other also) h
    ∙ sym (answer-state host (kept host g) ask (kept-answered host g legal))

pub given-alike : (host : List ℕ) (g other : List Entry) (e : Entry) → IsLegal host g → IsLegal host other → IsAlike host g other → IsGiven host g e → IsGiven host other e
given-alike host g other e legal also h (inl answered) = inl (answered ∙ sym (answers-alike host g other e.ask legal also h))
given-alike host g other e legal also h (inr failed) = inr failed

pub further-alike : (host : List ℕ) (g other : List Entry) (e : Entry) → IsLegal host g → IsLegal host other → IsAlike host g other → IsAlike host (e ∷ g) (e ∷ other)
further-alike host g other e legal also h =
    let one : state_of host (kept host (e ∷ g)) ≡ after (state_of host (kept host g)) e.ask e.reply = state_of-kept host g e (kept-answered host g legal) in
    let two : state_of host (kept host (e ∷ other)) ≡ after (state_of host (kept host other)) e.ask e.reply = state_of-kept host other e (kept-answered host other also) in
    subst (λ st. AreAlike st (state_of host (kept host (e ∷ other)))) (sym one)
    (subst (AreAlike (after (state_of host (kept host g)) e.ask e.reply)) (sym two)
    (after-alike (state_of host (kept host g)) (state_of host (kept host other)) e.ask e.reply h))

-- both histories with the same further entries
goes-on : (host : List ℕ) (g other : List Entry) → IsLegal host other → IsAlike host g other → (more : List Entry) → IsLegal host (more ++ g) → IsLegal host (more ++ other) × IsAlike host (more ++ g) (more ++ other)
goes-on host g other also h [] legal = (also, h)
goes-on host g other also h (e ∷ more) legal =
    let before = goes-on host g other also h more legal.1 in
    ((given-alike host (more ++ g) (more ++ other) e legal.1 before.0 before.1 legal.0, before.0), further-alike host (more ++ g) (more ++ other) e legal.1 before.0 before.1)

turned : (one other : State) → AreAlike one other → AreAlike other one
turned one other h = record {
  host = sym h.host;
  moment = sym h.moment;
  users = sym h.users;
  shares = sym h.shares;
  limits = sym h.limits;
  files = λ place. sym (h.files place);
  received = sym h.received;
  requests = sym h.requests;
  sent = sym h.sent;
}

pub AnswersAlike-from : (host : List ℕ) (g other : List Entry) → IsLegal host g → IsLegal host other → IsAlike host g other → AnswersAlike host g other
AnswersAlike-from host g other legal also h = record {
  legal = λ more given. (goes-on host g other also h more given).0;
  back = λ more given. (goes-on host other g legal (turned (state_of host (kept host g)) (state_of host (kept host other)) h) more given).0;
  answers = λ more ask given. let both = goes-on host g other also h more given in answers-alike host (more ++ g) (more ++ other) ask given both.0 both.1;
}
