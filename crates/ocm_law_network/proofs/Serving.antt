-- What servers did since they opened their files, as the end of a log.
use Rattle.std.proofs.Common.{◌≡◌, ℕ, ◌+◌, ◌<◌, ◌≤◌, suc, List, [], ◌∷◌, ◌++◌, length, Bool, true, false, cond, refl, sym, ap, ◌∙◌, subst, arith, append_assoc}
use Rattle.std.specs.Prelude.{◌⊎◌, ◌||◌, Option, Some, None, filter, map, nat_eq, option_map, slice_get, IsTrue, if◌then◌else◌}
use mathlib.Core.Logic.{inl, inr}
use Rattle.ocm_types.specs.Hosts.{is_host}
use Rattle.ocm_types.specs.declared.letters.Numbered.{Numbered}
use Rattle.ocm_entry.specs.declared.asks.Ask.{Ask}
use Rattle.ocm_entry.specs.declared.asks.Ask.TheVariants as asks
use Rattle.ocm_entry.specs.declared.entries.Entry.{Entry}
use Rattle.ocm_entry.specs.declared.replies.Reply.{Reply}
use Rattle.ocm_entry.specs.declared.replies.Reply.TheVariants as replies
use Rattle.ocm_server_rounds.specs.Rounds.{messages_of}
use Rattle.ocm_turn.specs.Calls.{entry}
use Rattle.ocm_rules.specs.declared.rows.Message.{Message}
use Rattle.ocm_rules.specs.History.{answer, is_failure, kept, IsLegal}
use Rattle.ocm_rules.specs.Messages.{as_sent, is_due, numbered_from, out}
use Rattle.ocm_rules.specs.Numbers.{at_number, same_text}
use Rattle.ocm_rules.specs.Settlements.{is_settled}
use Rattle.ocm_rules.proofs.Searches.{at_number-within}
use Rattle.ocm_law_grants.proofs.Permissions.{at_number-last}
use Rattle.ocm_law_sessions.specs.Crashes.{IsNext}
use Rattle.ocm_law_sessions.specs.Sessions.{IsReply, IsSession, fault_in}
use Rattle.ocm_law_sessions.proofs.Replying.{reply-given, session-legal}
use Rattle.ocm_law_world.specs.World.{Session, is_settlement, reopened, with_call}
use Rattle.ocm_law_world.proofs.Growth.{message-lasts}
use Rattle.ocm_law_world.proofs.Texts.{text-equal, text-same}
use Rattle.ocm_law_network.proofs.Events.{called-there, opened-there}
use Rattle.ocm_law_posts.specs.Letters.{IsLetter}
use Rattle.ocm_law_network.specs.Network.{Event, Has, IsLog, IsTold, Post, Posts, Replies, Settles, is_used, posts, session_of}
use Rattle.ocm_law_network.specs.Network.Event.{Begins, Called, Posted, Returned, Settled, Crashed}
use Rattle.ocm_law_network.specs.Network.InFlight.{Nothing, Asked, Settling}
use Rattle.ocm_law_network.specs.Serving.{AreValues, GoesOnBy, GoesOnTo, IsAnswered, KilledServersOpenAgain, ServersGoOn, ServersOpenAgain, SettlesAnswers, calls_at, with_calls}

-- ---- messages that are due

-- each of these numbers is that of its message among all
abbrev AreNumbered : List Message → List (ℕ × Message) → Type 0
AreNumbered all [] = Unit {0}
AreNumbered all (p ∷ more) = (at_number all p.0 ≡ Some p.1) × AreNumbered all more

numbered-from : (all : List Message) (n : ℕ) (xs : List Message) → ((i : ℕ) (x : Message) → slice_get xs i ≡ Some x → at_number all (n + i) ≡ Some x) → AreNumbered all (numbered_from n xs)
numbered-from all n [] there = tt
numbered-from all n (x ∷ xs) there =
    let e : n + 0 ≡ n = omega arith in (
      subst (λ j. at_number all j ≡ Some x) e (there 0 x refl),
      numbered-from all (n + 1) xs (λ i y h. let f : n + suc i ≡ n + 1 + i = omega arith in subst (λ j. at_number all j ≡ Some y) f (there (suc i) y h)),
    )

are-numbered : (all : List Message) → AreNumbered all (numbered_from 1 all)
are-numbered all = numbered-from all 1 all (λ i x h. let e : suc i ≡ 1 + i = omega arith in subst (λ j. at_number all j ≡ Some x) e h)

some-numbered : (all : List Message) (p : ℕ × Message → Bool) (xs : List (ℕ × Message)) → AreNumbered all xs → AreNumbered all (filter p xs)
some-numbered all p [] are = tt
some-numbered all p (x ∷ xs) are = by_test (p x) (some-numbered all p xs are.1)
  where
    by_test : (b : Bool) → AreNumbered all (filter p xs) → AreNumbered all (cond b (x ∷ filter p xs) (filter p xs))
    by_test true rest = (are.0, rest)
    by_test false rest = rest

-- a message among all, as it is sent
abbrev IsSent : List Message → Numbered → Type 0
IsSent all m = (message : Message) × (at_number all m.number ≡ Some message) × (m ≡ as_sent (m.number, message))

among-sent : (all : List Message) (xs : List (ℕ × Message)) (m : Numbered) → AreNumbered all xs → Has (map as_sent xs) m → IsSent all m
among-sent all [] m are none = absurd none
among-sent all (x ∷ xs) m are (inl same) = subst (IsSent all) same (x.1, are.0, refl)
among-sent all (x ∷ xs) m are (inr there) = among-sent all xs m are.1 there

-- a reply that tells messages is the answer
told-answered : (host : List ℕ) (g : List Entry) (reply : Reply) (m : Numbered) → (reply ≡ answer host g asks.Due) ⊎ IsTrue (is_failure reply) → Has (messages_of reply) m → Has (messages_of (answer host g asks.Due)) m
told-answered host g reply m (inl is) there = subst (λ r. Has (messages_of r) m) is there
told-answered host g (replies.Due messages) m (inr fails) there = absurd (cc)
told-answered host g _ m (inr fails) there = absurd there

-- a history's message is one of that history with more entries
sent-with : (host : List ℕ) (e : Entry) (g : List Entry) (m : Numbered) → IsLegal host (e ∷ g) → IsSent (out host (kept host g)) m → IsSent (out host (kept host (e ∷ g))) m
sent-with host e g m legal (message, there, same) = (message, message-lasts m.number message host e g legal there, same)

due-sent : (host : List ℕ) (area : ℕ) (k h : List Entry) (m : Numbered) (reply : Reply) → IsSession host area k h → Has h (entry asks.Due reply) → Has (messages_of reply) m → IsSent (out host (kept host (h ++ k))) m
due-sent host area k [] m reply session none told = absurd none
due-sent host area k (e ∷ h) m reply session there told = sent-with host e (h ++ k) m (session-legal host area k (e ∷ h) session) (by_case (λ before. due-sent host area k h m reply session.1 before told) there)
  where
    all : List Message
    all = out host (kept host (h ++ k))

    new : IsReply host area k h asks.Due reply → IsSent all m
    new is =
        let p = is_due (is_settled (kept host (h ++ k))) (numbered_from 1 all) in
        among-sent all (filter p (numbered_from 1 all)) m (some-numbered all p (numbered_from 1 all) (are-numbered all))
        (told-answered host (h ++ k) reply m (reply-given host area (fault_in h) (h ++ k) asks.Due reply is) told)

    by_case : (Has h (entry asks.Due reply) → IsSent all m) → (e ≡ entry asks.Due reply) ⊎ Has h (entry asks.Due reply) → IsSent all m
    by_case rest (inl same) = new (subst (λ (x : Entry). IsReply host area k h x.ask x.reply) same session.0)
    by_case rest (inr before) = rest before

-- ---- connections

length-one-more : (xs : List Post) (x : Post) → length (xs ++ x ∷ []) ≡ suc (length xs)
length-one-more [] x = refl
length-one-more (y ∷ xs) x = ap suc (length-one-more xs x)

far : (n c : ℕ) → c < n → nat_eq n c ≡ false
far n c below = grind (arith, below)

-- a connection that no post has yet is not used
unused : (foreign : List ℕ → Bool) (log : List Event) (n : ℕ) → IsLog foreign log → length (posts log) < n → is_used n log ≡ false
unused foreign [] n is new = refl
unused foreign (Begins host area ∷ log) n is new = unused foreign log n is.1 new
unused foreign (Called host on call ∷ log) n is new = unused foreign log n is.1 new
unused foreign (Posted post ∷ log) n is new = unused foreign log n is.1 (let more = length-one-more (posts log) post in omega (arith, more, new))
unused foreign (Returned connection bytes ∷ log) n is new = unused foreign log n is.1 new
unused foreign (Settled host connection call ∷ log) n is new =
    let within : connection ≤ length (posts log) = at_number-within (posts log) connection is.0.1.post is.0.1.posted in
    let other : nat_eq n connection ≡ false = far n connection (omega (arith, within, new)) in
    ap (λ b. b || is_used n log) other ∙ unused foreign log n is.1 new
unused foreign (Crashed host Nothing next ∷ log) n is new = unused foreign log n is.1 new
unused foreign (Crashed host (Asked ask) next ∷ log) n is new = unused foreign log n is.1 new
unused foreign (Crashed host (Settling connection ask) next ∷ log) n is new =
    let within : connection ≤ length (posts log) = at_number-within (posts log) connection is.0.in_flight.post is.0.in_flight.posted in
    let other : nat_eq n connection ≡ false = far n connection (omega (arith, within, new)) in
    ap (λ b. b || is_used n log) other ∙ unused foreign log n is.1 new

-- ---- what a server is asked next

-- where a call settles a message, the post of that and what came back of it stand in the log
record Prepared (foreign : List ℕ → Bool) (log : List Event) (host : List ℕ) (ask : Ask) : Type 0 where
  pub more : List Event
  pub is : IsLog foreign (more ++ log)
  pub same : (at : List ℕ) → session_of (more ++ log) at ≡ session_of log at
  pub how : (is_settlement ask ≡ false) ⊎ ((connection : ℕ) × Settles (more ++ log) host connection ask)

prepared : (foreign : List ℕ → Bool) (log : List Event) (host : List ℕ) (s : Session) (e : Entry) → IsLog foreign log → session_of log host ≡ Some s → IsSession host s.area s.base s.calls → AreValues (e ∷ s.calls)
    → IsAnswered s.calls e → Prepared foreign log host e.ask
prepared foreign log host s e is there session values (inl plain) = record { more = []; is = is; same = λ at. refl; how = inl plain }
prepared foreign log host s e is there session values (inr (added, d)) =
    let sent = due-sent host s.area s.base s.calls d.message d.due.reply session d.due.asked d.due.told in
    let sound = values d.due.reply d.message (inr d.due.asked) d.due.told in
    let post : Post = record { host = host; number = d.message.number; message = sent.0; site = d.posted.site } in
    let connection : ℕ = length (posts log) + 1 in
    let posted : at_number (posts log ++ post ∷ []) connection ≡ Some post = at_number-last (posts log) post in
    let posts-so : Posts log post = record {
      session = s;
      there = there;
      sent = sent.1;
      letter = subst (λ (m : Numbered). IsLetter m.letter) sent.2 sound.0;
      target = subst (λ (m : Numbered). IsTrue (is_host m.to)) sent.2 sound.1;
    } in
    let settles : Settles (Returned connection d.posted.bytes ∷ Posted post ∷ log) host connection e.ask = record {
      post = post;
      posted = posted;
      own = refl;
      bytes = d.posted.bytes;
      came = inl refl;
      answered = d.answered;
      told = subst (λ (m : Numbered). IsTold m.letter d.posted.bytes d.answered) sent.2 d.posted.told;
      is = d.is;
      once = unused foreign log connection is (omega arith);
    } in
    record { more = Returned connection d.posted.bytes ∷ Posted post ∷ []; is = ((post, posted), (posts-so, is)); same = λ at. refl; how = inr (connection, settles) }

-- a log that goes on twice
twice : (foreign : List ℕ → Bool) (log : List Event) (P Q : List Event → Type 0) (on : GoesOnTo foreign log P) → GoesOnTo foreign (on.0 ++ log) Q → GoesOnTo foreign log Q
twice foreign log P Q on further = let goes = subst (λ l. IsLog foreign l × Q l) (sym (append_assoc further.0 on.0 log)) (further.1, further.2) in (further.0 ++ on.0, goes.0, goes.1)

-- by one call more
one-more : (foreign : List ℕ → Bool) (log : List Event) (host : List ℕ) (s : Session) (e : Entry) → IsLog foreign log → session_of log host ≡ Some s → IsSession host s.area s.base (e ∷ s.calls) → AreValues (e ∷ s.calls)
    → IsAnswered s.calls e → GoesOnTo foreign log (λ later. (at : List ℕ) → session_of later at ≡ session_of (Called host None e ∷ log) at)
one-more foreign log host s e is there session values how = by_case ready.how
  where
    ready : Prepared foreign log host e.ask
    ready = prepared foreign log host s e is there session.1 values how

    replies : Replies (ready.more ++ log) host e
    replies = record { session = s; there = ready.same host ∙ there; told = session.0 }

    same : (at : List ℕ) → session_of (Called host None e ∷ (ready.more ++ log)) at ≡ session_of (Called host None e ∷ log) at
    same at = λ i. if same_text at host then option_map (λ t. with_call t e.ask e.reply) (ready.same host i) else ready.same at i

    by_case : (is_settlement e.ask ≡ false) ⊎ ((connection : ℕ) × Settles (ready.more ++ log) host connection e.ask) → GoesOnTo foreign log (λ later. (at : List ℕ) → session_of later at ≡ session_of (Called host None e ∷ log) at)
    by_case (inl plain) = (Called host None e ∷ ready.more, ((replies, plain, tt), ready.is), same)
    by_case (inr (connection, settles)) = (Settled host connection e ∷ ready.more, ((replies, settles), ready.is), same)

-- by a crash while an ask is in flight
crashed-at : (foreign : List ℕ → Bool) (log : List Event) (host : List ℕ) (s : Session) (e : Entry) (next : List Entry) → IsLog foreign log → session_of log host ≡ Some s → IsSession host s.area s.base s.calls → AreValues (e ∷ s.calls)
    → IsAnswered s.calls e → IsNext host s.base s.calls (Some e.ask) next → GoesOnTo foreign log (λ later. session_of later host ≡ Some (reopened s next))
crashed-at foreign log host s e next is there session values how comes = by_case ready.how
  where
    ready : Prepared foreign log host e.ask
    ready = prepared foreign log host s e is there session values how

    now : session_of (ready.more ++ log) host ≡ Some s
    now = ready.same host ∙ there

    by_case : (is_settlement e.ask ≡ false) ⊎ ((connection : ℕ) × Settles (ready.more ++ log) host connection e.ask) → GoesOnTo foreign log (λ later. session_of later host ≡ Some (reopened s next))
    by_case (inl plain) = (Crashed host (Asked e.ask) next ∷ ready.more, (record { session = s; there = now; in_flight = plain; comes = comes }, ready.is), opened-there (ready.more ++ log) host next s now)
    by_case (inr (connection, settles)) = (Crashed host (Settling connection e.ask) next ∷ ready.more, (record { session = s; there = now; in_flight = settles; comes = comes }, ready.is), opened-there (ready.more ++ log) host next s now)

-- what is so of a history's messages is so of those of an older one
older-values : (e : Entry) (before : List Entry) → AreValues (e ∷ before) → AreValues before
older-values e before values reply m asked told = values reply m (inr asked) told

-- ---- several servers

with-none : (o : Option Session) → o ≡ option_map (λ s. with_calls s []) o
with-none None = refl
with-none (Some s) = refl

with-one : (e : Entry) (calls : List Entry) (o : Option Session) → option_map (λ s. with_call s e.ask e.reply) (option_map (λ s. with_calls s calls) o) ≡ option_map (λ s. with_calls s (e ∷ calls)) o
with-one e calls None = refl
with-one e calls (Some s) = refl

module _ (foreign : List ℕ → Bool) (log : List Event) (at : List ℕ) (e : Entry) (before : List (List ℕ × Entry)) where
  -- what each server did before its last call
  by-before : ((host : List ℕ) → (calls_at host ((at, e) ∷ before) ≡ []) ⊎ GoesOnBy log host (calls_at host ((at, e) ∷ before))) → (host : List ℕ) → (calls_at host before ≡ []) ⊎ GoesOnBy log host (calls_at host before)
  by-before by host = by_test (same_text host at) (by host)
    where
      calls : List Entry
      calls = calls_at host before

      by_test : (b : Bool) → ((if b then e ∷ calls else calls) ≡ []) ⊎ GoesOnBy log host (if b then e ∷ calls else calls) → (calls ≡ []) ⊎ GoesOnBy log host calls
      by_test true (inl none) = absurd (cc)
      by_test true (inr g) = inr (record { session = g.session; there = g.there; lawful = g.lawful.1; settles = g.settles.1; values = older-values e (calls ++ g.session.calls) g.values })
      by_test false h = h

  -- what that server does by it
  own-call : (calls_at at ((at, e) ∷ before) ≡ []) ⊎ GoesOnBy log at (calls_at at ((at, e) ∷ before)) → GoesOnBy log at (e ∷ calls_at at before)
  own-call h = by_case (subst (λ l. (l ≡ []) ⊎ GoesOnBy log at l) (ap (λ b. if b then e ∷ calls_at at before else calls_at at before) (text-same at)) h)
    where
      by_case : (e ∷ calls_at at before ≡ []) ⊎ GoesOnBy log at (e ∷ calls_at at before) → GoesOnBy log at (e ∷ calls_at at before)
      by_case (inl none) = absurd (cc)
      by_case (inr g) = g

  -- the sessions after it
  sessions-after : (mid : List Event) → ((host : List ℕ) → session_of mid host ≡ option_map (λ s. with_calls s (calls_at host before)) (session_of log host))
      → (host : List ℕ) → session_of (Called at None e ∷ mid) host ≡ option_map (λ s. with_calls s (calls_at host ((at, e) ∷ before))) (session_of log host)
  sessions-after mid were host = by_test (same_text host at) refl
    where
      calls : List Entry
      calls = calls_at host before

      by_test : (b : Bool) → same_text host at ≡ b
          → (if b then option_map (λ t. with_call t e.ask e.reply) (session_of mid at) else session_of mid host) ≡ option_map (λ s. with_calls s (if b then e ∷ calls else calls)) (session_of log host)
      by_test true own =
          ap (λ h. option_map (λ t. with_call t e.ask e.reply) (session_of mid h)) (sym (text-equal host at own)) ∙ ap (option_map (λ t. with_call t e.ask e.reply)) (were host)
          ∙ with-one e calls (session_of log host)
      by_test false other = were host

pub servers-go-on : ServersGoOn
servers-go-on foreign log [] is by = ([], is, λ host. with-none (session_of log host))
servers-go-on foreign log ((at, e) ∷ before) is by =
    let on = servers-go-on foreign log before is (by-before foreign log at e before by) in
    let own = own-call foreign log at e before (by at) in
    let there = on.2 at ∙ ap (option_map (λ s. with_calls s (calls_at at before))) own.there in
    let one = one-more foreign (on.0 ++ log) at (with_calls own.session (calls_at at before)) e on.1 there own.lawful own.values own.settles.0 in
    twice foreign log (λ later. (host : List ℕ) → session_of later host ≡ option_map (λ s. with_calls s (calls_at host before)) (session_of log host))
    (λ later. (host : List ℕ) → session_of later host ≡ option_map (λ s. with_calls s (calls_at host ((at, e) ∷ before))) (session_of log host)) on
    (one.0, one.1, λ host. one.2 host ∙ sessions-after foreign log at e before (on.0 ++ log) on.2 host)

-- ---- files that are opened again

-- a session whose calls are these
abbrev after : Session → List Entry → Session
after s history = record { area = s.area; base = s.base; calls = history }

-- one server alone
goes-on-alone : (foreign : List ℕ → Bool) (log : List Event) (host : List ℕ) (s : Session) (history : List Entry) → IsLog foreign log → session_of log host ≡ Some s → s.calls ≡ [] → IsSession host s.area s.base history → SettlesAnswers history → AreValues history
    → GoesOnTo foreign log (λ later. session_of later host ≡ Some (after s history))
goes-on-alone foreign log host s [] is there fresh session settles values = ([], is, there ∙ ap Some (λ i. record { area = s.area; base = s.base; calls = fresh i }))
goes-on-alone foreign log host s (e ∷ before) is there fresh session settles values =
    let on = goes-on-alone foreign log host s before is there fresh session.1 settles.1 (older-values e before values) in
    let one = one-more foreign (on.0 ++ log) host (after s before) e on.1 on.2 session values settles.0 in
    twice foreign log (λ later. session_of later host ≡ Some (after s before)) (λ later. session_of later host ≡ Some (after s (e ∷ before))) on
    (one.0, one.1, one.2 host ∙ called-there (on.0 ++ log) host e (after s before) on.2)

pub servers-open-again : ServersOpenAgain
servers-open-again foreign log host s history next is there fresh session settles values comes =
    let on = goes-on-alone foreign log host s history is there fresh session settles values in (
      Crashed host Nothing next ∷ on.0,
      (record { session = after s history; there = on.2; in_flight = tt; comes = comes }, on.1),
      opened-there (on.0 ++ log) host next (after s history) on.2,
    )

pub killed-servers-open-again : KilledServersOpenAgain
killed-servers-open-again foreign log host s [] next is there fresh session settles values follows = servers-open-again foreign log host s [] next is there fresh session settles values follows
killed-servers-open-again foreign log host s (e ∷ before) next is there fresh session settles values (inl here) =
    let on = goes-on-alone foreign log host s before is there fresh session.1 settles.1 (older-values e before values) in
    twice foreign log (λ later. session_of later host ≡ Some (after s before)) (λ later. session_of later host ≡ Some (reopened s next)) on
    (crashed-at foreign (on.0 ++ log) host (after s before) e next on.1 on.2 session.1 values settles.0 here)
killed-servers-open-again foreign log host s (e ∷ before) next is there fresh session settles values (inr earlier) =
    killed-servers-open-again foreign log host s before next is there fresh session.1 settles.1 (older-values e before values) earlier
