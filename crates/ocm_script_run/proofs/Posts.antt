-- Messages that are given to the servers that they are for.
use Rattle.std.proofs.Common.{◌≡◌, ◌<◌, ℕ, ◌+◌, List, [], ◌∷◌, ◌++◌, ◌==◌, length, get_or, drop, Bool, true, false, Option, Some, None, refl, sym, ◌∙◌, ap, subst, if◌then◌else◌, append_assoc, append-nil, add-one, arith}
use Rattle.std.proofs.Math.Seq.{drop-cons}
use Rattle.std.specs.Option.{option_map_or}
use Rattle.std.specs.Prelude.{codes}
use Rattle.ocm_types.specs.Draws.{fresh_plus}
use Rattle.ocm_types.specs.declared.letters.Numbered.{Numbered}
use Rattle.ocm_entry.specs.declared.asks.Ask.{Ask}
use Rattle.ocm_entry.specs.declared.asks.Ask.TheVariants as asks
use Rattle.ocm_entry.specs.declared.replies.Reply.{Reply}
use Rattle.ocm_entry.specs.declared.replies.Reply.TheVariants as replies
use Rattle.ocm_transcript.specs.Texts.{reply_lines, told_line}
use Rattle.ocm_script.specs.declared.events.Event.{Event}
use Rattle.ocm_script.specs.declared.events.Event.TheVariants as events
use Rattle.ocm_script.specs.Events.{host_of}
use Rattle.ocm_script_run.specs.Asked.{ask_of}
use Rattle.ocm_disk.specs.declared.crashes.Crash.{Crash}
use Rattle.ocm_script_run.specs.Transcript.{IsRun, faulty_text, plain, run}
use Rattle.ocm_script_run.specs.Servers.{World, asked_at}
use Rattle.ocm_script_run.specs.Deliveries.{Run, all_delivered, answered, come_back, delivered, given, next_wanting, nothing, others_wanting, pump, pumped, settlement, unreachable}
use Rattle.ocm_script_run.specs.Running.{Asks, Ran, Runs}
use Rattle.ocm_script_run.proofs.Worlds.{asked-unanswered}
use Rattle.ocm_script_run.proofs.Lines.{Runs-on, Runs-same}

module _ {S : Type 0} (stand : S → World → Type 0) where
  -- the server that a message is for answered it, and what came of the reply was run
  pub Runs-given : (new mid : S) (world : World) (line : ℕ) (sender : List ℕ) (lost : Bool) (message : Numbered) (ask : Ask) (reply : Reply) (text : List ℕ)
      → Asks stand world mid message.to ask (Some reply) → ((w : World) → stand mid w → Runs stand (λ wanting. answered (next_wanting wanting) w line sender lost message reply) new text)
      → Runs stand (λ wanting. given wanting world line sender lost message ask) new text
  Runs-given new mid world line sender lost message ask reply text h more =
      Runs-on stand h.0 (λ wanting. given wanting world line sender lost message ask)
      (λ wanting. answered (next_wanting wanting) (asked_at h.0 world message.to ask) line sender lost message reply)
      new text
      (λ w. ap (λ (r : Option Reply). option_map_or (λ (one : Reply). answered (next_wanting w) (asked_at h.0 world message.to ask) line sender lost message one) r (unreachable world line message.to)) (sym h.1))
      (more (asked_at h.0 world message.to ask) h.2)

  -- the reply comes back
  pub Runs-back : (new : S) (world : World) (line : ℕ) (sender : List ℕ) (lost : Bool) (message : Numbered) (reply : Reply) (front : List ℕ) (ask : Ask) (text : List ℕ) → lost ≡ false
      → front ≡ told_line line (codes "at") message.to reply → ask ≡ settlement message.number reply
      → Runs stand (λ w. come_back (next_wanting w) world line front sender ask) new text → Runs stand (λ w. answered (next_wanting w) world line sender lost message reply) new text
  Runs-back new world line sender lost message reply front ask text back front_is ask_is h =
      Runs-same stand (λ w. answered (next_wanting w) world line sender lost message reply) (λ w. come_back (next_wanting w) world line front sender ask) new text
      (λ w. ap (λ (b : Bool). if b then record { world = world; text = told_line line (codes "at") message.to reply } else come_back (next_wanting w) world line (told_line line (codes "at") message.to reply) sender (settlement message.number reply)) back
      ∙ (λ i. come_back (next_wanting w) world line (sym front_is i) sender (sym ask_is i)))
      h

  -- there is no such server
  pub Runs-unreachable : (new : S) (world : World) (line : ℕ) (sender : List ℕ) (lost : Bool) (message : Numbered) (ask : Ask)
      → Asks stand world new message.to ask None → Runs stand (λ wanting. given wanting world line sender lost message ask) new (unreachable world line message.to).text
  Runs-unreachable new world line sender lost message ask h =
      Runs-on stand h.0 (λ wanting. given wanting world line sender lost message ask) (λ wanting. unreachable world line message.to) new (unreachable world line message.to).text
      (λ w. ap (λ (r : Option Reply). option_map_or (λ (one : Reply). answered (next_wanting w) (asked_at h.0 world message.to ask) line sender lost message one) r (unreachable world line message.to)) (sym h.1))
      ([], refl, subst (stand new) (asked-unanswered h.0 world message.to ask h.1) h.2)

-- ---- one message after another

module _ {S : Type 0} (stand : S → World → Type 0) where
  -- so far, whatever the rest prints, what was printed and that is what all messages print
  pub record GoesOn (all : List Numbered) (start now : S) (line : ℕ) (sender fresh : List ℕ) (place : ℕ) (rest : List Numbered) (text : List ℕ) : Type 0 where
    pub on : (world : World) → stand start world → (at : World) × stand now at
        × ((w : List Bool) → (v : List Bool)
        × ((all_delivered v world line sender fresh 0 all).text ≡ text ++ (all_delivered w at line sender fresh place rest).text)
        × ((all_delivered v world line sender fresh 0 all).world ≡ (all_delivered w at line sender fresh place rest).world))

  pub GoesOn-start : (all : List Numbered) (start : S) (line : ℕ) (sender fresh : List ℕ) → GoesOn all start start line sender fresh 0 all []
  GoesOn-start all start line sender fresh = record { on = λ world are. (world, are, λ w. (w, refl, refl)) }

  -- at a message
  pub GoesOn-at : (all : List Numbered) (start now : S) (line : ℕ) (sender fresh : List ℕ) (place : ℕ) (messages : List Numbered) (i : ℕ) (message : Numbered) (text : List ℕ)
      → i < length messages → message ≡ get_or messages i message → GoesOn all start now line sender fresh place (drop i messages) text → GoesOn all start now line sender fresh place (message ∷ drop (i + 1) messages) text
  GoesOn-at all start now line sender fresh place messages i message text lt is h = rw (add-one, is, ← drop-cons messages i message lt) h

  -- one message on
  pub GoesOn-more : (all : List Numbered) (start now new : S) (line : ℕ) (sender fresh : List ℕ) (place : ℕ) (message : Numbered) (rest : List Numbered) (text more : List ℕ)
      → GoesOn all start now line sender fresh place (message ∷ rest) text
      → ((world : World) → stand now world → Runs stand (λ wanting. delivered wanting world line sender (fresh_plus fresh place) false message) new more)
      → GoesOn all start new line sender fresh (place + 1) rest (text ++ more)
  GoesOn-more all start now new line sender fresh place message rest text more h run = record {
    on = λ world are.
        let so_far = h.on world are in
        let one = run so_far.0 so_far.1 in
        let first = delivered one.0 so_far.0 line sender (fresh_plus fresh place) false message in (
          first.world,
          one.2,
          λ w.
              let whole = so_far.2 (next_wanting one.0 ∷ next_wanting (others_wanting one.0) ∷ w) in
              let rest_text = (all_delivered w first.world line sender fresh (place + 1) rest).text in (
                whole.0,
                whole.1 ∙ ap (λ t. text ++ (t ++ rest_text)) (sym one.1) ∙ sym (append_assoc text more rest_text),
                whole.2,
              ),
        );
  }

  -- at the end
  pub Runs-all : (all : List Numbered) (start new : S) (line : ℕ) (sender fresh : List ℕ) (place : ℕ) (rest : List Numbered) (text : List ℕ) → rest ≡ [] → GoesOn all start new line sender fresh place rest text
      → (world : World) → stand start world → Runs stand (λ wanting. all_delivered wanting world line sender fresh 0 all) new text
  Runs-all all start new line sender fresh place [] text e h = λ world are.
      let so_far = h.on world are in
      let whole = so_far.2 [] in
      (whole.0, sym (whole.1 ∙ append-nil text), subst (stand new) (sym whole.2) so_far.1)
  Runs-all all start new line sender fresh place (message ∷ rest) text e h = cc

-- ---- what was answered to the question which messages are due

-- an answer that tells none
pub pumped-other : (wanting : List Bool) (world : World) (line : ℕ) (sender fresh : List ℕ) (reply : Reply) → ((messages : List Numbered) → reply ≡ replies.Due messages → ⊥)
    → pumped wanting world line sender fresh reply ≡ record { world = world; text = reply_lines line true reply }
pumped-other wanting world line sender fresh (replies.Due messages) other = absurd (other messages refl)
pumped-other wanting world line sender fresh _ other = refl

pub pumped-none : (wanting : List Bool) (world : World) (line : ℕ) (sender fresh : List ℕ) (reply : Reply) (messages : List Numbered) → reply ≡ replies.Due messages → messages ≡ [] → pumped wanting world line sender fresh reply ≡ nothing world line
pumped-none wanting world line sender fresh reply messages is none = ap (λ r. pumped wanting world line sender fresh r) (is ∙ ap replies.Due none)

some_by : (wanting : List Bool) (world : World) (line : ℕ) (sender fresh : List ℕ) (messages : List Numbered) → (messages ≡ [] → ⊥) → pumped wanting world line sender fresh (replies.Due messages) ≡ all_delivered wanting world line sender fresh 0 messages
some_by wanting world line sender fresh [] some = absurd (some refl)
some_by wanting world line sender fresh (message ∷ messages) some = refl

pub pumped-some : (wanting : List Bool) (world : World) (line : ℕ) (sender fresh : List ℕ) (reply : Reply) (messages : List Numbered) → reply ≡ replies.Due messages → (messages ≡ [] → ⊥)
    → pumped wanting world line sender fresh reply ≡ all_delivered wanting world line sender fresh 0 messages
pumped-some wanting world line sender fresh reply messages is some = ap (λ r. pumped wanting world line sender fresh r) is ∙ some_by wanting world line sender fresh messages some

module _ {S : Type 0} (stand : S → World → Type 0) where
  -- the sender answered which messages are due, and these were run
  pub Runs-pumped : (new mid : S) (world : World) (line : ℕ) (sender fresh : List ℕ) (reply : Reply) (text : List ℕ) → Asks stand world mid sender asks.Due (Some reply)
      → ((w : World) → stand mid w → Runs stand (λ wanting. pumped wanting w line sender fresh reply) new text) → Runs stand (λ wanting. pump wanting world line sender fresh) new text
  Runs-pumped new mid world line sender fresh reply text h more =
      Runs-on stand h.0 (λ wanting. pump wanting world line sender fresh) (λ wanting. pumped wanting (asked_at h.0 world sender asks.Due) line sender fresh reply) new text
      (λ w. ap (λ (r : Option Reply). option_map_or (λ (one : Reply). pumped w (asked_at h.0 world sender asks.Due) line sender fresh one) r (record { world = world; text = [] })) (sym h.1))
      (more (asked_at h.0 world sender asks.Due) h.2)

  pub Runs-unpumped : (new : S) (world : World) (line : ℕ) (sender fresh : List ℕ) → Asks stand world new sender asks.Due None → Runs stand (λ wanting. pump wanting world line sender fresh) new []
  Runs-unpumped new world line sender fresh h =
      Runs-on stand h.0 (λ wanting. pump wanting world line sender fresh) (λ wanting. record { world = world; text = [] }) new []
      (λ w. ap (λ (r : Option Reply). option_map_or (λ (one : Reply). pumped w (asked_at h.0 world sender asks.Due) line sender fresh one) r (record { world = world; text = [] })) (sym h.1))
      ([], refl, subst (stand new) (asked-unanswered h.0 world sender asks.Due h.1) h.2)

-- ---- lines of other kinds

-- an event of none of the kinds whose lines do more than ask
pub record IsPlain (e : Event) : Type 0 where
  pub no_node : (host : List ℕ) → e ≡ events.Node host → ⊥
  pub no_clock : (host : List ℕ) (clock : ℕ) → e ≡ events.Clock host clock → ⊥
  pub no_raw : (host fresh bytes : List ℕ) → e ≡ events.Raw host fresh bytes → ⊥
  pub no_deliver : (host : List ℕ) (m : ℕ) (fresh : List ℕ) (lost : Bool) → e ≡ events.Deliver host m fresh lost → ⊥
  pub no_pump : (host fresh : List ℕ) → e ≡ events.Pump host fresh → ⊥
  pub no_fuse : (host : List ℕ) (calls : ℕ) → e ≡ events.Fuse host calls → ⊥
  pub no_crash : (host : List ℕ) (left : Crash) → e ≡ events.Crash host left → ⊥

module _ {S : Type 0} (stand : S → World → Type 0) where
  -- what such a line does and prints
  pub Ran-plain : (e : Event) (world : World) (line : ℕ) (new : S) (text : List ℕ) → IsPlain e
      → Runs stand (λ w. plain (next_wanting w) world line e (host_of e) (ask_of e)) new text → Ran stand (IsRun world line e) new text
  Ran-plain (events.Node host) world line new text is h = absurd (is.no_node host refl)
  Ran-plain (events.Clock host clock) world line new text is h = absurd (is.no_clock host clock refl)
  Ran-plain (events.Raw host fresh bytes) world line new text is h = absurd (is.no_raw host fresh bytes refl)
  Ran-plain (events.Deliver host m fresh lost) world line new text is h = absurd (is.no_deliver host m fresh lost refl)
  Ran-plain (events.Pump host fresh) world line new text is h = absurd (is.no_pump host fresh refl)
  Ran-plain (events.Fuse host calls) world line new text is h = absurd (is.no_fuse host calls refl)
  Ran-plain (events.Crash host left) world line new text is h = absurd (is.no_crash host left refl)
  Ran-plain e world line new text is h = record { line = plain (next_wanting h.0) world line e (host_of e) (ask_of e); is = (h.0, refl); printed = h.1; stands = h.2 }

  -- a line of which it is known what it does
  pub Ran-by : (IsLine : Run → Type 0) (f : List Bool → Run) (new : S) (text : List ℕ) → ((w : List Bool) → IsLine (f w)) → Runs stand f new text → Ran stand IsLine new text
  Ran-by IsLine f new text is h = record { line = f h.0; is = is h.0; printed = h.1; stands = h.2 }

pub plain-nowhere : (wanting : Bool) (world : World) (line : ℕ) (e : Event) (ask : Option Ask) → plain wanting world line e None ask ≡ record { world = world; text = faulty_text line e }
plain-nowhere wanting world line e None = refl
plain-nowhere wanting world line e (Some ask) = refl

pub plain-unasked : (wanting : Bool) (world : World) (line : ℕ) (e : Event) (host : Option (List ℕ)) → plain wanting world line e host None ≡ record { world = world; text = faulty_text line e }
plain-unasked wanting world line e None = refl
plain-unasked wanting world line e (Some host) = refl

-- no messages, or some
pub none_by : (messages : List Numbered) → true ≡ (length messages == 0) → messages ≡ []
none_by [] e = refl
none_by (message ∷ messages) e = grind (arith, e)

pub some_not : (messages : List Numbered) → false ≡ (length messages == 0) → messages ≡ [] → ⊥
some_not [] e none = cc
some_not (message ∷ messages) e none = cc
