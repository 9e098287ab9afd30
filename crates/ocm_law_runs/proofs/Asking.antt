-- A server is asked, crashes or begins.
use Rattle.std.proofs.Common.{◌≡◌, ℕ, List, [], ◌∷◌, ◌++◌, Bool, true, false, refl, sym, ap, ◌∙◌, subst}
use Rattle.std.specs.Prelude.{Option, Some, None, option_map, if◌then◌else◌}
use Rattle.std.specs.Option.{option_or}
use Rattle.ocm_entry.specs.declared.asks.Ask.{Ask}
use Rattle.ocm_entry.specs.declared.replies.Reply.{Reply}
use Rattle.ocm_rules.specs.Numbers.{same_text}
use Rattle.ocm_law_sessions.proofs.Replying.{session-legal}
use Rattle.ocm_law_world.specs.World.{Answer, World, changed, is_settlement, new_session, reopened, settlement_by, with_call}
use Rattle.ocm_law_world.specs.World.Flight.{Nothing}
use Rattle.ocm_law_world.specs.World.Run.{Stays, Goes_on}
use Rattle.ocm_law_world.specs.World.Step.{Begins, Asks, Comes, Crashes}
use Rattle.ocm_law_world.proofs.Steps.{alone-ours, alone-reached, sessions-reached}
use Rattle.ocm_law_world.proofs.Texts.{text-equal, text-same}
use Rattle.ocm_script_run.specs.Servers.{Server, area, asked_at, crashed, new_server, reply_of, server_after, server_at, step_at}
use Rattle.ocm_law_runs.specs.Standing.{Stands, session_of}
use Rattle.ocm_law_runs.proofs.Finding.{named-at, text-other}
use Rattle.ocm_law_runs.proofs.Replies.{crash-next, reply-legal}
use Rattle.ocm_law_runs.proofs.Steps.{IsAlone, Reaches, With, stands-nowhere, stays, with-changed, with-server, with-stands}

-- ---- asks

-- this server is asked anything but to settle a message
pub asks-with : (w : World) (servers : List Server) (host : List ℕ) (server : Server) (wanting : Bool) (ask : Ask) → is_settlement ask ≡ false → With servers host server w
    → Reaches w (With servers host (server_after wanting server ask))
asks-with w servers host server wanting ask plain with =
    let reply : Reply = reply_of wanting server ask in (
      changed w host (with_call (session_of server) ask reply) w.answers,
      Goes_on w _ Stays (Asks host (session_of server) ask reply with.here plain (reply-legal wanting server host ask with.own)),
      with-changed w servers host (server_after wanting server ask) w.answers with.own with.others,
    )

-- the server of this host is asked, where there is one
pub asked-run : (w : World) (servers : List Server) (host : List ℕ) (wanting : Bool) (ask : Ask) → is_settlement ask ≡ false → Stands w servers → Reaches w (λ later. Stands later (asked_at wanting servers host ask))
asked-run w servers host wanting ask plain stands = by_case (server_at servers host) refl
  where
    by_case : (o : Option Server) → server_at servers host ≡ o → Reaches w (λ later. Stands later (asked_at wanting servers host ask))
    by_case None none = stays _ w (stands-nowhere w servers host (λ s. server_after wanting s ask) (λ s own. own) none stands)
    by_case (Some server) there =
        let at = asks-with w servers host server wanting ask plain (with-server w servers host server stands there) in
        (at.0, at.1, with-stands at.0 servers host (λ s. server_after wanting s ask) server (λ s own. own) there at.2)

-- the last answer that is under way comes to its server
pub comes-run : (w : World) (servers : List Server) (a : Answer) (older : List Answer) (wanting : Bool) → w.answers ≡ a ∷ older → Stands w servers
    → Reaches w (λ later. Stands later (asked_at wanting servers a.host (settlement_by a)))
comes-run w servers a older wanting under stands = by_case (server_at servers a.host) refl
  where
    by_case : (o : Option Server) → server_at servers a.host ≡ o → Reaches w (λ later. Stands later (asked_at wanting servers a.host (settlement_by a)))
    by_case None none = stays _ w (stands-nowhere w servers a.host (λ s. server_after wanting s (settlement_by a)) (λ s own. own) none stands)
    by_case (Some server) there =
        let with = with-server w servers a.host server stands there in
        let reply : Reply = reply_of wanting server (settlement_by a) in
        let later : World = changed w a.host (with_call (session_of server) (settlement_by a) reply) ([] ++ older) in (
          later,
          Goes_on w later Stays (Comes [] older a (session_of server) reply under with.here (reply-legal wanting server a.host (settlement_by a) with.own)),
          with-stands later servers a.host (λ s. server_after wanting s (settlement_by a)) server (λ s own. own) there
              (with-changed w servers a.host (server_after wanting server (settlement_by a)) ([] ++ older) with.own with.others),
        )

-- ---- crashes

pub crashes-run : (w : World) (servers : List Server) (host : List ℕ) (keeps : Server → Bool) → IsAlone w → Stands w servers → Reaches w (λ later. Stands later (step_at (λ s. crashed (keeps s) s) servers host))
crashes-run w servers host keeps reached stands = by_case (server_at servers host) refl
  where
    by_case : (o : Option Server) → server_at servers host ≡ o → Reaches w (λ later. Stands later (step_at (λ s. crashed (keeps s) s) servers host))
    by_case None none = stays _ w (stands-nowhere w servers host (λ s. crashed (keeps s) s) (λ s own. own) none stands)
    by_case (Some server) there =
        let with = with-server w servers host server stands there in
        let legal = session-legal host area server.base server.calls (sessions-reached w (alone-reached w reached) host (session_of server) with.here) in
        let next = (crashed (keeps server) server).base in
        let later : World = changed w host (reopened (session_of server) next) w.answers in (
          later,
          Goes_on w later Stays (Crashes host (session_of server) None w.answers next with.here Nothing (crash-next (keeps server) server host with.own legal)),
          with-stands later servers host (λ s. crashed (keeps s) s) server (λ s own. own) there (with-changed w servers host (crashed (keeps server) server) w.answers with.own with.others),
        )

-- ---- new servers

-- a server begins where no other has its host; else the first stays the one of its host
pub named-run : (w : World) (servers : List Server) (host : List ℕ) → IsAlone w → Stands w servers → Reaches w (λ later. Stands later (servers ++ new_server host ∷ []))
named-run w servers host reached stands = by_case (server_at servers host) refl
  where
    found : Option Server → Bool → Option Server
    found o b = option_or o (if b then Some (new_server host) else None)

    -- another server's session is what it was
    other_host : (other : List ℕ) → same_text other host ≡ false → option_map session_of (server_at servers other) ≡ option_map session_of (server_at (servers ++ new_server host ∷ []) other)
    other_host other far = sym (ap (option_map session_of) (named-at servers host other ∙ ap (found (server_at servers other)) (text-other other host far) ∙ no_more (server_at servers other)))
      where
        no_more : (o : Option Server) → found o false ≡ o
        no_more None = refl
        no_more (Some server) = refl

    by_case : (o : Option Server) → server_at servers host ≡ o → Reaches w (λ later. Stands later (servers ++ new_server host ∷ []))
    by_case None none =
        let later : World = changed w host (new_session area) w.answers in
        (later, Goes_on w later Stays (Begins host area (alone-ours w reached host) (stands host ∙ ap (option_map session_of) none)), λ other. by_test other (same_text other host) refl)
      where
        by_test : (other : List ℕ) (b : Bool) → same_text other host ≡ b → (if b then Some (new_session area) else w.session other) ≡ option_map session_of (server_at (servers ++ new_server host ∷ []) other)
        by_test other true e =
            let P : List ℕ → Type 0 = λ x. Some (new_session area) ≡ option_map session_of (server_at (servers ++ new_server host ∷ []) x) in
            subst P (sym (text-equal other host e)) (sym (ap (option_map session_of) (named-at servers host host ∙ ap (λ o. found o (same_text host host)) none ∙ ap (found None) (text-same host))))
        by_test other false e = stands other ∙ other_host other e
    by_case (Some server) there = stays _ w (λ other. stands other ∙ by_test other (same_text other host) refl)
      where
        by_test : (other : List ℕ) (b : Bool) → same_text other host ≡ b → option_map session_of (server_at servers other) ≡ option_map session_of (server_at (servers ++ new_server host ∷ []) other)
        by_test other true e =
            let P : List ℕ → Type 0 = λ x. option_map session_of (server_at servers x) ≡ option_map session_of (server_at (servers ++ new_server host ∷ []) x) in
            subst P (sym (text-equal other host e)) (ap (option_map session_of) (there ∙ sym (named-at servers host host ∙ ap (λ o. found o (same_text host host)) there)))
        by_test other false e = other_host other e
