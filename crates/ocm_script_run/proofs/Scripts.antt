-- The lines of a script, one after another.
use Rattle.std.proofs.Common.{◌≡◌, ◌<◌, ℕ, ◌+◌, List, [], ◌∷◌, ◌++◌, length, get_or, take, drop, refl, sym, ap, ◌∙◌, append_assoc, append-nil, subst, Option, Some, None}
use Rattle.std.proofs.lemmas.List.{take-append-drop}
use Rattle.ocm_base.specs.Outside.{Appends, AppendsPart}
use Rattle.ocm_base.proofs.Pieces.{Appends-twice}
use Rattle.ocm_script.specs.declared.events.Event.{Event}
use Rattle.ocm_script.specs.declared.events.Event.TheVariants as events
use Rattle.ocm_script_run.specs.Servers.{Server, World, server_at, step_at}
use Rattle.ocm_script_run.specs.Talks.{config_of}
use Rattle.ocm_script_run.specs.Deliveries.{Run}
use Rattle.ocm_script_run.specs.Transcript.{IsRun, Talked, Transcript, Writes, WritesPart, run}
use Rattle.ocm_script_run.specs.Running.{Ran, no_memory_lines}
use Rattle.ocm_script_run.proofs.Chains.{LeadsOn, LeadsOn-at, LeadsOn-end, LeadsOn-more, LeadsOn-start}
use Rattle.ocm_script_run.proofs.Talking.{talk-stuck}

appends_nothing : (old : Option (List ℕ)) → Appends old old []
appends_nothing None = refl
appends_nothing (Some held) = ap Some (sym (append-nil held))

-- a connection ends at once where there is no memory
some_talk : (w : World) (n : ℕ) (host fresh bytes : List ℕ) (found : Option Server) → (line : Run) × Talked w n host fresh bytes found line
some_talk w n host fresh bytes None = (record { world = w; text = [] }, refl)
some_talk w n host fresh bytes (Some server) =
    (record { world = step_at (λ _. server) w host; text = no_memory_lines n }, (server, no_memory_lines n, talk-stuck (config_of server.host) n fresh 0 0 bytes server, refl))

-- each event has a line
some_run : (w : World) (n : ℕ) (e : Event) → (line : Run) × IsRun w n e line
some_run w n (events.Raw host fresh bytes) = some_talk w n host fresh bytes (server_at w host)
some_run w n e = (run [] w n e, ([], refl))

-- events have a transcript
some_transcript : (w : World) (n : ℕ) (es : List Event) → (t : List ℕ) × (final : World) × Transcript w n es t final
some_transcript w n [] = ([], w, (refl, refl))
some_transcript w n (e ∷ es) =
    let r = some_run w n e in
    let s = some_transcript r.0.world (n + 1) es in
    (r.0.text ++ s.0, s.1, (r.0, s.0, r.1, refl, s.2))

split_apart : (a p r : List ℕ) (k : ℕ) → (a ++ take k p) ++ (drop k p ++ r) ≡ a ++ (p ++ r)
split_apart a p r k = append_assoc a (take k p) (drop k p ++ r) ∙ ap (λ x. a ++ x) (sym (append_assoc (take k p) (drop k p) r) ∙ ap (λ x. x ++ r) (take-append-drop k p))

-- a whole transcript is a front of one
pub WritesPart-whole : (all : List Event) (old new : Option (List ℕ)) (final : World) → Writes all old new final → WritesPart all old new
WritesPart-whole all old new final h = (h.0, [], final, h.1, subst (λ t. Transcript [] 1 all t final) (sym (append-nil h.0)) h.2)

module _ {S : Type 0} (stand : S → World → Type 0) where
  -- so far this was written, and what the rest prints leads on
  pub record GoesOn (all : List Event) (nodes : S) (number : ℕ) (rest : List Event) (old new : Option (List ℕ)) : Type 0 where
    pub text : List ℕ
    pub appends : Appends old new text
    pub leads : LeadsOn stand Transcript all nodes number rest text

  -- before the first line
  pub GoesOn-start : (all : List Event) (nodes : S) (old : Option (List ℕ)) → stand nodes [] → GoesOn all nodes 1 all old old
  GoesOn-start all nodes old none = record { text = []; appends = appends_nothing old; leads = LeadsOn-start stand Transcript all nodes none }

  -- at an event of the script
  pub GoesOn-at : (all : List Event) (nodes : S) (n : ℕ) (es : List Event) (i : ℕ) (e : Event) (old new : Option (List ℕ)) → i < length es → e ≡ get_or es i e → GoesOn all nodes n (drop i es) old new → GoesOn all nodes n (e ∷ drop (i + 1) es) old new
  GoesOn-at all nodes n es i e old new lt is h = record { text = h.text; appends = h.appends; leads = LeadsOn-at stand Transcript all nodes n es i e h.text lt is h.leads }

  -- one event on
  pub GoesOn-more : (all : List Event) (nodes after : S) (n : ℕ) (e : Event) (es : List Event) (text : List ℕ) (old mid new : Option (List ℕ)) → GoesOn all nodes n (e ∷ es) old mid
      → ((w : World) → stand nodes w → Ran stand (IsRun w n e) after text) → Appends mid new text → GoesOn all after (n + 1) es old new
  GoesOn-more all nodes after n e es text old mid new h f appends =
      let d = f h.leads.world h.leads.stands in
      record {
        text = h.text ++ text;
        appends = Appends-twice old mid new _ _ h.appends appends;
        leads = LeadsOn-more stand Transcript all nodes after n e es h.text text h.leads d.line.world d.stands (λ t final k. (d.line, t, d.is, ap (λ x. x ++ t) d.printed, k));
      }

  -- where a line was written in part
  pub WritesPart-cut : (all : List Event) (nodes after : S) (n : ℕ) (e : Event) (es : List Event) (text : List ℕ) (old mid new : Option (List ℕ)) → GoesOn all nodes n (e ∷ es) old mid
      → ((w : World) → stand nodes w → Ran stand (IsRun w n e) after text) → AppendsPart mid new text → WritesPart all old new
  WritesPart-cut all nodes after n e es text old mid new h f part =
      let d = f h.leads.world h.leads.stands in
      let k = part.0 in
      let r = some_transcript d.line.world (n + 1) es in
      let whole : Transcript _ _ all (h.text ++ (text ++ r.0)) r.1 = h.leads.on (text ++ r.0) r.1 (d.line, r.0, d.is, ap (λ x. x ++ r.0) d.printed, r.2) in (
        h.text ++ take k text,
        drop k text ++ r.0,
        r.1,
        Appends-twice old mid new _ _ h.appends part.2,
        rw (split_apart h.text text r.0 k) whole,
      )

  -- where a line is not run, a front of a transcript is written
  pub WritesPart-stop : (all : List Event) (nodes : S) (n : ℕ) (es : List Event) (old new : Option (List ℕ)) → GoesOn all nodes n es old new → WritesPart all old new
  WritesPart-stop all nodes n es old new h =
      let r = some_transcript h.leads.world n es in
      (h.text, r.0, r.1, h.appends, h.leads.on r.0 r.1 r.2)

  -- at the end
  pub Writes-from_end : (all : List Event) (nodes : S) (n : ℕ) (es : List Event) (old new : Option (List ℕ)) → es ≡ [] → GoesOn all nodes n es old new
      → (final : World) × Writes all old new final × stand nodes final
  Writes-from_end all nodes n es old new e h =
      let ended = LeadsOn-end stand Transcript all nodes n es h.text e (λ w. (refl, refl)) h.leads in
      (ended.0, (h.text, h.appends, ended.1), ended.2)
