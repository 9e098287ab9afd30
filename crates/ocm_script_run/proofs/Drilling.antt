-- Texts of lines, and how they are tallied and summed up.
use Rattle.std.proofs.Common.{◌≡◌, ◌<◌, ℕ, ◌+◌, List, [], ◌∷◌, ◌++◌, length, get_or, take, drop, map, Option, refl, sym, ap, ◌∙◌, length-append, arith}
use Rattle.std.specs.List.{concat}
use Rattle.std.proofs.lemmas.List.{map-append, take-append-drop, take_more}
use Rattle.ocm_base.specs.Outside.{AppendsPart}
use Rattle.ocm_drill.specs.Script.{made_script}
use Rattle.ocm_drill.specs.Summary.{AreCounts}
use Rattle.ocm_script.specs.declared.events.Event.{Event}
use Rattle.ocm_script_run.specs.Drills.{DrillsPart, Texts, summary_of}
use Rattle.ocm_script_run.specs.Servers.{World}
use Rattle.ocm_script_run.specs.Transcript.{IsRun, Transcript}
use Rattle.ocm_script_run.specs.Running.{Ran}
use Rattle.ocm_script_run.proofs.Chains.{LeadsOn, LeadsOn-at, LeadsOn-end, LeadsOn-more, LeadsOn-start}

-- the texts, one after another, are a transcript
pub texts-transcript : (world final : World) (n : ℕ) (es : List Event) (texts : List (List ℕ)) → Texts world n es texts final → Transcript world n es (concat texts) final
texts-transcript world final n [] texts h = (ap concat h.0, h.1)
texts-transcript world final n (e ∷ es) texts h = (h.0, concat h.1, h.2, ap concat h.3, texts-transcript h.0.world final (n + 1) es h.1 h.4)

-- ---- tallies

module _ {S : Type 0} (stand : S → World → Type 0) where
  -- so far these texts were tallied, and those of the rest lead on
  pub record Tallies (all : List Event) (nodes : S) (number : ℕ) (rest : List Event) (counts : List ℕ) : Type 0 where
    pub texts : List (List ℕ)
    pub counted : AreCounts counts texts
    pub few : length texts + 1 ≡ number
    pub leads : LeadsOn stand Texts all nodes number rest texts

  pub Tallies-start : (all : List Event) (nodes : S) (counts : List ℕ) → stand nodes [] → AreCounts counts [] → Tallies all nodes 1 all counts
  Tallies-start all nodes counts none counted = record { texts = []; counted = counted; few = refl; leads = LeadsOn-start stand Texts all nodes none }

  -- at a line
  pub Tallies-at : (all : List Event) (nodes : S) (n : ℕ) (es : List Event) (i : ℕ) (e : Event) (counts : List ℕ) → i < length es → e ≡ get_or es i e → Tallies all nodes n (drop i es) counts → Tallies all nodes n (e ∷ drop (i + 1) es) counts
  Tallies-at all nodes n es i e counts lt is h = record { texts = h.texts; counted = h.counted; few = h.few; leads = LeadsOn-at stand Texts all nodes n es i e h.texts lt is h.leads }

  -- one line on
  pub Tallies-more : (all : List Event) (nodes after : S) (n : ℕ) (e : Event) (es : List Event) (text counts new : List ℕ) → n < 4294967295 → Tallies all nodes n (e ∷ es) counts
      → ((w : World) → stand nodes w → Ran stand (IsRun w n e) after text) → ((texts : List (List ℕ)) → length texts < 4294967295 → AreCounts counts texts → AreCounts new (texts ++ text ∷ []))
      → Tallies all after (n + 1) es new
  Tallies-more all nodes after n e es text counts new lt h f add =
      let d = f h.leads.world h.leads.stands in
      record {
        texts = h.texts ++ text ∷ [];
        counted = add h.texts (omega (arith, lt, h.few)) h.counted;
        few = rw length-append (omega (arith, h.few));
        leads = LeadsOn-more stand Texts all nodes after n e es h.texts (text ∷ []) h.leads d.line.world d.stands (λ t final k. (d.line, t, d.is, ap (λ x. x ∷ t) d.printed, k));
      }

  -- at the end
  pub Tallies-end : (all : List Event) (nodes : S) (n : ℕ) (es : List Event) (counts : List ℕ) → es ≡ [] → Tallies all nodes n es counts
      → (texts : List (List ℕ)) × (final : World) × Texts [] 1 all texts final × stand nodes final × AreCounts counts texts
  Tallies-end all nodes n es counts e h =
      let ended = LeadsOn-end stand Texts all nodes n es h.texts e (λ w. (refl, refl)) h.leads in
      (h.texts, ended.0, ended.1, ended.2, h.counted)

-- ---- summaries

-- one server more
pub counts-more : (f : List ℕ → List ℕ × ℕ) (hosts : List (List ℕ)) (i : ℕ) (host : List ℕ) (count : ℕ) → i < length hosts → host ≡ get_or hosts i host → (host, count) ≡ f host
    → map f (take i hosts) ++ (host, count) ∷ [] ≡ map f (take (i + 1) hosts)
counts-more f hosts i host count lt is kept =
    ap (λ k. map f (take i hosts) ++ k ∷ []) (kept ∙ ap f is) ∙ sym (ap (map f) (take_more hosts i host lt) ∙ map-append f (take i hosts) (get_or hosts i host ∷ []))

-- where a summary was written in part
pub DrillsPart-cut : (number events : ℕ) (texts : List (List ℕ)) (final : World) (text : List ℕ) (old new : Option (List ℕ)) → Texts [] 1 (made_script number events) texts final → text ≡ summary_of events texts final
    → AppendsPart old new text → DrillsPart number events old new
DrillsPart-cut number events texts final text old new run is part = (take part.0 text, drop part.0 text, texts, final, run, take-append-drop part.0 text ∙ is, part.2)
