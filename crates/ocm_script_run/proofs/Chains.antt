-- Lines that are run one after another, whatever is made of what they print.
use Rattle.std.proofs.Common.{◌≡◌, ◌<◌, ℕ, ◌+◌, List, [], ◌∷◌, ◌++◌, length, get_or, drop, append_assoc, append-nil, add-one}
use Rattle.std.proofs.Math.Seq.{drop-cons}
use Rattle.ocm_script.specs.declared.events.Event.{Event}
use Rattle.ocm_script_run.specs.Servers.{World}

module _ {S : Type 0} (stand : S → World → Type 0) where
  -- So far this was made of the lines; behind it, whatever is made of the rest is made of the whole.
  pub record LeadsOn {T : Type 0} (Chain : World → ℕ → List Event → List T → World → Type 0) (all : List Event) (nodes : S) (number : ℕ) (rest : List Event) (out : List T) : Type 0 where
    pub world : World
    pub stands : stand nodes world
    pub on : (more : List T) (final : World) → Chain world number rest more final → Chain [] 1 all (out ++ more) final

  -- before the first line
  pub LeadsOn-start : {T : Type 0} (Chain : World → ℕ → List Event → List T → World → Type 0) (all : List Event) (nodes : S) → stand nodes [] → LeadsOn Chain all nodes 1 all []
  LeadsOn-start Chain all nodes none = record { world = []; stands = none; on = λ more final k. k }

  -- at a line
  pub LeadsOn-at : {T : Type 0} (Chain : World → ℕ → List Event → List T → World → Type 0) (all : List Event) (nodes : S) (n : ℕ) (es : List Event) (i : ℕ) (e : Event) (out : List T)
      → i < length es → e ≡ get_or es i e → LeadsOn Chain all nodes n (drop i es) out → LeadsOn Chain all nodes n (e ∷ drop (i + 1) es) out
  LeadsOn-at Chain all nodes n es i e out lt is h = rw (add-one, is, ← drop-cons es i e lt) h

  -- one line on
  pub LeadsOn-more : {T : Type 0} (Chain : World → ℕ → List Event → List T → World → Type 0) (all : List Event) (nodes after : S) (n : ℕ) (e : Event) (es : List Event) (out new : List T)
      → (h : LeadsOn Chain all nodes n (e ∷ es) out) (next : World) → stand after next
      → ((more : List T) (final : World) → Chain next (n + 1) es more final → Chain h.world n (e ∷ es) (new ++ more) final) → LeadsOn Chain all after (n + 1) es (out ++ new)
  LeadsOn-more Chain all nodes after n e es out new h next are step = record {
    world = next;
    stands = are;
    on = λ more final k. rw append_assoc (h.on (new ++ more) final (step more final k));
  }

  -- at the end
  pub LeadsOn-end : {T : Type 0} (Chain : World → ℕ → List Event → List T → World → Type 0) (all : List Event) (nodes : S) (n : ℕ) (es : List Event) (out : List T) → es ≡ [] → ((w : World) → Chain w n [] [] w)
      → LeadsOn Chain all nodes n es out → (final : World) × Chain [] 1 all out final × stand nodes final
  LeadsOn-end Chain all nodes n [] out e ended h = (h.world, rw append-nil at (h.on [] h.world (ended h.world)), h.stands)
  LeadsOn-end Chain all nodes n (x ∷ es) out e ended h = cc
