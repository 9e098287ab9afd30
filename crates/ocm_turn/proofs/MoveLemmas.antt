-- One call of a pass after another.
use Rattle.std.proofs.Common.{◌≡◌, ℕ, ◌≤◌, ◌++◌, List, [], ◌∷◌, length, Result, Ok, Err, sym, refl, ap, subst, ◌∙◌, append_assoc, length-append, arith, inl, inr}
use Rattle.std.specs.Prelude.{IfOk, OnErr, map}
use Rattle.std.proofs.lemmas.List.{map-append}
use Rattle.ocm_entry.specs.declared.asks.Ask.{Ask}
use Rattle.ocm_entry.specs.declared.replies.Reply.{Reply}
use Rattle.ocm_entry.specs.declared.entries.Entry.{Entry}
use Rattle.ocm_turn.specs.declared.turnstile.Spent.{Spent}
use Rattle.ocm_turn.specs.declared.view.Call.{Call}
use Rattle.ocm_turn.specs.Calls.{IsOlderPart, entry, call}
use Rattle.ocm_turn.specs.Passes.{Known, SameGround}
use Rattle.ocm_turn.specs.Moves.{Moved, SeesNewest, Unspent}
use Rattle.ocm_turn.proofs.CallLemmas.{older_through}

longer_by_none : (own mine : List Call) → mine ≡ own ++ mine → own ≡ []
longer_by_none [] mine e = refl
longer_by_none (c ∷ own) mine e = absurd (let n = ap length e ∙ length-append (c ∷ own) mine in omega (arith, n))

newest_then : (a b c : List Entry) (x y : List Call) → IsOlderPart a b → SeesNewest a x b → SeesNewest b y c → SeesNewest a (y ++ x) c
newest_then a b c x [] seen first second = subst (λ (l : List Entry). SeesNewest a x l) (sym second) first
newest_then a b c x (newest ∷ y) seen first second = (second.0, second.1, second.2, older_through a b second.0 seen second.3)

module _ {Terms : Type 0} where
  pub same_ground : (a : Known Terms) → SameGround a a
  same_ground a = record { turnstile = refl; base = refl; terms = refl }

  pub ground_then : (a b c : Known Terms) → SameGround a b → SameGround b c → SameGround a c
  ground_then a b c p q = record {
    turnstile = q.turnstile ∙ p.turnstile;
    base = q.base ∙ p.base;
    terms = q.terms ∙ p.terms;
  }

  pub moved_nothing : (a : Known Terms) → Moved a a []
  moved_nothing a = record { ground = same_ground a; seen = ([], refl); moments = ([], refl); paired = λ p. p; mine = ([], refl, refl); newest = refl; drawn = omega arith; parts = refl }

  pub moved_then : (a b c : Known Terms) (x y : List Entry) → Moved a b x → Moved b c y → Moved a c (y ++ x)
  moved_then a b c x y p q = record {
    ground = ground_then a b c p.ground q.ground;
    seen = older_through a.seen b.seen c.seen p.seen q.seen;
    moments = older_through a.moments b.moments c.moments p.moments q.moments;
    paired = λ as_many. q.paired (p.paired as_many);
    mine = (
      q.mine.0 ++ p.mine.0,
      q.mine.1 ∙ (ap (λ (l : List Call). q.mine.0 ++ l) p.mine.1 ∙ sym (append_assoc q.mine.0 p.mine.0 a.mine)),
      map-append (λ (c : Call). c.entry) q.mine.0 p.mine.0 ∙ λ i. q.mine.2 i ++ p.mine.2 i,
    );
    newest = newest_then a.seen b.seen c.seen p.mine.0 q.mine.0 p.seen p.newest q.newest;
    drawn = omega (arith, p.drawn, q.drawn);
    parts = q.parts ∙ p.parts;
  }

  pub unspent_nothing : (limit : ℕ) (a : Known Terms) → Unspent limit a a []
  unspent_nothing limit a = inl (refl, refl)

  pub unspent_then : (limit : ℕ) (a b c : Known Terms) (x y : List Entry) → Unspent limit a b x → Unspent limit b c y → Unspent limit a c (y ++ x)
  unspent_then limit a b c x y p (inr h) = inr h
  unspent_then limit a b c x y (inl g) (inl h) = inl ((λ i. h.0 i ++ g.0 i), h.1 ∙ g.1)
  unspent_then limit a b c x y (inr g) (inl h) = inr (omega (arith, g, h.1))

  -- a call of the turnstile
  pub moved_call : (old new : Known Terms) (ask : Ask) (r : Result Reply Spent) → SameGround old new × (new.parts ≡ old.parts)
      → IfOk r (λ reply. (before : List Entry) × (new.seen ≡ entry ask reply ∷ before) × IsOlderPart old.seen before × (length before ≡ new.drawn))
      → IfOk r (λ reply. new.mine ≡ call new.drawn (entry ask reply) ∷ old.mine) → old.drawn ≤ new.drawn
      → IfOk r (λ reply. (at : ℕ) × (earlier : List ℕ) × (new.moments ≡ at ∷ earlier) × IsOlderPart old.moments earlier) → length new.moments ≡ length new.seen
      → IfOk r (λ reply. Moved old new (entry ask reply ∷ []))
  moved_call old new ask (Ok reply) ground seen mine drawn moments paired = record {
    ground = ground.0;
    seen = (entry ask reply ∷ seen.2.0, seen.1 ∙ ap (λ (l : List Entry). entry ask reply ∷ l) seen.2.1);
    moments = (moments.0 ∷ moments.3.0, moments.2 ∙ ap (λ (l : List ℕ). moments.0 ∷ l) moments.3.1);
    paired = λ _. paired;
    mine = (call new.drawn (entry ask reply) ∷ [], mine, refl);
    newest = (seen.0, seen.1, sym seen.3, seen.2);
    drawn = drawn;
    parts = ground.1;
  }
  moved_call old new ask (Err spent) ground seen mine drawn moments paired = tt

  -- a call of the turnstile that was refused
  pub moved_refused : (old new : Known Terms) (r : Result Reply Spent) → SameGround old new × (new.parts ≡ old.parts)
      → OnErr r ((new.seen ≡ old.seen) × (new.mine ≡ old.mine)) → old.drawn ≤ new.drawn → OnErr r (new.moments ≡ old.moments) → length new.moments ≡ length new.seen
      → OnErr r (Moved old new [])
  moved_refused old new (Ok reply) ground nothing drawn no_moment paired = tt
  moved_refused old new (Err spent) ground nothing drawn no_moment paired = record {
    ground = ground.0;
    seen = ([], nothing.0);
    moments = ([], no_moment);
    paired = λ _. paired;
    mine = ([], nothing.1, refl);
    newest = nothing.0;
    drawn = drawn;
    parts = ground.1;
  }

  -- a pass that is the same made no calls
  pub moved_same : (a : Known Terms) (calls : List Entry) → Moved a a calls → calls ≡ []
  moved_same a calls moved = sym moved.mine.2 ∙ ap (map (λ (c : Call). c.entry)) (longer_by_none moved.mine.0 a.mine moved.mine.1)
