-- Workers changed one after another.
use Rattle.std.proofs.Common.{◌≡◌, ℕ, ◌+◌, ◌-◌, ◌<◌, ◌≤◌, ◌⊎◌, List, ◌∷◌, length, get_or, set, drop, map, Option, Some, None, add-one, inl, inr, refl, sym, ap, subst, ◌∙◌, arith}
use Rattle.std.proofs.lemmas.List.{get_or_default, get_or-set_same, get_or-set_other, drop_all}
use Rattle.std.proofs.Math.Nat.{le-max_left, le-max_right}
use Rattle.std.proofs.Math.Seq.{drop-cons}
use Rattle.std.specs.Prelude.{max}
use Rattle.ocm_turn.specs.declared.view.Call.{Call}
use Rattle.ocm_turn.specs.Calls.{merged}
use Rattle.ocm_turn.specs.Passes.{Known}
use Rattle.ocm_turn.proofs.CallLemmas.{older_through}
use Rattle.ocm_server.specs.Objects.{gathered, Past, past_of, IsOlder, Knows}

below_or_at : (i k : ℕ) → i < k + 1 → (i < k) ⊎ (i ≡ k)
below_or_at i k h = grind arith

pub older_then : (a b c : Past) → IsOlder a b → IsOlder b c → IsOlder a c
older_then a b c p q = record {
  history = older_through a.history b.history c.history p.history q.history;
  moments = older_through a.moments b.moments c.moments p.moments q.moments;
}

pub knows_through : {Terms : Type 0} (pass : Option (Known Terms)) (p p' : Past) → Knows pass p → IsOlder p p' → Knows pass p'
knows_through (Some pass) p p' knows older = older_then (past_of pass) p p' knows older
knows_through None p p' knows older = tt

module _ {W : Type 0} where
  -- the workers below a place are changed so, and the others are as they were
  pub record ChangedBelow (change : ℕ → W → W) (old new : List W) (k : ℕ) : Type 0 where
    pub changed : (i : ℕ) (d : W) → i < k → get_or new i d ≡ change i (get_or old i d)
    pub rest : (i : ℕ) (d : W) → k ≤ i → get_or new i d ≡ get_or old i d

  pub changed_none : (change : ℕ → W → W) (old : List W) → ChangedBelow change old old 0
  changed_none change old = record { changed = λ i d h. absurd (omega (arith, h)); rest = λ i d h. refl }

  pub changed_more : (change : ℕ → W → W) (old new : List W) (k : ℕ) (x y : W) → ChangedBelow change old new k → k < length new → x ≡ get_or new k x → y ≡ change k x
      → ChangedBelow change old (set new k y) (k + 1)
  changed_more change old new k x y before at x_is y_is = record {
    changed = λ i d h. here i d (below_or_at i k h);
    rest = λ i d h. get_or-set_other new k i y d (λ e. omega (arith, h, e)) ∙ before.rest i d (omega (arith, h));
  }
    where
      same : (d : W) → get_or (set new k y) k d ≡ change k (get_or old k d)
      same d = get_or-set_same new k y d at ∙ (y_is ∙ ap (change k) (x_is ∙ (get_or_default new k x d at ∙ before.rest k d (omega arith))))

      here : (i : ℕ) (d : W) → (i < k) ⊎ (i ≡ k) → get_or (set new k y) i d ≡ change i (get_or old i d)
      here i d (inl h) = get_or-set_other new k i y d (λ e. omega (arith, h, e)) ∙ before.changed i d h
      here i d (inr e) = subst (λ (j : ℕ). get_or (set new k y) j d ≡ change j (get_or old j d)) (sym e) (same d)

  -- a number is no less than that of each worker below a place
  pub drawn_more : (drawn : W → ℕ) (old new : List W) (k : ℕ) (x : W) (n n' : ℕ) → ((i : ℕ) (d : W) → i < k → drawn (get_or old i d) ≤ n) → k < length new → ((d : W) → get_or new k d ≡ get_or old k d) → x ≡ get_or new k x
      → n' ≡ max n (drawn x) → (i : ℕ) (d : W) → i < k + 1 → drawn (get_or old i d) ≤ n'
  drawn_more drawn old new k x n n' before at same x_is most i d h = here (below_or_at i k h)
    where
      x_old : x ≡ get_or old k d
      x_old = x_is ∙ (get_or_default new k x d at ∙ same d)

      here : (i < k) ⊎ (i ≡ k) → drawn (get_or old i d) ≤ n'
      here (inl h) = let low = before i d h in let up = le-max_left n (drawn x) in omega (arith, low, up, most)
      here (inr e) = let up = le-max_right n (drawn x) in subst (λ (j : ℕ). drawn (get_or old j d) ≤ n') (sym e) (subst (λ (w : W). drawn w ≤ n') x_old (omega (arith, up, most)))

  -- the pass of each worker below a place knows an older part of the past
  pub knows_more : {Terms : Type 0} (pass : W → Option (Known Terms)) (old new : List W) (k : ℕ) (x : W) (p p' : Past) → ((i : ℕ) (d : W) → i < k → Knows (pass (get_or old i d)) p) → k < length new
      → ((d : W) → get_or new k d ≡ get_or old k d) → x ≡ get_or new k x → IsOlder p p' → Knows (pass x) p' → (i : ℕ) (d : W) → i < k + 1 → Knows (pass (get_or old i d)) p'
  knows_more pass old new k x p p' before at same x_is older knows i d h = here (below_or_at i k h)
    where
      here : (i < k) ⊎ (i ≡ k) → Knows (pass (get_or old i d)) p'
      here (inl h) = knows_through (pass (get_or old i d)) p p' (before i d h) older
      here (inr e) = subst (λ (j : ℕ). Knows (pass (get_or old j d)) p') (sym e) (subst (λ (w : W). Knows (pass w) p') (x_is ∙ (get_or_default new k x d at ∙ same d)) knows)

  -- gathered calls of the workers from a place on
  pub gathered_more : (mine : W → List Call) (old new : List W) (k : ℕ) (x : W) (acc acc' : List Call) → k < length old → ((d : W) → get_or new k d ≡ get_or old k d) → k < length new → x ≡ get_or new k x
      → acc' ≡ merged acc (mine x) → gathered acc' (map mine (drop (k + 1) old)) ≡ gathered acc (map mine (drop k old))
  gathered_more mine old new k x acc acc' at same at_new x_is acc_is =
      let x_old : x ≡ get_or old k x = x_is ∙ same x in
      let split : drop k old ≡ x ∷ drop (k + 1) old = drop-cons old k x at ∙ (λ i. sym x_old i ∷ drop (sym (add-one k) i) old) in
      ap (λ (a : List Call). gathered a (map mine (drop (k + 1) old))) acc_is ∙ ap (λ (l : List W). gathered acc (map mine l)) (sym split)

  pub gathered_all : (mine : W → List Call) (old : List W) (k : ℕ) (acc : List Call) → length old ≤ k → gathered acc (map mine (drop k old)) ≡ acc
  gathered_all mine old k acc h = ap (λ (l : List W). gathered acc (map mine l)) (drop_all k old h)

-- a pass that gave parts away, and one more, is the same but for its parts
pub fewer_parts : {Terms : Type 0} (first old new : Known Terms) → old ≡ record first { parts = old.parts } → new ≡ record old { parts = old.parts - 1 } → new ≡ record first { parts = new.parts }
fewer_parts {Terms} first old new before now = let fewer = sym (ap (λ (p : Known Terms). p.parts) now) in now ∙ λ i. record (before i) { parts = fewer i }
