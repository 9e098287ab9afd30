-- What stands on a disk once a text was written and then one byte elsewhere: that byte, and the closed gate at the text's end.
use Rattle.std.proofs.Common.{◌≡◌, ◌≢◌, ◌≤◌, ◌==◌, ℕ, ◌+◌, inl, inr, if◌then◌else◌, List, [], ◌∷◌, ◌++◌, length, sym, subst, arith}
use Rattle.std.proofs.lemmas.Bool.{cases_eq}
use Rattle.std.proofs.lemmas.Bool.Decides.{nat_tests}
use Rattle.ocm_journal_image.specs.Layout.{HoldsAt}
use Rattle.ocm_journal.specs.Steps.{Switched}
use Rattle.ocm_journal.proofs.Holding.{holds_second, stays_behind, written_holds, whole_is_torn}

module _ (old : List ℕ) (place : ℕ) (text : List ℕ) (switch byte : ℕ) (new : List ℕ) (at : place ≤ length old) (low : switch ≤ length old) (here : Switched old place text switch byte new) where
  within_mid : switch ≤ length here.0
  within_mid = omega (arith, low, (whole_is_torn place old text here.0 here.1 at).no_shorter)

  pub switch_held : HoldsAt new switch (byte ∷ [])
  switch_held = written_holds switch here.0 (byte ∷ []) new here.2 within_mid

  pub shut_behind : (front : List ℕ) (gate : ℕ) → text ≡ front ++ 0 ∷ [] → gate ≡ place + length front → switch + 1 ≤ gate → HoldsAt new gate (0 ∷ [])
  shut_behind front gate is gate_is behind =
      let torn = whole_is_torn switch here.0 (byte ∷ []) new here.2 within_mid in
      let held : HoldsAt here.0 place (front ++ 0 ∷ []) = subst (λ (t : List ℕ). HoldsAt here.0 place t) is (written_holds place old text here.0 here.1 at) in
      let last : HoldsAt here.0 gate (0 ∷ []) = subst (λ g. HoldsAt here.0 g (0 ∷ [])) (sym gate_is) (holds_second here.0 place front (0 ∷ []) held) in
      stays_behind switch 1 here.0 new gate (0 ∷ []) torn behind last

-- the selector byte that a renewal writes is that of the area which it makes live
pub byte_of_other : (start area other byte : ℕ) → 1792 ≤ area → (start ≡ 512 → (other ≡ 512 + area) × (byte ≡ 2)) → (start ≢ 512 → (other ≡ 512) × (byte ≡ 1)) → byte ≡ (if other == 512 then 1 else 2)
byte_of_other start area other byte large second first = elim (cases_eq start 512) [
  | inl low ↦ let s = second low in grind (arith, nat_tests, large, s.0, s.1)
  | inr high ↦ let f = first high in grind (arith, nat_tests, f.0, f.1)
]
