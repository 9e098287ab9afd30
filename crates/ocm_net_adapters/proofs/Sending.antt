-- What is sent on a connection whose line takes all, or tells how much.
use Rattle.std.proofs.Common.{◌≡◌, ℕ, zero, suc, ◌-◌, ◌≤◌, List, [], ◌∷◌, ◌++◌, length, take, drop, Some, Ok, Err, refl, sym, ap, arith}
use Rattle.std.proofs.lemmas.List.{take-append-drop}
use Rattle.ocm_base.specs.Outside.{Rose}
use Rattle.ocm_server_connections.specs.Sides.{Noted, Sides, Notes, Sends}

-- the fronts of two pieces are a front of both
pub two_fronts : (n : ℕ) (first second : List ℕ) → take n first ++ take (n - length first) second ≡ take n (first ++ second)
two_fronts zero first second = let e : 0 - length first ≡ 0 = omega arith in rw e refl
two_fronts (suc n) [] second =
    let e : suc n - length {A = ℕ} [] ≡ suc n = omega arith in
    ap (λ (k : ℕ). take k second) e
two_fronts (suc n) (b ∷ first) second =
    let e : suc n - suc (length first) ≡ n - length first = omega arith in
    rw e (ap (λ (l : List ℕ). b ∷ l) (two_fronts n first second))

-- both pieces are what was to be sent
module _ (old new : Sides) (same : new.flow ≡ old.flow) (reads : old.read_faults ≤ new.read_faults) (writes : old.write_faults ≤ new.write_faults) (piece held both : List ℕ) (before : old.taken ≡ Some held) (is : both ≡ piece)
    (as_noted : List ℕ → List Noted) where
  pub all_sent : (done : Unit {0}) → new.taken ≡ Some (held ++ both) → Notes old.noted new.noted (as_noted piece) → Sends old new piece as_noted (Ok done)
  unfolding Sends
  all_sent done after noted = record {
    flow = same;
    taken = rw (before, ← is) after;
    noted = noted;
    read_faults = reads;
    write_faults = writes;
  }

  pub front_sent : (n : ℕ) → new.taken ≡ Some (held ++ take n both) → Notes old.noted new.noted (as_noted (take n piece)) → Rose old.write_faults new.write_faults → Sends old new piece as_noted (Err (record {}))
  unfolding Sends
  front_sent n after noted rose = (
    take n piece,
    record {
      flow = same;
      taken = rw (before, ← is) after;
      noted = noted;
      read_faults = reads;
      write_faults = writes;
    },
    (drop n piece, sym (take-append-drop n piece)),
    rose,
  )
