-- One deed after another.
use Rattle.std.proofs.Common.{ℕ, ◌++◌, List, [], ◌∷◌, Option, Some, None, sym, refl, ap, subst, append-nil, append_assoc, arith}
use Rattle.rand_chacha.specs.ChaCha.{ChaCha}
use Rattle.ocm_base.specs.Outside.{Appends}
use Rattle.ocm_base.proofs.Pieces.{Appends-twice, came_none, came_twice}
use Rattle.ocm_server_connections.specs.Drawing.{Draws, moved}
use Rattle.ocm_turn.proofs.MoveLemmas.{moved_nothing, moved_then}
use Rattle.ocm_server_connections.specs.Sides.{Noted, Notes}
use Rattle.ocm_server_connections.specs.Parts.{State, Deeds, Does}

pub appends_nothing : (a : Option (List ℕ)) → Appends a a []
appends_nothing (Some held) = ap Some (sym (append-nil held))
appends_nothing None = refl

pub notes_nothing : (a : Option (List Noted)) → Notes a a []
notes_nothing (Some before) = ap Some (sym (append-nil before))
notes_nothing None = refl

notes_then : (a b c : Option (List Noted)) (x y : List Noted) → Notes a b x → Notes b c y → Notes a c (x ++ y)
notes_then None b c x y h k = rw (k, h) refl
notes_then (Some before) b c x y h k = rw (k, h, append_assoc) refl

pub draws_then : (g h k : ChaCha) (x y : List (List ℕ)) → Draws g x h → Draws h y k → Draws g (x ++ y) k
draws_then g h k [] y p q = subst (λ (z : ChaCha). Draws z y k) p q
draws_then g h k (fresh ∷ x) y p q = (p.0, draws_then (moved g) h k x y p.1 q)

-- no deeds
abbrev pub nothing : Deeds
nothing = record { read = []; drawn = []; clocks = []; calls = []; written = []; noted = [] }

-- deeds, and then others
abbrev pub both : Deeds → Deeds → Deeds
both x y = record {
  read = x.read ++ y.read;
  drawn = x.drawn ++ y.drawn;
  clocks = x.clocks ++ y.clocks;
  calls = y.calls ++ x.calls;
  written = x.written ++ y.written;
  noted = x.noted ++ y.noted;
}

module _ {Terms : Type 0} where
  pub does_nothing : (a : State Terms) → Does a a nothing
  does_nothing a = record {
    read = came_none a.sides.flow;
    written = appends_nothing a.sides.taken;
    noted = notes_nothing a.sides.noted;
    read_faults = omega arith;
    write_faults = omega arith;
    drawn = refl;
    clocks = appends_nothing a.clock;
    calls = moved_nothing a.pass;
  }

  pub does_then : (a b c : State Terms) (x y : Deeds) → Does a b x → Does b c y → Does a c (both x y)
  does_then a b c x y p q = record {
    read = came_twice a.sides.flow b.sides.flow c.sides.flow x.read y.read p.read q.read;
    written = Appends-twice a.sides.taken b.sides.taken c.sides.taken x.written y.written p.written q.written;
    noted = notes_then a.sides.noted b.sides.noted c.sides.noted x.noted y.noted p.noted q.noted;
    read_faults = omega (arith, p.read_faults, q.read_faults);
    write_faults = omega (arith, p.write_faults, q.write_faults);
    drawn = draws_then a.draw b.draw c.draw x.drawn y.drawn p.drawn q.drawn;
    clocks = Appends-twice a.clock b.clock c.clock x.clocks y.clocks p.clocks q.clocks;
    calls = moved_then a.pass b.pass c.pass x.calls y.calls p.calls q.calls;
  }
