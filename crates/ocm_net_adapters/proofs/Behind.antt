-- What is read of a message whose head was read ahead.
use Rattle.std.proofs.Common.{◌≡◌, ℕ, ◌≤◌, List, [], ◌++◌, Option, Some, None, Result, Ok, Err, sym, ap, ◌∙◌, subst, arith}
use Rattle.ocm_base.specs.Outside.{Rose}
use Rattle.ocm_base.proofs.Pieces.{came_twice}
use Rattle.ocm_http.specs.Readers.{ReaderState, with_held}
use Rattle.ocm_http.specs.declared.messages.Message.{Message}
use Rattle.ocm_http.specs.declared.messages.FrameFault.{FrameFault}
use Rattle.ocm_http.specs.declared.messages.FrameFault.TheVariants as faults
use Rattle.ocm_server_connections.specs.Sides.{Sides, Read, GivesFault, GivesOf, Gives}

-- a reader that holds nothing
abbrev empty : ReaderState → ReaderState
empty reader = with_held reader []

rose_from : (old mid new : ℕ) → old ≤ mid → Rose mid new → Rose old new
rose_from old mid new h rose = grind arith

module _ (reader after : ReaderState) (text : List ℕ) (old mid new : Sides) (ahead : Read old mid text) where
  fault_behind : (got : List ℕ) (fault : FrameFault) → GivesFault (with_held reader text) mid new got fault → GivesFault (empty reader) old new (text ++ got) fault
  unfolding GivesFault
  fault_behind got (faults.BadHead at) g = g
  fault_behind got (faults.HeadTooLong at) g = g
  fault_behind got (faults.BadLength at) g = g
  fault_behind got (faults.BothLengths at) g = g
  fault_behind got (faults.BadChunk at) g = g
  fault_behind got (faults.BodyTooLong at) g = g
  fault_behind got faults.Cut g = g
  fault_behind got faults.ReadFault g = rose_from old.read_faults mid.read_faults new.read_faults ahead.read_faults g
  fault_behind got faults.NoMemory g = g

  of_behind : (got : List ℕ) (r : Result (Option Message) FrameFault) → GivesOf (with_held reader text) after mid new got r → GivesOf (empty reader) after old new (text ++ got) r
  unfolding GivesOf
  of_behind got (Ok (Some m)) g = record {
    open_still = g.open_still;
    request = g.request;
    front = g.front;
    split = g.split;
    place = g.place;
    frame = g.frame;
  }
  of_behind got (Ok None) g = g
  of_behind got (Err fault) g = fault_behind got fault g

  -- the head's bytes were read too
  pub gives_behind : (r : Result (Option Message) FrameFault) → reader.held ≡ [] → Gives (with_held reader text) after mid new r → Gives reader after old new r
  gives_behind r none gives =
      let got = gives.0 in
      let read : Read mid new got = gives.1 in
      subst (λ (s : ReaderState). Gives s after old new r) (ap (with_held reader) (sym none)) (
        text ++ got,
        record {
          flow = came_twice old.flow mid.flow new.flow text got ahead.flow read.flow;
          taken = read.taken ∙ ahead.taken;
          noted = read.noted ∙ ahead.noted;
          read_faults = omega (arith, ahead.read_faults, read.read_faults);
          write_faults = omega (arith, ahead.write_faults, read.write_faults);
        },
        of_behind got r gives.2,
      )
