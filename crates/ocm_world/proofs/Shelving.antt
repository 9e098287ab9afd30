-- Disks that are put on the shelf.
use Rattle.std.proofs.Common.{◌≡◌, ◌⊎◌, inl, inr, ℕ, List, [], ◌∷◌, ◌++◌, map, Option, Some, None, refl, ◌∙◌, ap, subst}
use Rattle.std.specs.Option.{option_or}
use Rattle.ocm_entry.specs.declared.asks.Ask.{Ask}
use Rattle.ocm_entry.specs.declared.entries.Entry.{Entry}
use Rattle.ocm_rules.specs.Lean.{lean}
use Rattle.ocm_law_lean.proofs.Answered.{lean-goes_on}
use Rattle.ocm_law_sessions.specs.Crashes.{HasLeanWith, faulted}
use Rattle.ocm_law_sessions.specs.Sessions.{heard}
use Rattle.ocm_law_sessions.proofs.Replying.{heard-same}
use Rattle.ocm_store.specs.Stores.{LeavesNext, disk_of}
use Rattle.ocm_store.specs.declared.terms.Terms.{Terms}
use Rattle.ocm_world.specs.declared.nodes.RunningServer.{RunningServer}
use Rattle.ocm_script_run.specs.Servers.{Server, World, area, history}
use Rattle.ocm_world.specs.Running.{AreOf, IsOf, shelved}
use Rattle.ocm_world.specs.Shelves.{AreShelved, IsShelved}
use Rattle.ocm_world.proofs.Loading.{alike-history}

next-same : (host : List ℕ) (g other : List Entry) (faulted : Option Ask) (next : List Entry) → lean host g ≡ lean host other
    → (lean host next ≡ lean host g) ⊎ HasLeanWith host g (option_or faulted None) next → (lean host next ≡ lean host other) ⊎ HasLeanWith host other (option_or faulted None) next
next-same host g other faulted next same (inl is) = inl (is ∙ same)
next-same host g other None next same (inr is) = absurd is
next-same host g other (Some ask) next same (inr is) =
    inr (is ∙ ap (λ e. lean host (e ∷ g)) (heard-same host g other ask same) ∙ lean-goes_on host (heard host other ask) g other same)

pub shelved-one : (node : RunningServer) (server : Server) → IsOf node server → IsShelved server (shelved node)
shelved-one node server is =
    let reads : LeavesNext (record { host = server.host; area = area }) is.opened server.calls None (disk_of node.store).images.seen =
    subst (λ (t : Terms). LeavesNext t is.opened server.calls None (disk_of node.store).images.seen) is.terms (is.stands.reads tt) in
    record {
      host = is.host;
      disk = disk_of node.store;
      there = refl;
      holds = (
        reads.0,
        reads.1,
        (reads.2.0, next-same server.host (server.calls ++ is.opened) (history server) (faulted server.calls) reads.0 (alike-history node server is) reads.2.1),
      );
    }

pub shelved-all : (nodes : List RunningServer) (world : World) → AreOf nodes world → AreShelved world (map shelved nodes)
shelved-all [] [] are = tt
shelved-all [] (server ∷ others) are = absurd are
shelved-all (node ∷ more) [] are = absurd are
shelved-all (node ∷ more) (server ∷ others) are = (shelved-one node server are.0, shelved-all more others are.1)

pub map_same : {X : Type 0} (xs : List X) → map (λ y. y) xs ≡ xs
map_same [] = refl
map_same (x ∷ xs) = ap (λ l. x ∷ l) (map_same xs)
