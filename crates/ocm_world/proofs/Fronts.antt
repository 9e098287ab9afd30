-- Disks that are put on the shelf of a run that ended early.
use Rattle.std.proofs.Common.{◌≡◌, ℕ, List, [], ◌∷◌, ◌++◌, length, take, drop, map, refl, sym, ap, ◌∙◌, subst, append-nil}
use Rattle.std.proofs.lemmas.List.{take-append-drop}
use Rattle.ocm_disk.specs.declared.shelf.ShelfPlace.{ShelfPlace}
use Rattle.ocm_script.specs.declared.events.Event.{Event}
use Rattle.ocm_script_run.specs.Servers.{World}
use Rattle.ocm_script_run.specs.Transcript.{Transcript}
use Rattle.ocm_world.specs.declared.nodes.RunningServer.{RunningServer}
use Rattle.ocm_world.specs.Running.{AreOf, shelved}
use Rattle.ocm_world.specs.Shelves.{AllShelved, AreShelved, FirstShelved, PrefixShelved}
use Rattle.ocm_world.proofs.Shelving.{shelved-one}

-- the first of the servers have their disks on the shelf
pub shelved-first : (nodes rest : List RunningServer) (world : World) → AreOf (nodes ++ rest) world → FirstShelved world (map shelved nodes)
shelved-first [] rest world are = ([], world, refl, tt)
shelved-first (node ∷ more) rest [] are = absurd are
shelved-first (node ∷ more) rest (server ∷ others) are =
    let later = shelved-first more rest others are.1 in
    (server ∷ later.0, later.1, ap (λ l. server ∷ l) later.2, (shelved-one node server are.0, later.3))

-- where so many of the servers were put there
pub shelved-cut : (nodes yielded : List RunningServer) (world : World) (places : List ShelfPlace) → yielded ≡ take (length yielded) nodes → places ≡ map shelved yielded → AreOf nodes world → FirstShelved world places
shelved-cut nodes yielded world places front is are =
    let whole : yielded ++ drop (length yielded) nodes ≡ nodes = ap (λ l. l ++ drop (length yielded) nodes) front ∙ take-append-drop (length yielded) nodes in
    subst (FirstShelved world) (sym is) (shelved-first yielded (drop (length yielded) nodes) world (subst (λ (l : List RunningServer). AreOf l world) (sym whole) are))

-- all of them are the first
all-first : (world : World) (places : List ShelfPlace) → AreShelved world places → FirstShelved world places
all-first world places are = (world, [], sym (append-nil world), are)

-- a shelf without disks is that of no event
prefix-none : (events : List Event) → PrefixShelved events []
prefix-none events = ([], events, [], [], refl, (refl, refl), ([], [], refl, tt))

-- the servers that all events leave
pub prefix-whole : (events : List Event) (text : List ℕ) (final : World) (places : List ShelfPlace) → Transcript [] 1 events text final → FirstShelved final places → PrefixShelved events places
prefix-whole events text final places run first = (events, [], text, final, sym (append-nil events), run, first)

pub prefix-all : (events : List Event) (places : List ShelfPlace) → AllShelved events places → PrefixShelved events places
prefix-all events places all = prefix-whole events all.0 all.1 places all.2 (all-first all.1 places all.3)

-- where it is empty
pub prefix-empty : (events : List Event) (places : List ShelfPlace) → places ≡ [] → PrefixShelved events places
prefix-empty events places none = subst (PrefixShelved events) (sym none) (prefix-none events)
