-- The disks of servers that a script names are on the shelf.
use Rattle.std.proofs.Common.{◌≡◌, inr, ℕ, List, [], ◌∷◌, ◌||◌, Bool, true, false, if◌then◌else◌, Some, ◌∙◌, ap, refl}
use Rattle.std.specs.List.{list_any}
use Rattle.ocm_disk.specs.Memory.{DiskState}
use Rattle.ocm_disk.specs.Shelf.{bytes_of, disk_of, is_of}
use Rattle.ocm_disk.specs.declared.shelf.ShelfPlace.{ShelfPlace}
use Rattle.ocm_rules.specs.Numbers.{same_text}
use Rattle.ocm_script.specs.declared.events.Event.{Event}
use Rattle.ocm_script_run.specs.Servers.{World}
use Rattle.ocm_script_run.specs.Traces.{Logged, names}
use Rattle.ocm_script_run.proofs.Hosts.{is_there, logged-run, there-end}
use Rattle.ocm_world.specs.Shelves.{AreShelved}

-- the disk of a server that is there is on the shelf
disk-there : (world : World) (places : List ShelfPlace) (host : List ℕ) → AreShelved world places → is_there host world ≡ true → (disk : DiskState) × (disk_of host places ≡ Some disk)
disk-there [] [] host are there = absurd (cc)
disk-there [] (place ∷ places) host are there = absurd are
disk-there (server ∷ others) [] host are there = absurd are
disk-there (server ∷ others) (place ∷ places) host are there = by_test (same_text server.host host) refl there (λ rest. disk-there others places host are.1 rest)
  where
    by_test : (b : Bool) → same_text server.host host ≡ b → (b || is_there host others) ≡ true → (is_there host others ≡ true → (disk : DiskState) × (disk_of host places ≡ Some disk))
        → (disk : DiskState) × ((if is_of host place then place.disk else disk_of host places) ≡ Some disk)
    by_test true is some rest =
        let here : is_of host place ≡ true = ap (λ h. same_text h host) are.0.host ∙ is in
        (are.0.disk, ap (λ (b : Bool). if b then place.disk else disk_of host places) here ∙ are.0.there)
    by_test false is some rest =
        let other : is_of host place ≡ false = ap (λ h. same_text h host) are.0.host ∙ is in
        let found = rest some in
        (found.0, ap (λ (b : Bool). if b then place.disk else disk_of host places) other ∙ found.1)

-- the image of a server that the script names is on the shelf
pub image-there : (final : World) (host : List ℕ) (es : List Event) (log : List ℕ) (places : List ShelfPlace) → Logged [] 1 host es log final → list_any (names host) es ≡ true → AreShelved final places
    → (image : List ℕ) × (bytes_of (disk_of host places) ≡ Some image)
image-there final host es log places logged named are =
    let ran = logged-run [] final 1 host es log logged in
    let found = disk-there final places host are (there-end [] final 1 host es ran.0 ran.1 (inr named)) in
    (found.0.images.seen, ap bytes_of found.1)
