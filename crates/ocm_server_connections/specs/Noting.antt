-- What a connection notes of its pages.
use Rattle.std.specs.Prelude.{◌≡◌, ℕ, Bool, List, [], ◌∷◌, ◌++◌, length, Result, Ok, Err}
use Rattle.ocm_entry.specs.declared.entries.Entry.{Entry}
use Rattle.ocm_dav_pages.specs.declared.shapes.Page.{Page}
use Rattle.ocm_dav.specs.declared.configs.Config.{Config}
use Rattle.ocm_turn.specs.Calls.{StandIn, InOrder}
use Rattle.ocm_turn.specs.Moves.{Moved}
use Rattle.ocm_turn.specs.Passes.{Known}
use Rattle.ocm_server_connections.specs.Sides.{Noted, newest_of, noted_page, as_page, as_fixed}
use Rattle.ocm_server_connections.specs.Talk.{Shown, Talk}
use Rattle.ocm_server_connections.specs.Talk.Talk.{silent, last, next}
use Rattle.ocm_server_connections.specs.declared.endings.Ended.{Ended}
use Rattle.ocm_server_connections.specs.declared.endings.Missed.{Missed}

-- what is noted of what is written where a message came to this: a page with these moments, or a fixed reply
abbrev pub noted_as : Result Page Missed → List ℕ → List ℕ → List Noted
noted_as (Ok page) moments written = as_page moments written
noted_as (Err missed) moments written = as_fixed written

-- of a message that ends the connection one note tells what was written of its page, and of the moments with it this is known; without a page there is no note
abbrev pub NotedLast : (List ℕ → Type 0) → List ℕ → Result Page Missed → List Noted → Type 0
NotedLast K written (Ok page) noted = (moments : List ℕ) × (noted ≡ noted_page written moments ∷ []) × K moments
NotedLast K written (Err missed) noted = noted ≡ []

-- Of each page of a talk there is one note, in their order, with the page's bytes, or what was written of it; and of the moments with it and of the calls that were made by then, before the talk and in it, the newest first, this is known.
abbrev pub EachAt : {config : Config} {shown : Shown} {number place : ℕ} {bytes : List ℕ} {ended : Bool} {drawn : List (List ℕ)} {clocks : List ℕ} {calls : List Entry} {written : List ℕ} {ending : Ended}
    → (List Entry → List ℕ → Type 0) → List Entry → Talk config shown number place bytes ended drawn clocks calls written ending → List Noted → Type 0
EachAt K before (silent number place bytes ended written ending stops) noted = noted ≡ []
EachAt K before (last number place bytes rest ended message fresh clock calls answer written ending is answers ends spent) noted = NotedLast (K (calls ++ before)) written answer noted
EachAt K before (next number place bytes front rest ended message fresh clock calls page drawn clocks later written ending is split answers goes_on more) noted =
    (moments : List ℕ) × (others : List Noted) × (noted ≡ noted_page page.bytes moments ∷ others) × K (calls ++ before) moments × EachAt K (calls ++ before) more others

-- what was said, with what was noted of it
abbrev pub SaidAt : (List Entry → List ℕ → Type 0) → List Entry → Config → Shown → ℕ → ℕ → List ℕ → Bool → List (List ℕ) → List ℕ → List Entry → List ℕ → List Noted → Ended → Type 0
SaidAt K before config shown number place bytes ended drawn clocks calls written noted ending =
    (talk : Talk config shown number place bytes ended drawn clocks calls written ending) × EachAt K before talk noted

-- what a pass knows of itself: its calls stand in order in what it has seen, and of each entry of that it has the moment
pub record IsSound {Terms : Type 0} (pass : Known Terms) : Type 0 where
  pub stand : StandIn pass.seen pass.mine
  pub order : InOrder pass.mine
  pub paired : length pass.moments ≡ length pass.seen

-- Between a first and a last state of a pass, these moments were noted when it had made these calls, the newest first: that behind the newest of these; without one, that behind the newest call that it knew of at first, where it knew of one.
pub record NotedBy {Terms : Type 0} (first final : Known Terms) (calls : List Entry) (moments : List ℕ) : Type 0 where
  pub pass : Known Terms
  pub made : Moved first pass calls
  pub later : List Entry
  pub makes : Moved pass final later
  pub sound : IsSound pass
  pub noted_is : moments ≡ newest_of pass.moments
