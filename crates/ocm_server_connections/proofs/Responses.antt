-- One message answered by an object.
use Rattle.std.proofs.Common.{◌≡◌, List, Result, Ok, Err, refl, subst, inl, inr}
use Rattle.std.specs.Prelude.{IfOk}
use Rattle.ocm_texts.specs.declared.failures.NoMemory.{NoMemory}
use Rattle.ocm_entry.specs.declared.asks.Ask.{Ask}
use Rattle.ocm_entry.specs.declared.entries.Entry.{Entry}
use Rattle.ocm_entry.specs.declared.replies.Reply.{Reply}
use Rattle.ocm_dav_pages.specs.declared.shapes.Page.{Page}
use Rattle.ocm_dav_pages.specs.declared.shapes.Shape.{Shape}
use Rattle.ocm_dav_pages.specs.Pages.{page_of}
use Rattle.ocm_dav.specs.declared.wants.Wanted.{Wanted}
use Rattle.ocm_dav.specs.declared.wants.Wanted.TheVariants as wants
use Rattle.ocm_turn.specs.Calls.{entry}
use Rattle.ocm_server_connections.specs.Responding.{MovesBy, Responds}

module _ {T Terms : Type 0} (terms_of : T → Terms) (stands : T → List Entry → List Entry → Type 0) (legal : Terms → List Entry → List Entry → Type 0) where
  pub responds_page : (w : Wanted) (page : Page) (value : T) → wants.Page page ≡ w → Responds terms_of stands legal w value value (Ok page)
  unfolding Responds
  responds_page w page value e = subst (λ (x : Wanted). Responds terms_of stands legal x value value (Ok page)) e (refl, refl)

  pub responds_none : (w : Wanted) (value : T) (failure : NoMemory) → Responds terms_of stands legal w value value (Err failure)
  unfolding Responds
  responds_none (wants.Page page) value failure = refl
  responds_none (wants.Ask ask shape) value failure = inl refl

  pub responds_reply : (ask : Ask) (shape : Shape) (reply : Reply) (old new : T) (r : Result Page NoMemory) → MovesBy terms_of stands legal (entry ask reply) old new → IfOk r (λ page. page ≡ page_of reply shape)
      → Responds terms_of stands legal (wants.Ask ask shape) old new r
  unfolding Responds
  responds_reply ask shape reply old new (Ok page) moves is = (reply, moves, is)
  responds_reply ask shape reply old new (Err failure) moves is = inr (reply, moves)

  pub responds_as : (w is : Wanted) (old new : T) (r : Result Page NoMemory) → is ≡ w → Responds terms_of stands legal is old new r → Responds terms_of stands legal w old new r
  responds_as w is old new r e h = subst (λ (x : Wanted). Responds terms_of stands legal x old new r) e h
