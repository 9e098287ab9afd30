-- One message answered by an object, without a turnstile.
use Rattle.std.specs.Prelude.{◌≡◌, ◌⊎◌, List, ◌∷◌, Result, Ok, Err}
use Rattle.ocm_texts.specs.declared.failures.NoMemory.{NoMemory}
use Rattle.ocm_entry.specs.declared.entries.Entry.{Entry}
use Rattle.ocm_entry.specs.declared.replies.Reply.{Reply}
use Rattle.ocm_dav_pages.specs.declared.shapes.Page.{Page}
use Rattle.ocm_dav_pages.specs.Pages.{page_of}
use Rattle.ocm_dav.specs.declared.wants.Wanted.{Wanted}
use Rattle.ocm_dav.specs.declared.wants.Wanted.TheVariants as wants
use Rattle.ocm_turn.specs.Calls.{entry}

module _ {T Terms : Type 0} (terms_of : T → Terms) (stands : T → List Entry → List Entry → Type 0) (legal : Terms → List Entry → List Entry → Type 0) where
  -- a value moved by one entry: where it stood for a history, it stands for that with the entry
  pub record MovesBy (e : Entry) (old new : T) : Type 0 where
    pub terms : terms_of new ≡ terms_of old
    pub moves : (k h : List Entry) → stands old k h → legal (terms_of old) k h → stands new k (e ∷ h)
    pub lawful : (k h : List Entry) → stands old k h → legal (terms_of old) k h → legal (terms_of old) k (e ∷ h)

  -- what a message that wants this comes to, and how the value moves
  unfoldable pub Responds : Wanted → T → T → Result Page NoMemory → Type 0
  Responds (wants.Page page) old new (Ok answer) = (answer ≡ page) × (new ≡ old)
  Responds (wants.Ask ask shape) old new (Ok answer) = (reply : Reply) × MovesBy (entry ask reply) old new × (answer ≡ page_of reply shape)
  Responds (wants.Page page) old new (Err failure) = new ≡ old
  Responds (wants.Ask ask shape) old new (Err failure) = (new ≡ old) ⊎ ((reply : Reply) × MovesBy (entry ask reply) old new)
