-- One message answered.
use Rattle.std.proofs.Common.{◌≡◌, ℕ, List, [], ◌∷◌, true, false, Result, Ok, Err, sym, refl, ap, subst, inl, inr}
use Rattle.std.specs.Prelude.{IfOk, IfErr, OnErr, IsTrue}
use Rattle.ocm_entry.specs.declared.asks.Ask.{Ask}
use Rattle.ocm_entry.specs.declared.asks.Ask.TheVariants.{Tick}
use Rattle.ocm_entry.specs.declared.entries.Entry.{Entry}
use Rattle.ocm_entry.specs.declared.replies.Reply.{Reply}
use Rattle.ocm_entry.specs.declared.replies.Reply.TheVariants as replies
use Rattle.ocm_dav_pages.specs.declared.shapes.Page.{Page}
use Rattle.ocm_dav_pages.specs.declared.shapes.Shape.{Shape}
use Rattle.ocm_dav_pages.specs.Pages.{page_of}
use Rattle.ocm_dav.specs.declared.wants.Wanted.{Wanted}
use Rattle.ocm_dav.specs.declared.wants.Wanted.TheVariants as wants
use Rattle.ocm_turn.specs.declared.turnstile.Spent.{Spent}
use Rattle.ocm_turn.specs.Calls.{entry}
use Rattle.ocm_turn.specs.Passes.{Known}
use Rattle.ocm_server_connections.specs.declared.endings.Missed.{Missed}
use Rattle.ocm_server_connections.specs.declared.endings.Missed.TheVariants as misses
use Rattle.ocm_turn.specs.Moves.{Moved}
use Rattle.ocm_server_connections.specs.Talk.{Answers, Replied, Unreplied, is_done, is_no_memory, is_spent, ticked}
use Rattle.ocm_server_connections.specs.Parts.{RepliedOr}
use Rattle.ocm_turn.proofs.MoveLemmas.{moved_then, moved_nothing}

done_is : (reply : Reply) → is_done reply ≡ true → reply ≡ replies.Done
done_is replies.Done e = refl
done_is _ e = absurd (cc)

module _ {Terms : Type 0} where
  -- what a pass did, and what it was for
  abbrev pub Did : Known Terms → Known Terms → (List Entry → Type 0) → Type 0
  Did old new P = (calls : List Entry) × Moved old new calls × P calls

  pub unticked : (old new : Known Terms) (ask : Ask) (clock : ℕ) (spent : Spent) → Moved old new [] → (calls : List Entry) × Moved old new calls × RepliedOr ask clock calls (Err spent)
  unfolding RepliedOr Unreplied
  unticked old new ask clock spent moved = ([], moved, inl refl)

  pub only_told : (old new : Known Terms) (ask : Ask) (clock : ℕ) (told : Reply) → Moved old new (entry (Tick clock) told ∷ []) → is_done told ≡ false → (calls : List Entry) × Moved old new calls × RepliedOr ask clock calls (Ok told)
  unfolding RepliedOr Replied
  only_told old new ask clock told moved not_done = (entry (Tick clock) told ∷ [], moved, inl (refl, not_done))

  pub asked_too : (old middle new : Known Terms) (ask : Ask) (clock : ℕ) (told : Reply) (r : Result Reply Spent) → Moved old middle (entry (Tick clock) told ∷ []) → is_done told ≡ true
      → IfOk r (λ reply. Moved middle new (entry ask reply ∷ [])) → OnErr r (Moved middle new [])
      → (calls : List Entry) × Moved old new calls × RepliedOr ask clock calls r
  unfolding RepliedOr Replied Unreplied
  asked_too old middle new ask clock told (Ok reply) moved is_done ok err = (
    entry ask reply ∷ entry (Tick clock) told ∷ [],
    moved_then old middle new (entry (Tick clock) told ∷ []) (entry ask reply ∷ []) moved ok,
    inr (ap (λ (t : Reply). entry ask reply ∷ ticked clock t ∷ []) (done_is told is_done)),
  )
  asked_too old middle new ask clock told (Err spent) moved is_done ok err = (
    entry (Tick clock) told ∷ [],
    moved_then old middle new (entry (Tick clock) told ∷ []) [] moved err,
    inr (ap (λ (t : Reply). ticked clock t ∷ []) (done_is told is_done)),
  )

  pub answers_page : (old new : Known Terms) (ask : Ask) (shape : Shape) (clock : ℕ) (reply : Reply) (page : Page)
      → ((calls : List Entry) × Moved old new calls × RepliedOr ask clock calls (Ok reply))
      → is_no_memory reply ≡ false → page ≡ page_of reply shape
      → (calls : List Entry) × Moved old new calls × Answers (wants.Ask ask shape) clock calls (Ok page)
  unfolding RepliedOr Answers
  answers_page old new ask shape clock reply page did some is = (did.0, did.1, (reply, did.2, some, is))

  pub answers_missing : (old new : Known Terms) (ask : Ask) (shape : Shape) (clock : ℕ) (reply : Reply)
      → ((calls : List Entry) × Moved old new calls × RepliedOr ask clock calls (Ok reply))
      → (calls : List Entry) × Moved old new calls × Answers (wants.Ask ask shape) clock calls (Err misses.NoMemory)
  unfolding RepliedOr Answers
  answers_missing old new ask shape clock reply did = (did.0, did.1, inr (reply, did.2))

  pub answers_spent : (old new : Known Terms) (ask : Ask) (shape : Shape) (clock : ℕ) (spent : Spent)
      → ((calls : List Entry) × Moved old new calls × RepliedOr ask clock calls (Err spent))
      → (calls : List Entry) × Moved old new calls × Answers (wants.Ask ask shape) clock calls (Err misses.Spent)
  unfolding RepliedOr Answers
  answers_spent old new ask shape clock spent did = did

  pub answers_as : (old new : Known Terms) (clock : ℕ) (w is : Wanted) (r : Result Page Missed) → is ≡ w
      → ((calls : List Entry) × Moved old new calls × Answers is clock calls r)
      → (calls : List Entry) × Moved old new calls × Answers w clock calls r
  answers_as old new clock w is r e did = (did.0, did.1, subst (λ (x : Wanted). Answers x clock did.0 r) e did.2)

  pub answers_once : (old : Known Terms) (clock : ℕ) (w : Wanted) (page : Page) → wants.Page page ≡ w
      → (calls : List Entry) × Moved old old calls × Answers w clock calls (Ok page)
  unfolding Answers
  answers_once old clock w page e = ([], moved_nothing old, subst (λ (x : Wanted). Answers x clock [] (Ok page)) e (refl, refl))

  pub answers_nothing : (old : Known Terms) (clock : ℕ) (w : Wanted) → (calls : List Entry) × Moved old old calls × Answers w clock calls (Err misses.NoMemory)
  unfolding Answers
  answers_nothing old clock (wants.Page page) = ([], moved_nothing old, refl)
  answers_nothing old clock (wants.Ask ask shape) = ([], moved_nothing old, inl refl)

  pub answers_reply : (old new : Known Terms) (ask : Ask) (shape : Shape) (clock : ℕ) (reply : Reply) (r : Result Page Missed)
      → ((calls : List Entry) × Moved old new calls × RepliedOr ask clock calls (Ok reply))
      → IfOk r (λ page. (is_no_memory reply ≡ false) × (page ≡ page_of reply shape)) → IfErr r (λ missed. missed ≡ misses.NoMemory)
      → (calls : List Entry) × Moved old new calls × Answers (wants.Ask ask shape) clock calls r
  answers_reply old new ask shape clock reply (Ok page) did ok err = answers_page old new ask shape clock reply page did ok.0 ok.1
  answers_reply old new ask shape clock reply (Err missed) did ok err =
      let got = answers_missing old new ask shape clock reply did in
      (got.0, got.1, subst (λ (m : Missed). Answers (wants.Ask ask shape) clock got.0 (Err m)) (sym err) got.2)

pub not_spent : (r : Result Page Missed) (P : Type 0) → IfErr r (λ missed. missed ≡ misses.NoMemory) → IsTrue (is_spent r) → P
not_spent (Ok page) P err h = absurd (cc)
not_spent (Err missed) P err h = absurd (let e : is_spent (Err misses.NoMemory) ≡ true = subst (λ (m : Missed). is_spent (Err m) ≡ true) err h in cc)
