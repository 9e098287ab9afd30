-- Lines that were run.
use Rattle.std.proofs.Common.{◌≡◌, ℕ, List, [], ◌∷◌, ◌++◌, Bool, Option, Some, None, Result, Ok, Err, IfOk, refl, sym, ◌∙◌, ap, subst, append-nil}
use Rattle.std.specs.Option.{option_map_or}
use Rattle.ocm_entry.specs.declared.asks.Ask.{Ask}
use Rattle.ocm_entry.specs.declared.replies.Reply.{Reply}
use Rattle.ocm_script_run.specs.Servers.{World, asked_at, reply_at}
use Rattle.ocm_script_run.specs.Deliveries.{Run, next_wanting}
use Rattle.ocm_script_run.specs.Running.{Asks, Runs}

module _ {S : Type 0} (stand : S → World → Type 0) where
  -- the same line
  pub Runs-same : (f g : List Bool → Run) (new : S) (text : List ℕ) → ((w : List Bool) → f w ≡ g w) → Runs stand g new text → Runs stand f new text
  Runs-same f g new text same h = (h.0, h.1 ∙ ap (λ (r : Run). r.text) (sym (same h.0)), subst (stand new) (ap (λ (r : Run). r.world) (sym (same h.0))) h.2)

  -- a line that goes on once its first ask was answered
  pub Runs-on : (a : Bool) (f g : List Bool → Run) (new : S) (text : List ℕ) → ((w : List Bool) → f (a ∷ w) ≡ g w) → Runs stand g new text → Runs stand f new text
  Runs-on a f g new text same h = (a ∷ h.0, h.1 ∙ ap (λ (r : Run). r.text) (sym (same h.0)), subst (stand new) (ap (λ (r : Run). r.world) (sym (same h.0))) h.2)

  -- a line that does nothing and prints this
  pub Runs-still : (new : S) (world : World) (text : List ℕ) → stand new world → Runs stand (λ w. record { world = world; text = text }) new text
  Runs-still new world text are = ([], refl, are)

  -- an ask that a server answered, and a front before what is printed of the reply
  pub Runs-answered : (new : S) (world : World) (host : List ℕ) (ask : Ask) (reply : Reply) (front : List ℕ) (show : Reply → List ℕ) → Asks stand world new host ask (Some reply)
      → Runs stand (λ w. record { world = asked_at (next_wanting w) world host ask; text = front ++ option_map_or show (reply_at (next_wanting w) world host ask) [] }) new (front ++ show reply)
  Runs-answered new world host ask reply front show h = (h.0 ∷ [], ap (λ (r : Option Reply). front ++ option_map_or show r []) h.1, h.2)

  -- an ask that no server answered
  pub Runs-unanswered : (new : S) (world : World) (host : List ℕ) (ask : Ask) (front : List ℕ) (show : Reply → List ℕ) → Asks stand world new host ask None
      → Runs stand (λ w. record { world = asked_at (next_wanting w) world host ask; text = front ++ option_map_or show (reply_at (next_wanting w) world host ask) [] }) new front
  Runs-unanswered new world host ask front show h = (h.0 ∷ [], sym (append-nil front) ∙ ap (λ (r : Option Reply). front ++ option_map_or show r []) h.1, h.2)

-- what holds of each value holds of what was answered
pub if_ok : {A E : Type 0} {P Q : A → Type 0} (r : Result A E) → ((x : A) → P x → Q x) → IfOk r P → IfOk r Q
if_ok (Ok x) f h = f x h
if_ok (Err e) f h = tt
