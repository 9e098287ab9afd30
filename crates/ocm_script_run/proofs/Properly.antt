-- Lines with short paths ask properly.
use Rattle.std.proofs.Common.{◌≡◌, ℕ, List, [], ◌∷◌, Bool, true, false, ◌&&◌, refl, Ok, Err}
use Rattle.std.specs.List.{list_all}
use Rattle.ocm_entry.specs.declared.asks.Cmd.TheVariants as commands
use Rattle.ocm_entry.specs.declared.asks.Method.TheVariants as methods
use Rattle.ocm_entry.specs.Proper.{is_body_of, is_short}
use Rattle.ocm_script.specs.declared.events.Event.{Event}
use Rattle.ocm_script.specs.declared.events.Event.TheVariants.{Quiet, Node, User, Local, Dav, Put, Carry, Clock, Offer, Notice, Raw, Deliver, Pump, Fuse, Crash}
use Rattle.ocm_script.specs.Events.{bytes_of, has_short_paths}
use Rattle.ocm_script_run.specs.Asked.{asks_properly}

-- PUT takes any body
put_takes : (body : List ℕ) → is_body_of methods.Put body ≡ true
put_takes [] = refl
put_takes (b ∷ bytes) = refl

both : (a b : Bool) → a ≡ true → b ≡ true → (a && b) ≡ true
both true true h k = refl
both true false h k = k
both false b h k = h

-- a line with short paths asks properly
proper-line : (e : Event) → has_short_paths e ≡ true → asks_properly e ≡ true
proper-line Quiet h = refl
proper-line (Node host) h = refl
proper-line (User host name fresh) h = refl
proper-line (Local host key (commands.Share path with perms fresh)) h = h
proper-line (Local host key (commands.Unshare id)) h = refl
proper-line (Local host key (commands.Limit id perms)) h = refl
proper-line (Local host key (commands.Accept number)) h = refl
proper-line (Local host key (commands.Decline number)) h = refl
proper-line (Local host key (commands.Reshare number with perms)) h = refl
proper-line (Local host key (commands.Undo request)) h = refl
proper-line (Local host key commands.List) h = refl
proper-line (Local host key (commands.Expire id until)) h = refl
proper-line (Dav host secret method path) h = h
proper-line (Put host secret path body) h = both (is_body_of methods.Put (bytes_of body)) (is_short path) (put_takes (bytes_of body)) h
proper-line (Carry host secret from to moving overwrite) h = h
proper-line (Clock host clock) h = refl
proper-line (Offer host (Ok offer)) h = refl
proper-line (Offer host (Err fault)) h = refl
proper-line (Notice host fresh (Ok notice)) h = refl
proper-line (Notice host fresh (Err fault)) h = refl
proper-line (Deliver host number fresh lost) h = refl
proper-line (Pump host fresh) h = refl
proper-line (Raw host fresh bytes) h = refl
proper-line (Fuse host calls) h = refl
proper-line (Crash host left) h = refl

apart : (a b : Bool) → (a && b) ≡ true → (a ≡ true) × (b ≡ true)
apart true true k = (refl, refl)
apart true false k = absurd (cc)
apart false b k = absurd (cc)

-- lines with short paths ask properly
pub proper-lines : (events : List Event) → list_all has_short_paths events ≡ true → list_all asks_properly events ≡ true
proper-lines [] h = refl
proper-lines (e ∷ events) h =
    let each = apart (has_short_paths e) (list_all has_short_paths events) h in
    both (asks_properly e) (list_all asks_properly events) (proper-line e each.0) (proper-lines events each.1)
