-- The messages that a server has sent, and those that it tells are due.
use Rattle.std.proofs.Common.{◌≡◌, ℕ, ◌+◌, suc, List, [], ◌∷◌, Bool, true, false, cond, refl, subst, arith}
use Rattle.std.specs.Prelude.{Some, filter, map, slice_get}
use Rattle.ocm_types.specs.declared.letters.Numbered.{Numbered}
use Rattle.ocm_rules.specs.declared.rows.Message.{Message}
use Rattle.ocm_rules.specs.Messages.{as_sent, numbered_from, out}
use Rattle.ocm_rules.specs.Numbers.{at_number}
use Rattle.ocm_law_world.specs.World.{Run, Session, World, kept_at}
use Rattle.ocm_law_world.proofs.Growth.{HasMessage, message-lasts}
use Rattle.ocm_law_world.proofs.Steps.{alone-reached, lasts-run, sessions-reached}
use Rattle.ocm_law_runs.proofs.Steps.{IsAlone}

-- ---- sent messages

-- the host has sent this message with this number
abbrev pub HasSent : World → List ℕ → ℕ → Message → Type 0
HasSent w host number message = (s : Session) × (w.session host ≡ Some s) × (at_number (out host (kept_at host s)) number ≡ Some message)

pub sent-on : (w later : World) (host : List ℕ) (number : ℕ) (message : Message) → IsAlone w → Run w later → HasSent w host number message → HasSent later host number message
sent-on w later host number message reached run sent =
    lasts-run (HasMessage number message) w later host (message-lasts number message) (sessions-reached w (alone-reached w reached)) run sent

-- the host has sent each of these messages
abbrev pub HasSentAll : World → List ℕ → List Numbered → Type 0
HasSentAll w host [] = Unit {0}
HasSentAll w host (m ∷ more) = ((number : ℕ) × (message : Message) × (m ≡ as_sent (number, message)) × HasSent w host number message) × HasSentAll w host more

pub all-sent-on : (w later : World) (host : List ℕ) (messages : List Numbered) → IsAlone w → Run w later → HasSentAll w host messages → HasSentAll later host messages
all-sent-on w later host [] reached run sent = tt
all-sent-on w later host (m ∷ more) reached run ((number, message, same, sent), rest) =
    ((number, message, same, sent-on w later host number message reached run sent), all-sent-on w later host more reached run rest)

-- ---- due messages

-- each of these numbers is that of its message among all
abbrev AreNumbered : List Message → List (ℕ × Message) → Type 0
AreNumbered all [] = Unit {0}
AreNumbered all (p ∷ more) = (at_number all p.0 ≡ Some p.1) × AreNumbered all more

numbered-from : (all : List Message) (n : ℕ) (xs : List Message) → ((i : ℕ) (x : Message) → slice_get xs i ≡ Some x → at_number all (n + i) ≡ Some x) → AreNumbered all (numbered_from n xs)
numbered-from all n [] there = tt
numbered-from all n (x ∷ xs) there =
    let e : n + 0 ≡ n = omega arith in (
      subst (λ j. at_number all j ≡ Some x) e (there 0 x refl),
      numbered-from all (n + 1) xs (λ i y h. let f : n + suc i ≡ n + 1 + i = omega arith in subst (λ j. at_number all j ≡ Some y) f (there (suc i) y h)),
    )

are-numbered : (all : List Message) → AreNumbered all (numbered_from 1 all)
are-numbered all = numbered-from all 1 all (λ i x h. let e : suc i ≡ 1 + i = omega arith in subst (λ j. at_number all j ≡ Some x) e h)

some-numbered : (all : List Message) (p : ℕ × Message → Bool) (xs : List (ℕ × Message)) → AreNumbered all xs → AreNumbered all (filter p xs)
some-numbered all p [] are = tt
some-numbered all p (x ∷ xs) are = by_test (p x) (some-numbered all p xs are.1)
  where
    by_test : (b : Bool) → AreNumbered all (filter p xs) → AreNumbered all (cond b (x ∷ filter p xs) (filter p xs))
    by_test true rest = (are.0, rest)
    by_test false rest = rest

sent-numbered : (w : World) (host : List ℕ) (s : Session) (xs : List (ℕ × Message)) → w.session host ≡ Some s → AreNumbered (out host (kept_at host s)) xs → HasSentAll w host (map as_sent xs)
sent-numbered w host s [] there are = tt
sent-numbered w host s (x ∷ xs) there are = ((x.0, x.1, refl, (s, there, are.0)), sent-numbered w host s xs there are.1)

-- whichever of a server's messages are told, it has sent them
pub told-sent : (w : World) (host : List ℕ) (s : Session) (p : ℕ × Message → Bool) → w.session host ≡ Some s → HasSentAll w host (map as_sent (filter p (numbered_from 1 (out host (kept_at host s)))))
told-sent w host s p there =
    let all : List Message = out host (kept_at host s) in
    sent-numbered w host s (filter p (numbered_from 1 all)) there (some-numbered all p (numbered_from 1 all) (are-numbered all))
