-- What is written.
use Rattle.std.proofs.Common.{◌≡◌, ℕ, List, [], Bool, true, false, Option, Some, None, Result, Ok, Err, refl, sym, subst, inl, inr}
use Rattle.ocm_texts.specs.declared.failures.Failed.{Failed}
use Rattle.ocm_http.specs.Written.{fixed}
use Rattle.ocm_http.specs.declared.messages.FrameFault.{FrameFault}
use Rattle.ocm_http.specs.declared.writing.Fixed.TheVariants as fixed_replies
use Rattle.ocm_dav_pages.specs.declared.shapes.Page.{Page}
use Rattle.ocm_server_connections.specs.declared.endings.Ended.{Ended}
use Rattle.ocm_server_connections.specs.declared.endings.Ended.TheVariants as endings
use Rattle.ocm_server_connections.specs.declared.endings.Missed.{Missed}
use Rattle.ocm_server_connections.specs.declared.endings.Missed.TheVariants as misses
use Rattle.ocm_server_connections.specs.Sides.{Sides, Sends, as_fixed, as_page}
use Rattle.ocm_server_connections.specs.Talk.{EndsWith, EndsMissed, Tries, bad, no_memory}
use Rattle.ocm_server_connections.specs.Parts.{Writing, Finishes, Refuses, RefusesAt}
use Rattle.ocm_server_connections.proofs.Talking.{wrote_nothing, false_true}

pub tried : (old new : Sides) (r : Result (Unit {0}) Failed) → Sends old new (fixed fixed_replies.NoMemory) as_fixed r → Writing old new as_fixed (λ failed written. Tries failed no_memory written)
unfolding Sends no_memory
tried old new (Ok done) s = record { written = fixed fixed_replies.NoMemory; failed = false; wrote = s; rose = λ h. absurd (false_true h); is = inl refl }
tried old new (Err failed) s = record { written = s.0; failed = true; wrote = s.1; rose = λ h. s.3; is = inr (refl, s.2) }

pub refused_at : (old new : Sides) (at : ℕ) (done : Unit {0}) → Sends old new (fixed fixed_replies.Bad) as_fixed (Ok done) → Writing old new as_fixed (λ failed written. RefusesAt at (endings.Bad at) failed written)
unfolding Sends bad RefusesAt
refused_at old new at done s = record { written = fixed fixed_replies.Bad; failed = false; wrote = s; rose = λ h. absurd (false_true h); is = inl (refl, refl) }

pub broke_at : (old new : Sides) (at : ℕ) (failed : Failed) → Sends old new (fixed fixed_replies.Bad) as_fixed (Err failed) → Writing old new as_fixed (λ failed written. RefusesAt at endings.WriteFault failed written)
unfolding Sends bad RefusesAt
broke_at old new at failed s = record { written = s.0; failed = true; wrote = s.1; rose = λ h. s.3; is = inr (refl, (refl, s.2)) }

pub nothing_written : (s : Sides) (P : Bool → List ℕ → Type 0) → P false [] → Writing s s as_fixed P
nothing_written s P p = record { written = []; failed = false; wrote = wrote_nothing s; rose = λ h. absurd (false_true h); is = p }

pub finished : (old new : Sides) (page : Page) (moments : List ℕ) (after : Option Ended) (done : Unit {0}) → Sends old new page.bytes (as_page moments) (Ok done) → Finishes old new (Ok page) moments after after
unfolding Sends Finishes EndsWith
finished old new page moments None done s = (page, refl, refl, s)
finished old new page moments (Some ending) done s = record { written = page.bytes; failed = false; wrote = s; rose = λ h. absurd (false_true h); is = inl (refl, refl) }

pub finished_broken : (old new : Sides) (page : Page) (moments : List ℕ) (after : Option Ended) (failed : Failed) → Sends old new page.bytes (as_page moments) (Err failed) → Finishes old new (Ok page) moments after (Some endings.WriteFault)
unfolding Sends Finishes EndsWith
finished_broken old new page moments after failed s = record { written = s.0; failed = true; wrote = s.1; rose = λ h. s.3; is = inr (refl, (refl, s.2)) }

pub missed_spent : (s : Sides) (missed : Missed) → missed ≡ misses.Spent → Writing s s as_fixed (λ failed written. EndsMissed failed missed written endings.Spent)
missed_spent s missed e = nothing_written s _ (subst (λ (m : Missed). EndsMissed false m [] endings.Spent) (sym e) (refl, refl))

pub missed_memory : (old new : Sides) (missed : Missed) → missed ≡ misses.NoMemory → Writing old new as_fixed (λ failed written. Tries failed no_memory written) → Writing old new as_fixed (λ failed written. EndsMissed failed missed written endings.NoMemory)
missed_memory old new missed e w = record { written = w.written; failed = w.failed; wrote = w.wrote; rose = w.rose; is = subst (λ (m : Missed). EndsMissed w.failed m w.written endings.NoMemory) (sym e) (refl, w.is) }

pub finished_missed : (old new : Sides) (missed : Missed) (moments : List ℕ) (after : Option Ended) (ending : Ended) → Writing old new as_fixed (λ failed written. EndsMissed failed missed written ending) → Finishes old new (Err missed) moments after (Some ending)
unfolding Finishes EndsWith
finished_missed old new missed moments after ending w = record { written = w.written; failed = w.failed; wrote = w.wrote; rose = w.rose; is = w.is }

pub refuse_is : {old new : Sides} (fault is : FrameFault) (ending : Ended) → fault ≡ is → Writing old new as_fixed (λ failed written. Refuses is ending failed written) → Writing old new as_fixed (λ failed written. Refuses fault ending failed written)
refuse_is {old} {new} fault is ending e w = record { written = w.written; failed = w.failed; wrote = w.wrote; rose = w.rose; is = subst (λ (f : FrameFault). Refuses f ending w.failed w.written) (sym e) w.is }

pub finish_is : (old new : Sides) (answer is : Result Page Missed) (moments : List ℕ) (after result : Option Ended) → answer ≡ is → Finishes old new is moments after result → Finishes old new answer moments after result
finish_is old new answer is moments after result e w = subst (λ (a : Result Page Missed). Finishes old new a moments after result) (sym e) w
