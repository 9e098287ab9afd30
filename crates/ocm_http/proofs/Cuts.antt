-- The end of input inside a message.
use Rattle.std.proofs.Common.{◌≡◌, ℕ, List, [], take, drop, Bool, true, false, cond, refl, sym, ap}
use Rattle.std.proofs.lemmas.Bool.{lt-leb}
use Rattle.ocm_http_heads.specs.declared.endings.Look.{Look}
use Rattle.ocm_http.specs.Messages.{more_of}
use Rattle.ocm_http.specs.Frames.{Given, Refused}
use Rattle.ocm_http.specs.Stages.{Stands, Rest, short}
use Rattle.ocm_http.specs.declared.messages.Message.{Message}
use Rattle.ocm_http.specs.declared.messages.FrameFault.TheVariants.{Cut}
use Rattle.ocm_http.specs.declared.stages.Rules.{Rules}
use Rattle.ocm_http.specs.declared.stages.Stage.{Stage}
use Rattle.ocm_http.specs.declared.stages.Stage.TheVariants as stage
use Rattle.ocm_http.proofs.LineSteps.{line_ends}

break_ends : (rules : Rules) (m : Message) (place : ℕ) (returned : Bool) → Rest rules (stage.Break m place returned) [] true (Refused Cut)
break_ends rules m place true = refl
break_ends rules m place false = refl

-- it cuts each message but one whose head isn't whole or whose body ends with the input
pub cut_ends : (rules : Rules) (s : Stage) → Stands rules s
    → ((text : List ℕ) (look : Look) → s ≡ stage.Head text look → ⊥) → ((m : Message) (first : ℕ) → s ≡ stage.ToEnd m first → ⊥)
    → Rest rules s [] true (Refused Cut)
cut_ends rules (stage.Head text look) stands headless endless = absurd (headless text look refl)
cut_ends rules (stage.Sized m wanted) stands headless endless =
    ap (λ b. cond b (Given (more_of m (take wanted [])) (drop wanted [])) (Refused Cut)) (sym (lt-leb wanted 0 stands.0))
cut_ends rules (stage.ToEnd m first) stands headless endless = absurd (endless m first refl)
cut_ends rules (stage.Line m place line) stands headless endless = line_ends rules m place line stands
cut_ends rules (stage.Data m place wanted) stands headless endless = short stands.0 refl
cut_ends rules (stage.Break m place returned) stands headless endless = break_ends rules m place returned
cut_ends rules (stage.Trailers m place look) stands headless endless = refl
