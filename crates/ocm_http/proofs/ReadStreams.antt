-- Messages one behind another are their stream.
use Rattle.std.proofs.Common.{ℕ, List, [], ◌∷◌, length, map, Bool, true, false, cond, refl, arith, All}
use Rattle.std.specs.List.{flat_map}
use Rattle.std.proofs.lemmas.List.Elements.{All-head, All-tail}
use Rattle.ocm_http.specs.Places.{past}
use Rattle.ocm_http.specs.Frames as frames
use Rattle.ocm_http.specs.Frames.{Frame, Given, Awaited, Over, IsFrame, Frames}
use Rattle.ocm_http.specs.ReadBack.{ReadsAs}
use Rattle.ocm_http.specs.declared.messages.Kind.{Kind}
use Rattle.ocm_http.specs.declared.messages.Message.{Message}
use Rattle.ocm_http.proofs.Stable.{first_of_stream}

nothing_left : (kind : Kind) (max place : ℕ) (ended : Bool) → Frames kind max place [] ended [] (cond ended Over Awaited)
nothing_left kind max place true = frames.over place [] true refl
nothing_left kind max place false = frames.awaited place [] false refl

pub stream_of_messages : (kind : Kind) (max place : ℕ) (written : List (List ℕ × Message)) (ended : Bool)
    → All (λ w. ReadsAs kind max w.0 w.1) written
    → Frames kind max place (flat_map (λ w. w.0) written) ended (map (λ w. w.1) written) (cond ended Over Awaited)
stream_of_messages kind max place [] ended each = nothing_left kind max place ended
stream_of_messages kind max place (w ∷ written) ended each =
    let each_of : List ℕ × Message → Type 0 = λ v. ReadsAs kind max v.0 v.1 in
    let rest = stream_of_messages kind max (past place (length w.0)) written ended (All-tail each_of w written each) in
    first_of_stream kind max place (length w.0) w.0 [] (flat_map (λ v. v.0) written) ended w.1 (map (λ v. v.1) written) (cond ended Over Awaited)
    ((All-head each_of w written each) place false) (omega arith) rest
