-- A message whose head was read ahead.
use Rattle.std.proofs.Common.{◌≡◌, ℕ, ◌≤◌, List, [], ◌++◌, length, take, drop, Bool, true, false, Option, Some, Ok, refl, sym, ◌∙◌, subst, arith, append-nil}
use Rattle.std.proofs.lemmas.List.{take_all, drop_all}
use Rattle.ocm_base.specs.Outside.{Flow, IsDry}
use Rattle.ocm_base.proofs.Pieces.{came_none}
use Rattle.ocm_limits.specs.Limits.{most_body_bytes}
use Rattle.ocm_http_heads.specs.Endings.{of_head}
use Rattle.ocm_http_heads.specs.declared.fields.Head.{Head}
use Rattle.ocm_http_heads.specs.declared.lengths.Length.{Length}
use Rattle.ocm_http_heads.proofs.Looks.{whole_within}
use Rattle.ocm_http.specs.Places.{past}
use Rattle.ocm_http.specs.Frames.{Frame, Given, Bodied, IsFrame}
use Rattle.ocm_http.specs.ReadHeads.{HeadState, IsHeadIn, IsRead}
use Rattle.ocm_http.specs.Readers.{Under, ReadOf}
use Rattle.ocm_http.specs.Stages.{BeginsBody, HeadedBy}
use Rattle.ocm_http.specs.declared.messages.Kind.TheVariants.{Requests}
use Rattle.ocm_http.specs.declared.messages.Message.{Message}
use Rattle.ocm_http.specs.declared.stages.Rules.{Rules}
use Rattle.ocm_http.specs.declared.stages.Stage.{Stage}
use Rattle.ocm_http.specs.declared.stages.Begun.{Begun}
use Rattle.ocm_http.specs.declared.stages.Begun.TheVariants.{On, All}
use Rattle.ocm_http.proofs.HeadSteps.{head_frame}

-- how such a message is read
abbrev pub of_requests : ℕ → Rules
of_requests place = record { kind = Requests; max = most_body_bytes; place = place }

-- what stands behind the head makes the message
behind_frame : (place : ℕ) (text : List ℕ) (h : HeadState) → IsHeadIn text h → (bytes : List ℕ) (ended : Bool) (frame : Frame)
    → Bodied h.head (Ok h.body) most_body_bytes (past place h.skipped) (past place h.size) bytes ended frame
    → IsFrame Requests most_body_bytes place (text ++ bytes) ended frame
behind_frame place text h is bytes ended frame bodied =
    let all : take (length text) text ≡ text = take_all (length text) text (search arith) in
    let none : drop (length text) text ≡ [] = drop_all (length text) text (search arith) in
    let headed : HeadedBy (of_requests place) text bytes ended frame =
    (Some h.head, is.says, rw (is.told, ← is.skipped, ← is.size) bodied) in
    head_frame (of_requests place) [] of_head text (length text) (refl, refl, refl) is.ends bytes ended frame
    (subst (λ (z : List ℕ × List ℕ). HeadedBy (of_requests place) z.0 (z.1 ++ bytes) ended frame) (λ i. (sym all i, sym none i)) headed)

counts : (text : List ℕ) (h : HeadState) → IsHeadIn text h → h.size ≡ past 0 (length text)
counts text h is =
    let few : length text ≤ 16384 = (whole_within of_head text (length text) is.ends).size in
    is.size ∙ small (length text) few
  where
    small : (n : ℕ) → n ≤ 16384 → n ≡ past 0 n
    small n few = grind arith

under_behind : (place : ℕ) (before : Flow) (text : List ℕ) (h : HeadState) (stage : Stage) → IsHeadIn text h
    → BeginsBody (of_requests place) h.head h.body (past place h.skipped) (past place h.size) (On stage)
    → Under (of_requests place) before before text [] stage h.size
under_behind place before text h stage is begins =
    let few : length text ≤ 16384 = (whole_within of_head text (length text) is.ends).size in
    let room = begins.1 in
    record {
      got = [];
      gone = text;
      taken = came_none before;
      split = refl;
      stands = begins.0;
      counts = omega arith;
      spent_is = counts text h is;
      rest = λ more ended frame r. subst (λ b. IsFrame Requests most_body_bytes place (b ++ more) ended frame) (sym (append-nil text))
          (behind_frame place text h is more ended frame (begins.2 more ended frame r));
    }

whole_behind : (place : ℕ) (before : Flow) (text : List ℕ) (h : HeadState) (m : Message) → IsHeadIn text h
    → BeginsBody (of_requests place) h.head h.body (past place h.skipped) (past place h.size) (All m)
    → ReadOf Requests most_body_bytes place text before before [] h.size (Ok (Some m))
whole_behind place before text h m is begins = record {
  message = record {
    ended = false;
    reading = record {
      got = [];
      taken = came_none before;
      told = λ h. never (IsDry before) h;
      is_frame = behind_frame place text h is [] false (Given m []) (begins [] false);
    };
    of_message = text;
    split = refl;
    counted = counts text h is;
  };
  over = λ h. cc;
  emptied = λ h. cc;
  fault = tt;
  spends = record {
    got = [];
    taken = came_none before;
    few = omega arith;
    gone = text;
    split = refl;
    counted = counts text h is;
  };
}
  where
    never : (P : Type 0) → (false ≡ true) → P
    never P h = cc

-- ---- from a head that was taken into parts

begins_of : (place : ℕ) (h : HeadState) (t : Head × Length × ℕ × ℕ) (first next : ℕ) (begun : Begun) → t ≡ (h.head, h.body, h.skipped, h.size) → first ≡ past place t.2 → next ≡ past place t.3
    → BeginsBody (of_requests place) t.0 t.1 first next begun → BeginsBody (of_requests place) h.head h.body (past place h.skipped) (past place h.size) begun
begins_of place h t first next begun parts f n begins =
    subst (λ (t : Head × Length × ℕ × ℕ). BeginsBody (of_requests place) t.0 t.1 (past place t.2) (past place t.3) begun) parts
    (subst (λ (z : ℕ × ℕ). BeginsBody (of_requests place) t.0 t.1 z.0 z.1 begun) (λ i. (f i, n i)) begins)

pub goes_behind : (place : ℕ) (before : Flow) (window : List ℕ) (h : HeadState) (t : Head × Length × ℕ × ℕ) (first next : ℕ) (stage : Stage) → window ≡ [] → (is : IsRead h)
    → t ≡ (h.head, h.body, h.skipped, h.size) → first ≡ past place t.2 → next ≡ past place t.3
    → BeginsBody (of_requests place) t.0 t.1 first next (On stage) → Under (of_requests place) before before h.text window stage t.3
goes_behind place before window h t first next stage none is parts f n begins =
    subst (λ (z : List ℕ × ℕ). Under (of_requests place) before before h.text z.0 stage z.1) (λ i. (sym none i, (sym parts i).3))
    (under_behind place before h.text h stage is (begins_of place h t first next (On stage) parts f n begins))

pub given_behind : (place : ℕ) (before : Flow) (window : List ℕ) (h : HeadState) (t : Head × Length × ℕ × ℕ) (first next : ℕ) (m : Message) → window ≡ [] → (is : IsRead h)
    → t ≡ (h.head, h.body, h.skipped, h.size) → first ≡ past place t.2 → next ≡ past place t.3
    → BeginsBody (of_requests place) t.0 t.1 first next (All m) → ReadOf Requests most_body_bytes place h.text before before window t.3 (Ok (Some m))
given_behind place before window h t first next m none is parts f n begins =
    subst (λ (z : List ℕ × ℕ). ReadOf Requests most_body_bytes place h.text before before z.0 z.1 (Ok (Some m))) (λ i. (sym none i, (sym parts i).3))
    (whole_behind place before h.text h m is (begins_of place h t first next (All m) parts f n begins))
