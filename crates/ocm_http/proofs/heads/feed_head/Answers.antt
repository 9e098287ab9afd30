use Rattle.std.proofs.Common.{ℕ, Bool, List, cond, ◌≡◌, ◌≤◌, ◌++◌, take, refl, sym, ap, ◌∙◌, subst}
use Rattle.std.proofs.lemmas.List.{length-take-le}
use Rattle.ocm_http_heads.specs.Endings.{lines, blanks}
use Rattle.ocm_http.specs.Places.{past}
use Rattle.ocm_http.specs.Frames.{Refused}
use Rattle.ocm_http.specs.Stages.{Begins, HeadedBy}
use Rattle.ocm_http.specs.declared.messages.FrameFault.TheVariants.{NoMemory}
use Rattle.ocm_http.specs.declared.stages.Begun.TheVariants.{On, All}
use Rattle.ocm_http.proofs.HeadSteps.{head_goes, head_long, end_within, head_lines, head_begins, head_makes, head_faults}
use Rattle.ocm_http.proofs.heads.feed_head.Goals as goal

pub returns-in-Unfinished-clause-fed : goal.returns-in-Unfinished-clause-fed
returns-in-Unfinished-clause-fed c =
    rw (c.in_ok-add-in-Unfinished.ensures.ok, c.in-Unfinished.ensures.moved refl)
    (head_goes c.args.rules c.args.text c.args.look c.args.piece.now c.requires.some c.requires.stands (sym c.in-Unfinished.ensures.found))

pub returns-in-TooLong-clause-fault : goal.returns-in-TooLong-clause-fault
returns-in-TooLong-clause-fault c =
    let text : c.as_slice.result.now ≡ c.args.text ++ c.args.piece.now = c.as_slice.ensures ∙ c.in_ok-add-in-TooLong.ensures.ok in
    head_long c.args.rules c.args.text c.args.look c.args.piece.now c.in-TooLong.bare c.long_place.result c.requires.stands (sym c.in-TooLong.ensures.found)
    (c.long_place.ensures ∙ ap (λ t. cond c.in-TooLong.bare (past c.args.rules.place 0) (past c.args.rules.place (blanks t))) text)

pub slice_bounds-add-end : goal.slice_bounds-add-end
slice_bounds-add-end c = sym (length-take-le c.in-Whole.n c.args.piece.now (end_within c.args.text c.args.look c.args.piece.now c.in-Whole.n (sym c.in-Whole.ensures.found)))

pub begin_after-requires : goal.begin_after-requires
begin_after-requires c =
    subst (λ t. lines t ≤ 66) (sym (c.as_slice-in-Whole.ensures ∙ c.in_ok-add-in-Whole.ensures.ok))
    (head_lines c.args.rules c.args.text c.args.look c.args.piece.now c.in-Whole.n c.requires.stands (sym c.in-Whole.ensures.found))

pub returns-in-Ok-On-clause-fed : goal.returns-in-Ok-On-clause-fed
returns-in-Ok-On-clause-fed c =
    let text : c.as_slice-in-Whole.result.now ≡ c.args.text ++ take c.in-Whole.n c.args.piece.now = c.as_slice-in-Whole.ensures ∙ c.in_ok-add-in-Whole.ensures.ok in
    let begun : Begins c.args.rules c.as_slice-in-Whole.result.now (On c.in-Ok-On.stage) = subst (Begins c.args.rules c.as_slice-in-Whole.result.now) c.in-Ok-On.field-0-is c.in-Ok-On.ensures.begun in
    head_begins c.args.rules c.args.text c.args.look c.args.piece.now c.in-Whole.n c.in-Ok-On.stage c.requires.stands (sym c.in-Whole.ensures.found)
    (subst (λ t. Begins c.args.rules t (On c.in-Ok-On.stage)) text begun)

pub returns-in-Ok-All-clause-fed : goal.returns-in-Ok-All-clause-fed
returns-in-Ok-All-clause-fed c =
    let text : c.as_slice-in-Whole.result.now ≡ c.args.text ++ take c.in-Whole.n c.args.piece.now = c.as_slice-in-Whole.ensures ∙ c.in_ok-add-in-Whole.ensures.ok in
    let begun : Begins c.args.rules c.as_slice-in-Whole.result.now (All c.in-Ok-All.message) = subst (Begins c.args.rules c.as_slice-in-Whole.result.now) c.in-Ok-All.field-0-is c.in-Ok-All.ensures.begun in
    head_makes c.args.rules c.args.text c.args.look c.args.piece.now c.in-Whole.n c.in-Ok-All.message c.requires.stands (sym c.in-Whole.ensures.found)
    (subst (λ t. Begins c.args.rules t (All c.in-Ok-All.message)) text begun)

pub returns-clause-fault : goal.returns-clause-fault
returns-clause-fault c =
    let text : c.as_slice-in-Whole.result.now ≡ c.args.text ++ take c.in-Whole.n c.args.piece.now = c.as_slice-in-Whole.ensures ∙ c.in_ok-add-in-Whole.ensures.ok in
    head_faults c.args.rules c.args.text c.args.look c.args.piece.now c.in-Whole.n c.in-Err.fault c.requires.stands (sym c.in-Whole.ensures.found)
    (subst (λ t. ((c.in-Err.fault ≡ NoMemory) → ⊥) → (bytes : List ℕ) (ended : Bool) → HeadedBy c.args.rules t bytes ended (Refused c.in-Err.fault)) text c.in-Err.ensures.fault) c.in-Err.ensures.of_bytes
