use Rattle.std.proofs.Common.{◌∙◌, sym}
use Rattle.ocm_path.specs.Paths.{is_root}
use Rattle.ocm_entry.specs.declared.asks.Method.TheVariants as methods
use Rattle.ocm_entry.specs.declared.refusals.Why.TheVariants.{NotFound, RootStays}
use Rattle.ocm_rules.specs.Answers.{delete_reply, refused}
use Rattle.ocm_rules.specs.State.{view_in}
use Rattle.ocm_plan_dav.proofs.Rows.{first, next, delete-none, delete-made}
use Rattle.ocm_plan_dav.proofs.Methods.{refuses, removes}
use Rattle.ocm_plan_dav.proofs.files.plan_delete.Goals as goal

pub returns-then-is_root : goal.returns-then-is_root
returns-then-is_root c =
    let st = c.args.tables.now.state in
    let here = (view_in st).stands c.args.place in
    λ body. refuses st methods.Delete c.args.place c.args.path.now body RootStays c.refused.result
    (first (is_root c.args.path.now) (refused RootStays) (delete_reply here) (sym c.is_root.ensures ∙ c.if-is_root.true)) c.refused.ensures.plans

pub returns-then-not-stands : goal.returns-then-not-stands
returns-then-not-stands c =
    let st = c.args.tables.now.state in
    let here = (view_in st).stands c.args.place in
    λ body. refuses st methods.Delete c.args.place c.args.path.now body NotFound c.refused-then-not-stands.result
    (delete-none here (sym c.stands.ensures ∙ c.if-not-stands.true) ∙ next (is_root c.args.path.now) (refused RootStays) (delete_reply here) (sym c.is_root.ensures ∙ c.if-is_root.false))
    c.refused-then-not-stands.ensures.plans

pub returns : goal.returns
returns c =
    let st = c.args.tables.now.state in
    let here = (view_in st).stands c.args.place in
    λ body. removes st c.args.place c.args.path.now body c.silent.result
    (delete-made here (sym c.stands.ensures ∙ c.if-not-stands.false) ∙ next (is_root c.args.path.now) (refused RootStays) (delete_reply here) (sym c.is_root.ensures ∙ c.if-is_root.false))
    c.silent.ensures.plans
