use Rattle.std.proofs.Common.{◌≡◌, ◌∷◌, List, sym, ◌∙◌, ap, subst}
use Rattle.ocm_disk.specs.Accounts.{MayLeave, shown}
use Rattle.ocm_disk.specs.AccountLaws.{leaves_shown}
use Rattle.ocm_disk.specs.declared.accounts.FileStep.{FileStep}
use Rattle.ocm_disk.specs.declared.accounts.FileStep.TheVariants.{Synced}
use Rattle.ocm_disk.proofs.files.FileDiskDisk.sync.Goals as goal

pub returns-clause-crash : goal.returns-clause-crash
returns-clause-crash c = λ tells x left.
    let account : List FileStep = c.args.self.now.account in
    let e : c.push.new.self ≡ Synced ∷ account = c.push.ensures ∙ ap (λ (l : List FileStep). Synced ∷ l) c.told.ensures.account in
    let is : x ≡ shown account = subst (λ (l : List FileStep). MayLeave l x) e left in
    subst (MayLeave account) (sym is) (leaves_shown account)
